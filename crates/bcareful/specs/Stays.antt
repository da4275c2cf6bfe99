-- Promise: how far a careful run goes.
use Rattle.std.specs.Prelude.{◌≡◌, ℕ, ◌+◌, ◌<◌, List, None, Some}
use Rattle.blang.specs.Machine.{Loaded, States}
use Rattle.bwatch.specs.Sights.{sights_of}
use Rattle.bcareful.specs.Things.{Atlas}
use Rattle.bcareful.specs.Findings.{careful, finding_at}
use Rattle.bcareful.specs.declared.finding.Finding.{Finding}

-- Up to the first step with a finding a careful machine is where the machine is, and from then on it stays there.
abbrev pub StaysAtFirst : Type 0
StaysAtFirst =
    (a : Atlas) (functions : List Loaded) (states : States) (input : List ℕ) (k : ℕ)
    → ((m : ℕ) → m < k → finding_at a (sights_of functions states input) m ≡ None)
    → (careful a functions states input k ≡ states input k)
    × ((f : Finding) (d : ℕ) → finding_at a (sights_of functions states input) k ≡ Some f
    → careful a functions states input (k + d) ≡ states input k)
