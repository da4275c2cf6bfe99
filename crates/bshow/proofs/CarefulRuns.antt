-- What a page of a careful run stands on.
use Rattle.std.proofs.Common.{◌≡◌, ◌∙◌, ℕ, false, List, ap, refl, subst}
use Rattle.bword.specs.ByteEnds.{Incoming, Unread, incoming_of}
use Rattle.btools.specs.Origins.{Origin}
use Rattle.blang.specs.declared.run.Outcome.{Outcome}
use Rattle.blang.specs.declared.run.Outcome.TheVariants as outcome
use Rattle.blang.specs.declared.code.Definition.{Definition}
use Rattle.blang.specs.Machine.{Image}
use Rattle.blang.specs.Reports.{RunEnds}
use Rattle.bmach.specs.Stepping.{BeginsNot}
use Rattle.bcareful.specs.First.{FindsNothing}
use Rattle.bshow.specs.CarefulPages.{ends_over}
use Rattle.bshow.specs.Shows.{Asked, Shows}

-- without a first step nothing was read
pub nothing_read : (ds : List Definition) (image : Image) (steps : ℕ) (i j : Incoming) (r : Outcome) → (r ≡ outcome.Memory → ⊥) → FindsNothing ds image steps i j r → BeginsNot image r × (j ≡ i)
nothing_read ds image steps i j (outcome.Exit status) other nothing = nothing
nothing_read ds image steps i j (outcome.Trap kind) other nothing = nothing
nothing_read ds image steps i j outcome.Limit other nothing = nothing
nothing_read ds image steps i j outcome.Device other nothing = nothing
nothing_read ds image steps i j outcome.Memory other nothing = absurd (other refl)

abbrev over : List ℕ → Unread
over bytes = record { left = bytes; is_over = false }

-- a page over the bytes that were read
pub shown_over : (origin : Origin) (source : List ℕ) (asked other : Asked) (ends : RunEnds) (status : ℕ) (first left : Unread) (read bytes : List ℕ) → other ≡ asked → first ≡ record { left = read; is_over = false } → read ≡ bytes
    → Shows origin source other (record ends { input = incoming_of first; input_after = incoming_of left }) status → Shows origin source asked (ends_over bytes left ends) status
shown_over origin source asked other ends status first left read bytes same is all shows =
    subst (λ (u : Unread). Shows origin source asked (record ends { input = incoming_of u; input_after = incoming_of left }) status) (is ∙ ap over all)
    (subst (λ (q : Asked). Shows origin source q (record ends { input = incoming_of first; input_after = incoming_of left }) status) same shows)
