-- Inner words: what was told beside what was told before.
use Rattle.std.specs.Prelude.{◌≡◌, ℕ, ◌≤◌, false, List, [], ◌∷◌, ◌++◌, length, nat_lt}
use Rattle.std.specs.Prelude.{Option, None, Some, if◌then◌else◌, slice_get}
use Rattle.std.specs.List.{All}
use Rattle.blint.specs.declared.cautions.Caution.{Caution}
use Rattle.blint.specs.declared.telling.TheConstants.{MOST_CAUTIONS}
use Rattle.bmatch.specs.declared.tree.TokenPlace.{TokenPlace}
use Rattle.blint.specs.declared.warnings.Warning.{Warning}
use Rattle.blint.specs.Warns.{is_of_rules}

-- Places come one after another.
abbrev pub AreRising : List TokenPlace → Type 0
AreRising places = (j k : ℕ) (a b : TokenPlace) → j ≤ k → slice_get places j ≡ Some a → slice_get places k ≡ Some b
    → a.start ≤ b.start

-- of a token what it has, if that is in the first file
abbrev pub due : {X : Type 0} → (beyond : Option X) → Option Warning → Option Warning
due None w = w
due (Some x) w = None

abbrev pub with_caution : Caution → List Caution → List Caution
with_caution c cautions = if nat_lt (length cautions) MOST_CAUTIONS then cautions ++ c ∷ [] else cautions

-- Others were told after these, up to a place, unless there were too many already.
abbrev pub TellsOthers : (start : ℕ) → (old new : List Caution) → Type 0
TellsOthers start old new =
    (more : List Caution) × (new ≡ old ++ more) × (MOST_CAUTIONS ≤ length old → more ≡ [])
    × All (λ c. (is_of_rules c.warning ≡ false) × (c.place.start ≤ start)) more

-- What is due of a token was told after these.
abbrev pub TellsOne : Option Warning → TokenPlace → (old new : List Caution) → Type 0
TellsOne None at old new = new ≡ old
TellsOne (Some w) at old new =
    (c : Caution) × (new ≡ with_caution c old) × (c.place.start ≡ at.start) × (c.warning ≡ w)
