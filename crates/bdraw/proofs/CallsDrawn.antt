-- The calls that are drawn, and their functions.
use Rattle.std.proofs.Common.{◌≡◌, ◌∙◌, ℕ, zero, suc, ◌+◌, ◌<◌, ◌≤◌, Bool, true, false, cond, List, [], ◌∷◌, ◌++◌, Option, Some, None, ap, arith, get_or, length, map, min, refl, reverse, sym, take}
use Rattle.std.specs.Prelude.{◌==◌, find, slice_get, zip}
use Rattle.std.specs.Option.{option_map}
use Rattle.std.proofs.lemmas.List.{length-map, take_min, take_more}
use Rattle.std.proofs.lemmas.Option.{get_or_from_slice_get, slice_get-map, slice_get_within}
use Rattle.blang.specs.Machine.{Call}
use Rattle.bmach.specs.Stops.{active_of}
use Rattle.bmach.specs.declared.machine.Active.{Active}
use Rattle.btools.proofs.Finding.{same_number}
use Rattle.btools.specs.FrameNames.{frame_seen}
use Rattle.btools.specs.Functions.{placed_entry}
use Rattle.btools.specs.declared.names.Frame.{Frame}
use Rattle.btools.specs.declared.tables.FunctionEntry.{FunctionEntry}
use Rattle.bdraw.specs.Pictures.{Framed}

taken : (xs : List Active) (n : ℕ) (x : Active) → slice_get xs n ≡ Some x → take (n + 1) xs ≡ take n xs ++ x ∷ []
taken xs n x is = take_more xs n x (slice_get_within xs n x is) ∙ ap (λ y. take n xs ++ y ∷ []) (get_or_from_slice_get xs n x x is)

-- one call more of those below
pub one_call : (running : Active) (below : List Call) (n : ℕ) (call : Active) (found : Option Active) → found ≡ option_map active_of (slice_get below n) → found ≡ Some call → (old new : List Active)
    → old ≡ running ∷ take n (map active_of below) → new ≡ old ++ call ∷ [] → new ≡ running ∷ take (n + 1) (map active_of below)
one_call running below n call found gives is old new before one =
    one ∙ ap (λ calls. calls ++ call ∷ []) before
    ∙ ap (λ calls. running ∷ calls) (sym (taken (map active_of below) n call (slice_get-map active_of below n ∙ sym gives ∙ is)))

-- there is one where there are more
pub is_there : (below : List Call) (n : ℕ) → n < length below → (found : Option Active) → found ≡ option_map active_of (slice_get below n) → found ≡ None → ⊥
is_there [] n lt found gives is = omega (arith, lt)
is_there (c ∷ below) zero lt found gives is = none (sym gives ∙ is)
  where
    none : Some (active_of c) ≡ None → ⊥
    none e = cc
is_there (c ∷ below) (suc n) lt found gives is = is_there below n (omega (arith, lt)) found gives is

pub all_calls : (running : Active) (below : List Call) (n : ℕ) → n ≡ length below → (count : ℕ) → count ≡ min 15 n → (calls : List Active) → calls ≡ running ∷ take count (map active_of below)
    → reverse calls ≡ reverse (take 16 (running ∷ map active_of below))
all_calls running below n all count least calls is =
    ap reverse (is ∙ ap (λ k. running ∷ take k (map active_of below)) (least ∙ ap (min 15) (all ∙ sym (length-map below active_of))) ∙ ap (λ xs. running ∷ xs) (take_min 15 (map active_of below)))

abbrev is_with : (strings : ℕ) → Framed → Bool
is_with strings f = f.0.strings == strings

-- the first of these functions that has its string words there
abbrev pub first_with : (strings : ℕ) → List FunctionEntry → List Frame → Option Framed
first_with strings es fs = find (is_with strings) (zip (map placed_entry es) (map frame_seen fs))

past : (b : Bool) (x : Framed) (rest : Option Framed) → cond b (Some x) rest ≡ None → (b ≡ false) × (rest ≡ None)
past true x rest h = cc
past false x rest h = (refl, h)

module _ (strings : ℕ) where
  pub found : (es : List FunctionEntry) (fs : List Frame) (i : ℕ) (e : FunctionEntry) (f : Frame) → i < length es → i < length fs → first_with strings (take i es) (take i fs) ≡ None → (get_or es i e).strings ≡ strings
      → first_with strings es fs ≡ Some (placed_entry (get_or es i e), frame_seen (get_or fs i f))
  found [] fs i e f lt within none is = absurd (omega (arith, lt))
  found (x ∷ es) [] i e f lt within none is = absurd (omega (arith, within))
  found (x ∷ es) (y ∷ fs) zero e f lt within none is = rw (same_number x.strings strings is) refl
  found (x ∷ es) (y ∷ fs) (suc i) e f lt within none is =
      let h = past (x.strings == strings) (placed_entry x, frame_seen y) (first_with strings (take i es) (take i fs)) none in
      rw h.0 (found es fs i e f (omega (arith, lt)) (omega (arith, within)) h.1 is)

  missed_at : (es : List FunctionEntry) (fs : List Frame) (i : ℕ) (e : FunctionEntry) → i < length es → i < length fs → first_with strings (take i es) (take i fs) ≡ None → ((get_or es i e).strings == strings) ≡ false
      → first_with strings (take (suc i) es) (take (suc i) fs) ≡ None
  missed_at [] fs i e lt within none not = absurd (omega (arith, lt))
  missed_at (x ∷ es) [] i e lt within none not = absurd (omega (arith, within))
  missed_at (x ∷ es) (y ∷ fs) zero e lt within none not = rw not refl
  missed_at (x ∷ es) (y ∷ fs) (suc i) e lt within none not =
      let h = past (x.strings == strings) (placed_entry x, frame_seen y) (first_with strings (take i es) (take i fs)) none in
      rw h.0 (missed_at es fs i e (omega (arith, lt)) (omega (arith, within)) h.1 not)

  pub missed : (es : List FunctionEntry) (fs : List Frame) (i : ℕ) (e : FunctionEntry) → i < length es → i < length fs → first_with strings (take i es) (take i fs) ≡ None → ((get_or es i e).strings == strings) ≡ false
      → first_with strings (take (i + 1) es) (take (i + 1) fs) ≡ None
  missed es fs i e lt within none not =
      let next : i + 1 ≡ suc i = omega arith in
      ap (λ n. first_with strings (take n es) (take n fs)) next ∙ missed_at es fs i e lt within none not

  pub all_missed : (es : List FunctionEntry) (fs : List Frame) (n : ℕ) → min (length es) (length fs) ≤ n → first_with strings (take n es) (take n fs) ≡ first_with strings es fs
  all_missed [] fs zero all = refl
  all_missed [] fs (suc n) all = refl
  all_missed (x ∷ es) [] zero all = refl
  all_missed (x ∷ es) [] (suc n) all = refl
  all_missed (x ∷ es) (y ∷ fs) zero all = absurd (omega (arith, all))
  all_missed (x ∷ es) (y ∷ fs) (suc n) all = ap (cond (x.strings == strings) (Some (placed_entry x, frame_seen y))) (all_missed es fs n (omega (arith, all)))
