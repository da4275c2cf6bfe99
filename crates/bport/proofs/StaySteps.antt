-- Signs of other forms that are told up to a place, up to the next one, and all.
use Rattle.std.proofs.Common.{◌≡◌, ◌∙◌, ◌≤◌, ◌+◌, ℕ, Bool, true, false, List, [], Option, Some, None, ap, arith, inl}
use Rattle.std.proofs.Common.{inr, length, refl, subst, sym}
use Rattle.std.specs.Prelude.{◌||◌, nat_lt}
use Rattle.std.specs.List.{list_any, slice_get}
use Rattle.std.proofs.lemmas.Bool.Decides.{nat_tests}
use Rattle.std.proofs.lemmas.Option.{slice_get_past}
use Rattle.bport.specs.Places.{places_of}
use Rattle.bport.specs.Staying.{IsLeft, TellsOld, TellsOldUpTo, covers, is_of, is_old, is_old_at, is_right, is_told_at}
use Rattle.bport.specs.declared.edit.Edit.{Edit}
use Rattle.bport.specs.declared.row.Note.{Note}
use Rattle.bport.specs.declared.within.Within.{Within}
use Rattle.bport.specs.declared.within.Within.TheVariants as within

-- the notes of each place stay
abbrev pub Keeps : (notes more : List Note) → Type 0
Keeps notes more = (other : ℕ) → list_any (is_of other) notes ≡ true → list_any (is_of other) more ≡ true

module _ (source : List ℕ) (places : List Within) (edits : List Edit) where
  told_more : (at : ℕ) (notes more : List Note) → Keeps notes more → is_told_at at edits notes ≡ true
      → is_told_at at edits more ≡ true
  told_more at notes more kept h = by (list_any (covers at) edits) refl
    where
      by : (b : Bool) → list_any (covers at) edits ≡ b → is_told_at at edits more ≡ true
      by true e = ap (λ (c : Bool). c || list_any (is_of at) more) e
      by false e =
          let noted : list_any (is_of at) notes ≡ true =
          sym (ap (λ (c : Bool). c || list_any (is_of at) notes) e) ∙ h in
          ap (λ (c : Bool). c || list_any (is_of at) more) e ∙ kept at noted

  pub none_told : (notes : List Note) → TellsOldUpTo 0 source places edits notes
  none_told notes at lt old = absurd (omega (arith, lt))

  pub up_to_next : (at : ℕ) (notes more : List Note) → TellsOldUpTo at source places edits notes → Keeps notes more
      → (is_old_at source places at ≡ true → is_told_at at edits more ≡ true)
      → TellsOldUpTo (at + 1) source places edits more
  up_to_next at notes more told kept here j lt old = by (nat_lt j at) refl
    where
      by : (b : Bool) → nat_lt j at ≡ b → is_told_at j edits more ≡ true
      by true e = told_more j notes more kept (told j (grind (arith, nat_tests)) old)
      by false e =
          let is : j ≡ at = grind (arith, nat_tests) in
          subst (λ k. is_told_at k edits more ≡ true) (sym is)
          (here (subst (λ k. is_old_at source places k ≡ true) is old))

  pub told_by_edit : (at : ℕ) (notes : List Note) → list_any (covers at) edits ≡ true → is_told_at at edits notes ≡ true
  told_by_edit at notes e = ap (λ (c : Bool). c || list_any (is_of at) notes) e

  pub told_by_note : (at : ℕ) (notes : List Note) → list_any (is_of at) notes ≡ true → is_told_at at edits notes ≡ true
  told_by_note at notes h = by (list_any (covers at) edits) refl
    where
      by : (b : Bool) → list_any (covers at) edits ≡ b → is_told_at at edits notes ≡ true
      by true e = ap (λ (c : Bool). c || list_any (is_of at) notes) e
      by false e = ap (λ (c : Bool). c || list_any (is_of at) notes) e ∙ h

-- no byte is past the end
no_byte : (place : Option Within) (second third : Option ℕ) → is_old place None second third ≡ false
no_byte None second third = refl
no_byte (Some within.Start) second third = refl
no_byte (Some within.Code) second third = refl
no_byte (Some within.Slash) second third = refl
no_byte (Some within.Comment) second third = refl
no_byte (Some within.Star) second third = refl
no_byte (Some within.Line) second third = refl
no_byte (Some within.String) second third = refl
no_byte (Some within.StringEscape) second third = refl
no_byte (Some within.Char) second third = refl
no_byte (Some within.CharEscape) second third = refl
no_byte (Some within.CharQuote) second third = refl

pub tells_all : (source : List ℕ) (edits : List Edit) (notes : List Note)
    → TellsOldUpTo (length source) source (places_of within.Start source) edits notes → TellsOld source edits notes
tells_all source edits notes told at old = by (nat_lt at (length source)) refl
  where
    by : (b : Bool) → nat_lt at (length source) ≡ b → is_told_at at edits notes ≡ true
    by true e = told at (grind (arith, nat_tests)) old
    by false e =
        let past : length source ≤ at = grind (arith, nat_tests) in
        let places = places_of within.Start source in
        let no : true ≡ false = sym old
        ∙ ap (λ b. is_old (slice_get places at) b (slice_get source (at + 1)) (slice_get source (at + 2)))
        (slice_get_past source at past)
        ∙ no_byte (slice_get places at) (slice_get source (at + 1)) (slice_get source (at + 2)) in
        cc

-- what is left of a source that is no program
pub left_told : (source : List ℕ) (places : List Within) (edits : List Edit) (notes : List Note)
    → places ≡ places_of within.Start source
    → TellsOldUpTo (length source) source places edits notes → IsLeft source edits notes
left_told source places edits notes is told =
    inl (tells_all source edits notes (subst (λ p. TellsOldUpTo (length source) source p edits notes) is told))

pub left_refused : (source : List ℕ) (edits : List Edit) (notes : List Note) → edits ≡ []
    → list_any (is_right source) notes ≡ true → IsLeft source edits notes
left_refused source edits notes none told = inr (none, told)
