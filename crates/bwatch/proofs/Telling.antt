-- Texts that are told one after another.
use Rattle.std.proofs.Common.{◌≡◌, ◌∙◌, ℕ, zero, suc, ◌+◌, ◌<◌, List, [], ◌∷◌, ◌++◌, ap, append-nil, append_assoc, arith, drop, get_or, inl, inr, length, refl, subst, sym, take}
use Rattle.std.specs.List.{flat_map}
use Rattle.std.proofs.lemmas.List.{take_more}
use Rattle.std.proofs.lemmas.List.Concat.{flat_map-append}
use Rattle.bword.specs.declared.ends.EndFault.{EndFault}
use Rattle.bword.specs.declared.ends.EndFault.TheVariants as fault
use Rattle.bword.specs.ByteEnds.{Outgoing, Refuses, Writes}
use Rattle.bword.proofs.Putting.{Refuses-following, Refuses-short, Writes-append}
use Rattle.blang.specs.declared.status.TheConstants.{DONE}
use Rattle.blang.specs.Compiles.{status_of}
use Rattle.blang.specs.Reports.{Reported}

-- these texts, one after another
abbrev pub whole : List (List ℕ) → List ℕ
whole xs = flat_map (λ (row : List ℕ). row) xs

unrefused : (e : EndFault) → status_of e ≡ DONE → ⊥
unrefused fault.Device is = omega (arith, is)
unrefused fault.Memory is = omega (arith, is)

-- what was told was written
pub was_written : (line : List ℕ) (old new : Outgoing) (status : ℕ) → Reported line DONE old new status → status ≡ DONE → Writes old line new
was_written line old new status (inl h) is = h.0
was_written line old new status (inr h) is = absurd (unrefused h.fault (sym h.status ∙ is))

-- a text that was refused after another one that was written
pub broken_off : (before line after all : List ℕ) (old mid new : Outgoing) (status : ℕ) → (before ++ line) ++ after ≡ all → Writes old before mid → Reported line DONE mid new status → (status ≡ DONE → ⊥) → Reported all DONE old new status
broken_off before line after all old mid new status is w (inl h) not_done = absurd (not_done h.1)
broken_off before line after all old mid new status is w (inr h) not_done = inr (record {
  fault = h.fault;
  refuses = subst (λ (xs : List ℕ). Refuses old xs h.fault new) is (Refuses-short after (Refuses-following w h.refuses));
  status = h.status;
})

-- the same of the first text
pub begun_off : (line after all : List ℕ) (old new : Outgoing) (status : ℕ) → line ++ after ≡ all → Reported line DONE old new status → (status ≡ DONE → ⊥) → Reported all DONE old new status
begun_off line after all old new status is (inl h) not_done = absurd (not_done h.1)
begun_off line after all old new status is (inr h) not_done = inr (record {
  fault = h.fault;
  refuses = subst (λ (xs : List ℕ). Refuses old xs h.fault new) is (Refuses-short after h.refuses);
  status = h.status;
})

-- a last text after those that were written
pub told_last : (before line all : List ℕ) (old mid new : Outgoing) (status : ℕ) → before ++ line ≡ all → Writes old before mid → Reported line DONE mid new status → Reported all DONE old new status
told_last before line all old mid new status is w (inl h) = inl (subst (λ (xs : List ℕ). Writes old xs new) is (Writes-append w h.0), h.1)
told_last before line all old mid new status is w (inr h) = inr (record {
  fault = h.fault;
  refuses = subst (λ (xs : List ℕ). Refuses old xs h.fault new) is (Refuses-following w h.refuses);
  status = h.status;
})

-- one text more
pub one_text : (start : List ℕ) (items : List (List ℕ)) (i : ℕ) → i < length items → (start ++ whole (take i items)) ++ get_or items i [] ≡ start ++ whole (take (i + 1) items)
one_text start items i lt =
    let row = get_or items i [] in
    append_assoc start (whole (take i items)) row
    ∙ ap (λ x. start ++ x) (ap (λ x. whole (take i items) ++ x) (sym (append-nil row)) ∙ sym (flat_map-append (λ (row : List ℕ). row) (take i items) (row ∷ [])) ∙ ap whole (sym (take_more items i [] lt)))

-- those that come after so many
rest_of : (items : List (List ℕ)) (i : ℕ) → whole (take i items) ++ whole (drop i items) ≡ whole items
rest_of items zero = refl
rest_of [] (suc i) = refl
rest_of (x ∷ items) (suc i) = append_assoc x (whole (take i items)) (whole (drop i items)) ∙ ap (λ xs. x ++ xs) (rest_of items i)

-- one of the texts, those before it and those after it, and an ending
pub around : (start : List ℕ) (items : List (List ℕ)) (i : ℕ) (ending : List ℕ) → i < length items → ((start ++ whole (take i items)) ++ get_or items i []) ++ (whole (drop (i + 1) items) ++ ending) ≡ start ++ whole items ++ ending
around start items i ending lt =
    ap (λ x. x ++ (whole (drop (i + 1) items) ++ ending)) (one_text start items i lt)
    ∙ append_assoc start (whole (take (i + 1) items)) (whole (drop (i + 1) items) ++ ending)
    ∙ ap (λ x. start ++ x) (sym (append_assoc (whole (take (i + 1) items)) (whole (drop (i + 1) items)) ending) ∙ ap (λ x. x ++ ending) (rest_of items (i + 1)))
    ∙ sym (append_assoc start (whole items) ending)
