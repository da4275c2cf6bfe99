-- The line of what is left, where something is.
use Rattle.std.proofs.Common.{◌≡◌, ◌∙◌, ◌++◌, ℕ, zero, suc, List, ap, append_assoc, codes, decimal, refl}
use Rattle.bword.specs.ByteEnds.{Outgoing, Writes}
use Rattle.bcheck.specs.Checks.{Outcome, fault_in, outcome_status, told_first}
use Rattle.bfix.specs.Fixes.{all_lines, all_told}
use Rattle.bfix.specs.LeftText.{left_text, left_words}

pub left_some : (status n : ℕ) → (n ≡ 0 → ⊥)
    → left_text status n ≡ codes "left: " ++ (decimal n ++ (left_words status n ++ codes ", which b check tells\n"))
left_some status zero some = absurd (some refl)
left_some status (suc n) some = refl

-- its parts, one after another
pub left_parts : (old a n w e : List ℕ) → old ++ (((a ++ n) ++ w) ++ e) ≡ old ++ (a ++ (n ++ (w ++ e)))
left_parts old a n w e = simp append_assoc

-- what is told of the changes, then the line of the compiler, and then how much is left
pub told_so : (new told shown all first : List ℕ) (before after count : ℕ) → new ≡ told ++ left_text before count
    → told ≡ all ++ shown → shown ≡ first → before ≡ after → new ≡ (all ++ first) ++ left_text after count
told_so new told shown all first before after count line is same status =
    line ∙ ap (λ x. x ++ left_text before count) (is ∙ ap (λ x. all ++ x) same)
    ∙ ap (λ n. (all ++ first) ++ left_text n count) status

pub told_left : (lines : List (List ℕ)) (o : Outcome) (count : ℕ) (line after : Outgoing)
    → Writes line (all_told lines o count) after
    → (told : List ℕ) × Writes line (told ++ left_text (outcome_status o) count) after
told_left lines o count line after written = (all_lines lines ++ (told_first o.stop (fault_in o)).0, written)
