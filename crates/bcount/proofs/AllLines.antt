-- The counts of all lines, together.
use Rattle.std.proofs.Common.{◌≡◌, ◌∙◌, ℕ, ◌+◌, ◌≤◌, Bool, true, false, List, [], ◌∷◌, ap, arith, min, refl, sym, if◌then◌else◌}
use Rattle.std.specs.Prelude.{◌==◌}
use Rattle.std.specs.List.{All, range_with_len, sum_by}
use Rattle.std.proofs.lemmas.List.Elements.{All-head, All-tail}
use Rattle.std.proofs.lemmas.List.Sums.{sum_by-cons, sum_by-le-sum_by}
use Rattle.bword.specs.ByteEnds.{most}
use Rattle.btools.proofs.Finding.{other_number, same_number}
use Rattle.bcount.specs.Counts.{line_count, line_counts, steps_on}
use Rattle.bcount.specs.SourceLines.{IsOnLines}
use Rattle.bcount.specs.declared.lines.Counted.{Counted}
use Rattle.bcount.specs.declared.lines.LineCount.{LineCount}
use Rattle.bcount.proofs.Totals.{one_part, sum_both, sum_of_map, sum_zeros}

-- what an instruction adds to a line
abbrev part : ℕ → Counted → ℕ
part line c = if c.line == line then c.count else 0

abbrev of_line : List Counted → ℕ → ℕ
of_line counted line = sum_by (part line) counted

part_least : (line : ℕ) (c : Counted) → part line c ≤ c.count
part_least line c = by (c.line == line)
  where
    by : (b : Bool) → (if b then c.count else 0) ≤ c.count
    by true = omega arith
    by false = omega arith

-- each instruction is on one line
one_line : (last : ℕ) (c : Counted) → IsOnLines last c → sum_by (λ line. part line c) (range_with_len 1 last) ≡ c.count
one_line last c on =
    let low = on.0 in
    let high = on.1 in
    one_part (λ line. part line c) c.line (λ k other. ap (λ b. if b then c.count else 0) (other_number c.line k (λ e. other (sym e)))) 1 last (omega (arith, low)) (omega (arith, high))
    ∙ ap (λ b. if b then c.count else 0) (same_number c.line c.line refl)

all_lines : (last : ℕ) (counted : List Counted) → All (IsOnLines last) counted → sum_by (of_line counted) (range_with_len 1 last) ≡ sum_by (λ c. c.count) counted
all_lines last [] on = sum_zeros (range_with_len 1 last)
all_lines last (c ∷ cs) on =
    let lines = range_with_len 1 last in
    (λ i. sum_by (λ line. sum_by-cons (part line) c cs i) lines)
    ∙ sum_both (λ line. part line c) (of_line cs) lines
    ∙ (λ i. one_line last c (All-head (IsOnLines last) c cs on) i + all_lines last cs (All-tail (IsOnLines last) c cs on) i)
    ∙ sym (sum_by-cons (λ (d : Counted). d.count) c cs)

unclamped : (n m : ℕ) → n ≤ m → m ≤ most → min n most ≡ n
unclamped n m le fits = omega (arith, le, fits)

pub lines_together : (last made : ℕ) (counted : List Counted) → All (IsOnLines last) counted → sum_by (λ c. c.count) counted ≡ made → made ≤ most → sum_by (λ c. c.steps) (line_counts counted last) ≡ made
lines_together last made counted on sum fits =
    sum_of_map (λ (c : LineCount). c.steps) (line_count counted) (range_with_len 1 last)
    ∙ (λ i. sum_by (λ line. whole line i) (range_with_len 1 last))
    ∙ all_lines last counted on ∙ sum
  where
    whole : (line : ℕ) → steps_on counted line ≡ of_line counted line
    whole line =
        let le = sum_by-le-sum_by (part line) (λ (c : Counted). c.count) counted (part_least line) in
        unclamped (of_line counted line) made (omega (arith, le, sum)) fits
