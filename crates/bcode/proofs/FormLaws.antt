-- The forms of the lines of a code text.
use Rattle.std.proofs.Common.{◌≢◌, ℕ, ◌^◌, ◌<◌, ◌≤◌, ◌∷◌, [], decimal, arith}
use Rattle.blang.specs.CodeParts.{IsInstrWithin, IsIvalWithin}
use Rattle.blang.specs.Text.{line, instr_line, ival_line}
use Rattle.blang.specs.declared.code.Sizes.{Sizes}
use Rattle.bcode.specs.Headers.{header_text, IsHeaderWithin}
use Rattle.bcode.specs.LineReading.{IsForm, FitSizes, header_at, instr_at, ival_line_at, number_line_at}
use Rattle.bcode.proofs.HeaderLaws.{header_at-exact}
use Rattle.bcode.proofs.LineLaws.{ival_at-exact, instr_at-exact, number_line_at-exact}
use Rattle.bcode.proofs.ShapeLaws.{header_text-shape, ival_line-shape, instr_line-shape, number_line-shape}

pub header_form : IsForm header_text IsHeaderWithin header_at
header_form = record { exact = header_at-exact; shape = header_text-shape }

pub instr_form : (sizes : Sizes) → FitSizes sizes → IsForm instr_line (IsInstrWithin sizes) (instr_at sizes)
instr_form sizes fits = record { exact = instr_at-exact sizes fits; shape = instr_line-shape sizes fits }

pub ival_form : (strings : ℕ) → strings ≤ 2 ^ 16 → IsForm ival_line (IsIvalWithin strings) (ival_line_at strings)
ival_form strings fits = record { exact = ival_at-exact strings fits; shape = ival_line-shape strings fits }

pub number_form : (letter below : ℕ) → letter ≢ 10 → below ≤ 2 ^ 16
    → IsForm (λ n. line ((letter ∷ []) ∷ decimal n ∷ [])) (λ n. n < below) (number_line_at letter below)
number_form letter below other fits = record {
  exact = number_line_at-exact letter below fits;
  shape = λ n less. number_line-shape letter n other (omega arith);
}
