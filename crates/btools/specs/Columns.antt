-- Inner words: lines and columns of a text.
use Rattle.std.specs.Prelude.{◌≡◌, ℕ, ◌-◌, List, [], ◌++◌, length, replicate, refl, take, Option, Some, None}
use Rattle.blang.specs.Text.{instr_line}
use Rattle.blang.specs.declared.code.Instr.{Instr}
use Rattle.btools.specs.declared.text.TheConstants.{BLANKS}

abbrev pub right : ℕ → List ℕ → List ℕ
right width text = replicate (width - length text) 32 ++ text

abbrev pub left : ℕ → List ℕ → List ℕ
left width text = text ++ replicate (width - length text) 32

-- a line without its newline
abbrev pub without_newline : List ℕ → List ℕ
without_newline line = take (length line - 1) line

-- an instruction as the code text has it
abbrev pub instr_text : Option Instr → List ℕ
instr_text (Some i) = without_newline (instr_line i)
instr_text None = []

pub blanks : BLANKS.now ≡ replicate 48 32
blanks = refl
