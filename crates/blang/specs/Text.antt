-- Promise: definitions of each kind, and what a view shows of one. The text of code: lines, whose parts have one space
-- between them.
use Rattle.std.specs.Prelude.{◌≡◌, ℕ, List, [], ◌∷◌, ◌++◌, length, map, All, codes, decimal}
use Rattle.std.specs.List.{flat_map}
use Rattle.bword.specs.Words.{operator_text}
use Rattle.bword.specs.declared.edition.Edition.{Edition}
use Rattle.bword.specs.declared.edition.Edition.TheVariants as editions
use Rattle.blang.specs.CodeParts.{IsFunctionWithinRanges, IsSimpleWithinRanges, IsVectorWithinRanges}
use Rattle.blang.specs.declared.code.Definition.{Definition}
use Rattle.blang.specs.declared.code.View.{View}
use Rattle.blang.specs.declared.code.Increment.{Increment}
use Rattle.blang.specs.declared.code.Instr.{Instr}
use Rattle.blang.specs.declared.code.Ival.{Ival}
use Rattle.blang.specs.declared.code.Definition.TheVariants as definition
use Rattle.blang.specs.declared.code.View.TheVariants as view
use Rattle.blang.specs.declared.code.Increment.TheVariants as increment
use Rattle.blang.specs.declared.code.Instr.TheVariants as instr
use Rattle.blang.specs.declared.code.Ival.TheVariants as ival

abbrev pub IsWithinRanges : Definition → Type 0
IsWithinRanges (definition.Function f) = IsFunctionWithinRanges f
IsWithinRanges (definition.Simple s) = IsSimpleWithinRanges s
IsWithinRanges (definition.Vector v) = IsVectorWithinRanges v

abbrev pub definition_of : View → Definition
definition_of (view.Function name parameters frame targets strings code) = definition.Function record {
  name = name;
  parameters = parameters;
  frame = frame;
  targets = targets.now;
  strings = strings.now;
  code = code.now;
}
definition_of (view.Simple name values strings) = definition.Simple record {
  name = name;
  values = values.now;
  strings = strings.now;
}
definition_of (view.Vector name words values strings) = definition.Vector record {
  name = name;
  words = words;
  values = values.now;
  strings = strings.now;
}

abbrev pub line : List (List ℕ) → List ℕ
line [] = codes "\n"
line (part ∷ []) = part ++ codes "\n"
line (part ∷ parts) = part ++ codes " " ++ line parts

abbrev pub increment_text : Increment → List ℕ
increment_text increment.PreIncrement = codes "0"
increment_text increment.PreDecrement = codes "1"
increment_text increment.PostIncrement = codes "2"
increment_text increment.PostDecrement = codes "3"

abbrev pub instr_line : Instr → List ℕ
instr_line (instr.Constant n) = line (codes "c" ∷ decimal n ∷ [])
instr_line (instr.External name) = line (codes "x" ∷ name ∷ [])
instr_line (instr.Automatic k) = line (codes "a" ∷ decimal k ∷ [])
instr_line (instr.Text offset) = line (codes "s" ∷ decimal offset ∷ [])
instr_line (instr.Label k) = line (codes "l" ∷ decimal k ∷ [])
instr_line instr.Load = line (codes "v" ∷ [])
instr_line instr.Store = line (codes "w" ∷ [])
instr_line (instr.Binary operator) = line (codes "b" ∷ operator_text operator ∷ [])
instr_line (instr.Modify operator) = line (codes "m" ∷ operator_text operator ∷ [])
instr_line instr.Negate = line (codes "n" ∷ [])
instr_line instr.Not = line (codes "h" ∷ [])
instr_line (instr.Increment which) = line (codes "i" ∷ increment_text which ∷ [])
instr_line (instr.Jump place) = line (codes "j" ∷ decimal place ∷ [])
instr_line (instr.JumpIfZero place) = line (codes "z" ∷ decimal place ∷ [])
instr_line instr.Goto = line (codes "g" ∷ [])
instr_line (instr.JumpIfCase value target) = line (codes "e" ∷ decimal value ∷ decimal target ∷ [])
instr_line (instr.Call arguments) = line (codes "k" ∷ decimal arguments ∷ [])
instr_line instr.Return = line (codes "r" ∷ [])
instr_line instr.Pop = line (codes "p" ∷ [])

abbrev pub ival_line : Ival → List ℕ
ival_line (ival.Number n) = line (codes "c" ∷ decimal n ∷ [])
ival_line (ival.Name name) = line (codes "x" ∷ name ∷ [])
ival_line (ival.Text offset) = line (codes "s" ∷ decimal offset ∷ [])

-- a label's target
abbrev pub target_line : ℕ → List ℕ
target_line place = line (codes "t" ∷ decimal place ∷ [])

-- a string word
abbrev pub string_line : ℕ → List ℕ
string_line word = line (codes "w" ∷ decimal word ∷ [])

-- the first line of a definition
abbrev pub header_line : Definition → List ℕ
header_line (definition.Function f) =
    line (codes "F" ∷ f.name ∷ decimal f.parameters ∷ decimal f.frame ∷ decimal (length f.targets)
    ∷ decimal (length f.strings) ∷ decimal (length f.code) ∷ [])
header_line (definition.Simple s) =
    line (codes "X" ∷ s.name ∷ decimal (length s.values) ∷ decimal (length s.strings) ∷ [])
header_line (definition.Vector v) =
    line (codes "V" ∷ v.name ∷ decimal v.words ∷ decimal (length v.values) ∷ decimal (length v.strings) ∷ [])

-- the lines after it
abbrev pub body_lines : Definition → List (List ℕ)
body_lines (definition.Function f) = map target_line f.targets ++ map string_line f.strings ++ map instr_line f.code
body_lines (definition.Simple s) = map ival_line s.values ++ map string_line s.strings
body_lines (definition.Vector v) = map ival_line v.values ++ map string_line v.strings

abbrev pub lines_of : Definition → List (List ℕ)
lines_of d = header_line d ∷ body_lines d

abbrev pub joined : List (List ℕ) → List ℕ
joined lines = flat_map (λ l. l) lines

abbrev pub definition_text : Definition → List ℕ
definition_text d = joined (lines_of d)

-- the last line
abbrev pub end_text : List ℕ
end_text = line (codes "E" ∷ [])

-- the first line of a text of the second edition
abbrev pub edition_line : List ℕ
edition_line = line (codes "B" ∷ codes "2" ∷ [])

-- the lines before the definitions
abbrev pub opening_lines : Edition → List (List ℕ)
opening_lines editions.One = []
opening_lines editions.Two = edition_line ∷ []

-- what a code text begins with
abbrev pub opening : Edition → List ℕ
opening edition = joined (opening_lines edition)

-- the lines of definitions, and the last line
abbrev pub ended_lines : List Definition → List (List ℕ)
ended_lines ds = flat_map lines_of ds ++ end_text ∷ []

-- the lines of a code text
abbrev pub code_lines : Edition → List Definition → List (List ℕ)
code_lines edition ds = opening_lines edition ++ ended_lines ds

-- The text is the code text of these definitions in this edition.
pub record IsTextOf (edition : Edition) (text : List ℕ) (ds : List Definition) : Type 0 where
  pub within : All IsWithinRanges ds
  pub spelled : text ≡ joined (code_lines edition ds)

-- the text is the code text of these definitions
abbrev pub IsCodeText : List ℕ → List Definition → Type 0
IsCodeText text ds = (edition : Edition) × IsTextOf edition text ds
