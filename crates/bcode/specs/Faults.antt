-- Promise: where a text stops being the beginning of a code text.
use Rattle.std.specs.Prelude.{◌≡◌, ℕ, suc, ◌≤◌, List, ◌++◌, length, take, All}
use Rattle.std.specs.List.{flat_map}
use Rattle.bword.specs.declared.edition.Edition.{Edition}
use Rattle.bword.specs.declared.edition.Edition.TheVariants as editions
use Rattle.blang.specs.Text.{joined, edition_line, opening, code_lines, definition_text, header_line, IsWithinRanges}
use Rattle.blang.specs.declared.code.Definition.{Definition}
use Rattle.bcode.specs.declared.fault.CodeFault.{CodeFault}
use Rattle.bcode.specs.declared.fault.CodeFault.TheVariants as fault

-- the edition that a text is read in: that of the line that it begins with
abbrev pub IsEditionOf : List ℕ → Edition → Type 0
IsEditionOf text editions.One = (rest : List ℕ) → text ≡ edition_line ++ rest → ⊥
IsEditionOf text editions.Two = (rest : List ℕ) × (text ≡ edition_line ++ rest)

-- The text begins with the first m lines of some code text of this edition.
pub record BeginsIn (edition : Edition) (text : List ℕ) (m : ℕ) : Type 0 where
  pub definitions : List Definition
  pub within : All IsWithinRanges definitions
  pub enough : m ≤ length (code_lines edition definitions)
  pub rest : List ℕ
  pub same : text ≡ joined (take m (code_lines edition definitions)) ++ rest

-- the same in some edition
abbrev pub BeginsCodeText : List ℕ → ℕ → Type 0
BeginsCodeText text m = (edition : Edition) × BeginsIn edition text m

-- n is one more than the greatest number of which this holds.
pub record IsLineAfter (P : ℕ → Type 0) (n : ℕ) : Type 0 where
  pub good : ℕ
  pub next : n ≡ suc good
  pub begins : P good
  pub greatest : (m : ℕ) → P m → m ≤ good

-- n is one more than the greatest number of first lines of the text that begin a code text
abbrev pub IsFaultLine : List ℕ → ℕ → Type 0
IsFaultLine text n = IsLineAfter (BeginsCodeText text) n

-- the same of the texts of one edition
abbrev pub IsFaultLineIn : Edition → List ℕ → ℕ → Type 0
IsFaultLineIn edition text n = IsLineAfter (BeginsIn edition text) n

-- After some definitions the first line of another one stands.
pub record HasHeader (text : List ℕ) : Type 0 where
  pub edition : Edition
  pub definitions : List Definition
  pub next : Definition
  pub within : All IsWithinRanges definitions
  pub next_within : IsWithinRanges next
  pub rest : List ℕ
  pub same : text ≡ opening edition ++ (flat_map definition_text definitions ++ (header_line next ++ rest))

-- why a text was refused
abbrev pub IsFaultOf : List ℕ → CodeFault → Type 0
IsFaultOf text (fault.Line n) = IsFaultLine text n
IsFaultOf text fault.Memory = HasHeader text
