-- Inner words: the functions of a code text, and the lines of their instructions.
use Rattle.std.specs.Prelude.{ℕ, ◌+◌, ◌==◌, if◌then◌else◌, List, [], ◌∷◌, length, min, Option, Some, None}
use Rattle.bword.specs.ByteEnds.{most}
use Rattle.blang.specs.CodeParts.{Function}
use Rattle.blang.specs.Layout.{shape_of, size_of}
use Rattle.blang.specs.Text.{lines_of}
use Rattle.blang.specs.declared.code.Definition.{Definition}
use Rattle.blang.specs.declared.code.Definition.TheVariants as definition
use Rattle.bwhere.specs.declared.site as told

-- a function: its name, the number of the line of its first instruction, and how many instructions it has
pub record Site : Type 0 where
  pub name : List ℕ
  pub first : ℕ
  pub instructions : ℕ

abbrev pub site_shown : told.Site.Site → Site
site_shown s = record { name = s.name.now; first = s.first; instructions = s.instructions }

abbrev pub nowhere : Site
nowhere = record { name = []; first = 0; instructions = 0 }

-- A function after so many lines has its first instruction after its header, its targets and its string words.
abbrev pub site_in : (before : ℕ) → Function → Site
site_in before f = record {
  name = f.name;
  first = min (before + (2 + length f.targets + length f.strings)) most;
  instructions = length f.code;
}

-- A function at this address has its string words after its own word.
abbrev pub site_at : (address before strings : ℕ) → Definition → Option Site
site_at address before strings (definition.Function f) =
    if strings == address + 1 then Some (site_in before f) else None
site_at address before strings d = None

abbrev pub or_else : Option Site → Site → Site
or_else (Some site) other = site
or_else None other = other

-- the function whose string words lie there, among definitions that begin at this address and after so many lines
abbrev pub site_among : (address before strings : ℕ) → List Definition → Site
site_among address before strings [] = nowhere
site_among address before strings (d ∷ ds) = or_else (site_at address before strings d)
    (site_among (address + size_of (shape_of d)) (min (before + length (lines_of d)) most) strings ds)

-- the number of the line of the instruction at a place
abbrev pub instr_line : Site → (place : ℕ) → ℕ
instr_line site place = min (site.first + place) most
