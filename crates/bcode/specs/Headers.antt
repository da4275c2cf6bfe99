-- Inner words: what the first line of a definition tells of it.
use Rattle.std.specs.Prelude.{ℕ, ◌&&◌, ◌||◌, ◌==◌, nat_le, Bool, true, false, List, [], ◌∷◌, codes, decimal, length}
use Rattle.std.specs.Prelude.{IsTrue}
use Rattle.bword.specs.Words.{is_name}
use Rattle.blang.specs.CodeParts.{sizes_of}
use Rattle.blang.specs.Text.{line}
use Rattle.blang.specs.declared.limits.TheConstants.{MAX_INSTRUCTIONS, MAX_LABELS, MAX_PARAMETERS, MAX_STRING_WORDS}
use Rattle.blang.specs.declared.limits.TheConstants.{MAX_VALUES, MAX_WORDS}
use Rattle.blang.specs.declared.code.Definition.{Definition}
use Rattle.blang.specs.declared.code.Definition.TheVariants as definition
use Rattle.bcode.specs.declared.header.Header.{Header}
use Rattle.bcode.specs.declared.header.Header.TheVariants as header
use Rattle.blang.specs.declared.code.Sizes.{Sizes}

abbrev pub header_of : Definition → Header
header_of (definition.Function f) = header.Function f.name f.parameters (sizes_of f)
header_of (definition.Simple s) = header.Simple s.name (length s.values) (length s.strings)
header_of (definition.Vector v) = header.Vector v.name v.words (length v.values) (length v.strings)

abbrev pub header_text : Header → List ℕ
header_text (header.Function name parameters sizes) =
    line (codes "F" ∷ name ∷ decimal parameters ∷ decimal sizes.frame ∷ decimal sizes.labels ∷ decimal sizes.strings
    ∷ decimal sizes.code ∷ [])
header_text (header.Simple name values strings) = line (codes "X" ∷ name ∷ decimal values ∷ decimal strings ∷ [])
header_text (header.Vector name words values strings) =
    line (codes "V" ∷ name ∷ decimal words ∷ decimal values ∷ decimal strings ∷ [])
header_text header.End = line (codes "E" ∷ [])

-- The numbers of a first line within their ranges: those of a function, of a simple external and of a vector.
abbrev pub function_fits : (parameters : ℕ) → Sizes → Bool
function_fits parameters s =
    nat_le parameters MAX_PARAMETERS && nat_le parameters s.frame && nat_le s.frame MAX_WORDS
    && nat_le s.labels MAX_LABELS && nat_le s.strings MAX_STRING_WORDS && nat_le s.code MAX_INSTRUCTIONS
    && (s.labels == 0 || nat_le 1 s.code)

abbrev pub simple_fits : (values strings : ℕ) → Bool
simple_fits values strings = nat_le values MAX_VALUES && nat_le strings MAX_STRING_WORDS

abbrev pub vector_fits : (words values strings : ℕ) → Bool
vector_fits words values strings =
    nat_le 1 words && nat_le words MAX_WORDS && nat_le values words && simple_fits values strings

abbrev pub header_fits : Header → Bool
header_fits (header.Function name parameters sizes) = function_fits parameters sizes
header_fits (header.Simple name values strings) = simple_fits values strings
header_fits (header.Vector name words values strings) = vector_fits words values strings
header_fits header.End = true

-- whether it is the last line
abbrev pub is_end : Header → Bool
is_end header.End = true
is_end _ = false

-- a name, where there is one
abbrev pub IsNamed : Header → Type 0
IsNamed (header.Function name parameters sizes) = IsTrue (is_name name)
IsNamed (header.Simple name values strings) = IsTrue (is_name name)
IsNamed (header.Vector name words values strings) = IsTrue (is_name name)
IsNamed header.End = Unit {0}

pub record IsHeaderWithin (h : Header) : Type 0 where
  pub named : IsNamed h
  pub fits : IsTrue (header_fits h)
