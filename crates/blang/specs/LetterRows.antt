-- Closed facts: the letters of each fault, what it is about, and its line.
use Rattle.std.specs.Prelude.{◌≡◌, [], ◌∷◌, map, codes, Some, None, refl}
use Rattle.bword.specs.declared.edition.Edition.TheVariants as editions
use Rattle.std.specs.Fmt.{digits}
use Rattle.blang.specs.declared.token.Letters.TheVariants as letters
use Rattle.blang.specs.declared.token.About.TheVariants as about
use Rattle.blang.specs.declared.token.Diagnostic.{Diagnostic}
use Rattle.blang.specs.Compiles.{letters_text, about_text, line_of, Compilation, compilation_with, code_text}
use Rattle.blang.specs.Compiles.{fault_status}

of_pieces : map letters_text (letters.OpenComment ∷ letters.Character ∷ letters.LongName ∷ letters.Constant ∷ [])
    ≡ codes "*/" ∷ codes "ch" ∷ codes "nm" ∷ codes "ct" ∷ []
of_pieces = refl

of_definitions : map letters_text (
    letters.Syntax ∷ letters.Redeclared ∷ letters.NotLvalue ∷ letters.TooManyNames ∷ letters.TooManyCases
    ∷ letters.Undefined ∷ letters.TooLarge ∷ []
    ) ≡ codes "sx" ∷ codes "rd" ∷ codes "lv" ∷ codes ">s" ∷ codes ">c" ∷ codes "un" ∷ codes ">e" ∷ []
of_definitions = refl

abouts : map about_text (about.Nothing ∷ about.Case ∷ about.Break ∷ about.Default ∷ about.Name (codes "x1") ∷ [])
    ≡ [] ∷ codes " case" ∷ codes " break" ∷ codes " default" ∷ codes " x1" ∷ []
abouts = refl

lines : map line_of (
    record { letters = letters.Syntax; about = about.Nothing; line = 12 }
    ∷ record { letters = letters.Redeclared; about = about.Name (codes "a"); line = 1 }
    ∷ record { letters = letters.Redeclared; about = about.Case; line = 3 } ∷ []
    ) ≡ codes "sx 12\n" ∷ codes "rd a 1\n" ∷ codes "rd case 3\n" ∷ []
unfolding digits
lines = refl

-- two definitions, and then nothing or a fault: the texts, the last line where nothing is wrong, and the status
abbrev fault : Diagnostic
fault = record { letters = letters.Syntax; about = about.Nothing; line = 1 }

abbrev two : Compilation
two = compilation_with None (codes "a\n")
    (compilation_with None (codes "b\n") (record { code = []; stop = None }))

abbrev one : Compilation
one = compilation_with None (codes "a\n") (compilation_with (Some fault) (codes "b\n") two)

code_texts : code_text editions.One two ∷ code_text editions.Two two ∷ code_text editions.One one ∷ []
    ≡ codes "a\nb\nE\n" ∷ codes "B 2\na\nb\nE\n" ∷ codes "a\n" ∷ []
code_texts = refl

fault_statuses : map fault_status (None ∷ Some fault ∷ []) ≡ 0 ∷ 1 ∷ []
fault_statuses = refl
