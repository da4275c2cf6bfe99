-- Closed facts: where the fault of a source in several files is told to be.
use Rattle.std.specs.Prelude.{◌≡◌, ℕ, [], ◌∷◌, map, codes, refl}
use Rattle.std.specs.Fmt.{digits}
use Rattle.blang.specs.declared.token.About.TheVariants as about
use Rattle.blang.specs.declared.token.Diagnostic.{Diagnostic}
use Rattle.blang.specs.declared.token.Letters.TheVariants as letters
use Rattle.bsources.specs.Files.{Files, file_of}
use Rattle.btools.specs.FaultPlaces.{fault_lines, place_line}

-- p.b of two lines, and after it l.b
abbrev two : Files
two = record { first = file_of (codes "p.b") (codes "a\nb"); rest = file_of (codes "l.b") (codes "c") ∷ [] }

abbrev alone : Files
alone = record { first = file_of (codes "p.b") (codes "a\nb"); rest = [] }

abbrev three : Files
three = record {
  first = file_of (codes "p.b") (codes "a\nb");
  rest = file_of (codes "l.b") (codes "c") ∷ file_of (codes "m.b") (codes "d") ∷ [];
}

-- a fault at a line
abbrev fault_at : ℕ → Diagnostic
fault_at line = record { letters = letters.Syntax; about = about.Nothing; line = line }

lines_of_two : map (λ line. fault_lines two (fault_at line)) (1 ∷ 2 ∷ 3 ∷ 4 ∷ [])
    ≡ codes "sx 1\n" ∷ codes "sx 2\n" ∷ codes "sx 3\nat     line 1 of l.b\n" ∷ codes "sx 4\nat     line 2 of l.b\n" ∷ []
unfolding digits
lines_of_two = refl

lines_of_three : map (λ line. fault_lines three (fault_at line)) (2 ∷ 3 ∷ 4 ∷ 5 ∷ [])
    ≡ codes "sx 2\n" ∷ codes "sx 3\nat     line 1 of l.b\n" ∷ codes "sx 4\nat     line 1 of m.b\n"
    ∷ codes "sx 5\nat     line 2 of m.b\n" ∷ []
unfolding digits
lines_of_three = refl

line_alone : fault_lines alone (fault_at 9) ≡ codes "sx 9\n"
unfolding digits
line_alone = refl

line_of_a_place : place_line (record { file = codes "l.b"; line = 12 }) ≡ codes "at     line 12 of l.b\n"
unfolding digits
line_of_a_place = refl

-- a newline in the name of a file
odd_name : place_line (record { file = codes "l\n.b"; line = 1 }) ≡ codes "at     line 1 of l\\u000a.b\n"
unfolding digits
odd_name = refl
