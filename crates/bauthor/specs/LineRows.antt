-- Closed facts: numbers on lines, and what some files of lines say.
use Rattle.std.specs.Prelude.{◌≡◌, ℕ, List, [], ◌∷◌, codes, map, option_map, refl, Option, Some, None, Ok, Err}
use Rattle.std.specs.Fmt.{digits}
use Rattle.blang.specs.declared.code.Definition.{Definition}
use Rattle.blang.specs.declared.code.Definition.TheVariants as definition
use Rattle.blang.specs.declared.code.Instr.TheVariants as instr
use Rattle.blang.specs.declared.code.Ival.TheVariants as ival
use Rattle.bword.specs.ByteEnds.{most}
use Rattle.bauthor.specs.AuthorFiles.{lines_of}
use Rattle.bauthor.specs.LineFiles.{lines_read, lines_wanted, number_read, place_read}
use Rattle.bauthor.specs.declared.place_line.PlaceLine.{PlaceLine}
use Rattle.bauthor.specs.declared.fault.LineWanted.TheVariants as wanted

numbers_taken : map (number_read 12) (codes "0" ∷ codes "1" ∷ codes "9" ∷ codes "10" ∷ codes "12" ∷ [])
    ≡ Some 0 ∷ Some 1 ∷ Some 9 ∷ Some 10 ∷ Some 12 ∷ []
unfolding digits
numbers_taken = refl

-- nothing, one above the last, needless zeros, a sign, blanks, a return, words, and other digits
numbers_refused : map (number_read 12)
    ([] ∷ codes "13" ∷ codes "02" ∷ codes "00" ∷ codes "+2" ∷ codes "-0" ∷ codes " 2" ∷ codes "2 " ∷ codes "2\r"
    ∷ codes "two" ∷ codes "1_0" ∷ codes "a" ∷ codes "1:" ∷ codes "1/" ∷ [])
    ≡ None ∷ None ∷ None ∷ None ∷ None ∷ None ∷ None ∷ None ∷ None ∷ None ∷ None ∷ None ∷ None ∷ None ∷ []
unfolding digits
numbers_refused = refl

-- the greatest number of 64 bits, and one more; where no line is wanted but 0
greatest : map (number_read most)
    (codes "18446744073709551615" ∷ codes "18446744073709551616" ∷ codes "118446744073709551615" ∷ [])
    ≡ Some most ∷ None ∷ None ∷ []
unfolding digits
greatest = refl

least : map (number_read 0) (codes "0" ∷ codes "1" ∷ []) ≡ Some 0 ∷ None ∷ []
unfolding digits
least = refl

-- a source of an empty line, one of two bytes, and an empty one after its last newline
abbrev two_lines : Option (List ℕ)
two_lines = Some (codes "\nab\n")

abbrev of_two : List ℕ → Option PlaceLine
of_two text = place_read 2 (option_map lines_of two_lines) text

abbrev alone : ℕ → Option PlaceLine
alone line = Some (record { line = line; column = None })

abbrev at : (line column : ℕ) → Option PlaceLine
at line column = Some (record { line = line; column = Some column })

-- a line alone, the first column of a line, the last one, and one of an empty line
places_taken : map of_two (codes "0" ∷ codes "2" ∷ codes "2 1" ∷ codes "2 2" ∷ codes "2 3" ∷ codes "1 1" ∷ [])
    ≡ alone 0 ∷ alone 2 ∷ at 2 1 ∷ at 2 2 ∷ at 2 3 ∷ at 1 1 ∷ []
unfolding digits
places_taken = refl

-- no column, column 0, one past the last, one of an empty line, one of no line, one of a line past the last, needless
-- zeros, blanks, a tab, a return, and a third number
places_refused : map of_two
    (codes "2 " ∷ codes "2 0" ∷ codes "2 4" ∷ codes "1 2" ∷ codes "0 1" ∷ codes "3 1" ∷ codes "2 01" ∷ codes "02 1"
    ∷ codes "2  1" ∷ codes " 2 1" ∷ codes "2 1 " ∷ codes "2\t1" ∷ codes "2 1\r" ∷ codes "2 1 1" ∷ codes " " ∷ [])
    ≡ None ∷ None ∷ None ∷ None ∷ None ∷ None ∷ None ∷ None ∷ None ∷ None ∷ None ∷ None ∷ None ∷ None ∷ None ∷ []
unfolding digits
places_refused = refl

-- where the source isn't known
greatest_column : map (place_read most None)
    (codes "1 18446744073709551615" ∷ codes "1 18446744073709551616" ∷ codes "1 0" ∷ codes "0 1" ∷ [])
    ≡ at 1 most ∷ None ∷ None ∷ None ∷ []
unfolding digits
greatest_column = refl

-- X n 2 0, c 1, c 2; V v 4 0; F f 0 0 0 0 2, p, p
abbrev program : List Definition
program =
    definition.Simple
    (record { name = codes "n"; values = ival.Number 1 ∷ ival.Number 2 ∷ []; strings = [] })
    ∷ definition.Vector (record { name = codes "v"; words = 4; values = []; strings = [] })
    ∷ definition.Function (record {
      name = codes "f";
      parameters = 0;
      frame = 0;
      targets = 0 ∷ [];
      strings = 4 ∷ [];
      code = instr.Pop ∷ instr.Pop ∷ [];
    })
    ∷ []

wanted_lines : lines_wanted 3 program
    ≡ wanted.Number 3 (codes "n") 0 ∷ wanted.Number 3 (codes "n") 1 ∷ wanted.Number 3 (codes "f") 0
    ∷ wanted.Number 3 (codes "f") 1 ∷ []
wanted_lines = refl

read_whole : lines_read 3 (Some (codes "a\nb\nc")) (codes "1\n0\n3 2\n3\n") program
    ≡ Ok (record { line = 1; column = None } ∷ record { line = 0; column = None } ∷ record { line = 3; column = Some 2 }
    ∷ record { line = 3; column = None } ∷ [])
unfolding digits
read_whole = refl

-- the first line, one later, two, and the last one
wrong_lines : map (λ file. lines_read 3 None file program)
    (codes "4\n1\n1\n1\n" ∷ codes "1\n04\n1\n1\n" ∷ codes "1\n1\n\n5\n" ∷ codes "1\n1\n1\n1 \n" ∷ [])
    ≡ Err (1, wanted.Number 3 (codes "n") 0) ∷ Err (2, wanted.Number 3 (codes "n") 1)
    ∷ Err (3, wanted.Number 3 (codes "f") 0) ∷ Err (4, wanted.Number 3 (codes "f") 1) ∷ []
unfolding digits
wrong_lines = refl

-- nothing, too little, too much, no newline at the end, and a line without anything after it
wrong_ends : map (λ file. lines_read 3 None file program)
    ([] ∷ codes "1\n1\n1\n" ∷ codes "1\n1\n1\n1\n1\n" ∷ codes "1\n1\n1\n1" ∷ codes "1\n1\n1\n1\n\n" ∷ [])
    ≡ Err (1, wanted.Number 3 (codes "n") 0) ∷ Err (4, wanted.Number 3 (codes "f") 1) ∷ Err (5, wanted.End)
    ∷ Err (5, wanted.End) ∷ Err (5, wanted.End) ∷ []
unfolding digits
wrong_ends = refl

-- no places, no lines
no_places : map (λ file. lines_read 3 None file []) ([] ∷ codes "0\n" ∷ codes "\n" ∷ [])
    ≡ Ok [] ∷ Err (1, wanted.End) ∷ Err (1, wanted.End) ∷ []
no_places = refl
