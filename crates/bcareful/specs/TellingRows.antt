-- Closed facts: what is told of a finding.
use Rattle.std.specs.Prelude.{◌≡◌, ℕ, List, [], ◌∷◌, Some, None, codes, map, refl, false, true}
use Rattle.std.specs.Fmt.{digits}
use Rattle.bword.specs.declared.operators.BinOp.TheVariants as op
use Rattle.blang.specs.declared.code.Definition.{Definition}
use Rattle.blang.specs.declared.code.Definition.TheVariants as definition
use Rattle.blang.specs.declared.code.Ival.TheVariants as ival
use Rattle.bmach.specs.declared.machine.Active.{Active}
use Rattle.bcareful.specs.CarefulRows.{f, frame_words, thing, data_thing, v}
use Rattle.bcareful.specs.Things.{Atlas, of_data}
use Rattle.bcareful.specs.Tellings.{address_of, careful_line, finding_meaning, name_text, word_name}
use Rattle.bcareful.specs.Runs.{finds_wraps, stays}
use Rattle.bcareful.specs.Warned.{Warnings, no_warnings, noted, told_after}
use Rattle.bcareful.specs.declared.care.Care.TheVariants as care
use Rattle.bcareful.specs.declared.finding.Finding.{Finding}
use Rattle.bcareful.specs.declared.finding.Finding.TheVariants.{Index, Low, Never, Over, Past, Wraps}
use Rattle.bcareful.specs.declared.thing.Part.TheVariants as part

told_lines : map careful_line (Never part.Whole 18 ∷ Index v 18 ∷ Past 18 ∷ Over 18 ∷ Low 3 ∷ Wraps op.Mul 5 8 ∷ [])
    ≡ codes "careful set\n" ∷ codes "careful index\n" ∷ codes "careful index\n" ∷ codes "careful index\n"
    ∷ codes "careful low\n" ∷ codes "careful wraps\n" ∷ []
told_lines = refl

told_words : map address_of (Never part.Whole 18 ∷ Index v 19 ∷ Past 20 ∷ Over 21 ∷ Low 3 ∷ Wraps op.Mul 5 8 ∷ [])
    ≡ Some 18 ∷ Some 19 ∷ Some 20 ∷ Some 21 ∷ Some 3 ∷ None ∷ []
told_words = refl

-- the externals `x 1;` at 7, `w[2] 5;` at 8, and `f(a, b)` at 12, whose strings are at 13 and whose frame is at 20
abbrev pub program : List Definition
program =
    definition.Simple (record { name = codes "x"; values = ival.Number 1 ∷ []; strings = [] })
    ∷ definition.Vector (record { name = codes "w"; words = 3; values = ival.Number 5 ∷ []; strings = [] })
    ∷ definition.Function f
    ∷ []

abbrev pub atlas : Atlas
atlas = record {
  definitions = program;
  functions = record { strings = 13; function = f } ∷ [];
  frames = frame_words ∷ [];
  address_of = λ x. 7;
  extents = [];
  wraps = false;
}

abbrev pub calls : List Active
calls = record { strings = 13; parameters = 2; place = 0; start = 20 } ∷ []

abbrev pub name_at : (address : ℕ) → List ℕ
name_at address = name_text (word_name atlas calls address)

abbrev pub told : Finding → List ℕ
told finding = finding_meaning atlas calls finding

-- each word of the frame: parameters, the own word of the vector, its first and its last word, and the word after them
names_in_frame : map name_at (20 ∷ 21 ∷ 22 ∷ 23 ∷ 27 ∷ 28 ∷ [])
    ≡ codes "a of f" ∷ codes "b of f" ∷ codes "v of f" ∷ codes "v[0] of f" ∷ codes "v[4] of f" ∷ codes "i of f" ∷ []
unfolding digits
names_in_frame = refl

-- and of the data: an external, a vector and its words, a function and its strings
names_of_data : map name_at (7 ∷ 8 ∷ 9 ∷ 11 ∷ 12 ∷ 13 ∷ 15 ∷ [])
    ≡ codes "x" ∷ codes "w" ∷ codes "w[0]" ∷ codes "w[2]" ∷ codes "f" ∷ codes "a string of f" ∷ codes "a string of f"
    ∷ []
unfolding digits
names_of_data = refl

names_of_none : map name_at (0 ∷ 6 ∷ 16 ∷ 19 ∷ 29 ∷ [])
    ≡ codes "no word of the program" ∷ codes "no word of the program" ∷ codes "no word of the program"
    ∷ codes "no word of the program" ∷ codes "no word of the program" ∷ []
names_of_none = refl

told_index : told (Index (thing 23 5) 28) ≡ codes "v[5] of f, which has words 0 to 4: this is i of f"
unfolding digits
told_index = refl

told_before : told (Index (thing 23 5) 22) ≡ codes "v[-1] of f, which has words 0 to 4: this is v of f"
unfolding digits
told_before = refl

told_external_vector : told (Index (data_thing 9 3) 12) ≡ codes "w[3], which has words 0 to 2: this is f"
unfolding digits
told_external_vector = refl

told_external : told (Index (data_thing 7 1) 8) ≡ codes "word 1 of x, which is one word: this is w"
unfolding digits
told_external = refl

told_automatic : told (Index (thing 28 1) 27) ≡ codes "word -1 of i of f, which is one word: this is v[4] of f"
unfolding digits
told_automatic = refl

told_string : told (Index (of_data 13 2 false) 16)
    ≡ codes "word 3 of a string of f, which has words 0 to 1: this is no word of the program"
unfolding digits
told_string = refl

told_set : told (Never part.Whole 28) ≡ codes "nothing has set i of f"
told_set = refl

told_element : told (Never part.Whole 25) ≡ codes "nothing has set v[2] of f"
unfolding digits
told_element = refl

told_characters : (told (Never part.First 25) ≡ codes "nothing has set the first character of v[2] of f")
    × (told (Never part.Second 28) ≡ codes "nothing has set the second character of i of f")
unfolding digits
told_characters = (refl, refl)

told_past : told (Past 14) ≡ codes "a character after the end of a string of f"
told_past = refl

told_over : told (Over 28) ≡ codes "a word of a call that is over: this is i of f"
told_over = refl

told_low : told (Low 3) ≡ codes "the address 3 is no word of the program"
unfolding digits
told_low = refl

told_wraps : (told (Wraps op.Mul 5040 8) ≡ codes "5040 * 8 is no number from -32768 to 32767")
    × (told (Wraps op.Sub 32768 1) ≡ codes "-32768 - 1 is no number from -32768 to 32767")
unfolding digits
told_wraps = (refl, refl)

-- which runs stay at a finding, and which find a result that is no word
cares : (map stays (care.Stays ∷ care.Wraps ∷ care.Warns ∷ []) ≡ true ∷ true ∷ false ∷ [])
    × (map finds_wraps (care.Stays ∷ care.Wraps ∷ care.Warns ∷ []) ≡ false ∷ true ∷ false ∷ [])
cares = (refl, refl)

-- Two places of one function, and the same place of another one; a place that was told is not told again.
abbrev pub at_place : (strings place : ℕ) → Active
at_place strings place = record { strings = strings; parameters = 0; place = place; start = 30 }

abbrev pub told_so : Warnings
told_so = noted (at_place 9 4) (codes "a\n") no_warnings

noted_once : (noted (at_place 9 4) (codes "b\n") told_so ≡ told_so)
    × ((noted (at_place 9 5) (codes "b\n") told_so).text ≡ codes "a\nb\n")
    × ((noted (at_place 8 4) (codes "b\n") told_so).text ≡ codes "a\nb\n")
noted_once = (refl, refl, refl)

-- After 133 and 134 nothing more is told.
told_after_statuses : map (λ answer. told_after answer (codes "a")) (0 ∷ 1 ∷ 127 ∷ 130 ∷ 131 ∷ 132 ∷ 133 ∷ 134 ∷ [])
    ≡ codes "a" ∷ codes "a" ∷ codes "a" ∷ codes "a" ∷ codes "a" ∷ codes "a" ∷ [] ∷ [] ∷ []
told_after_statuses = refl
