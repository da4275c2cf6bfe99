-- Closed facts: counts and their rows, on small values.
use Rattle.std.specs.Prelude.{◌≡◌, ℕ, true, false, List, [], ◌∷◌, ◌++◌, Some, None, codes, map, refl}
use Rattle.std.specs.Fmt.{digits}
use Rattle.std.specs.List.{range_with_len}
use Rattle.blang.specs.Text.{code_lines, joined}
use Rattle.bsources.specs.Files.{Files, Line}
use Rattle.bword.specs.declared.edition.Edition.TheVariants as editions
use Rattle.btools.specs.Origins.{Code, Origin, Source}
use Rattle.btools.specs.PlaceLines.{CodeText, HasPlaceLines}
use Rattle.btools.specs.ProgramLines.{FunctionLines, lined_functions}
use Rattle.btools.specs.SourceLines.{last_line}
use Rattle.bcount.specs.declared.lines.Counted.{Counted}
use Rattle.bcount.specs.declared.lines.LineCount.{LineCount}
use Rattle.bcount.specs.declared.table.CountStyle.{CountStyle}
use Rattle.bcount.specs.declared.table.CountStyle.TheVariants as styles
use Rattle.bcount.specs.CountExcluded.{nothing}
use Rattle.bcount.specs.Counts.{Asked, count_text, counted_of, line_counts, row_of, steps_on, times_on}
use Rattle.bcount.specs.Marks.{is_marked, no_code}
use Rattle.bcount.specs.SourceLines.{beside_text}
use Rattle.bcount.specs.Tables.{cells_text, file_row, hint_of, none_text, object_text, total_of}
use Rattle.bcount.specs.Tallies.{bumped}
use Rattle.bcount.specs.Together.{all_steps}

-- the instruction at a place is counted, and none where there is none
first_bumped : bumped 0 (4 ∷ 5 ∷ []) ≡ 5 ∷ 5 ∷ []
first_bumped = refl

last_bumped : bumped 1 (4 ∷ 5 ∷ []) ≡ 4 ∷ 6 ∷ []
last_bumped = refl

past_bumped : bumped 2 (4 ∷ 5 ∷ []) ≡ 4 ∷ 5 ∷ []
past_bumped = refl

abbrev counted : List Counted
counted = record { line = 3; count = 7 } ∷ record { line = 2; count = 0 } ∷ record { line = 3; count = 5 } ∷ []

-- the first instruction of a line, all of them, and a line without code
times_of_lines : map (times_on counted) (1 ∷ 2 ∷ 3 ∷ []) ≡ None ∷ Some 0 ∷ Some 7 ∷ []
times_of_lines = refl

steps_of_lines : map (steps_on counted) (1 ∷ 2 ∷ 3 ∷ []) ≡ 0 ∷ 0 ∷ 12 ∷ []
steps_of_lines = refl

steps_of_all_lines : all_steps (line_counts counted 3) ≡ 12
steps_of_all_lines = refl

abbrev did : LineCount
did = record { times = Some 7; steps = 12 }

cells_marked : cells_text true 3 did ≡ codes ">      3             7            12"
unfolding digits
cells_marked = refl

cells_without_code : cells_text false 10 no_code ≡ codes "      10                            "
unfolding digits
cells_without_code = refl

abbrev at_line : ℕ → Line
at_line line = record { file = codes "l\".b"; line = line }

first_of_file : file_row (Some (at_line 1)) ≡ codes "l\".b\n"
first_of_file = refl

second_of_file : file_row (Some (at_line 2)) ≡ []
second_of_file = refl

object_of_line : object_text (at_line 3) did ≡ codes "{\"file\":\"l\\\".b\",\"line\":3,\"times\":7,\"steps\":12}\n"
unfolding digits
object_of_line = refl

object_without_code : object_text (at_line 3) no_code ≡ []
object_without_code = refl

total : total_of styles.Table 78 ≡ codes "   total                          78\n"
unfolding digits
total = refl

no_total : total_of styles.Json 78 ≡ []
no_total = refl

-- the hint: where one line has code, and not where two or none have
abbrev done_once : LineCount
done_once = record { times = Some 1; steps = 2 }

hint_of_one_line : hint_of styles.Table true (no_code ∷ done_once ∷ no_code ∷ [])
    ≡ codes "  hint: all code is on one line; b format FILE gives each statement its own\n"
hint_of_one_line = refl

no_hint_of_two : hint_of styles.Table true (done_once ∷ no_code ∷ done_once ∷ []) ≡ []
no_hint_of_two = refl

no_hint_without_code : hint_of styles.Table true (no_code ∷ []) ≡ []
no_hint_without_code = refl

no_hint_of_objects : hint_of styles.Json true (done_once ∷ []) ≡ []
no_hint_of_objects = refl

-- nor where the source isn't one of B, which `b format` could lay out
no_hint_of_others : hint_of styles.Table false (done_once ∷ []) ≡ []
no_hint_of_others = refl

-- the number of the last line: without a newline, with one at the end, with one before it, and with newlines alone
last_lines : map last_line ([] ∷ codes "a" ∷ codes "a\n" ∷ codes "a\nb" ∷ codes "\n" ∷ codes "\n\n" ∷ [])
    ≡ 1 ∷ 1 ∷ 1 ∷ 2 ∷ 1 ∷ 2 ∷ []
last_lines = refl

-- a line with white space at its end, and one of nothing else
shown_beside : beside_text (9 ∷ codes "x ") ≡ codes "   x"
shown_beside = refl

none_beside : beside_text (codes "  ") ≡ codes "  "
none_beside = refl

-- The three costliest lines are marked: of those that took as many steps the upper ones, and none that took none.
abbrev took : ℕ → LineCount
took steps = record { times = Some 1; steps = steps }

costliest_marked : map (is_marked (map took (5 ∷ 0 ∷ 7 ∷ 5 ∷ 5 ∷ []))) (range_with_len 0 6)
    ≡ true ∷ false ∷ true ∷ true ∷ false ∷ false ∷ []
costliest_marked = refl

last_marked : map (is_marked (map took (1 ∷ 2 ∷ 3 ∷ 4 ∷ []))) (range_with_len 0 4)
    ≡ false ∷ true ∷ true ∷ true ∷ []
last_marked = refl

fewer_marked : map (is_marked (map took (0 ∷ 1 ∷ 0 ∷ []))) (range_with_len 0 3) ≡ false ∷ true ∷ false ∷ []
fewer_marked = refl

-- a whole table of two files, and the same as objects
abbrev two_files : Files
two_files = record {
  first = record { name = codes "p.b"; lines = 2 };
  rest = record { name = codes "l.b"; lines = 2 } ∷ [];
}

-- the lines of two functions, and how often each of their instructions was made
abbrev two_functions : List FunctionLines
two_functions = record { strings = 8; lines = 1 ∷ 1 ∷ [] } ∷ record { strings = 9; lines = 3 ∷ [] } ∷ []

abbrev tallies : List (List ℕ)
tallies = (2 ∷ 1 ∷ []) ∷ (1 ∷ []) ∷ []

each_on_its_line : counted_of 4 two_functions tallies
    ≡ record { line = 1; count = 2 } ∷ record { line = 1; count = 1 } ∷ record { line = 3; count = 1 } ∷ []
each_on_its_line = refl

-- the first and the last line of a source of three, what is after them, and none
rows_of_lines : map (row_of 4) (1 ∷ 2 ∷ 3 ∷ 4 ∷ 65535 ∷ 0 ∷ []) ≡ 1 ∷ 2 ∷ 3 ∷ 3 ∷ 3 ∷ 4 ∷ []
rows_of_lines = refl

abbrev asks_of : Origin → CountStyle → Asked
asks_of origin style = record { origin = origin; steps = 10; files = two_files; style = style }

abbrev asks : CountStyle → Asked
asks style = asks_of (Source editions.One) style

whole_table : count_text (asks styles.Table) (codes "main(){f();}\n\nf(){}\n") two_functions tallies 4
    ≡ codes "    line         times         steps  source\n"
    ++ codes ">      1             2             3  main(){f();}\n"
    ++ codes "       2                              \n"
    ++ codes "l.b\n"
    ++ codes ">      1             1             1  f(){}\n"
    ++ codes "   total                           4\n"
unfolding digits
whole_table = refl

whole_objects : count_text (asks styles.Json) (codes "main(){f();}\n\nf(){}\n") two_functions tallies 4
    ≡ codes "{\"file\":\"p.b\",\"line\":1,\"times\":2,\"steps\":3}\n"
    ++ codes "{\"file\":\"l.b\",\"line\":1,\"times\":1,\"steps\":1}\n"
unfolding digits
whole_objects = refl

-- a table with its hint: all code is on one line
hinted_table : count_text (asks styles.Table) (codes "main(){}") (record { strings = 8; lines = 1 ∷ 1 ∷ [] } ∷ [])
    ((1 ∷ 1 ∷ []) ∷ []) 2
    ≡ codes "    line         times         steps  source\n"
    ++ codes ">      1             1             2  main(){}\n"
    ++ codes "   total                           2\n"
    ++ codes "  hint: all code is on one line; b format FILE gives each statement its own\n"
unfolding digits
hinted_table = refl

-- a code text: each instruction is on its line there, or on the one of the author's that the file of lines has for it
abbrev code_of_nothing : List ℕ
code_of_nothing = codes "F main 0 0 0 0 2\nc 0\nr\nE\n"

nothing_is_spelled_so : code_of_nothing ≡ joined (code_lines editions.One nothing)
unfolding digits
nothing_is_spelled_so = refl

abbrev by_itself : CodeText
by_itself = record { code = code_of_nothing; lines = None; source = None; names = None }

lines_of_code : HasPlaceLines by_itself nothing (2 ∷ 3 ∷ [])
lines_of_code = refl

counted_by_code : count_text (asks_of (Code by_itself) styles.Table) code_of_nothing (lined_functions nothing (2 ∷ 3 ∷ [])) ((1 ∷ 1 ∷ []) ∷ []) 2
    ≡ codes "    line         times         steps  source\n"
    ++ codes "       1                              F main 0 0 0 0 2\n"
    ++ codes ">      2             1             1  c 0\n"
    ++ codes "l.b\n"
    ++ codes ">      1             1             1  r\n"
    ++ codes "       2                              E\n"
    ++ codes "   total                           2\n"
unfolding digits
counted_by_code = refl

abbrev by_author : CodeText
by_author = record {
  code = code_of_nothing;
  lines = Some (codes "2\n2\n");
  source = Some (codes "10 REM\n20 END\n");
  names = None;
}

lines_of_author : HasPlaceLines by_author nothing (2 ∷ 2 ∷ [])
unfolding digits
lines_of_author = (record { line = 2; column = None } ∷ record { line = 2; column = None } ∷ [], refl, refl)

counted_by_author : count_text (asks_of (Code by_author) styles.Table) (codes "10 REM\n20 END\n") (lined_functions nothing (2 ∷ 2 ∷ []))
    ((1 ∷ 1 ∷ []) ∷ []) 2
    ≡ codes "    line         times         steps  source\n"
    ++ codes "       1                              10 REM\n"
    ++ codes ">      2             1             2  20 END\n"
    ++ codes "   total                           2\n"
unfolding digits
counted_by_author = refl

-- code that comes from no line has a row of its own, which may be one of the costliest, made or not
counted_of_none : count_text (asks_of (Code by_author) styles.Table) (codes "10 REM\n20 END\n")
    (lined_functions nothing (0 ∷ 2 ∷ [])) ((3 ∷ 1 ∷ []) ∷ []) 4
    ≡ codes "    line         times         steps  source\n"
    ++ codes "       1                              10 REM\n"
    ++ codes ">      2             1             1  20 END\n"
    ++ codes ">   none             3             3  code that comes from no line\n"
    ++ codes "   total                           4\n"
unfolding digits
counted_of_none = refl

objects_of_none : count_text (asks_of (Code by_author) styles.Json) (codes "10 REM\n20 END\n")
    (lined_functions nothing (0 ∷ 2 ∷ [])) ((0 ∷ 1 ∷ []) ∷ []) 1
    ≡ codes "{\"file\":\"p.b\",\"line\":2,\"times\":1,\"steps\":1}\n" ++ codes "{\"line\":0,\"times\":0,\"steps\":0}\n"
unfolding digits
objects_of_none = refl

none_without_steps : none_text styles.Table false (record { times = Some 0; steps = 0 })
    ≡ codes "    none             0             0  code that comes from no line\n"
unfolding digits
none_without_steps = refl
