-- Closed facts: the trace of small programs, and what is told of where their runs are over.
use Rattle.std.specs.Prelude.{◌≡◌, ℕ, List, [], ◌∷◌, ◌++◌, Option, Some, None, codes, map, refl, replicate}
use Rattle.std.specs.Fmt.{digits}
use Rattle.bword.specs.declared.edition.Edition.TheVariants as editions
use Rattle.blang.specs.declared.code.Definition.{Definition}
use Rattle.blang.specs.declared.run.Outcome.{Outcome}
use Rattle.blang.specs.declared.run.Outcome.TheVariants as outcome
use Rattle.blang.specs.declared.run.Trap.TheVariants as trap
use Rattle.blang.specs.Machine.{image_of, machine}
use Rattle.blang.specs.Text.{code_lines, joined}
use Rattle.bsources.specs.Files.{Files}
use Rattle.btools.specs.PlaceLines.{CodeText, HasPlaceLines}
use Rattle.bwatch.specs.Sights.{Sights, end_sight, sights_of, stored_between}
use Rattle.btrace.specs.RowTexts.{Legend, legend_in, margin}
use Rattle.bwatch.specs.SmallPrograms.{calling, nothing, passing, reading, storing, trapping, writing}
use Rattle.btrace.specs.Traces.{ending_text, rows_text}
use Rattle.btrace.specs.declared.tracer.Which.{Which}
use Rattle.bwatch.specs.declared.trail.TraceRows.{TraceRows}
use Rattle.bwatch.specs.declared.trail.TraceRows.TheVariants as rows

-- a source in two files, of which the first has nine lines
abbrev some_files : Files
some_files = record {
  first = record { name = codes "p.b"; lines = 9 };
  rest = record { name = codes "l.b"; lines = 90 } ∷ [];
}

-- a run of a program without input, whose code has these lines
abbrev sights : List Definition → Sights
sights ds = sights_of (image_of ds).functions (machine ds) []

abbrev asked : TraceRows → (function : Option ℕ) → Which
asked rows function = record { rows = rows; function = function }

-- the legend of code that has these lines, without columns
abbrev lined : List Definition → (lines : List ℕ) → Legend
lined ds lines = legend_in ds (record { lines = lines; columns = [] }) some_files

-- what stands under the heading
abbrev under_heading : List Definition → (lines : List ℕ) → Which → (made : ℕ) → Outcome → List ℕ
under_heading ds lines which made result =
    rows_text (lined ds lines) which (sights ds) made ++ ending_text (lined ds lines) which (sights ds) made result

-- each row has the line of its own step, in the file where it lies; the limit has that of the next one
all_rows : under_heading calling (7 ∷ 8 ∷ 9 ∷ 0 ∷ 0 ∷ 0 ∷ 13 ∷ 14 ∷ []) (asked (rows.From 1) None) 4 outcome.Limit
    ≡ codes "       1  main         0     7  x f         \n"
    ++ codes "       2  main         1     8  v            8\n"
    ++ codes "       3  main         2     9  k 0          8\n"
    ++ codes "       4  f            0     4 of l.b  x f         \n"
    ++ codes "at     in f        place    1  line    5 of l.b\n"
    ++ codes "called in main     place    2  line    9\n"
unfolding digits
all_rows = refl

-- the last one alone, none before the first that is asked for, and those of one function
last_row : under_heading calling (7 ∷ 8 ∷ 9 ∷ []) (asked (rows.Last 1) None) 2 outcome.Limit
    ≡ codes "       2  main         1     8  v            8\n" ++ codes "at     in main     place    2  line    9\n"
unfolding digits
last_row = refl

none_before : under_heading nothing (1 ∷ 2 ∷ []) (asked (rows.From 2) None) 1 outcome.Limit
    ≡ codes "at     in main     place    1  line    2\n"
unfolding digits
none_before = refl

rows_of_function : rows_text (lined calling (7 ∷ 7 ∷ 7 ∷ 7 ∷ 7 ∷ 7 ∷ 8 ∷ 8 ∷ [])) (asked (rows.From 1) (Some 9)) (sights calling) 4 ≡ codes "       4  f            0     8  x f         \n"
unfolding digits
rows_of_function = refl

-- a run that was over by itself, with its last step
halted : under_heading nothing (1 ∷ 2 ∷ []) (asked (rows.From 1) None) 2 (outcome.Exit 0)
    ≡ codes "       1  main         0     1  c 0         \n" ++ codes "       2  main         1     2  r            0\n"
unfolding digits
halted = refl

-- a code text: each row has its line there, or the one of the author's that the file of lines has for its place
abbrev code_of_nothing : List ℕ
code_of_nothing = codes "B 2\nF main 0 0 0 0 2\nc 0\nr\nE\n"

nothing_is_spelled_so : code_of_nothing ≡ joined (code_lines editions.Two nothing)
unfolding digits
nothing_is_spelled_so = refl

lines_of_code : HasPlaceLines (record { code = code_of_nothing; lines = None; source = None; names = None }) nothing (3 ∷ 4 ∷ [])
lines_of_code = refl

told_by_code : under_heading nothing (3 ∷ 4 ∷ []) (asked (rows.From 1) None) 2 (outcome.Exit 0)
    ≡ codes "       1  main         0     3  c 0         \n" ++ codes "       2  main         1     4  r            0\n"
unfolding digits
told_by_code = refl

-- of a source of twelve lines
abbrev by_author : CodeText
by_author = record {
  code = code_of_nothing;
  lines = Some (codes "7\n12\n");
  source = Some (codes "\n\n\n\n\n\n\n\n\n\n\n\n");
  names = None;
}

lines_of_author : HasPlaceLines by_author nothing (7 ∷ 12 ∷ [])
unfolding digits
lines_of_author = (record { line = 7; column = None } ∷ record { line = 12; column = None } ∷ [], refl, refl)

told_by_author : under_heading nothing (7 ∷ 12 ∷ []) (asked (rows.From 1) None) 2 (outcome.Exit 0)
    ≡ codes "       1  main         0     7  c 0         \n"
    ++ codes "       2  main         1     3 of l.b  r            0\n"
unfolding digits
told_by_author = refl

-- a byte that was written, and a word that was stored
byte_written : rows_text (lined writing (1 ∷ 1 ∷ 2 ∷ 3 ∷ [])) (asked (rows.From 4) None) (sights writing) 4
    ≡ codes "       4  main         3     3  k 1          4 97\n"
    ++ codes "                                           writes 'a'\n"
unfolding digits margin
byte_written = refl

word_stored : rows_text (lined storing (1 ∷ 2 ∷ 3 ∷ [])) (asked (rows.From 3) None) (sights storing) 3
    ≡ codes "       3  main         2     3  w            3 5\n"
    ++ codes "                                           @3 = 5\n"
unfolding digits margin
word_stored = refl

-- a step that ends the run stores none
none_stored : stored_between (record (sights storing 2) { storing = 3 ∷ [] }) (end_sight [] []) ≡ []
none_stored = refl

-- a trap is where its step was
trap_placed : under_heading trapping (1 ∷ 2 ∷ []) (asked (rows.From 2) None) 2 (outcome.Trap trap.NotAFunction)
    ≡ codes "       2  main         1     2  k 0          0\n" ++ codes "at     in main     place    1  line    2\n"
unfolding digits
trap_placed = refl

-- a call with its words, and the one that waits for it at its own call
words_placed : under_heading passing (replicate 9 2 ++ 4 ∷ 5 ∷ 5 ∷ 5 ∷ 6 ∷ 7 ∷ []) (asked (rows.From 11) None) 10
    outcome.Limit ≡ codes "at     in f        place    0  line    6  with 1 2 3 4 5 6 ..\n"
    ++ codes "called in main     place    9  line    4\n"
unfolding digits
words_placed = refl

-- a step that could not read, which is shown or not
read_tried : under_heading reading (1 ∷ 1 ∷ 5 ∷ []) (asked (rows.From 3) None) 2 outcome.Device
    ≡ codes "       3  main         2     5  k 0          3\n"
unfolding digits
read_tried = refl

read_hidden : under_heading reading (1 ∷ 1 ∷ 5 ∷ []) (asked (rows.From 4) None) 2 outcome.Device ≡ []
read_hidden = refl
