-- Closed facts: what stands in the rows of a trace, on small values.
use Rattle.std.specs.Prelude.{◌≡◌, ℕ, true, false, List, [], ◌∷◌, ◌++◌, Some, None, codes, map, refl, replicate}
use Rattle.std.specs.List.{flat_map, range_with_len}
use Rattle.std.specs.Fmt.{digits}
use Rattle.blang.specs.declared.run.Outcome.TheVariants as outcome
use Rattle.blang.specs.declared.run.Trap.TheVariants as trap
use Rattle.btools.specs.Programs.{located_status}
use Rattle.bendless.specs.declared.search.Repeat.{Repeat}
use Rattle.btrace.specs.Locates.{explanation, meaning, site_line, told_site}
use Rattle.btrace.specs.Loops.{again_text, loop_site, loop_text}
use Rattle.bmach.specs.declared.machine.Active.{Active}
use Rattle.btools.specs.Columns.{instr_text}
use Rattle.btools.specs.Characters.{signed_text}
use Rattle.btrace.specs.RowTexts.{caller_text, callers_text, first_words, has_more, is_same_place, margin}
use Rattle.btrace.specs.RowTexts.{operands_text, stored_text, word_row, words_text, written_byte, written_row}
use Rattle.bsources.specs.Files.{Files}
use Rattle.btrace.specs.RowTexts.{Legend, column_told, line_text, place_column, source_text}
use Rattle.btrace.specs.Traces.{is_wanted, which_of}
use Rattle.bwatch.specs.Trails.{chosen}
use Rattle.bwatch.specs.declared.trail.TraceRows.TheVariants as rows

-- a word is shown as a signed number
signed_zero : signed_text 0 ≡ codes "0"
unfolding digits
signed_zero = refl

signed_greatest : signed_text 32767 ≡ codes "32767"
unfolding digits
signed_greatest = refl

signed_least : signed_text 32768 ≡ codes "-32768"
unfolding digits
signed_least = refl

signed_minus_one : signed_text 65535 ≡ codes "-1"
unfolding digits
signed_minus_one = refl

-- the topmost five operands
no_operands : operands_text [] ≡ []
no_operands = refl

all_operands : operands_text (1 ∷ 2 ∷ 3 ∷ 4 ∷ 5 ∷ []) ≡ codes " 1 2 3 4 5"
unfolding digits
all_operands = refl

topmost_operands : operands_text (1 ∷ 2 ∷ 3 ∷ 4 ∷ 5 ∷ 6 ∷ []) ≡ codes " .. 2 3 4 5 6"
unfolding digits
topmost_operands = refl

signed_operands : operands_text (65535 ∷ 32768 ∷ 7 ∷ []) ≡ codes " -1 -32768 7"
unfolding digits
signed_operands = refl

-- a word beside its address
word_shown : word_row (7 ∷ 8 ∷ []) 1 ≡ replicate 43 32 ++ codes "@1 = 8\n"
unfolding digits margin
word_shown = refl

signed_word : word_row (7 ∷ 65535 ∷ []) 1 ≡ replicate 43 32 ++ codes "@1 = -1\n"
unfolding digits margin
signed_word = refl

unsigned_address : word_row [] 65535 ≡ replicate 43 32 ++ codes "@65535 = 0\n"
unfolding digits margin
unsigned_address = refl

no_word : stored_text (7 ∷ []) [] ≡ []
no_word = refl

-- what a step has written
nothing_written : written_row [] ≡ []
nothing_written = refl

written_shown : written_row (codes "a\n") ≡ replicate 43 32 ++ codes "writes 'a*n'\n"
unfolding margin
written_shown = refl

-- a character, an escape, and a byte that is neither
bytes_shown : map written_byte (32 ∷ 42 ∷ 46 ∷ 92 ∷ 126 ∷ 0 ∷ 4 ∷ 9 ∷ 10 ∷ 1 ∷ 11 ∷ 31 ∷ 127 ∷ 128 ∷ 255 ∷ [])
    ≡ (codes " " ∷ codes "**" ∷ codes "." ∷ codes "\\" ∷ codes "~" ∷ codes "*0" ∷ codes "*e" ∷ codes "*t" ∷ codes "*n"
    ∷ codes "\\x01" ∷ codes "\\x0b" ∷ codes "\\x1f" ∷ codes "\\x7f" ∷ codes "\\x80" ∷ codes "\\xff" ∷ [])
bytes_shown = refl

-- The parameters of a call stand at the beginning of its frame, and six of them are shown.
abbrev a_call : (parameters start : ℕ) → Active
a_call parameters start = record { strings = 9; parameters = parameters; place = 0; start = start }

first_two : first_words (7 ∷ 8 ∷ 9 ∷ 10 ∷ []) (a_call 2 1) ≡ 8 ∷ 9 ∷ []
first_two = refl

first_six : first_words (1 ∷ 2 ∷ 3 ∷ 4 ∷ 5 ∷ 6 ∷ 7 ∷ 8 ∷ []) (a_call 7 0) ≡ 1 ∷ 2 ∷ 3 ∷ 4 ∷ 5 ∷ 6 ∷ []
first_six = refl

around_memory : first_words (7 ∷ 8 ∷ []) (a_call 2 65535) ≡ 0 ∷ 7 ∷ []
around_memory = refl

six_are_all : has_more (a_call 6 0) ≡ false
six_are_all = refl

seven_are_more : has_more (a_call 7 0) ≡ true
seven_are_more = refl

no_words : words_text [] false ≡ []
no_words = refl

words_shown : words_text (3 ∷ 4 ∷ []) true ≡ codes "  with 3 4 .."
unfolding digits
words_shown = refl

signed_words : words_text (65535 ∷ 7 ∷ []) false ≡ codes "  with -1 7"
unfolding digits
signed_words = refl

-- an instruction that isn't there
no_instruction : instr_text None ≡ []
no_instruction = refl

-- the first step that is shown, the one before it, and one of another function
from_wanted : is_wanted (record { rows = rows.From 3; function = None }) 3 8 ≡ true
from_wanted = refl

before_wanted : is_wanted (record { rows = rows.From 3; function = None }) 2 8 ≡ false
before_wanted = refl

function_wanted : is_wanted (record { rows = rows.From 3; function = Some 8 }) 3 8 ≡ true
function_wanted = refl

first_wanted : is_wanted (record { rows = rows.Last 2; function = None }) 1 8 ≡ true
first_wanted = refl

-- the last ones, where there are more, as many, fewer, and where none is asked for
more_than_last : chosen {A = ℕ} (rows.Last 2) (4 ∷ 5 ∷ 6 ∷ []) ≡ 5 ∷ 6 ∷ []
more_than_last = refl

as_many_as_last : chosen {A = ℕ} (rows.Last 2) (5 ∷ 6 ∷ []) ≡ 5 ∷ 6 ∷ []
as_many_as_last = refl

fewer_than_last : chosen {A = ℕ} (rows.Last 2) (6 ∷ []) ≡ 6 ∷ []
fewer_than_last = refl

no_last : chosen {A = ℕ} (rows.Last 0) (6 ∷ []) ≡ []
no_last = refl

all_from : chosen {A = ℕ} (rows.From 2) (4 ∷ 5 ∷ 6 ∷ []) ≡ 4 ∷ 5 ∷ 6 ∷ []
all_from = refl

other_wanted : is_wanted (record { rows = rows.From 3; function = Some 8 }) 3 9 ≡ false
other_wanted = refl

unknown_name : which_of [] (rows.From 1) (Some (codes "f")) ≡ None
unknown_name = refl

no_name : which_of [] (rows.Last 2) None ≡ Some (record { rows = rows.Last 2; function = None })
no_name = refl

-- the outcomes that have a place
trap_located : located_status (outcome.Trap trap.Stuck) ≡ Some 130
trap_located = refl

limit_located : located_status outcome.Limit ≡ Some 131
limit_located = refl

exit_located : located_status (outcome.Exit 0) ≡ None
exit_located = refl

-- the last line of a file of two, and the first one of the file after it
abbrev two_files : Files
two_files = record {
  first = record { name = codes "p.b"; lines = 2 };
  rest = record { name = codes "l.b"; lines = 5 } ∷ [];
}

line_of_first : line_text 4 two_files 2 ≡ codes "   2"
unfolding digits
line_of_first = refl

line_of_next : line_text 4 two_files 3 ≡ codes "   1 of l.b"
unfolding digits
line_of_next = refl

-- a function whose instructions are all on one line
abbrev lined : ℕ → Legend
lined line = record {
  functions = [];
  lines = record { strings = 9; lines = replicate 16 line } ∷ [];
  columns = [];
  files = two_files;
}

-- the same with these columns for the first ones
abbrev marked : (line : ℕ) → (columns : List ℕ) → Legend
marked line columns = record (lined line) { columns = record { strings = 9; lines = columns } ∷ [] }

abbrev a_place : ℕ → Active
a_place place = record (a_call 0 0) { place = place }

-- a place in the second file, and the step after it
site_with_step : site_line (lined 7) (a_place 15) 450016
    ≡ codes "at     in          place   15  line    5 of l.b  step 450016\n"
unfolding digits
site_with_step = refl

-- Of calls from one place the nearest eight are told, one after another, and the others are counted.
abbrev calls_at : (places : List ℕ) → List ℕ
calls_at places = callers_text (lined 7) [] (a_place 0) 0 (map a_place places)

abbrev each_told : (places : List ℕ) → List ℕ
each_told places = flat_map (λ place. caller_text (lined 7) [] (a_place place) 0) places

caller_told : calls_at (15 ∷ []) ≡ codes "called in          place   14  line    5 of l.b\n"
unfolding digits
caller_told = refl

few_calls : map (λ n. calls_at (replicate n 4)) (range_with_len 0 9)
    ≡ map (λ n. each_told (replicate n 4)) (range_with_len 0 9)
few_calls = refl

many_calls : map (λ n. calls_at (replicate n 4)) (9 ∷ 10 ∷ 4095 ∷ [])
    ≡ map (λ n. each_told (replicate 8 4) ++ codes "       and " ++ n ++ codes " more from there\n")
    (codes "1" ∷ codes "2" ∷ codes "4087" ∷ [])
unfolding digits
many_calls = refl

-- Another place is counted anew, and so is one that comes again. The place of the running call counts for none.
other_places : calls_at (replicate 9 4 ++ replicate 8 5 ++ replicate 10 4 ++ 5 ∷ [])
    ≡ each_told (replicate 8 4) ++ codes "       and 1 more from there\n" ++ each_told (replicate 8 5 ++ replicate 8 4)
    ++ codes "       and 2 more from there\n" ++ each_told (5 ∷ [])
unfolding digits
other_places = refl

in_turn : calls_at (flat_map (λ i. 4 ∷ 5 ∷ []) (range_with_len 0 9))
    ≡ each_told (flat_map (λ i. 4 ∷ 5 ∷ []) (range_with_len 0 9))
in_turn = refl

as_the_running_call : calls_at (replicate 9 0) ≡ each_told (replicate 8 0) ++ codes "       and 1 more from there\n"
unfolding digits
as_the_running_call = refl

-- The same place of another function is another place, and another frame is none.
same_places : map (is_same_place (a_call 2 1))
    (a_call 2 1 ∷ a_call 3 2 ∷ record (a_call 2 1) { place = 1 } ∷ record (a_call 2 1) { strings = 10 } ∷ [])
    ≡ true ∷ true ∷ false ∷ false ∷ []
same_places = refl

-- no step, and the greatest number of steps
site_without_step : site_line (lined 1) (a_place 0) 0
    ≡ codes "at     in          place    0  line    1  step 0\n"
unfolding digits
site_without_step = refl

site_with_most_steps : site_line (lined 1) (a_place 0) 18446744073709551615
    ≡ codes "at     in          place    0  line    1  step 18446744073709551615\n"
unfolding digits
site_with_most_steps = refl

-- after the place the line of the source, and what the outcome means
told_trap : told_site (lined 2) (codes "main()\n  f(1 / 0); \n") (outcome.Trap trap.ZeroDivisor) (a_place 3) 7 None
    ≡ codes "at     in          place    3  line    2  step 7\n      f(1 / 0);\n  means: a division by 0\n"
unfolding digits
told_trap = refl

told_limit : explanation (lined 1) (codes "main() f();") outcome.Limit None (a_place 0)
    ≡ codes "    main() f();\n  means: no end within so many steps; --steps N or --no-limit gives more\n"
told_limit = refl

-- where a state comes again: after how many steps, and the place of its call, in its own file
abbrev repeats : Repeat
repeats = record { first = 9; again = 11; call = a_place 2; callers = 0 }

told_repeat : told_site (lined 7) (codes "1\n2\n3\n4\n5\n6\nwhile(1) ;\n") outcome.Limit (a_place 3) 100
    (Some (record { repeat = repeats; asks = None; names = [] }))
    ≡ codes "at     in          place    3  line    5 of l.b  step 100\n    while(1) ;\n"
    ++ codes "  means: it never ends: after 11 steps all is as it was after 9\n"
    ++ codes "loop   in          place    2  line    5 of l.b\n    while(1) ;\n"
unfolding digits
told_repeat = refl

-- and what in its loop asks for input, and what its conditions read and nothing in it changes
told_loop : loop_text (lined 7) (codes "1\n2\n3\n4\n5\n6\nwhile(i) g();\n")
    (Some (record { repeat = repeats; asks = Some (a_place 5); names = codes " i n" }))
    ≡ codes "loop   in          place    2  line    5 of l.b\n    while(i) g();\n"
    ++ codes "asks   in          place    5  line    5 of l.b\n"
    ++ codes "  means: at the end of the input getchar gives the same for ever\n"
    ++ codes "  its conditions read, and nothing in it changes: i n\n"
unfolding digits
told_loop = refl

told_again : again_text (lined 7) (Some repeats)
    ≡ codes "means  it never ends: after 11 steps all is as it was after 9\n"
    ++ codes "loop   in          place    2  line    5 of l.b\n"
unfolding digits
told_again = refl

none_again : again_text (lined 7) None ≡ []
none_again = refl

no_loop : loop_text (lined 7) [] None ≡ []
no_loop = refl

-- what each trap and the limit means; an end, a failure and want of memory have no place
meanings_told : map meaning
    (outcome.Trap trap.ZeroDivisor ∷ outcome.Trap trap.NotAFunction ∷ outcome.Trap trap.NotALabel
    ∷ outcome.Trap trap.NoRoom ∷ outcome.Trap trap.TooDeep ∷ outcome.Trap trap.BadBase ∷ outcome.Trap trap.Stuck
    ∷ outcome.Limit ∷ outcome.Exit 0 ∷ outcome.Device ∷ outcome.Memory ∷ [])
    ≡ codes "a division by 0"
    ∷ codes "a call of something that is no function"
    ∷ codes "a goto to something that is no label of the function"
    ∷ codes "a call whose frame has no room in memory"
    ∷ codes "more than 4096 active calls"
    ∷ codes "a base of printn that isn't 2 to 10"
    ∷ codes "too few operands, or no instruction at this place"
    ∷ codes "no end within so many steps; --steps N or --no-limit gives more"
    ∷ [] ∷ [] ∷ [] ∷ []
meanings_told = refl

-- Each place has its own column. One that isn't told, and one of a place past the last, has none.
columns_told : map (λ place. place_column (marked 2 (5 ∷ 0 ∷ 65535 ∷ [])) (a_place place)) (0 ∷ 1 ∷ 2 ∷ 3 ∷ [])
    ≡ 5 ∷ 0 ∷ 65535 ∷ 0 ∷ []
columns_told = refl

other_function : place_column (marked 2 (5 ∷ [])) (record (a_place 0) { strings = 10 }) ≡ 0
other_function = refl

column_texts : map column_told (0 ∷ 1 ∷ 10 ∷ 65536 ∷ [])
    ≡ [] ∷ codes "  column 1" ∷ codes "  column 10" ∷ codes "  column 65536" ∷ []
unfolding digits
column_texts = refl

-- The column is told with the line, in the second file as well, and the mark stands under its byte.
site_with_column : site_line (marked 7 (12 ∷ [])) (a_place 0) 3
    ≡ codes "at     in          place    0  line    5 of l.b  column 12  step 3\n"
unfolding digits
site_with_column = refl

told_column : told_site (marked 2 (0 ∷ 5 ∷ [])) (codes "main()\n  f(1 / 0); \n") (outcome.Trap trap.ZeroDivisor)
    (a_place 1) 7 None
    ≡ codes "at     in          place    1  line    2  column 5  step 7\n      f(1 / 0);\n        ^\n"
    ++ codes "  means: a division by 0\n"
unfolding digits
told_column = refl

-- the first byte, one before which a tab stands, and one after the last
marks : map (λ column. source_text (marked 1 (column ∷ [])) (codes "\ta") (a_place 0)) (0 ∷ 1 ∷ 2 ∷ 3 ∷ [])
    ≡ codes "     a\n" ∷ codes "     a\n    ^\n" ∷ codes "     a\n     ^\n" ∷ codes "     a\n      ^\n" ∷ []
marks = refl

-- Line 0 is none, so nothing of the source is shown.
no_line : told_site (lined 0) (codes "main() f();") (outcome.Trap trap.ZeroDivisor) (a_place 3) 7 None
    ≡ codes "at     in          place    3  line    0  step 7\n  means: a division by 0\n"
unfolding digits
no_line = refl

loop_marked : loop_site (marked 1 (7 ∷ [])) (codes "main() L: goto L;") (a_place 0)
    ≡ codes "loop   in          place    0  line    1  column 7\n    main() L: goto L;\n          ^\n"
unfolding digits
loop_marked = refl
