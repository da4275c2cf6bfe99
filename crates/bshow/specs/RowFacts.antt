-- Closed facts: what stands in the rows and facts of a page, and which steps have a row, on small values.
use Rattle.std.specs.Prelude.{◌≡◌, ℕ, ◌-◌, true, false, List, [], ◌∷◌, ◌++◌, Some, None, codes, drop, length, map}
use Rattle.std.specs.Prelude.{refl, take}
use Rattle.std.specs.List.{list_all, range_with_len}
use Rattle.std.specs.Fmt.{digits}
use Rattle.blang.specs.declared.code.Definition.{Definition}
use Rattle.blang.specs.declared.code.Definition.TheVariants as definition
use Rattle.blang.specs.declared.code.Instr.TheVariants as instr
use Rattle.blang.specs.declared.code.Ival.{Ival}
use Rattle.blang.specs.declared.code.Ival.TheVariants as ival
use Rattle.blang.specs.declared.run.Library.TheVariants.{Getchar}
use Rattle.blang.specs.declared.run.Outcome.TheVariants as outcome
use Rattle.blang.specs.declared.run.Report.TheVariants as report
use Rattle.blang.specs.declared.run.Trap.{Trap}
use Rattle.blang.specs.declared.run.Trap.TheVariants as trap
use Rattle.blang.specs.Layout.{OfLibrary, callee_of}
use Rattle.blang.specs.Machine.{Loaded, image_of, machine}
use Rattle.blang.specs.Reports.{report_text}
use Rattle.bmach.specs.declared.machine.Active.{Active}
use Rattle.bsources.specs.Files.{File, Files, file_of}
use Rattle.bwatch.specs.SmallPrograms.{calling, nothing, passing, reading, storing, trapping, writing}
use Rattle.bwatch.specs.declared.trail.TraceRows.{TraceRows}
use Rattle.bwatch.specs.declared.trail.TraceRows.TheVariants as rows
use Rattle.bwatch.specs.Sights.{Sights, sights_of}
use Rattle.bshow.specs.Escapes.{escaped, is_safe, unescaped}
use Rattle.bshow.specs.Facts.{all_addresses, calls_text, definitions_text, files_text, no_run_text, sentence}
use Rattle.bshow.specs.Facts.{sizes_text, some_word, trap_words, unbegun_sentence}
use Rattle.bshow.specs.OwnTexts.{own_texts}
use Rattle.bshow.specs.Rows.{LinedCode, call_cells, done_cells, is_getchar, lined_code, words_cell}
use Rattle.bshow.specs.declared.page.TheConstants.{BETWEEN, HEAD, SCRIPT, TAIL}
use Rattle.bshow.specs.Shows.{again_fact, calls_at, finding_fact, heard_text, last_facts, next_text, rows_text}
use Rattle.bshow.specs.Shows.{shown_of}

-- The fixed parts of a page: the rows are those of a table, the sentence stands below it, the facts are a text of JSON
-- of their own, and the script that shows them comes last.
page_begins : take 16 HEAD.now ≡ codes "<!doctype html>\n"
page_begins = refl

rows_begin : drop (length HEAD.now - 17) HEAD.now ≡ codes "</thead>\n<tbody>\n"
rows_begin = refl

rows_end : BETWEEN.now ≡ codes "</tbody>\n</table>\n</div>\n</details>\n<p id=\"end\">"
rows_end = refl

facts_begin : SCRIPT.now ≡ codes "</p>\n<script type=\"application/json\" id=\"facts\">"
facts_begin = refl

script_begins : take 33 TAIL.now ≡ codes "</script>\n<script>\n\"use strict\";\n"
script_begins = refl

script_ends : drop (length TAIL.now - 32) TAIL.now ≡ codes "showLinked();\n</script>\n</html>\n"
script_ends = refl

-- what ends a string, a tag or a comment, and what is no printable character of ASCII
marks_escaped : escaped (codes "\"\\<>&") ≡ codes "\\u0022\\u005c\\u003c\\u003e\\u0026"
marks_escaped = refl

others_escaped : escaped (0 ∷ 10 ∷ 31 ∷ 127 ∷ 128 ∷ 255 ∷ []) ≡ codes "\\u0000\\u000a\\u001f\\u007f\\u0080\\u00ff"
others_escaped = refl

plain_left : escaped (codes " a~'/!-=") ≡ codes " a~'/!-="
plain_left = refl

escapes_read : unescaped (codes "a\\u003c\\u00ff b") ≡ 97 ∷ 60 ∷ 255 ∷ 32 ∷ 98 ∷ []
escapes_read = refl

-- what ends a string, or begins a tag or an entity; the first and the last that end nothing
none_safe : map is_safe (34 ∷ 38 ∷ 60 ∷ 62 ∷ 31 ∷ 127 ∷ 10 ∷ 0 ∷ 255 ∷ [])
    ≡ false ∷ false ∷ false ∷ false ∷ false ∷ false ∷ false ∷ false ∷ false ∷ []
none_safe = refl

some_safe : map is_safe (32 ∷ 92 ∷ 126 ∷ 33 ∷ []) ≡ true ∷ true ∷ true ∷ true ∷ []
some_safe = refl

tag_escaped : list_all is_safe (escaped (codes "</script><!--")) ≡ true
tag_escaped = refl

-- the files of a source, each by its own name, and their texts: that of a file with a newline at its end, of one
-- without any byte, and of the last one
abbrev program : File
program = file_of (codes "p.b") (codes "a\nb\n")

abbrev empty : File
empty = file_of (codes "<e>.b") []

abbrev library : File
library = file_of (codes "l.b") (codes "c")

abbrev three_files : Files
three_files = record { first = program; rest = empty ∷ library ∷ [] }

one_file : files_text (record { first = program; rest = [] }) ≡ codes "[[\"p.b\",3],0]"
unfolding digits
one_file = refl

other_files : files_text three_files ≡ codes "[[\"p.b\",3],[\"\\u003ce\\u003e.b\",1],[\"l.b\",1],0]"
unfolding digits
other_files = refl

their_texts : own_texts program (empty ∷ library ∷ []) (codes "a\nb\n\n\nc") ≡ codes "a\nb\n" ∷ [] ∷ codes "c" ∷ []
their_texts = refl

-- words and numbers
no_words : words_cell [] ≡ codes "<td>[]"
no_words = refl

one_word : words_cell (7 ∷ []) ≡ codes "<td>[7]"
unfolding digits
one_word = refl

signed_words : words_cell (65535 ∷ 32768 ∷ 7 ∷ []) ≡ codes "<td>[-1,-32768,7]"
unfolding digits
signed_words = refl

zero_left_out : some_word 9 0 ≡ []
zero_left_out = refl

word_told : some_word 9 65535 ≡ codes "9,-1,"
unfolding digits
word_told = refl

-- the words of a page are those from 0 to 65535
all_words : all_addresses ≡ range_with_len 0 65536
unfolding all_addresses
all_words = refl

-- a call of a function that isn't there, and what a step did
abbrev pub a_call : (strings start : ℕ) → Active
a_call strings start = record { strings = strings; parameters = 0; place = 7; start = start }

call_told : call_cells (lined_code [] []) 8 (a_call 9 10) (3 ∷ 65535 ∷ []) 2
    ≡ codes "<tr><td>8<td><td>7<td>0<td><td>[-1,3]<td>2<td>10"
unfolding digits
call_told = refl

done_told : done_cells 10 (0 ∷ 2 ∷ []) (7 ∷ 65535 ∷ []) (codes "<") (codes "\n")
    ≡ codes "<td>10<td>[0,2]<td>[7,-1]<td>\\u003c<td>\\u000a</tr>\n"
unfolding digits
done_told = refl

nothing_done : done_cells 0 [] [] [] [] ≡ codes "<td>0<td>[]<td>[]<td><td></tr>\n"
unfolding digits
nothing_done = refl

-- the calls below another one, and where a function and a word lie
no_calls : calls_text [] ≡ codes "[0]"
no_calls = refl

calls_told : calls_text (a_call 9 10 ∷ a_call 8 12 ∷ []) ≡ codes "[[9,10],[8,12],0]"
unfolding digits
calls_told = refl

abbrev two_definitions : List Definition
two_definitions =
    definition.Simple (record { name = codes "x"; values = []; strings = [] })
    ∷ definition.Function (record {
      name = codes "main";
      parameters = 0;
      frame = 5;
      targets = [];
      strings = [];
      code = [];
    })
    ∷ []

definitions_told : definitions_text two_definitions ≡ codes "[[7,\"x\",1],[8,\"main\",0,5],9]"
unfolding digits
definitions_told = refl

-- of an external the words before its strings, and of a vector in brackets those after its own word
simple_of : List Ival → Definition
simple_of values = definition.Simple (record { name = codes "s"; values = values; strings = 4 ∷ [] })

vector_of : (words : ℕ) → List Ival → Definition
vector_of words values =
    definition.Vector (record { name = codes "v"; words = words; values = values; strings = 4 ∷ [] })

two_values : List Ival
two_values = ival.Number 1 ∷ ival.Text 0 ∷ []

sizes_told :
    map sizes_text (simple_of [] ∷ simple_of two_values ∷ vector_of 3 two_values ∷ vector_of 1 two_values ∷ [])
    ≡ codes ",1" ∷ codes ",2" ∷ codes ",[3]" ∷ codes ",[2]" ∷ []
unfolding digits simple_of vector_of two_values
sizes_told = refl

-- the last fact of a run: a state that comes again, with its line, or none
again_told : again_fact (record { functions = []; lines = record { strings = 9; lines = 4 ∷ 5 ∷ [] } ∷ [] })
    (Some (record {
      first = 7;
      again = 11;
      call = record { strings = 9; parameters = 0; place = 1; start = 20 };
      callers = 0;
    })) ≡ codes ",\"again\":[7,11,9,5]}"
unfolding digits
again_told = refl

-- and before it the finding of a careful run, as a text of JSON
finding_told : finding_fact (Some (codes "nothing has set <x of f"))
    ≡ codes ",\"finding\":\"nothing has set \\u003cx of f\""
finding_told = refl

no_finding : finding_fact None ≡ []
no_finding = refl

finding_before : (code : LinedCode) → last_facts code (Some (codes "b")) None ≡ codes ",\"finding\":\"b\"}"
finding_before code = refl

none_again : again_fact (record { functions = []; lines = [] }) None ≡ codes "}"
none_again = refl

no_run_told : no_run_text ≡ codes ",\"calls_at\":0,\"calls\":[0],\"words\":[0],\"heard\":\"\",\"output\":\"\"}"
no_run_told = refl

-- the value of `getchar`, and the operand that is called
getchar_is : (functions : List Loaded) → callee_of functions 3 ≡ OfLibrary Getchar
getchar_is functions = refl

called_without : is_getchar (3 ∷ []) (Some (instr.Call 0)) ≡ true
called_without = refl

called_below : is_getchar (8 ∷ 3 ∷ []) (Some (instr.Call 1)) ≡ true
called_below = refl

other_called : is_getchar (3 ∷ 4 ∷ []) (Some (instr.Call 1)) ≡ false
other_called = refl

not_called : is_getchar (3 ∷ []) (Some instr.Return) ≡ false
not_called = refl

-- which steps have a row
from_first : shown_of (rows.From 1) 3 ≡ 0 ∷ 1 ∷ 2 ∷ []
from_first = refl

from_zero : shown_of (rows.From 0) 2 ≡ 0 ∷ 1 ∷ []
from_zero = refl

from_second : shown_of (rows.From 2) 3 ≡ 1 ∷ 2 ∷ []
from_second = refl

from_beyond : shown_of (rows.From 4) 3 ≡ []
from_beyond = refl

last_two : shown_of (rows.Last 2) 5 ≡ 3 ∷ 4 ∷ []
last_two = refl

last_of_fewer : shown_of (rows.Last 9) 2 ≡ 0 ∷ 1 ∷ []
last_of_fewer = refl

last_none : shown_of (rows.Last 0) 5 ≡ []
last_none = refl

-- the sentences
trap_told : sentence (outcome.Trap trap.ZeroDivisor) 3
    ≡ codes "The run was stopped by trap dz, a division by 0, in step 3."
unfolding digits
trap_told = refl

-- the words of each trap begin as the line that tells it
abbrev traps : List Trap
traps =
    trap.ZeroDivisor ∷ trap.NotAFunction ∷ trap.NotALabel ∷ trap.NoRoom ∷ trap.TooDeep ∷ trap.BadBase ∷ trap.Stuck ∷ []

traps_told : map (λ kind. take 7 (trap_words kind) ++ codes "\n") traps
    ≡ map (λ kind. report_text (report.Trap kind)) traps
traps_told = refl

-- what each trap means
traps_mean : map trap_words traps
    ≡ codes "trap dz, a division by 0"
    ∷ codes "trap fn, a call of a value that is no function"
    ∷ codes "trap gt, a goto to a value that is no label of its function"
    ∷ codes "trap st, a frame without room in memory"
    ∷ codes "trap dp, more than 4096 active calls"
    ∷ codes "trap bs, a base of printn that isn't from 2 to 10"
    ∷ codes "trap sk, a step without an instruction or operands"
    ∷ []
traps_mean = refl

unbegun_told : unbegun_sentence trap.NoRoom
    ≡ codes "The run never began: it was stopped by trap st, a frame without room in memory."
unbegun_told = refl

limit_told : sentence outcome.Limit 12 ≡ codes "The run goes on after step 12."
unfolding digits
limit_told = refl

exit_told : sentence (outcome.Exit 0) 7 ≡ codes "The run ended with status 0, in step 7."
unfolding digits
exit_told = refl

-- a run of a program whose code has these lines, and what is told of it
abbrev lines : List ℕ
lines = 21 ∷ 22 ∷ 23 ∷ 24 ∷ 25 ∷ 26 ∷ 27 ∷ 28 ∷ 29 ∷ 30 ∷ []

abbrev run_of : List Definition → (input : List ℕ) → Sights
run_of ds input = sights_of (image_of ds).functions (machine ds) input

abbrev rows_of : List Definition → TraceRows → (made : ℕ) → List ℕ
rows_of ds which made = rows_text (lined_code ds lines) which (run_of ds (codes "<")) made

-- a row for each step, with the line of its instruction
all_rows : rows_of calling (rows.From 1) 4
    ≡ codes "<tr><td>1<td>main<td>0<td>21<td>x f<td>[]<td>0<td>9<td>0<td>[]<td>[]<td><td></tr>\n"
    ++ codes "<tr><td>2<td>main<td>1<td>22<td>v<td>[8]<td>0<td>9<td>0<td>[]<td>[]<td><td></tr>\n"
    ++ codes "<tr><td>3<td>main<td>2<td>23<td>k 0<td>[8]<td>0<td>9<td>0<td>[]<td>[]<td><td></tr>\n"
    ++ codes "<tr><td>4<td>f<td>0<td>27<td>x f<td>[]<td>1<td>9<td>0<td>[]<td>[]<td><td></tr>\n"
unfolding digits
all_rows = refl

-- words that a step stored, and the word that was there before
word_stored : rows_of storing (rows.From 3) 3
    ≡ codes "<tr><td>3<td>main<td>2<td>23<td>w<td>[3,5]<td>0<td>8<td>3<td>[3]<td>[5]<td><td></tr>\n"
unfolding digits
word_stored = refl

words_passed : rows_of passing (rows.Last 1) 10
    ≡ codes "<tr><td>10<td>main<td>9<td>30<td>k 7<td>[8,1,2,3,4,5,6,7]<td>0<td>9"
    ++ codes "<td>9<td>[0,0,0,0,0,0,0]<td>[1,2,3,4,5,6,7]<td><td></tr>\n"
unfolding digits
words_passed = refl

-- what was read, and what was written
byte_read : rows_of reading (rows.Last 1) 3
    ≡ codes "<tr><td>3<td>main<td>2<td>23<td>k 0<td>[3]<td>0<td>8<td>0<td>[]<td>[]<td>\\u003c<td></tr>\n"
unfolding digits
byte_read = refl

byte_written : rows_of writing (rows.Last 1) 4
    ≡ codes "<tr><td>4<td>main<td>3<td>24<td>k 1<td>[4,97]<td>0<td>8<td>0<td>[]<td>[]<td><td>a</tr>\n"
unfolding digits
byte_written = refl

-- the step of a trap, and that of the end of a run, which did nothing
trap_row : rows_of trapping (rows.Last 1) 2
    ≡ codes "<tr><td>2<td>main<td>1<td>22<td>k 0<td>[0]<td>0<td>8<td>0<td>[]<td>[]<td><td></tr>\n"
unfolding digits
trap_row = refl

end_row : rows_of nothing (rows.Last 1) 2
    ≡ codes "<tr><td>2<td>main<td>1<td>22<td>r<td>[0]<td>0<td>8<td>0<td>[]<td>[]<td><td></tr>\n"
unfolding digits
end_row = refl

-- the next step, where there is one, and the calls before it, or before the last one
next_told : next_text (lined_code calling lines) (run_of calling []) 3 outcome.Limit
    ≡ codes "<tr><td>4<td>f<td>0<td>27<td>x f<td>[]<td>1<td>9</tr>\n"
unfolding digits
next_told = refl

none_next : next_text (lined_code trapping lines) (run_of trapping []) 2 (outcome.Trap trap.NotAFunction) ≡ []
none_next = refl

next_calls : calls_text (run_of calling [] (calls_at 4 outcome.Limit)).below ≡ codes "[[8,9],0]"
unfolding digits
next_calls = refl

calls_when : map (calls_at 4) (outcome.Limit ∷ outcome.Exit 0 ∷ outcome.Trap trap.NoRoom ∷ []) ≡ 4 ∷ 3 ∷ 3 ∷ []
calls_when = refl

heard_told : heard_text (lined_code reading lines) (run_of reading (codes "<")) 4 ≡ codes "<"
heard_told = refl
