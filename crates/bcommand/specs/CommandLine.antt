-- Promise: the command line, and what its words ask for. How words are cut into options, and which have a fault, are
-- definitions of `clap`, which reads them.
use Rattle.std.specs.Prelude.{ℕ, ◌+◌, ◌==◌, ◌&&◌, ◌^◌, Bool, true, false, List, [], ◌∷◌, ◌++◌, length, codes, min}
use Rattle.std.specs.Prelude.{Result, Ok, Err, nat_lt, not}
use Rattle.std.specs.Prelude.{Option, Some, None, if◌then◌else◌, option_and_then, option_map, unwrap_or}
use Rattle.std.specs.Prelude.{map as map_each}
use Rattle.std.specs.Char.{digit_value}
use Rattle.std.specs.List.{list_all}
use Rattle.std.specs.Option.{option_map_or}
use Rattle.std.specs.Str.{bytes_eq}
use Rattle.std.specs.Str.Parse.{digits_value, without_leading_plus}
use Rattle.clap.specs.Words.{App, Row, Rule, Text, all_of, first_of, one_of}
use Rattle.clap.specs.Words.{fault_of, new_app, new_rule, subcommand_of, with_rule, with_subcommand}
use Rattle.clap.specs.declared.error.kind.ErrorKind.{ErrorKind}
use Rattle.clap.specs.Simple.{on_top}
use Rattle.clap.specs.declared.builder.action.ArgAction.TheVariants.{Append, Set, SetTrue}
use Rattle.clap.specs.declared.builder.value_parser.ValueParser.TheVariants as parser
use Rattle.bword.specs.ByteEnds.{most}
use Rattle.bword.specs.declared.edition.Edition.{Edition}
use Rattle.bword.specs.declared.edition.Edition.TheVariants as editions
use Rattle.bcommand.specs.declared.job.Job.{Job}
use Rattle.bcommand.specs.declared.job.Job.TheVariants as job
use Rattle.bcommand.specs.declared.job.Question.{Question as Questioned}
use Rattle.bcommand.specs.declared.job.Question.TheVariants as questioned
use Rattle.bcommand.specs.declared.job.SourceNames.{SourceNames as Given}
use Rattle.bcommand.specs.declared.job.Walk.{Walk}
use Rattle.bcommand.specs.declared.job.OriginNames.{OriginNames}
use Rattle.bcommand.specs.declared.job.OriginNames.TheVariants as origins
use Rattle.bcommand.specs.declared.job.Care.{Care}
use Rattle.bcommand.specs.declared.job.Care.TheVariants as care
use Rattle.bcommand.specs.declared.job.Clash.{Clash}
use Rattle.bcommand.specs.declared.job.Clash.TheVariants as clash
use Rattle.bcommand.specs.declared.job.Display.{Display}
use Rattle.bcommand.specs.declared.job.Rows.{Rows}
use Rattle.bcommand.specs.declared.job.Search.{Search}
use Rattle.bcommand.specs.declared.job.Rows.TheVariants as which
use Rattle.bcommand.specs.declared.commands.TheConstants.{MOST_STEPS}
use Rattle.bcommand.specs.declared.parsing.TheConstants.{DEFAULT_SHOWN_STEPS, DEFAULT_STEPS, DEFAULT_TRACE_STEPS}

-- a flag
abbrev pub flag_rule : Text → Rule
flag_rule name = record (new_rule name) { long = Some name; action = Some SetTrue }

-- an option whose value is a number from 1 to the most
abbrev pub number_rule : Text → ℕ → Rule
number_rule name most = record (new_rule name) {
  long = Some name;
  action = Some Set;
  value_names = 1;
  parser = Some (parser.Unsigned 1 most);
}

-- an option whose value is a text
abbrev pub text_rule : Text → Rule
text_rule name = record (new_rule name) { long = Some name; action = Some Set; value_names = 1 }

-- the same, which may be given often
abbrev pub repeated_rule : Text → Rule
repeated_rule name = record (new_rule name) { long = Some name; action = Some Append; value_names = 1 }

-- an argument without an option, and whether it has to be there
abbrev pub argument_rule : Text → Bool → Rule
argument_rule name is_required = record (new_rule name) { required = is_required; action = Some Set }

-- one argument without an option, or more
abbrev pub arguments_rule : Text → Rule
arguments_rule name = record (argument_rule name true) { action = Some Append }

abbrev pub edition_rule : Rule
edition_rule = number_rule (codes "edition") 2

abbrev pub steps_rule : Rule
steps_rule = number_rule (codes "steps") MOST_STEPS

abbrev pub from_rule : Rule
from_rule = number_rule (codes "from") MOST_STEPS

abbrev pub no_limit_rule : Rule
no_limit_rule = flag_rule (codes "no-limit")

abbrev pub where_rule : Rule
where_rule = flag_rule (codes "where")

abbrev pub careful_rule : Rule
careful_rule = text_rule (codes "careful")

abbrev pub last_rule : Rule
last_rule = number_rule (codes "last") MOST_STEPS

abbrev pub input_rule : Rule
input_rule = text_rule (codes "input")

abbrev pub check_rule : Rule
check_rule = flag_rule (codes "check")

abbrev pub json_rule : Rule
json_rule = flag_rule (codes "json")

-- the same, which has to be there
abbrev pub needed_json_rule : Rule
needed_json_rule = record json_rule { required = true }

abbrev pub fix_rule : Rule
fix_rule = flag_rule (codes "fix")

abbrev pub rules_rule : Rule
rules_rule = text_rule (codes "rules")

abbrev pub svg_rule : Rule
svg_rule = flag_rule (codes "svg")

abbrev pub function_rule : Rule
function_rule = text_rule (codes "function")

abbrev pub with_lib_rule : Rule
with_lib_rule = repeated_rule (codes "with")

abbrev pub code_rule : Rule
code_rule = flag_rule (codes "code")

abbrev pub made_rule : Rule
made_rule = text_rule (codes "made")

abbrev pub lines_rule : Rule
lines_rule = text_rule (codes "lines")

abbrev pub names_rule : Rule
names_rule = text_rule (codes "names")

abbrev pub file_rule : Rule
file_rule = argument_rule (codes "FILE") true

abbrev pub pattern_rule : Rule
pattern_rule = argument_rule (codes "PATTERN") true

abbrev pub files_rule : Rule
files_rule = arguments_rule (codes "FILE")

abbrev pub name_rule : Rule
name_rule = argument_rule (codes "NAME") false

-- a command with the options of a run
abbrev pub with_run_options : App → App
with_run_options command = with_rule (with_rule (with_rule command steps_rule) no_limit_rule) file_rule

abbrev pub compile_command : App
compile_command = with_rule (with_rule (new_app (codes "compile")) edition_rule) with_lib_rule

abbrev pub run_command : App
run_command = with_rule (with_run_options (new_app (codes "run"))) where_rule

-- a command that takes a code text, too
abbrev pub taking_code : App → App
taking_code command = with_rule (with_rule (with_rule (with_rule command code_rule) made_rule) lines_rule) names_rule

abbrev pub go_command : App
go_command = taking_code (with_rule (with_rule (with_rule
    (with_run_options (with_rule (new_app (codes "go")) edition_rule)) where_rule) careful_rule) with_lib_rule)

abbrev pub try_command : App
try_command = with_rule (with_run_options (with_rule (new_app (codes "try")) edition_rule)) with_lib_rule

abbrev pub migrate_command : App
migrate_command = new_app (codes "migrate")

abbrev pub verify_command : App
verify_command = with_rule (new_app (codes "verify")) file_rule

-- a command that tells of a source
abbrev pub telling : App → App
telling command = with_rule (with_rule (with_rule command edition_rule) file_rule) with_lib_rule

-- one that tells of a code text, too
abbrev pub telling_code : App → App
telling_code command = taking_code (telling command)

abbrev pub list_command : App
list_command = with_rule (telling_code (new_app (codes "list"))) name_rule

abbrev pub map_command : App
map_command = with_rule (with_rule (telling_code (new_app (codes "map"))) svg_rule) steps_rule

abbrev pub check_command : App
check_command = with_rule (with_rule (with_rule (telling (new_app (codes "check"))) json_rule) fix_rule) rules_rule

abbrev pub find_command : App
find_command =
    with_rule (with_rule (with_rule (with_rule (new_app (codes "find")) edition_rule) json_rule) pattern_rule) files_rule

abbrev pub names_command : App
names_command = with_rule (telling (new_app (codes "names"))) needed_json_rule

-- a command with the options of which steps are shown
abbrev pub with_rows : App → App
with_rows command = with_rule (with_rule (with_rule command steps_rule) from_rule) last_rule

abbrev pub trace_command : App
trace_command = with_rule (with_rows (telling_code (new_app (codes "trace")))) function_rule

abbrev pub count_command : App
count_command =
    with_rule (with_rule (with_rule (telling_code (new_app (codes "count"))) steps_rule) no_limit_rule) json_rule

abbrev pub show_command : App
show_command = with_rule (with_rule (with_rows (telling_code (new_app (codes "show")))) input_rule) careful_rule

abbrev pub format_command : App
format_command = with_rule (with_rule (with_rule (new_app (codes "format")) edition_rule) file_rule) check_rule

abbrev pub port_command : App
port_command = telling (new_app (codes "port"))

-- the command line without its commands, one of which there has to be
abbrev pub bare_line : App
bare_line = on_top (λ s. record s { has_version = true; subcommand_required = true }) (new_app (codes "b"))

-- with its commands
abbrev pub command_line : App
command_line =
    with_subcommand (with_subcommand (with_subcommand (with_subcommand (with_subcommand (with_subcommand (with_subcommand
    (with_subcommand (with_subcommand (with_subcommand (with_subcommand (with_subcommand (with_subcommand
    (with_subcommand (with_subcommand (with_subcommand bare_line compile_command.top) run_command.top) go_command.top)
    try_command.top) migrate_command.top) verify_command.top) list_command.top) map_command.top) check_command.top)
    find_command.top) names_command.top) trace_command.top) count_command.top) show_command.top) format_command.top)
    port_command.top

-- the digits of a number that a u64 holds
abbrev pub is_number : Text → Bool
is_number digits = nat_lt 0 (length digits) && list_all (λ d. nat_lt (digit_value d) 10) digits
    && nat_lt (digits_value 10 digits) (2 ^ 64)

-- the number that a text writes
abbrev pub written_number : Text → Option ℕ
written_number text = let digits = without_leading_plus text in
    if is_number digits then Some (digits_value 10 digits) else None

-- the number that an option has among what was found
abbrev pub option_number : Text → List Row → Option ℕ
option_number id rows = option_and_then written_number (one_of id rows)

abbrev pub edition_numbered : Option ℕ → Edition
edition_numbered number = if unwrap_or number 1 == 2 then editions.Two else editions.One

abbrev pub edition_in : List Row → Edition
edition_in rows = edition_numbered (option_number (codes "edition") rows)

-- whether a flag is among what was found
abbrev pub is_set_in : Text → List Row → Bool
is_set_in id rows = option_map_or (λ t. bytes_eq t (codes "true")) (one_of id rows) false

-- the steps of a run; none where there is a limit and none
abbrev pub steps_asked : Option ℕ → Bool → Option ℕ
steps_asked (Some n) true = None
steps_asked (Some n) false = Some n
steps_asked None true = Some most
steps_asked None false = Some DEFAULT_STEPS

abbrev pub steps_in : List Row → Option ℕ
steps_in rows = steps_asked (option_number (codes "steps") rows) (is_set_in (codes "no-limit") rows)

-- Which steps are shown: those from a number on, or the last ones. None where both are asked for.
abbrev pub rows_asked : (from last : Option ℕ) → Option Rows
rows_asked (Some from) (Some last) = None
rows_asked None (Some last) = Some (which.Last last)
rows_asked (Some from) None = Some (which.From from)
rows_asked None None = Some (which.From 1)

abbrev pub rows_in : List Row → Option Rows
rows_in found = rows_asked (option_number (codes "from") found) (option_number (codes "last") found)

-- the steps of a trace with these rows, if it isn't said how many; and those of a page
abbrev pub trace_steps : Rows → ℕ
trace_steps (which.From from) = DEFAULT_TRACE_STEPS
trace_steps (which.Last last) = DEFAULT_STEPS

abbrev pub shown_steps : Rows → ℕ
shown_steps (which.From from) = min (1999 + from) most
shown_steps (which.Last last) = DEFAULT_STEPS

abbrev pub file_in : List Row → Text
file_in rows = unwrap_or (first_of (codes "FILE") rows) []

-- the files that come after the first one
abbrev pub libs_in : List Row → List Text
libs_in rows = unwrap_or (all_of (codes "with") rows) []

-- those that are sources of their own
abbrev pub files_in : List Row → List Text
files_in rows = unwrap_or (all_of (codes "FILE") rows) []

abbrev pub pattern_in : List Row → Text
pattern_in rows = unwrap_or (first_of (codes "PATTERN") rows) []

-- the file of rules
abbrev pub rules_in : List Row → Option Text
rules_in rows = first_of (codes "rules") rows

abbrev pub name_in : List Row → Option Text
name_in rows = first_of (codes "NAME") rows

abbrev pub function_in : List Row → Option Text
function_in rows = first_of (codes "function") rows

abbrev pub input_in : List Row → Option Text
input_in rows = first_of (codes "input") rows

-- a source: the name of its file, those of the files that come after it, and its edition
pub record SourceAsked : Type 0 where
  pub file : Text
  pub libs : List Text
  pub edition : Edition

-- What a program is read from: the source; the code text that is in its file; or the one in another file, which another
-- compiler made of the source, with a line of the source for each place in it, and maybe with the names in it.
pub data OriginAsked : Type 0 where
  from_source : OriginAsked
  from_code : OriginAsked
  from_made : (code lines : Text) (names : Option Text) → OriginAsked

-- A code text has no file after it, and one that was made of a source has lines in that. Names are those of one that was
-- made of a source.
abbrev pub origin_asked : (is_code : Bool) → (made lines names : Option Text) → (libs : List Text)
    → Result OriginAsked Clash
origin_asked false None None None libs = Ok from_source
origin_asked false (Some code) (Some lines) names libs = Ok (from_made code lines names)
origin_asked false (Some code) None names libs = Err clash.Made
origin_asked false None (Some lines) names libs = Err clash.Lines
origin_asked is_code None None (Some names) libs = Err clash.Names
origin_asked true None None None [] = Ok from_code
origin_asked true None None None (lib ∷ libs) = Err clash.Libs
origin_asked true (Some code) lines names libs = Err clash.Origins
origin_asked true None (Some lines) names libs = Err clash.Origins

abbrev pub origin_in : List Row → Result OriginAsked Clash
origin_in rows = origin_asked (is_set_in (codes "code") rows) (first_of (codes "made") rows)
    (first_of (codes "lines") rows) (first_of (codes "names") rows) (libs_in rows)

abbrev pub source_in : List Row → SourceAsked
source_in rows = record { file = file_in rows; libs = libs_in rows; edition = edition_in rows }

-- What is asked of a source: its code, or that of its definitions of a name; its layout; a picture of its memory, after
-- so many steps if there is a number; its faults, for an editor or for people; it mended; its names; the steps of its
-- program among so many, which of them are shown, and of which function; a run of so many steps, and where it is over;
-- the same looked at carefully in some way; its faults, and such a run where there is none; how many steps each line
-- takes in such a run, for an editor or for people; a page of a run, up to its first finding where it is looked at
-- carefully, with this input if there is one; the source in one style, or whether it is in that; it ported. What has an
-- origin may be asked of a code text, too.
pub data Question : Type 0 where
  list : OriginAsked → (name : Option Text) → Question
  map : OriginAsked → Question
  draw : OriginAsked → (steps : Option ℕ) → Question
  check : (for_editor : Bool) → Question
  fix : Question
  tell_names : Question
  trace : OriginAsked → (steps : ℕ) (shown : Rows) (function : Option Text) → Question
  locate : OriginAsked → (steps : ℕ) → Question
  go_careful : OriginAsked → Care → (steps : ℕ) → Question
  try_out : (steps : ℕ) → Question
  count : OriginAsked → (steps : ℕ) (for_editor : Bool) → Question
  show : OriginAsked → Option Care → (steps : ℕ) (shown : Rows) (input : Option Text) → Question
  format : (is_check : Bool) → Question
  port : Question

-- a pattern, the files of the sources in which it is looked for, their edition, and whether an editor reads what is found
pub record SearchAsked : Type 0 where
  pub pattern : Text
  pub files : List Text
  pub edition : Edition
  pub for_editor : Bool

-- What is asked for: that a source is compiled, with the files that come after it; that the code text in a file is run
-- for so many steps; the same, and where it went wrong; that a source is compiled and run for so many; that a code text
-- is migrated; what may go wrong in a code text; something of a source; its faults, and where the rules in a file fit;
-- where a pattern fits in each of some sources; or two options that contradict each other.
pub data Asked : Type 0 where
  compile : (edition : Edition) (libs : List Text) → Asked
  run : (file : Text) (steps : ℕ) → Asked
  locate_code : (file : Text) (steps : ℕ) → Asked
  go : SourceAsked → (steps : ℕ) → Asked
  migrate : Asked
  verify : (file : Text) → Asked
  ask : SourceAsked → Question → Asked
  check_by : SourceAsked → (rules : Text) (for_editor : Bool) → Asked
  find : SearchAsked → Asked
  contradiction : Clash → Asked

-- where a run was over is asked for by a flag
abbrev pub run_asked : Text → (is_located : Bool) → Option ℕ → Asked
run_asked file false (Some steps) = run file steps
run_asked file true (Some steps) = locate_code file steps
run_asked file is_located None = contradiction clash.Limits

-- how a run is looked at, if it is, by what comes after the `=` of `--careful`
abbrev pub care_asked : (how : Option Text) → Result (Option Care) Clash
care_asked None = Ok None
care_asked (Some how) = if bytes_eq how (codes "stay") then Ok (Some care.Stays)
    else (if bytes_eq how (codes "warn") then Ok (Some care.Warns)
    else (if bytes_eq how (codes "wraps") then Ok (Some care.Wraps) else Err clash.Care))

abbrev pub care_in : List Row → Result (Option Care) Clash
care_in rows = care_asked (first_of (codes "careful") rows)

-- A careful run knows the words of frames by their names, so there is none of a code text without them.
abbrev pub care_known : OriginAsked → Result (Option Care) Clash → Result (Option Care) Clash
care_known from_code (Ok (Some it)) = Err clash.Unnamed
care_known (from_made code lines None) (Ok (Some it)) = Err clash.Unnamed
care_known origin it = it

-- A careful run tells its place, too. A code text that is only run is for another command.
abbrev pub going : SourceAsked → OriginAsked → (is_located : Bool) → Option Care → (steps : ℕ) → Asked
going source origin is_located (Some it) steps = ask source (go_careful origin it steps)
going source origin true None steps = ask source (locate origin steps)
going source from_source false None steps = go source steps
going source origin false None steps = contradiction clash.Plain

abbrev pub go_of_origin : SourceAsked → OriginAsked → (is_located : Bool) → Result (Option Care) Clash → Option ℕ
    → Asked
go_of_origin source origin is_located (Ok it) (Some steps) = going source origin is_located it steps
go_of_origin source origin is_located (Ok it) None = contradiction clash.Limits
go_of_origin source origin is_located (Err it) steps = contradiction it

abbrev pub go_asked : SourceAsked → Result OriginAsked Clash → (is_located : Bool) → Result (Option Care) Clash
    → Option ℕ → Asked
go_asked source (Ok origin) is_located it steps = go_of_origin source origin is_located (care_known origin it) steps
go_asked source (Err clash) is_located it steps = contradiction clash

-- by rules a source is checked, and not mended
abbrev pub check_asked : SourceAsked → (is_fixed : Bool) → (for_editor : Bool) → (rules : Option Text) → Asked
check_asked source true true rules = contradiction clash.Fix
check_asked source true false (Some rules) = contradiction clash.Rules
check_asked source true false None = ask source fix
check_asked source false for_editor None = ask source (check for_editor)
check_asked source false for_editor (Some rules) = check_by source rules for_editor

abbrev pub try_asked : SourceAsked → Option ℕ → Asked
try_asked source (Some steps) = ask source (try_out steps)
try_asked source None = contradiction clash.Limits

-- a picture is asked for by its flag, or by a number of steps
abbrev pub mapping : OriginAsked → (is_drawn : Bool) → Option ℕ → Question
mapping origin false None = map origin
mapping origin false (Some steps) = draw origin (Some steps)
mapping origin true steps = draw origin steps

abbrev pub map_asked : SourceAsked → Result OriginAsked Clash → (is_drawn : Bool) → Option ℕ → Asked
map_asked source (Ok origin) is_drawn steps = ask source (mapping origin is_drawn steps)
map_asked source (Err it) is_drawn steps = contradiction it

abbrev pub list_asked : SourceAsked → Result OriginAsked Clash → (name : Option Text) → Asked
list_asked source (Ok origin) name = ask source (list origin name)
list_asked source (Err it) name = contradiction it

abbrev pub trace_asked : SourceAsked → Result OriginAsked Clash → (steps : Option ℕ) → Option Rows
    → (function : Option Text) → Asked
trace_asked source (Ok origin) steps (Some shown) function =
    ask source (trace origin (unwrap_or steps (trace_steps shown)) shown function)
trace_asked source (Ok origin) steps None function = contradiction clash.Rows
trace_asked source (Err it) steps shown function = contradiction it

-- A page stays at its first finding, so no care goes on for it.
abbrev pub shown_care : Result (Option Care) Clash → Result (Option Care) Clash
shown_care (Ok (Some care.Warns)) = Err clash.ShownCare
shown_care it = it

-- The steps of a careful run that are shown are the last ones, if nothing is said.
abbrev pub page_rows : Option Care → (from last : Option ℕ) → Option Rows
page_rows (Some it) None None = Some (which.Last DEFAULT_SHOWN_STEPS)
page_rows it from last = rows_asked from last

abbrev pub page_asked : SourceAsked → OriginAsked → Option Care → (steps : Option ℕ) → Option Rows
    → (input : Option Text) → Asked
page_asked source origin it steps (Some shown) input =
    ask source (show origin it (unwrap_or steps (shown_steps shown)) shown input)
page_asked source origin it steps None input = contradiction clash.Rows

abbrev pub page_of_origin : SourceAsked → OriginAsked → Result (Option Care) Clash → (steps from last : Option ℕ)
    → (input : Option Text) → Asked
page_of_origin source origin (Ok it) steps from last input =
    page_asked source origin it steps (page_rows it from last) input
page_of_origin source origin (Err it) steps from last input = contradiction it

abbrev pub show_asked : SourceAsked → Result OriginAsked Clash → Result (Option Care) Clash
    → (steps from last : Option ℕ) → (input : Option Text) → Asked
show_asked source (Ok origin) it steps from last input =
    page_of_origin source origin (care_known origin it) steps from last input
show_asked source (Err clash) it steps from last input = contradiction clash

abbrev pub count_asked : SourceAsked → Result OriginAsked Clash → (for_editor : Bool) → Option ℕ → Asked
count_asked source (Ok origin) for_editor (Some steps) = ask source (count origin steps for_editor)
count_asked source (Ok origin) for_editor None = contradiction clash.Limits
count_asked source (Err it) for_editor steps = contradiction it

-- what these commands ask for, by what was found of their options
abbrev pub run_in : List Row → Asked
run_in rows = run_asked (file_in rows) (is_set_in (codes "where") rows) (steps_in rows)

abbrev pub go_in : List Row → Asked
go_in rows =
    go_asked (source_in rows) (origin_in rows) (is_set_in (codes "where") rows) (care_in rows) (steps_in rows)

abbrev pub try_in : List Row → Asked
try_in rows = try_asked (source_in rows) (steps_in rows)

abbrev pub check_in : List Row → Asked
check_in rows =
    check_asked (source_in rows) (is_set_in (codes "fix") rows) (is_set_in (codes "json") rows) (rules_in rows)

abbrev pub find_in : List Row → Asked
find_in rows = find (record {
  pattern = pattern_in rows;
  files = files_in rows;
  edition = edition_in rows;
  for_editor = is_set_in (codes "json") rows;
})

abbrev pub map_in : List Row → Asked
map_in rows = map_asked (source_in rows) (origin_in rows) (is_set_in (codes "svg") rows)
    (option_number (codes "steps") rows)

abbrev pub list_in : List Row → Asked
list_in rows = list_asked (source_in rows) (origin_in rows) (name_in rows)

abbrev pub trace_in : List Row → Asked
trace_in rows =
    trace_asked (source_in rows) (origin_in rows) (option_number (codes "steps") rows) (rows_in rows) (function_in rows)

abbrev pub count_in : List Row → Asked
count_in rows = count_asked (source_in rows) (origin_in rows) (is_set_in (codes "json") rows) (steps_in rows)

abbrev pub show_in : List Row → Asked
show_in rows = show_asked (source_in rows) (origin_in rows) (shown_care (care_in rows))
    (option_number (codes "steps") rows) (option_number (codes "from") rows) (option_number (codes "last") rows)
    (input_in rows)

-- what a command asks for, by its name and what was found of its options
abbrev pub asked_by : Text → List Row → Asked
asked_by name rows = if bytes_eq name (codes "run") then run_in rows
    else (if bytes_eq name (codes "go") then go_in rows
    else (if bytes_eq name (codes "try") then try_in rows
    else (if bytes_eq name (codes "migrate") then migrate
    else (if bytes_eq name (codes "verify") then verify (file_in rows)
    else (if bytes_eq name (codes "list") then list_in rows
    else (if bytes_eq name (codes "map") then map_in rows
    else (if bytes_eq name (codes "check") then check_in rows
    else (if bytes_eq name (codes "find") then find_in rows
    else (if bytes_eq name (codes "names") then ask (source_in rows) tell_names
    else (if bytes_eq name (codes "trace") then trace_in rows
    else (if bytes_eq name (codes "count") then count_in rows
    else (if bytes_eq name (codes "show") then show_in rows
    else (if bytes_eq name (codes "format") then ask (source_in rows) (format (is_set_in (codes "check") rows))
    else (if bytes_eq name (codes "port") then ask (source_in rows) port
    else compile (edition_in rows) (libs_in rows)))))))))))))))

abbrev pub asked : Option (Text × List Row) → Asked
asked None = compile editions.One []
asked (Some command) = asked_by command.0 command.1

-- The option --careful may have a value, and a rule of `clap` has one that has to be there. So --careful alone is read
-- as --careful=stay, but not after the word --.
abbrev pub full_word : (is_option : Bool) → Text → Text
full_word is_option word = if is_option && bytes_eq word (codes "--careful") then codes "--careful=stay" else word

abbrev pub full_words : (is_option : Bool) → List Text → List Text
full_words is_option [] = []
full_words is_option (word ∷ words) =
    full_word is_option word ∷ full_words (is_option && not (bytes_eq word (codes "--"))) words

-- the faults of the words of a command line, and what they ask for
abbrev pub fault_in : List Text → List ErrorKind
fault_in words = fault_of command_line (full_words true words)

abbrev pub asked_in : List Text → Asked
asked_in words = asked (subcommand_of command_line (full_words true words))

abbrev pub source_shown : Given → SourceAsked
source_shown source =
    record { file = source.file.now; libs = map_each (λ lib. lib.now) source.libs.now; edition = source.edition }

abbrev pub origin_shown : OriginNames → OriginAsked
origin_shown origins.Source = from_source
origin_shown origins.Code = from_code
origin_shown (origins.Made it) = from_made it.code.now it.lines.now (option_map (λ n. n.now) it.names)

-- the same where there may be a contradiction in its place
abbrev pub origin_or_clash : Result OriginNames Clash → Result OriginAsked Clash
origin_or_clash (Ok origin) = Ok (origin_shown origin)
origin_or_clash (Err it) = Err it

abbrev pub walk_shown : Walk → Question
walk_shown walk = trace (origin_shown walk.origin) walk.steps walk.rows (option_map (λ n. n.now) walk.function)

abbrev pub display_shown : Display → Question
display_shown it = show (origin_shown it.origin) it.care it.steps it.rows (option_map (λ n. n.now) it.input)

-- what a question of a job is
abbrev pub question_of : Questioned → Question
question_of (questioned.List origin name) = list (origin_shown origin) (option_map (λ n. n.now) name)
question_of (questioned.Map origin) = map (origin_shown origin)
question_of (questioned.Draw origin steps) = draw (origin_shown origin) steps
question_of (questioned.Check for_editor) = check for_editor
question_of questioned.Fix = fix
question_of questioned.Names = tell_names
question_of (questioned.Trace walk) = walk_shown walk
question_of (questioned.Locate origin steps) = locate (origin_shown origin) steps
question_of (questioned.GoCareful origin it steps) = go_careful (origin_shown origin) it steps
question_of (questioned.Try steps) = try_out steps
question_of (questioned.Count origin steps for_editor) = count (origin_shown origin) steps for_editor
question_of (questioned.Show it) = display_shown it
question_of (questioned.Format is_check) = format is_check
question_of questioned.Port = port

abbrev pub search_shown : Search → SearchAsked
search_shown it = record {
  pattern = it.pattern.now;
  files = map_each (λ file. file.now) it.files.now;
  edition = it.edition;
  for_editor = it.for_editor;
}

-- what a job is of what can be asked for
abbrev pub asked_of : Job → Asked
asked_of (job.Compile edition libs) = compile edition (map_each (λ lib. lib.now) libs.now)
asked_of (job.Run file steps) = run file.now steps
asked_of (job.LocateCode file steps) = locate_code file.now steps
asked_of (job.Go source steps) = go (source_shown source) steps
asked_of job.Migrate = migrate
asked_of (job.Verify file) = verify file.now
asked_of (job.Ask source question) = ask (source_shown source) (question_of question)
asked_of (job.CheckBy source rules for_editor) = check_by (source_shown source) rules.now for_editor
asked_of (job.Find it) = find (search_shown it)
asked_of (job.Contradiction it) = contradiction it

-- the message for options that contradict each other
abbrev pub clash_message : (told : Text) → Text
clash_message told = codes "error: the argument " ++ told ++ codes "\n\nFor more information, try '--help'.\n"

abbrev pub clash_line : Clash → Text
clash_line clash.Limits = clash_message (codes "'--steps <N>' cannot be used with '--no-limit'")
clash_line clash.Rows = clash_message (codes "'--from <N>' cannot be used with '--last <N>'")
clash_line clash.Origins = clash_message (codes "'--code' cannot be used with '--made <CODE>' or '--lines <LINES>'")
clash_line clash.Libs = clash_message (codes "'--code' cannot be used with '--with <LIB>'")
clash_line clash.Made = clash_message (codes "'--made <CODE>' cannot be used without '--lines <LINES>'")
clash_line clash.Fix = clash_message (codes "'--fix' cannot be used with '--json'")
clash_line clash.Rules = clash_message (codes "'--fix' cannot be used with '--rules <RULES>'")
clash_line clash.Care = clash_message (codes "'--careful' is '--careful=stay', '--careful=warn' or '--careful=wraps'")
clash_line clash.ShownCare = clash_message (codes "'--careful' of 'show' is '--careful=stay' or '--careful=wraps'")
clash_line clash.Names = clash_message (codes "'--names <NAMES>' cannot be used without '--made <CODE>'")
clash_line clash.Plain =
    clash_message (codes "'--code' or '--made <CODE>' of 'go' cannot be used without '--where' or '--careful'")
clash_line clash.Unnamed =
    clash_message (codes "'--careful' of a code text cannot be used without '--names <NAMES>'")
clash_line clash.Lines = clash_message (codes "'--lines <LINES>' cannot be used without '--made <CODE>'")
