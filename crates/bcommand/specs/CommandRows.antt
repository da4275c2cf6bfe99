-- Closed facts: what command lines ask for, and their faults.
use Rattle.std.specs.Prelude.{◌≡◌, Bool, true, false, List, [], ◌∷◌, Some, None, codes, refl}
use Rattle.clap.specs.Words.{Text, is_simple, is_simple_and_free}
use Rattle.clap.specs.declared.error.kind.ErrorKind.TheVariants as kind
use Rattle.clap.proofs.OnLiterals.{clap_on_literals}
use Rattle.bword.specs.declared.edition.Edition.TheVariants as editions
use Rattle.bword.specs.declared.edition.Edition.{Edition}
use Rattle.bcommand.specs.CommandLine.{Asked, SourceAsked, asked_in, fault_in, command_line}
use Rattle.bcommand.specs.CommandLine.{compile, run, locate_code, find, go, migrate, verify, ask, contradiction, list, map}
use Rattle.bcommand.specs.CommandLine.{draw, check, tell_names, trace, locate, go_careful, count, show, format, port}
use Rattle.bcommand.specs.CommandLine.{from_source, try_out}
use Rattle.bcommand.specs.declared.job.Care.TheVariants as care
use Rattle.bcommand.specs.declared.job.Clash.TheVariants as clash
use Rattle.bcommand.specs.declared.job.Rows.TheVariants as which

pub is_simple_line : is_simple command_line ≡ true
is_simple_line = refl

pub is_free_line : is_simple_and_free command_line ≡ true
is_free_line = refl

-- what words ask for that have no fault
abbrev Asks : List Text → Asked → Type 0
Asks words what = (fault_in words ≡ []) × (asked_in words ≡ what)

-- the source in the file x
abbrev x : Edition → SourceAsked
x edition = record { file = codes "x"; libs = []; edition = edition }

-- the same, and after it these files
abbrev x_with : List Text → SourceAsked
x_with libs = record { file = codes "x"; libs = libs; edition = editions.One }

compiles : Asks (codes "b" ∷ codes "compile" ∷ []) (compile editions.One [])
unfolding clap_on_literals
compiles = (refl, refl)

compiles_the_second : Asks (codes "b" ∷ codes "compile" ∷ codes "--edition" ∷ codes "2" ∷ []) (compile editions.Two [])
unfolding clap_on_literals
compiles_the_second = (refl, refl)

compiles_the_first : Asks (codes "b" ∷ codes "compile" ∷ codes "--edition=1" ∷ []) (compile editions.One [])
unfolding clap_on_literals
compiles_the_first = (refl, refl)

runs : Asks (codes "b" ∷ codes "run" ∷ codes "x" ∷ []) (run (codes "x") 10000000)
unfolding clap_on_literals
runs = (refl, refl)

runs_so_long : Asks (codes "b" ∷ codes "run" ∷ codes "--steps" ∷ codes "100" ∷ codes "x" ∷ []) (run (codes "x") 100)
unfolding clap_on_literals
runs_so_long = (refl, refl)

goes : Asks (codes "b" ∷ codes "go" ∷ codes "x" ∷ codes "--edition" ∷ codes "2" ∷ [])
    (go (x editions.Two) 10000000)
unfolding clap_on_literals
goes = (refl, refl)

goes_without_limit : Asks (codes "b" ∷ codes "go" ∷ codes "--no-limit" ∷ codes "x" ∷ [])
    (go (x editions.One) 18446744073709551615)
unfolding clap_on_literals
goes_without_limit = (refl, refl)

locates : Asks (codes "b" ∷ codes "go" ∷ codes "--where" ∷ codes "--steps" ∷ codes "50" ∷ codes "x" ∷ [])
    (ask (x editions.One) (locate from_source 50))
unfolding clap_on_literals
locates = (refl, refl)

locates_within_limits : Asks (codes "b" ∷ codes "go" ∷ codes "--where" ∷ codes "--no-limit" ∷ codes "--steps=5"
    ∷ codes "x" ∷ []) (contradiction clash.Limits)
unfolding clap_on_literals
locates_within_limits = (refl, refl)

goes_careful : Asks (codes "b" ∷ codes "go" ∷ codes "--careful" ∷ codes "x" ∷ codes "--steps" ∷ codes "50" ∷ [])
    (ask (x editions.One) (go_careful from_source care.Stays 50))
unfolding clap_on_literals
goes_careful = (refl, refl)

goes_careful_where : Asks (codes "b" ∷ codes "go" ∷ codes "x" ∷ codes "--where" ∷ codes "--careful" ∷ [])
    (ask (x editions.One) (go_careful from_source care.Stays 10000000))
unfolding clap_on_literals
goes_careful_where = (refl, refl)

goes_careful_within_limits : Asks (codes "b" ∷ codes "go" ∷ codes "--careful" ∷ codes "--no-limit" ∷ codes "--steps=5"
    ∷ codes "x" ∷ []) (contradiction clash.Limits)
unfolding clap_on_literals
goes_careful_within_limits = (refl, refl)

goes_on : Asks (codes "b" ∷ codes "go" ∷ codes "--careful=warn" ∷ codes "x" ∷ codes "--steps=5" ∷ [])
    (ask (x editions.One) (go_careful from_source care.Warns 5))
unfolding clap_on_literals
goes_on = (refl, refl)

goes_to_wraps : Asks (codes "b" ∷ codes "go" ∷ codes "x" ∷ codes "--careful=wraps" ∷ [])
    (ask (x editions.One) (go_careful from_source care.Wraps 10000000))
unfolding clap_on_literals
goes_to_wraps = (refl, refl)

goes_otherwise : Asks (codes "b" ∷ codes "go" ∷ codes "--careful=war" ∷ codes "x" ∷ []) (contradiction clash.Care)
unfolding clap_on_literals
goes_otherwise = (refl, refl)

-- after -- it is the name of a file
goes_as_file : Asks (codes "b" ∷ codes "go" ∷ codes "--" ∷ codes "--careful" ∷ [])
    (go (record { file = codes "--careful"; libs = []; edition = editions.One }) 10000000)
unfolding clap_on_literals
goes_as_file = (refl, refl)

tries : Asks (codes "b" ∷ codes "try" ∷ codes "x" ∷ []) (ask (x editions.One) (try_out 10000000))
unfolding clap_on_literals
tries = (refl, refl)

tries_so_long : Asks (codes "b" ∷ codes "try" ∷ codes "--edition=2" ∷ codes "x" ∷ codes "--steps" ∷ codes "50" ∷ [])
    (ask (x editions.Two) (try_out 50))
unfolding clap_on_literals
tries_so_long = (refl, refl)

tries_within_limits : Asks (codes "b" ∷ codes "try" ∷ codes "--no-limit" ∷ codes "--steps=5" ∷ codes "x" ∷ [])
    (contradiction clash.Limits)
unfolding clap_on_literals
tries_within_limits = (refl, refl)

tries_no_file : fault_in (codes "b" ∷ codes "try" ∷ []) ≡ kind.MissingRequiredArgument ∷ []
unfolding clap_on_literals
tries_no_file = refl

locates_in_code : Asks (codes "b" ∷ codes "run" ∷ codes "--where" ∷ codes "x" ∷ []) (locate_code (codes "x") 10000000)
unfolding clap_on_literals
locates_in_code = (refl, refl)

locates_in_code_so_long : Asks (codes "b" ∷ codes "run" ∷ codes "x" ∷ codes "--steps=50" ∷ codes "--where" ∷ [])
    (locate_code (codes "x") 50)
unfolding clap_on_literals
locates_in_code_so_long = (refl, refl)

locates_in_code_within_limits : Asks (codes "b" ∷ codes "run" ∷ codes "--where" ∷ codes "--no-limit" ∷ codes "--steps=5"
    ∷ codes "x" ∷ []) (contradiction clash.Limits)
unfolding clap_on_literals
locates_in_code_within_limits = (refl, refl)

contradicts : Asks (codes "b" ∷ codes "go" ∷ codes "--no-limit" ∷ codes "--steps=5" ∷ codes "x" ∷ [])
    (contradiction clash.Limits)
unfolding clap_on_literals
contradicts = (refl, refl)

migrates : Asks (codes "b" ∷ codes "migrate" ∷ []) migrate
unfolding clap_on_literals
migrates = (refl, refl)

migrates_no_file : fault_in (codes "b" ∷ codes "migrate" ∷ codes "x" ∷ []) ≡ kind.UnknownArgument ∷ []
unfolding clap_on_literals
migrates_no_file = refl

migrates_one_edition : fault_in (codes "b" ∷ codes "migrate" ∷ codes "--edition=2" ∷ [])
    ≡ kind.UnknownArgument ∷ []
unfolding clap_on_literals
migrates_one_edition = refl

verifies : Asks (codes "b" ∷ codes "verify" ∷ codes "x" ∷ []) (verify (codes "x"))
unfolding clap_on_literals
verifies = (refl, refl)

verifies_a_file : fault_in (codes "b" ∷ codes "verify" ∷ []) ≡ kind.MissingRequiredArgument ∷ []
unfolding clap_on_literals
verifies_a_file = refl

lists : Asks (codes "b" ∷ codes "list" ∷ codes "x" ∷ []) (ask (x editions.One) (list from_source None))
unfolding clap_on_literals
lists = (refl, refl)

lists_one : Asks (codes "b" ∷ codes "list" ∷ codes "--edition" ∷ codes "2" ∷ codes "x" ∷ codes "f" ∷ [])
    (ask (x editions.Two) (list from_source (Some (codes "f"))))
unfolding clap_on_literals
lists_one = (refl, refl)

lists_no_file : fault_in (codes "b" ∷ codes "list" ∷ []) ≡ kind.MissingRequiredArgument ∷ []
unfolding clap_on_literals
lists_no_file = refl

maps : Asks (codes "b" ∷ codes "map" ∷ codes "x" ∷ codes "--edition=2" ∷ []) (ask (x editions.Two) (map from_source))
unfolding clap_on_literals
maps = (refl, refl)

maps_no_name : fault_in (codes "b" ∷ codes "map" ∷ codes "x" ∷ codes "f" ∷ []) ≡ kind.UnknownArgument ∷ []
unfolding clap_on_literals
maps_no_name = refl

draws : Asks (codes "b" ∷ codes "map" ∷ codes "--svg" ∷ codes "x" ∷ [])
    (ask (x editions.One) (draw from_source None))
unfolding clap_on_literals
draws = (refl, refl)

draws_a_run : Asks (codes "b" ∷ codes "map" ∷ codes "x" ∷ codes "--svg" ∷ codes "--steps=40" ∷ [])
    (ask (x editions.One) (draw from_source (Some 40)))
unfolding clap_on_literals
draws_a_run = (refl, refl)

draws_by_a_number : Asks (codes "b" ∷ codes "map" ∷ codes "--edition=2" ∷ codes "--steps" ∷ codes "40" ∷ codes "x" ∷ [])
    (ask (x editions.Two) (draw from_source (Some 40)))
unfolding clap_on_literals
draws_by_a_number = (refl, refl)

checks : Asks (codes "b" ∷ codes "check" ∷ codes "x" ∷ []) (ask (x editions.One) (check false))
unfolding clap_on_literals
checks = (refl, refl)

checks_for_editors : Asks (codes "b" ∷ codes "check" ∷ codes "--json" ∷ codes "--edition" ∷ codes "2" ∷ codes "x" ∷ [])
    (ask (x editions.Two) (check true))
unfolding clap_on_literals
checks_for_editors = (refl, refl)

checks_no_file : fault_in (codes "b" ∷ codes "check" ∷ []) ≡ kind.MissingRequiredArgument ∷ []
unfolding clap_on_literals
checks_no_file = refl

names_told : Asks (codes "b" ∷ codes "names" ∷ codes "--json" ∷ codes "x" ∷ []) (ask (x editions.One) tell_names)
unfolding clap_on_literals
names_told = (refl, refl)

names_told_of_all : Asks (codes "b" ∷ codes "names" ∷ codes "x" ∷ codes "--with=l" ∷ codes "--edition=2"
    ∷ codes "--json" ∷ []) (ask (record { file = codes "x"; libs = codes "l" ∷ []; edition = editions.Two }) tell_names)
unfolding clap_on_literals
names_told_of_all = (refl, refl)

-- there is no form of them but for an editor
names_need_json : fault_in (codes "b" ∷ codes "names" ∷ codes "x" ∷ [])
    ≡ kind.MissingRequiredArgument ∷ []
unfolding clap_on_literals
names_need_json = refl

names_no_file : fault_in (codes "b" ∷ codes "names" ∷ codes "--json" ∷ [])
    ≡ kind.MissingRequiredArgument ∷ []
unfolding clap_on_literals
names_no_file = refl

traces : Asks (codes "b" ∷ codes "trace" ∷ codes "x" ∷ [])
    (ask (x editions.One) (trace from_source 1000 (which.From 1) None))
unfolding clap_on_literals
traces = (refl, refl)

traces_some : Asks (codes "b" ∷ codes "trace" ∷ codes "--edition=2" ∷ codes "--steps" ∷ codes "50" ∷ codes "--from=7"
    ∷ codes "--function" ∷ codes "f" ∷ codes "x" ∷ [])
    (ask (x editions.Two) (trace from_source 50 (which.From 7) (Some (codes "f"))))
unfolding clap_on_literals
traces_some = (refl, refl)

traces_no_file : fault_in (codes "b" ∷ codes "trace" ∷ []) ≡ kind.MissingRequiredArgument ∷ []
unfolding clap_on_literals
traces_no_file = refl

traces_within_limits : fault_in (codes "b" ∷ codes "trace" ∷ codes "--no-limit" ∷ codes "x" ∷ [])
    ≡ kind.UnknownArgument ∷ []
unfolding clap_on_literals
traces_within_limits = refl

compiles_two : Asks (codes "b" ∷ codes "compile" ∷ codes "--with" ∷ codes "l" ∷ [])
    (compile editions.One (codes "l" ∷ []))
unfolding clap_on_literals
compiles_two = (refl, refl)

goes_with : Asks (codes "b" ∷ codes "go" ∷ codes "--with" ∷ codes "l" ∷ codes "x" ∷ codes "--with=m" ∷ [])
    (go (x_with (codes "l" ∷ codes "m" ∷ [])) 10000000)
unfolding clap_on_literals
goes_with = (refl, refl)

checks_with : Asks (codes "b" ∷ codes "check" ∷ codes "x" ∷ codes "--with" ∷ codes "x" ∷ [])
    (ask (x_with (codes "x" ∷ [])) (check false))
unfolding clap_on_literals
checks_with = (refl, refl)

locates_with : Asks (codes "b" ∷ codes "go" ∷ codes "--where" ∷ codes "x" ∷ codes "--with" ∷ codes "l" ∷ [])
    (ask (x_with (codes "l" ∷ [])) (locate from_source 10000000))
unfolding clap_on_literals
locates_with = (refl, refl)

lists_with : Asks (codes "b" ∷ codes "list" ∷ codes "x" ∷ codes "--with" ∷ codes "l" ∷ [])
    (ask (x_with (codes "l" ∷ [])) (list from_source None))
unfolding clap_on_literals
lists_with = (refl, refl)

maps_with : Asks (codes "b" ∷ codes "map" ∷ codes "--with" ∷ codes "l" ∷ codes "x" ∷ [])
    (ask (x_with (codes "l" ∷ [])) (map from_source))
unfolding clap_on_literals
maps_with = (refl, refl)

traces_with : Asks (codes "b" ∷ codes "trace" ∷ codes "--with=l" ∷ codes "x" ∷ [])
    (ask (x_with (codes "l" ∷ [])) (trace from_source 1000 (which.From 1) None))
unfolding clap_on_literals
traces_with = (refl, refl)

counts_with : Asks (codes "b" ∷ codes "count" ∷ codes "x" ∷ codes "--with" ∷ codes "l" ∷ [])
    (ask (x_with (codes "l" ∷ [])) (count from_source 10000000 false))
unfolding clap_on_literals
counts_with = (refl, refl)

shows_with : Asks (codes "b" ∷ codes "show" ∷ codes "x" ∷ codes "--with=l" ∷ [])
    (ask (x_with (codes "l" ∷ [])) (show from_source None 2000 (which.From 1) None))
unfolding clap_on_literals
shows_with = (refl, refl)

with_nothing : fault_in (codes "b" ∷ codes "go" ∷ codes "x" ∷ codes "--with" ∷ [])
    ≡ kind.InvalidValue ∷ []
unfolding clap_on_literals
with_nothing = refl

code_with : fault_in (codes "b" ∷ codes "run" ∷ codes "x" ∷ codes "--with" ∷ codes "l" ∷ [])
    ≡ kind.UnknownArgument ∷ []
unfolding clap_on_literals
code_with = refl

traces_last : Asks (codes "b" ∷ codes "trace" ∷ codes "--last=5" ∷ codes "x" ∷ [])
    (ask (x editions.One) (trace from_source 10000000 (which.Last 5) None))
unfolding clap_on_literals
traces_last = (refl, refl)

traces_last_of_some : Asks (codes "b" ∷ codes "trace" ∷ codes "--last=5" ∷ codes "--steps=9" ∷ codes "x" ∷ [])
    (ask (x editions.One) (trace from_source 9 (which.Last 5) None))
unfolding clap_on_literals
traces_last_of_some = (refl, refl)

traces_from_and_last : Asks (codes "b" ∷ codes "trace" ∷ codes "--last=5" ∷ codes "--from=9" ∷ codes "x" ∷ [])
    (contradiction clash.Rows)
unfolding clap_on_literals
traces_from_and_last = (refl, refl)

no_last : fault_in (codes "b" ∷ codes "trace" ∷ codes "--last=0" ∷ codes "x" ∷ [])
    ≡ kind.ValueValidation ∷ []
unfolding clap_on_literals
no_last = refl

counts : Asks (codes "b" ∷ codes "count" ∷ codes "x" ∷ []) (ask (x editions.One) (count from_source 10000000 false))
unfolding clap_on_literals
counts = (refl, refl)

counts_for_editors : Asks (codes "b" ∷ codes "count" ∷ codes "--json" ∷ codes "--no-limit" ∷ codes "--edition=2"
    ∷ codes "x" ∷ []) (ask (x editions.Two) (count from_source 18446744073709551615 true))
unfolding clap_on_literals
counts_for_editors = (refl, refl)

counts_within_limits : Asks (codes "b" ∷ codes "count" ∷ codes "--no-limit" ∷ codes "--steps=5" ∷ codes "x" ∷ [])
    (contradiction clash.Limits)
unfolding clap_on_literals
counts_within_limits = (refl, refl)

shows : Asks (codes "b" ∷ codes "show" ∷ codes "x" ∷ [])
    (ask (x editions.One) (show from_source None 2000 (which.From 1) None))
unfolding clap_on_literals
shows = (refl, refl)

shows_from : Asks (codes "b" ∷ codes "show" ∷ codes "--from=7" ∷ codes "--input=hi" ∷ codes "x" ∷ [])
    (ask (x editions.One) (show from_source None 2006 (which.From 7) (Some (codes "hi"))))
unfolding clap_on_literals
shows_from = (refl, refl)

shows_last : Asks (codes "b" ∷ codes "show" ∷ codes "x" ∷ codes "--last" ∷ codes "3" ∷ [])
    (ask (x editions.One) (show from_source None 10000000 (which.Last 3) None))
unfolding clap_on_literals
shows_last = (refl, refl)

-- a careful run, of which the last steps are shown if nothing is said
shows_carefully : Asks (codes "b" ∷ codes "show" ∷ codes "--careful" ∷ codes "x" ∷ [])
    (ask (x editions.One) (show from_source (Some care.Stays) 10000000 (which.Last 2000) None))
unfolding clap_on_literals
shows_carefully = (refl, refl)

shows_carefully_from : Asks (codes "b" ∷ codes "show" ∷ codes "x" ∷ codes "--from=7" ∷ codes "--careful=stay" ∷ [])
    (ask (x editions.One) (show from_source (Some care.Stays) 2006 (which.From 7) None))
unfolding clap_on_literals
shows_carefully_from = (refl, refl)

shows_wraps : Asks (codes "b" ∷ codes "show" ∷ codes "x" ∷ codes "--careful=wraps" ∷ codes "--last=3"
    ∷ codes "--steps=9" ∷ []) (ask (x editions.One) (show from_source (Some care.Wraps) 9 (which.Last 3) None))
unfolding clap_on_literals
shows_wraps = (refl, refl)

-- A page stays at a finding.
shows_no_warnings : Asks (codes "b" ∷ codes "show" ∷ codes "--careful=warn" ∷ codes "x" ∷ [])
    (contradiction clash.ShownCare)
unfolding clap_on_literals
shows_no_warnings = (refl, refl)

shows_otherwise : Asks (codes "b" ∷ codes "show" ∷ codes "--careful=war" ∷ codes "x" ∷ []) (contradiction clash.Care)
unfolding clap_on_literals
shows_otherwise = (refl, refl)

shows_from_and_last : Asks (codes "b" ∷ codes "show" ∷ codes "--last=5" ∷ codes "--from=9" ∷ codes "x" ∷ [])
    (contradiction clash.Rows)
unfolding clap_on_literals
shows_from_and_last = (refl, refl)

formats : Asks (codes "b" ∷ codes "format" ∷ codes "x" ∷ []) (ask (x editions.One) (format false))
unfolding clap_on_literals
formats = (refl, refl)

compares_formats : Asks (codes "b" ∷ codes "format" ∷ codes "--check" ∷ codes "--edition=2" ∷ codes "x" ∷ [])
    (ask (x editions.Two) (format true))
unfolding clap_on_literals
compares_formats = (refl, refl)

-- what is found of a pattern in sources
abbrev found_in : (files : List Text) → Edition → (for_editor : Bool) → Asked
found_in files edition for_editor =
    find (record { pattern = codes "p"; files = files; edition = edition; for_editor = for_editor })

finds : Asks (codes "b" ∷ codes "find" ∷ codes "p" ∷ codes "x" ∷ []) (found_in (codes "x" ∷ []) editions.One false)
unfolding clap_on_literals
finds = (refl, refl)

finds_in_all : Asks
    (codes "b" ∷ codes "find" ∷ codes "--edition=2" ∷ codes "p" ∷ codes "x" ∷ codes "y" ∷ codes "--json" ∷ codes "z" ∷ [])
    (found_in (codes "x" ∷ codes "y" ∷ codes "z" ∷ []) editions.Two true)
unfolding clap_on_literals
finds_in_all = (refl, refl)

-- after -- it may begin with a sign
finds_signs : Asks (codes "b" ∷ codes "find" ∷ codes "--" ∷ codes "p" ∷ codes "--x" ∷ [])
    (found_in (codes "--x" ∷ []) editions.One false)
unfolding clap_on_literals
finds_signs = (refl, refl)

finds_nowhere : fault_in (codes "b" ∷ codes "find" ∷ codes "p" ∷ []) ≡ kind.MissingRequiredArgument ∷ []
unfolding clap_on_literals
finds_nowhere = refl

ports : Asks (codes "b" ∷ codes "port" ∷ codes "--edition=2" ∷ codes "x" ∷ codes "--with" ∷ codes "l" ∷ [])
    (ask (record { file = codes "x"; libs = codes "l" ∷ []; edition = editions.Two }) port)
unfolding clap_on_literals
ports = (refl, refl)

formats_alone : fault_in (codes "b" ∷ codes "format" ∷ codes "x" ∷ codes "--with=l" ∷ [])
    ≡ kind.UnknownArgument ∷ []
unfolding clap_on_literals
formats_alone = refl

no_command : fault_in (codes "b" ∷ []) ≡ kind.MissingSubcommand ∷ []
unfolding clap_on_literals
no_command = refl

another_command : fault_in (codes "b" ∷ codes "walk" ∷ [])
    ≡ kind.UnknownArgument ∷ kind.InvalidSubcommand ∷ []
unfolding clap_on_literals
another_command = refl

no_edition : fault_in (codes "b" ∷ codes "compile" ∷ codes "--edition" ∷ codes "3" ∷ [])
    ≡ kind.ValueValidation ∷ []
unfolding clap_on_literals
no_edition = refl

no_steps : fault_in (codes "b" ∷ codes "run" ∷ codes "--steps" ∷ codes "0" ∷ codes "x" ∷ [])
    ≡ kind.ValueValidation ∷ []
unfolding clap_on_literals
no_steps = refl

no_file : fault_in (codes "b" ∷ codes "run" ∷ []) ≡ kind.MissingRequiredArgument ∷ []
unfolding clap_on_literals
no_file = refl

no_edition_of_code : fault_in (codes "b" ∷ codes "run" ∷ codes "--edition" ∷ codes "1" ∷ codes "x" ∷ [])
    ≡ kind.UnknownArgument ∷ []
unfolding clap_on_literals
no_edition_of_code = refl

two_editions : fault_in (codes "b" ∷ codes "compile" ∷ codes "--edition=1" ∷ codes "--edition=2" ∷ [])
    ≡ kind.ArgumentConflict ∷ []
unfolding clap_on_literals
two_editions = refl

help : fault_in (codes "b" ∷ codes "--help" ∷ []) ≡ kind.DisplayHelp ∷ []
unfolding clap_on_literals
help = refl

help_of_a_command : fault_in (codes "b" ∷ codes "go" ∷ codes "-h" ∷ []) ≡ kind.DisplayHelp ∷ []
unfolding clap_on_literals
help_of_a_command = refl

version : fault_in (codes "b" ∷ codes "--version" ∷ []) ≡ kind.DisplayVersion ∷ []
unfolding clap_on_literals
version = refl
