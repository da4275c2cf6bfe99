-- Closed facts: which options each command takes and no other, the limits of their numbers, and what they ask for.
use Rattle.std.specs.Prelude.{◌≡◌, ◌==◌, true, false, List, [], ◌∷◌, ◌++◌, Some, None, codes, filter, length, map, refl}
use Rattle.clap.specs.Words.{Text}
use Rattle.clap.proofs.OnLiterals.{clap_on_literals}
use Rattle.bword.specs.declared.edition.Edition.TheVariants as editions
use Rattle.bcommand.specs.CommandLine.{Asked, SourceAsked, asked_in, fault_in}
use Rattle.bcommand.specs.CommandLine.{compile, run, locate_code, go, ask, check_by, contradiction}
use Rattle.bcommand.specs.CommandLine.{list, map as layout, draw, check, fix, tell_names, trace, locate, go_careful}
use Rattle.bcommand.specs.CommandLine.{count, show, format, try_out, port}
use Rattle.bcommand.specs.CommandLine.{from_source}
use Rattle.bcommand.specs.declared.job.Care.TheVariants as care
use Rattle.bcommand.specs.declared.job.Clash.TheVariants as clash
use Rattle.bcommand.specs.declared.job.Rows.TheVariants as which

-- one of each option
abbrev options : List Text
options =
    codes "--edition=2" ∷ codes "--with=l" ∷ codes "--steps=5" ∷ codes "--no-limit" ∷ codes "--where"
    ∷ codes "--careful" ∷ codes "--json" ∷ codes "--fix" ∷ codes "--rules=r" ∷ codes "--svg" ∷ codes "--from=5" ∷ codes "--last=5"
    ∷ codes "--function=f" ∷ codes "--input=i" ∷ codes "--check" ∷ codes "--code" ∷ codes "--made=c" ∷ codes "--lines=l"
    ∷ codes "--names=n" ∷ []

abbrev of_code : List Text
of_code = codes "--code" ∷ codes "--made=c" ∷ codes "--lines=l" ∷ codes "--names=n" ∷ []

-- those that a command takes, before this argument, if there is one
abbrev taken : (name : Text) → (file : List Text) → List Text
taken name file = filter (λ o. length (fault_in (codes "b" ∷ name ∷ o ∷ file)) == 0) options

abbrev x : List Text
x = codes "x" ∷ []

compile_takes : taken (codes "compile") [] ≡ codes "--edition=2" ∷ codes "--with=l" ∷ []
unfolding clap_on_literals
compile_takes = refl

run_takes : taken (codes "run") x ≡ codes "--steps=5" ∷ codes "--no-limit" ∷ codes "--where" ∷ []
unfolding clap_on_literals
run_takes = refl

go_takes : taken (codes "go") x
    ≡ codes "--edition=2" ∷ codes "--with=l" ∷ codes "--steps=5" ∷ codes "--no-limit" ∷ codes "--where"
    ∷ codes "--careful" ∷ of_code
unfolding clap_on_literals
go_takes = refl

try_takes : taken (codes "try") x
    ≡ codes "--edition=2" ∷ codes "--with=l" ∷ codes "--steps=5" ∷ codes "--no-limit" ∷ []
unfolding clap_on_literals
try_takes = refl

migrate_takes : taken (codes "migrate") [] ≡ []
unfolding clap_on_literals
migrate_takes = refl

verify_takes : taken (codes "verify") x ≡ []
unfolding clap_on_literals
verify_takes = refl

list_takes : taken (codes "list") x ≡ codes "--edition=2" ∷ codes "--with=l" ∷ of_code
unfolding clap_on_literals
list_takes = refl

map_takes : taken (codes "map") x
    ≡ codes "--edition=2" ∷ codes "--with=l" ∷ codes "--steps=5" ∷ codes "--svg" ∷ of_code
unfolding clap_on_literals
map_takes = refl

check_takes : taken (codes "check") x
    ≡ codes "--edition=2" ∷ codes "--with=l" ∷ codes "--json" ∷ codes "--fix" ∷ codes "--rules=r" ∷ []
unfolding clap_on_literals
check_takes = refl

find_takes : taken (codes "find") (codes "p" ∷ x) ≡ codes "--edition=2" ∷ codes "--json" ∷ []
unfolding clap_on_literals
find_takes = refl

-- and both with it, without which there is a fault
names_takes : (taken (codes "names") x ≡ codes "--json" ∷ [])
    × (taken (codes "names") (codes "--json" ∷ x) ≡ codes "--edition=2" ∷ codes "--with=l" ∷ [])
unfolding clap_on_literals
names_takes = (refl, refl)

trace_takes : taken (codes "trace") x
    ≡ codes "--edition=2" ∷ codes "--with=l" ∷ codes "--steps=5" ∷ codes "--from=5" ∷ codes "--last=5"
    ∷ codes "--function=f" ∷ of_code
unfolding clap_on_literals
trace_takes = refl

count_takes : taken (codes "count") x
    ≡ codes "--edition=2" ∷ codes "--with=l" ∷ codes "--steps=5" ∷ codes "--no-limit" ∷ codes "--json" ∷ of_code
unfolding clap_on_literals
count_takes = refl

show_takes : taken (codes "show") x
    ≡ codes "--edition=2" ∷ codes "--with=l" ∷ codes "--steps=5" ∷ codes "--careful" ∷ codes "--from=5"
    ∷ codes "--last=5" ∷ codes "--input=i" ∷ of_code
unfolding clap_on_literals
show_takes = refl

format_takes : taken (codes "format") x ≡ codes "--edition=2" ∷ codes "--check" ∷ []
unfolding clap_on_literals
format_takes = refl

port_takes : taken (codes "port") x ≡ codes "--edition=2" ∷ codes "--with=l" ∷ []
unfolding clap_on_literals
port_takes = refl

-- the words of these commands with this option that have a fault of the value alone
abbrev refused : (names : List Text) → (option : Text) → List Text
refused names option = filter (λ name. length (fault_in (codes "b" ∷ name ∷ option ∷ x)) == 1) names

abbrev with_steps : List Text
with_steps =
    codes "run" ∷ codes "go" ∷ codes "try" ∷ codes "map" ∷ codes "trace" ∷ codes "count" ∷ codes "show" ∷ []

abbrev with_rows : List Text
with_rows = codes "trace" ∷ codes "show" ∷ []

-- the greatest number and one past it, and none
most_steps : map (refused with_steps) (codes "--steps=4000000000" ∷ codes "--steps=4000000001" ∷ codes "--steps=0" ∷ [])
    ≡ [] ∷ with_steps ∷ with_steps ∷ []
unfolding clap_on_literals
most_steps = refl

most_from : map (refused with_rows) (codes "--from=4000000000" ∷ codes "--from=4000000001" ∷ codes "--from=0" ∷ [])
    ≡ [] ∷ with_rows ∷ with_rows ∷ []
unfolding clap_on_literals
most_from = refl

most_last : map (refused with_rows) (codes "--last=4000000000" ∷ codes "--last=4000000001" ∷ codes "--last=0" ∷ [])
    ≡ [] ∷ with_rows ∷ with_rows ∷ []
unfolding clap_on_literals
most_last = refl

abbrev with_edition : List Text
with_edition =
    codes "go" ∷ codes "try" ∷ codes "list" ∷ codes "map" ∷ codes "check" ∷ codes "trace" ∷ codes "count"
    ∷ codes "show" ∷ codes "format" ∷ []

editions_alone : map (refused with_edition) (codes "--edition=1" ∷ codes "--edition=0" ∷ codes "--edition=3" ∷ [])
    ≡ [] ∷ with_edition ∷ with_edition ∷ []
unfolding clap_on_literals
editions_alone = refl

-- what words ask for
abbrev asked_by_words : List Text → Asked
asked_by_words words = asked_in (codes "b" ∷ words)

-- the source in the file x, and l after it
abbrev both : SourceAsked
both = record { file = codes "x"; libs = codes "l" ∷ []; edition = editions.Two }

abbrev of_both : (name : Text) → (more : List Text) → Asked
of_both name more = asked_by_words (name ∷ codes "--edition=2" ∷ codes "--with=l" ∷ codes "x" ∷ more)

-- each command that tells of a source takes its edition and the files after it
files_of_each :
    of_both (codes "go") [] ∷ of_both (codes "go") (codes "--where" ∷ [])
    ∷ of_both (codes "go") (codes "--careful" ∷ []) ∷ of_both (codes "try") [] ∷ of_both (codes "list") []
    ∷ of_both (codes "map") [] ∷ of_both (codes "map") (codes "--svg" ∷ []) ∷ of_both (codes "check") []
    ∷ of_both (codes "check") (codes "--fix" ∷ [])
    ∷ of_both (codes "names") (codes "--json" ∷ []) ∷ of_both (codes "trace") [] ∷ of_both (codes "count") []
    ∷ of_both (codes "show") [] ∷ of_both (codes "port") [] ∷ []
    ≡ go both 10000000 ∷ ask both (locate from_source 10000000)
    ∷ ask both (go_careful from_source care.Stays 10000000)
    ∷ ask both (try_out 10000000) ∷ ask both (list from_source None) ∷ ask both (layout from_source)
    ∷ ask both (draw from_source None) ∷ ask both (check false) ∷ ask both fix ∷ ask both tell_names
    ∷ ask both (trace from_source 1000 (which.From 1) None) ∷ ask both (count from_source 10000000 false)
    ∷ ask both (show from_source None 2000 (which.From 1) None) ∷ ask both port ∷ []
unfolding clap_on_literals
files_of_each = refl

compiles_both : asked_by_words (codes "compile" ∷ codes "--with=l" ∷ codes "--edition=2" ∷ codes "--with=m" ∷ [])
    ≡ compile editions.Two (codes "l" ∷ codes "m" ∷ [])
unfolding clap_on_literals
compiles_both = refl

abbrev of_x : (words : List Text) → Asked
of_x words = asked_by_words (words ++ x)

abbrev alone : SourceAsked
alone = record { file = codes "x"; libs = []; edition = editions.One }

-- a number of steps, none, and both
steps_of_each :
    of_x (codes "run" ∷ codes "--no-limit" ∷ []) ∷ of_x (codes "run" ∷ codes "--no-limit" ∷ codes "--steps=5" ∷ [])
    ∷ of_x (codes "run" ∷ codes "--where" ∷ codes "--no-limit" ∷ [])
    ∷ of_x (codes "go" ∷ codes "--steps=5" ∷ []) ∷ of_x (codes "go" ∷ codes "--where" ∷ codes "--no-limit" ∷ [])
    ∷ of_x (codes "go" ∷ codes "--careful" ∷ codes "--no-limit" ∷ []) ∷ of_x (codes "try" ∷ codes "--no-limit" ∷ [])
    ∷ of_x (codes "trace" ∷ codes "--steps=5" ∷ []) ∷ of_x (codes "trace" ∷ codes "--from=5" ∷ [])
    ∷ of_x (codes "count" ∷ codes "--steps=5" ∷ []) ∷ of_x (codes "count" ∷ codes "--json" ∷ [])
    ∷ of_x (codes "show" ∷ codes "--steps=5" ∷ []) ∷ of_x (codes "show" ∷ codes "--steps=5" ∷ codes "--from=7" ∷ [])
    ∷ of_x (codes "show" ∷ codes "--steps=5" ∷ codes "--last=7" ∷ []) ∷ []
    ≡ run (codes "x") 18446744073709551615 ∷ contradiction clash.Limits
    ∷ locate_code (codes "x") 18446744073709551615
    ∷ go alone 5 ∷ ask alone (locate from_source 18446744073709551615)
    ∷ ask alone (go_careful from_source care.Stays 18446744073709551615)
    ∷ ask alone (try_out 18446744073709551615)
    ∷ ask alone (trace from_source 5 (which.From 1) None) ∷ ask alone (trace from_source 1000 (which.From 5) None)
    ∷ ask alone (count from_source 5 false) ∷ ask alone (count from_source 10000000 true)
    ∷ ask alone (show from_source None 5 (which.From 1) None)
    ∷ ask alone (show from_source None 5 (which.From 7) None)
    ∷ ask alone (show from_source None 5 (which.Last 7) None) ∷ []
unfolding clap_on_literals
steps_of_each = refl

-- an input without a byte is one, too
no_byte_given : of_x (codes "show" ∷ codes "--input=" ∷ [])
    ≡ ask alone (show from_source None 2000 (which.From 1) (Some []))
unfolding clap_on_literals
no_byte_given = refl

lasts_of_function : of_x (codes "trace" ∷ codes "--last=3" ∷ codes "--function=f" ∷ [])
    ≡ ask alone (trace from_source 10000000 (which.Last 3) (Some (codes "f")))
unfolding clap_on_literals
lasts_of_function = refl

-- a source is checked by rules, and not mended by them
checked_by_rules :
    of_x (codes "check" ∷ codes "--rules=r" ∷ []) ∷ of_x (codes "check" ∷ codes "--json" ∷ codes "--rules" ∷ codes "r" ∷ [])
    ∷ of_x (codes "check" ∷ codes "--rules=r" ∷ codes "--fix" ∷ [])
    ∷ of_x (codes "check" ∷ codes "--rules=r" ∷ codes "--fix" ∷ codes "--json" ∷ []) ∷ []
    ≡ check_by alone (codes "r") false ∷ check_by alone (codes "r") true ∷ contradiction clash.Rules
    ∷ contradiction clash.Fix ∷ []
unfolding clap_on_literals
checked_by_rules = refl

fixed_for_editors : of_x (codes "check" ∷ codes "--fix" ∷ codes "--json" ∷ []) ≡ contradiction clash.Fix
unfolding clap_on_literals
fixed_for_editors = refl

layout_checked : of_x (codes "format" ∷ codes "--check" ∷ []) ≡ ask alone (format true)
unfolding clap_on_literals
layout_checked = refl
