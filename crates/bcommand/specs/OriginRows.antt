-- Closed facts: what a program is read from, by the words of each command that takes a code text, and what is said of
-- words that contradict each other.
use Rattle.std.specs.Prelude.{◌≡◌, false, List, [], ◌∷◌, ◌++◌, None, Some, codes, map, refl}
use Rattle.clap.specs.Words.{Text}
use Rattle.clap.specs.declared.error.kind.ErrorKind.{ErrorKind}
use Rattle.clap.specs.declared.error.kind.ErrorKind.TheVariants as kind
use Rattle.clap.proofs.OnLiterals.{clap_on_literals}
use Rattle.bword.specs.declared.edition.Edition.TheVariants as editions
use Rattle.bcommand.specs.CommandLine.{Asked, OriginAsked, SourceAsked, asked_in, clash_line, fault_in}
use Rattle.bcommand.specs.CommandLine.{ask, contradiction, count, draw, from_code, from_made, go_careful, list, locate}
use Rattle.bcommand.specs.CommandLine.{map as layout, show, trace}
use Rattle.bcommand.specs.declared.job.Care.TheVariants as care
use Rattle.bcommand.specs.declared.job.Clash.{Clash}
use Rattle.bcommand.specs.declared.job.Clash.TheVariants as clash
use Rattle.bcommand.specs.declared.job.Rows.TheVariants as which

abbrev names : List Text
names = codes "list" ∷ codes "trace" ∷ codes "count" ∷ codes "map" ∷ codes "show" ∷ []

abbrev words_of : (name : Text) → (words : List Text) → List Text
words_of name words = codes "b" ∷ name ∷ words ++ codes "x" ∷ []

-- the faults of these words in each of the commands, and what they ask for
abbrev faults : (words : List Text) → List (List ErrorKind)
faults words = map (λ name. fault_in (words_of name words)) names

abbrev each : (words : List Text) → List Asked
each words = map (λ name. asked_in (words_of name words)) names

-- each has these faults, or none
abbrev all_have : List ErrorKind → List (List ErrorKind)
all_have kinds = map (λ name. kinds) names

abbrev none : List (List ErrorKind)
none = all_have []

-- each of the commands asks for this
abbrev asks : SourceAsked → OriginAsked → List Asked
asks source origin = ask source (list origin None) ∷ ask source (trace origin 1000 (which.From 1) None)
    ∷ ask source (count origin 10000000 false) ∷ ask source (layout origin)
    ∷ ask source (show origin None 2000 (which.From 1) None) ∷ []

abbrev refuse : Clash → List Asked
refuse it = map (λ name. contradiction it) names

abbrev alone : SourceAsked
alone = record { file = codes "x"; libs = []; edition = editions.One }

of_code : each (codes "--code" ∷ []) ≡ asks alone from_code
unfolding clap_on_literals
of_code = refl

-- an edition says nothing of a code text, and is allowed
of_code_with_edition : (faults (codes "--code" ∷ codes "--edition=2" ∷ []) ≡ none)
    × (each (codes "--code" ∷ codes "--edition=2" ∷ []) ≡ asks (record alone { edition = editions.Two }) from_code)
unfolding clap_on_literals
of_code_with_edition = (refl, refl)

abbrev with_lines : List Text
with_lines = codes "--made=c" ∷ codes "--lines" ∷ codes "l" ∷ []

of_made : (faults with_lines ≡ none) × (each with_lines ≡ asks alone (from_made (codes "c") (codes "l") None))
unfolding clap_on_literals
of_made = (refl, refl)

-- in the other order, and of a source in two files
abbrev with_made : List Text
with_made = codes "--lines=l" ∷ codes "--with=m" ∷ codes "--made" ∷ codes "c" ∷ []

of_two_made : (faults with_made ≡ none)
    × (each with_made ≡ asks (record alone { libs = codes "m" ∷ [] }) (from_made (codes "c") (codes "l") None))
unfolding clap_on_literals
of_two_made = (refl, refl)

-- with names, of a code text that was made of a source and of no other
of_named : (faults (codes "--names" ∷ codes "n" ∷ with_lines) ≡ none)
    × (each (codes "--names" ∷ codes "n" ∷ with_lines)
    ≡ asks alone (from_made (codes "c") (codes "l") (Some (codes "n"))))
unfolding clap_on_literals
of_named = (refl, refl)

named_otherwise : map each
    ((codes "--names=n" ∷ []) ∷ (codes "--names=n" ∷ codes "--code" ∷ []) ∷ (codes "--names=n" ∷ codes "--made=c" ∷ [])
    ∷ (codes "--names=n" ∷ codes "--lines=l" ∷ []) ∷ (codes "--names=n" ∷ codes "--code" ∷ codes "--made=c" ∷ []) ∷ [])
    ≡ refuse clash.Names ∷ refuse clash.Names ∷ refuse clash.Made ∷ refuse clash.Lines ∷ refuse clash.Origins ∷ []
unfolding clap_on_literals
named_otherwise = refl

made_alone : each (codes "--made=c" ∷ []) ≡ refuse clash.Made
unfolding clap_on_literals
made_alone = refl

lines_alone : each (codes "--lines=l" ∷ []) ≡ refuse clash.Lines
unfolding clap_on_literals
lines_alone = refl

code_and_made : (faults (codes "--code" ∷ codes "--made=c" ∷ []) ≡ none)
    × (each (codes "--code" ∷ codes "--made=c" ∷ []) ≡ refuse clash.Origins)
unfolding clap_on_literals
code_and_made = (refl, refl)

code_and_lines : (faults (codes "--lines=l" ∷ codes "--code" ∷ []) ≡ none)
    × (each (codes "--lines=l" ∷ codes "--code" ∷ []) ≡ refuse clash.Origins)
unfolding clap_on_literals
code_and_lines = (refl, refl)

code_and_both : each (codes "--made=c" ∷ codes "--code" ∷ codes "--lines=l" ∷ []) ≡ refuse clash.Origins
unfolding clap_on_literals
code_and_both = refl

code_and_lib : (faults (codes "--with=m" ∷ codes "--code" ∷ []) ≡ none)
    × (each (codes "--with=m" ∷ codes "--code" ∷ []) ≡ refuse clash.Libs)
unfolding clap_on_literals
code_and_lib = (refl, refl)

-- a text that lacks its value, and two of them
no_value : map (λ name. fault_in (codes "b" ∷ name ∷ codes "x" ∷ codes "--made" ∷ [])) names
    ≡ all_have (kind.InvalidValue ∷ [])
unfolding clap_on_literals
no_value = refl

two_values : faults (codes "--lines=l" ∷ codes "--lines=m" ∷ []) ≡ all_have (kind.ArgumentConflict ∷ [])
unfolding clap_on_literals
two_values = refl

-- the other contradictions are told of a code text, too, and after these
abbrev one : (name : Text) → (words : List Text) → Asked
one name words = asked_in (words_of name words)

told_first : one (codes "trace") (codes "--made=c" ∷ codes "--from=5" ∷ codes "--last=5" ∷ [])
    ∷ one (codes "trace") (codes "--code" ∷ codes "--from=5" ∷ codes "--last=5" ∷ [])
    ∷ one (codes "count") (codes "--with=m" ∷ codes "--code" ∷ codes "--no-limit" ∷ codes "--steps=5" ∷ [])
    ∷ one (codes "count") (codes "--code" ∷ codes "--no-limit" ∷ codes "--steps=5" ∷ []) ∷ []
    ≡ contradiction clash.Made ∷ contradiction clash.Rows ∷ contradiction clash.Libs ∷ contradiction clash.Limits ∷ []
unfolding clap_on_literals
told_first = refl

-- a run whose place is told, a picture, and careful runs, of a code text with names and without
abbrev with_names : List Text
with_names = codes "--names=n" ∷ with_lines

abbrev named : OriginAsked
named = from_made (codes "c") (codes "l") (Some (codes "n"))

other_runs : one (codes "go") (codes "--where" ∷ codes "--code" ∷ []) ∷ one (codes "go") (codes "--where" ∷ with_lines)
    ∷ one (codes "go") (codes "--where" ∷ with_names) ∷ one (codes "go") (codes "--careful" ∷ with_names)
    ∷ one (codes "go") (codes "--careful=warn" ∷ codes "--where" ∷ with_names)
    ∷ one (codes "map") (codes "--svg" ∷ with_names) ∷ one (codes "map") (codes "--steps=5" ∷ codes "--code" ∷ [])
    ∷ one (codes "show") (codes "--careful" ∷ with_names) ∷ []
    ≡ ask alone (locate from_code 10000000) ∷ ask alone (locate (from_made (codes "c") (codes "l") None) 10000000)
    ∷ ask alone (locate named 10000000) ∷ ask alone (go_careful named care.Stays 10000000)
    ∷ ask alone (go_careful named care.Warns 10000000)
    ∷ ask alone (draw named None) ∷ ask alone (draw from_code (Some 5))
    ∷ ask alone (show named (Some care.Stays) 10000000 (which.Last 2000) None) ∷ []
unfolding clap_on_literals
other_runs = refl

other_runs_refused : one (codes "go") (codes "--code" ∷ []) ∷ one (codes "go") with_names
    ∷ one (codes "go") (codes "--careful" ∷ codes "--code" ∷ []) ∷ one (codes "go") (codes "--careful" ∷ with_lines)
    ∷ one (codes "show") (codes "--careful" ∷ codes "--code" ∷ [])
    ∷ one (codes "show") (codes "--careful=wraps" ∷ with_lines)
    ∷ one (codes "go") (codes "--where" ∷ codes "--names=n" ∷ codes "--code" ∷ [])
    ∷ one (codes "go") (codes "--where" ∷ codes "--made=c" ∷ codes "--careful=war" ∷ [])
    ∷ one (codes "go") (codes "--careful=war" ∷ with_lines)
    ∷ one (codes "go") (codes "--no-limit" ∷ codes "--steps=5" ∷ codes "--code" ∷ []) ∷ []
    ≡ contradiction clash.Plain ∷ contradiction clash.Plain ∷ contradiction clash.Unnamed ∷ contradiction clash.Unnamed
    ∷ contradiction clash.Unnamed ∷ contradiction clash.Unnamed ∷ contradiction clash.Names ∷ contradiction clash.Made
    ∷ contradiction clash.Care ∷ contradiction clash.Limits ∷ []
unfolding clap_on_literals
other_runs_refused = refl

-- what is said of each contradiction
abbrev hint : Text
hint = codes "\n\nFor more information, try '--help'.\n"

clashes_told : map clash_line
    (clash.Limits ∷ clash.Rows ∷ clash.Origins ∷ clash.Libs ∷ clash.Made ∷ clash.Lines ∷ clash.Care ∷ clash.Fix
    ∷ clash.ShownCare ∷ clash.Rules ∷ clash.Names ∷ clash.Plain ∷ clash.Unnamed ∷ [])
    ≡ (codes "error: the argument '--steps <N>' cannot be used with '--no-limit'" ++ hint)
    ∷ (codes "error: the argument '--from <N>' cannot be used with '--last <N>'" ++ hint)
    ∷ (codes "error: the argument '--code' cannot be used with '--made <CODE>' or '--lines <LINES>'" ++ hint)
    ∷ (codes "error: the argument '--code' cannot be used with '--with <LIB>'" ++ hint)
    ∷ (codes "error: the argument '--made <CODE>' cannot be used without '--lines <LINES>'" ++ hint)
    ∷ (codes "error: the argument '--lines <LINES>' cannot be used without '--made <CODE>'" ++ hint)
    ∷ (codes "error: the argument '--careful' is '--careful=stay', '--careful=warn' or '--careful=wraps'" ++ hint)
    ∷ (codes "error: the argument '--fix' cannot be used with '--json'" ++ hint)
    ∷ (codes "error: the argument '--careful' of 'show' is '--careful=stay' or '--careful=wraps'" ++ hint)
    ∷ (codes "error: the argument '--fix' cannot be used with '--rules <RULES>'" ++ hint)
    ∷ (codes "error: the argument '--names <NAMES>' cannot be used without '--made <CODE>'" ++ hint)
    ∷ (codes "error: the argument '--code' or '--made <CODE>' of 'go' cannot be used without '--where' or '--careful'"
    ++ hint)
    ∷ (codes "error: the argument '--careful' of a code text cannot be used without '--names <NAMES>'" ++ hint) ∷ []
clashes_told = refl
