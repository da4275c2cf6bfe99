-- Closed facts: what is told of a source, each at its limits and one past them.
use Rattle.std.specs.Prelude.{◌≡◌, ◌<◌, ◌≤◌, ◌⊎◌, ℕ, List, [], ◌∷◌, ◌++◌, codes, length, map, Option, None, Some, refl}
use Rattle.std.specs.Prelude.{drop, false, replicate, take, true}
use Rattle.std.specs.Fmt.{digits}
use Rattle.bword.specs.declared.edition.Edition.TheVariants as editions
use Rattle.blang.specs.declared.token.Diagnostic.{Diagnostic}
use Rattle.blang.specs.declared.token.About.{About}
use Rattle.blang.specs.declared.token.About.TheVariants as about
use Rattle.blang.specs.declared.token.Letters.TheVariants as letters
use Rattle.blang.specs.declared.run.LoadFault.{LoadFault}
use Rattle.blang.specs.declared.run.LoadFault.TheVariants as fault
use Rattle.std.specs.List.{AllZip}
use Rattle.blang.specs.declared.code.Definition.{Definition}
use Rattle.bcheck.specs.UndefinedNames.{told_subjects}
use Rattle.bcheck.specs.declared.mention.Subject.{Subject}
use Rattle.bcheck.specs.Checks.{FindingParts, IsOver, IsWhole, Reason, finding_text, findings_text, is_in_line}
use Rattle.bcheck.specs.Checks.{is_on_line, second_text, diagnostic_code, severity_of, severity_word, shown_byte}
use Rattle.bcheck.specs.Checks.{shown_in_form, told_first, GoesFarther, StopsBy, StopsPast, tokens_in, with_newline}
use Rattle.bcheck.specs.Checks.{change_line, cut_mark, goes_on, EditParts, IsBetter, IsLater, Outcome, edit_object}
use Rattle.bcheck.specs.Checks.{edits_text, fault_in, mended, mended_line}
use Rattle.bcheck.specs.RuleWarnings.{is_rule_code, rule_codes, warning_code}
use Rattle.bcheck.specs.Tokens.{has_token_on, is_in_token, pieces_from}
use Rattle.blang.specs.Cut.{cut, tokens_from, fixed_of, greatest, keyword_of, line_number_after, longest, number_in}
use Rattle.blang.specs.Cut.{operator_of, escape_of, other_of, whole, with_quoted_byte, word_token}
use Rattle.bsources.specs.Files.{Files}
use Rattle.bcheck.specs.declared.finding.Severity.TheVariants as severity
use Rattle.bcheck.specs.declared.form.FindingForm.TheVariants as form
use Rattle.blint.specs.declared.warnings.Slip.TheVariants as slip
use Rattle.blint.specs.declared.warnings.Warning.TheVariants as warning

-- a diagnostic comes before a fault of loading
diagnostic_told : told_first (Some (record { letters = letters.Undefined; about = about.Name (codes "n"); line = 3 }))
    (Some fault.TooLarge) ≡ (codes "un n 3\n", 1)
unfolding digits
diagnostic_told = refl

-- each fault of loading, and none
loading_told : map (λ f. told_first None (Some f))
    (fault.Duplicate (codes "f") ∷ fault.TooLarge ∷ fault.Undefined (codes "f") ∷ fault.NoMain ∷ [])
    ≡ ((codes "load 1\n", 132) ∷ (codes "load 2\n", 132) ∷ (codes "load 3\n", 132) ∷ ([], 0) ∷ [])
loading_told = refl

nothing_told : told_first None None ≡ ([], 0)
nothing_told = refl

line_shown : map (λ f. shown_in_form f (codes "sx 1\n")) (form.Text ∷ form.Json ∷ []) ≡ (codes "sx 1\n" ∷ [] ∷ [])
line_shown = refl

-- the code of each diagnostic that is about this
abbrev codes_about : About → List (List ℕ)
codes_about a = map (λ l. diagnostic_code (record { letters = l; about = a; line = 3 }))
    (letters.OpenComment ∷ letters.Character ∷ letters.LongName ∷ letters.Constant ∷ letters.Syntax ∷ letters.Redeclared
    ∷ letters.NotLvalue ∷ letters.TooManyNames ∷ letters.TooManyCases ∷ letters.Undefined ∷ letters.TooLarge ∷ [])

-- the letters of each, with other codes for two of them
abbrev codes_with : (syntax redeclared : List ℕ) → List (List ℕ)
codes_with syntax redeclared =
    codes "*/" ∷ codes "ch" ∷ codes "nm" ∷ codes "ct" ∷ syntax ∷ redeclared ∷ codes "lv" ∷ codes ">s" ∷ codes ">c"
    ∷ codes "un" ∷ codes ">e" ∷ []

-- a keyword comes after the letters in five cases
fault_codes : map codes_about (about.Nothing ∷ about.Name (codes "n") ∷ about.Case ∷ about.Break ∷ about.Default ∷ [])
    ≡ (codes_with (codes "sx") (codes "rd") ∷ codes_with (codes "sx") (codes "rd")
    ∷ codes_with (codes "sx case") (codes "rd case") ∷ codes_with (codes "sx break") (codes "rd")
    ∷ codes_with (codes "sx default") (codes "rd default") ∷ [])
fault_codes = refl

-- a diagnostic on a line
abbrev at_line : ℕ → Diagnostic
at_line line = record { letters = letters.Syntax; about = about.Nothing; line = line }

-- An error has the code of the diagnostic, and no other. It stands on its line, or on one before it where no token comes
-- any more, and in a token, unless none stands there or comes any more.
error_codes : (d : Diagnostic) (f : Option LoadFault) (code before rest : List ℕ)
    → Reason editions.Two (Some d) f code before rest → code ≡ diagnostic_code d
error_codes d f code before rest reason = reason.0

error_places : (line : ℕ) (code before rest : List ℕ)
    → Reason editions.Two (Some (at_line line)) None code before rest
    → ((line_number_after 1 before ≡ line) ⊎ ((line_number_after 1 before < line) × IsOver editions.Two rest))
    × ((is_in_token editions.Two line before rest ≡ true) ⊎ (has_token_on editions.Two line (before ++ rest) ≡ false)
    ⊎ IsOver editions.Two rest)
error_places line code before rest reason = (reason.1, reason.2)

load_codes : (code : List ℕ) → (Reason editions.Two None (Some fault.TooLarge) code [] [] → code ≡ codes "load 2")
    × (Reason editions.Two None (Some (fault.Undefined (codes "n"))) code [] [] → code ≡ codes "load 3")
load_codes code = (λ reason. reason, λ reason. reason)

-- one finding of a diagnostic and of data that are too many; and of names that nothing defines one for each
whole_of_faults : (On : Subject → ℕ → Type 0) (d : Diagnostic) (f : Option LoadFault) (ds : List Definition)
    (told : List ℕ) → (IsWhole On (Some d) f ds told → length told ≡ 1)
    × (IsWhole On None (Some fault.TooLarge) ds told → length told ≡ 1)
whole_of_faults On d f ds told = (λ is. is, λ is. is)

whole_of_names : (On : Subject → ℕ → Type 0) (name : List ℕ) (ds : List Definition) (told : List ℕ)
    → IsWhole On None (Some (fault.Undefined name)) ds told → AllZip On (told_subjects ds) told
whole_of_names On name ds told = λ is. is

-- the code of each warning
warning_codes : map warning_code (
    warning.CommentGoesOn ∷ warning.AndAnd ∷ warning.Power ∷ warning.OperatorAssigns ∷ warning.ConditionAssigns ∷
    warning.AssignsComparison ∷ warning.AssignsCompared ∷ warning.EmptyIf ∷ warning.EmptyLoop ∷ warning.PastVector ∷
    warning.VectorForWord ∷ warning.WordForVector ∷ warning.VectorAddress ∷ warning.ReturnsVector ∷
    warning.ReturnsAddress ∷ warning.NegativeNumber ∷ warning.StringEnd ∷ warning.InputEnd ∷ warning.InputZero ∷
    warning.StringForNumber ∷ warning.StringForCharacter ∷ warning.StringPut ∷ warning.StringCompared ∷
    warning.NameAlone ∷ warning.ComparesAlone ∷ warning.NoEffect ∷ warning.Backslash ∷ warning.BitsCompared ∷
    warning.ComparesTwice ∷ warning.NotCompared ∷ warning.ManyArguments ∷ warning.FewArguments ∷
    warning.LibraryArguments ∷ warning.SwappedArguments ∷ warning.WrongBase ∷ warning.NoReturn ∷ warning.NeverUsed ∷
    warning.Unset ∷ warning.UnsetVector ∷ warning.HidesExternal ∷ warning.HidesLibrary ∷ warning.NearMain ∷
    warning.DefaultLabel ∷ warning.WordOutside ∷ warning.VectorCalled ∷ warning.WordOfString ∷ warning.CallsItself ∷
    warning.ChangesNothing ∷ warning.LoopUnchanged ∷ warning.Indented ∷ warning.Overwritten ∷
    warning.MainParameters ∷ warning.StringsAdded ∷ warning.OrConstant ∷ warning.AssignsItself ∷
    warning.PassesOldValue ∷ warning.ValueDropped ∷ warning.EndlessLoop ∷ warning.NoMain ∷
    warning.DanglingElse ∷ warning.IfsInRow ∷ warning.ElseOverwrites ∷ warning.OctalNumber ∷ warning.LargeNumber ∷
    warning.DividesFirst ∷ warning.ZeroQuotient ∷ warning.AlwaysTrue ∷ warning.NeverTrue ∷ warning.LoopPastVector ∷
    warning.CountPastVector ∷ warning.CountsAway ∷ warning.InnerOnce ∷ warning.BeginsAnew ∷ warning.InputEndless ∷
    warning.SameArguments ∷ warning.ResultDropped ∷ warning.StringAdded ∷ warning.StoredBack ∷ warning.NotReached ∷
    warning.DigitForCharacter ∷ warning.FallsIntoCase ∷ warning.FormValues ∷ warning.TwoIndices ∷
    warning.AssignsNot ∷ warning.ProductTooLarge ∷ warning.NumberPut ∷ warning.AddressesCompared ∷
    warning.ValueForAddress ∷ warning.CharacterCounted ∷ warning.SlashEscape ∷ warning.WordCalled ∷
    warning.SomeReturn ∷ warning.QuotientCut ∷ warning.FirstTurnOnly ∷ warning.StringMoved ∷
    warning.TestedBefore ∷ warning.OnlyInIf ∷ warning.IndexKept ∷ warning.OwnResultDropped ∷
    warning.Slip slip.VectorAssigned ∷ warning.Slip slip.VectorCopied ∷ warning.Slip slip.SameNow ∷
    warning.Slip slip.CopiedLate ∷ warning.Slip slip.OtherExtreme ∷ warning.Slip slip.LeastFromZero ∷
    warning.Slip slip.LargestFromZero ∷ warning.Slip slip.NotKept ∷ warning.Slip slip.SameTwice ∷
    warning.Slip slip.NotSetBack ∷ warning.Slip slip.AfterLast ∷ warning.Slip slip.NotEnded ∷
    warning.Slip slip.ComparedAlone ∷ warning.Slip slip.NewlineNext ∷ warning.Slip slip.PopsAbove ∷
    warning.Slip slip.WordForAddress ∷ warning.Slip slip.CharacterLost ∷ warning.Slip slip.CharacterForString ∷
    warning.Slip slip.NumberForString ∷ warning.Slip slip.FormKind ∷ warning.Slip slip.CallsAway ∷
    warning.Slip slip.StepsPast ∷ warning.Slip slip.NeverAgain ∷ warning.Slip slip.LastTurnOnly ∷
    warning.Slip slip.DividesByZero ∷ warning.Slip slip.CountsFirst ∷ warning.Slip slip.ValueKept ∷
    warning.Slip slip.VectorReckoned ∷ warning.Slip slip.CountsEnd ∷ warning.Slip slip.SameAsked ∷
    warning.Slip slip.WordStored ∷ warning.Slip slip.RemainderBelow ∷ warning.Slip slip.RoomTooSmall ∷
    warning.Slip slip.NotFirst ∷ warning.Slip slip.ProductOfZero ∷ warning.Slip slip.BaseOfZero ∷
    warning.Slip slip.ZeroDivisor ∷ warning.Slip slip.RemainderKept ∷ warning.Slip slip.DividedByOne ∷
    warning.Slip slip.SetLater ∷ warning.Slip slip.ZeroEnd ∷ warning.Slip slip.CallsPast ∷
    warning.Slip slip.CharacterIndex ∷ warning.Slip slip.HalfStays ∷ warning.Slip slip.NextPast ∷
    warning.Slip slip.EndTaken ∷ warning.Slip slip.LeavesCountOut ∷ warning.Slip slip.BeginsAgain ∷
    warning.Slip slip.BothEvaluated ∷ warning.Slip slip.ZeroAfter ∷ warning.Slip slip.SharedCounter ∷
    warning.Slip slip.MovesAddress ∷ warning.Slip slip.ShiftOfSum ∷ []
    ) ≡ codes "*/" ∷ codes "and" ∷ codes "and" ∷ codes "op" ∷ codes "if" ∷ codes "if" ∷ codes "if" ∷ codes "em" ∷
    codes "em" ∷ codes "ix" ∷ codes "ix" ∷ codes "ix" ∷ codes "ix" ∷ codes "ix" ∷ codes "ix" ∷ codes "sg" ∷
    codes "en" ∷ codes "en" ∷ codes "en" ∷ codes "st" ∷ codes "st" ∷ codes "st" ∷ codes "st" ∷ codes "no" ∷
    codes "no" ∷ codes "no" ∷ codes "bs" ∷ codes "pr" ∷ codes "pr" ∷ codes "pr" ∷ codes "ar" ∷ codes "ar" ∷
    codes "ar" ∷ codes "ar" ∷ codes "ar" ∷ codes "rt" ∷ codes "us" ∷ codes "in" ∷ codes "in" ∷ codes "hi" ∷
    codes "hi" ∷ codes "ma" ∷ codes "ed" ∷ codes "ed" ∷ codes "ix" ∷ codes "st" ∷ codes "lp" ∷ codes "no" ∷
    codes "lp" ∷ codes "la" ∷ codes "us" ∷ codes "ma" ∷ codes "st" ∷ codes "pr" ∷ codes "op" ∷ codes "ar" ∷
    codes "no" ∷ codes "lp" ∷ codes "ma" ∷
    codes "la" ∷ codes "la" ∷ codes "la" ∷ codes "nu" ∷ codes "nu" ∷ codes "di" ∷ codes "di" ∷ codes "tr" ∷
    codes "tr" ∷ codes "ix" ∷ codes "ix" ∷ codes "lp" ∷ codes "lp" ∷ codes "lp" ∷ codes "en" ∷ codes "lp" ∷
    codes "no" ∷ codes "st" ∷ codes "us" ∷ codes "no" ∷ codes "en" ∷ codes "sw" ∷ codes "ar" ∷ codes "ix" ∷
    codes "tr" ∷ codes "nu" ∷ codes "st" ∷ codes "st" ∷ codes "ar" ∷ codes "en" ∷ codes "es" ∷ codes "hi" ∷
    codes "rt" ∷ codes "di" ∷ codes "no" ∷ codes "st" ∷ codes "no" ∷ codes "lp" ∷ codes "ix" ∷ codes "no" ∷
    codes "ix" ∷ codes "ix" ∷ codes "us" ∷ codes "us" ∷ codes "tr" ∷ codes "us" ∷ codes "us" ∷ codes "us" ∷
    codes "ix" ∷ codes "lp" ∷ codes "ix" ∷ codes "st" ∷ codes "st" ∷ codes "en" ∷ codes "ix" ∷ codes "ar" ∷
    codes "en" ∷ codes "st" ∷ codes "st" ∷ codes "ar" ∷ codes "lp" ∷ codes "lp" ∷ codes "lp" ∷ codes "lp" ∷
    codes "di" ∷ codes "lp" ∷ codes "ar" ∷ codes "ix" ∷ codes "en" ∷ codes "lp" ∷ codes "st" ∷
    codes "di" ∷ codes "ix" ∷ codes "tr" ∷ codes "us" ∷ codes "us" ∷ codes "di" ∷ codes "lp" ∷ codes "di" ∷ codes "in" ∷
    codes "en" ∷ codes "lp" ∷ codes "ix" ∷ codes "lp" ∷ codes "ix" ∷ codes "en" ∷ codes "lp" ∷ codes "lp" ∷ codes "di" ∷
    codes "lp" ∷ codes "lp" ∷ codes "no" ∷ codes "pr" ∷ []
warning_codes = refl

-- the codes that rules alone give; those of finders, of faults, a part of one, one with more letters, and none
by_rules : rule_codes
    ≡ codes "and" ∷ codes "op" ∷ codes "if" ∷ codes "em" ∷ codes "sg" ∷ codes "en" ∷ codes "st" ∷ codes "no"
    ∷ codes "bs" ∷ codes "pr" ∷ codes "rt" ∷ codes "us" ∷ codes "ed" ∷ codes "tr" ∷ codes "di" ∷ codes "es" ∷ codes "sw"
    ∷ codes "ix" ∷ codes "lp" ∷ []
by_rules = refl

of_rules : map is_rule_code rule_codes ≡ replicate 19 true
of_rules = refl

not_of_rules : map is_rule_code
    (codes "*/" ∷ codes "in" ∷ codes "ar" ∷ codes "hi" ∷ codes "ma" ∷ codes "la" ∷ codes "nu" ∷ codes "sx" ∷ codes "an"
    ∷ codes "andd" ∷ [] ∷ []) ≡ replicate 11 false
not_of_rules = refl

-- the line and the column of a place after a text
lines : map (line_number_after 1) ([] ∷ codes "a" ∷ codes "a\n" ∷ codes "\n\nab" ∷ []) ≡ (1 ∷ 1 ∷ 2 ∷ 3 ∷ [])
lines = refl

shown_bytes : map shown_byte (0 ∷ 8 ∷ 9 ∷ 10 ∷ 31 ∷ 32 ∷ 126 ∷ 127 ∷ 128 ∷ 255 ∷ [])
    ≡ (63 ∷ 63 ∷ 32 ∷ 63 ∷ 63 ∷ 32 ∷ 126 ∷ 63 ∷ 63 ∷ 63 ∷ [])
shown_bytes = refl

in_lines : map is_in_line ([] ∷ codes "ab" ∷ codes "a\n" ∷ (13 ∷ []) ∷ []) ≡ (true ∷ true ∷ false ∷ true ∷ [])
in_lines = refl

severities : map (λ status. severity_word (severity_of status)) (0 ∷ 1 ∷ 132 ∷ [])
    ≡ (codes "warning" ∷ codes "error" ∷ codes "error" ∷ [])
severities = refl

on_lines : map (λ b. is_on_line (b ∷ [])) (0 ∷ 9 ∷ 10 ∷ 31 ∷ 32 ∷ 126 ∷ 127 ∷ 128 ∷ [])
    ≡ (false ∷ false ∷ false ∷ false ∷ true ∷ true ∷ false ∷ false ∷ [])
on_lines = refl

-- a newline among others
past_line : map is_on_line ([] ∷ codes "a b" ∷ codes "a\nb" ∷ []) ≡ (true ∷ true ∷ false ∷ [])
past_line = refl

-- a finding on the third line of a source, where a tab is shown as a blank
abbrev undefined : FindingParts (codes "n 5;\nf() {\n\ti = n; } g;\n")
undefined = record {
  before = codes "n 5;\nf() {\n";
  left = codes "\ti = ";
  right = codes "n; } g;";
  after = codes "\n";
  split = refl;
  from_line = refl;
  in_line = refl;
  marks = 1;
  marked = refl;
  code = codes "un";
  sentence = codes "no n";
  fix = codes "auto n;";
  on_lines = refl;
  second = None;
  edits = [];
  few = refl;
}

-- one file of this name; and one that has fewer lines, with another one after it
abbrev alone : List ℕ → Files
alone name = record { first = record { name = name; lines = 5 }; rest = [] }

abbrev followed : (lines : ℕ) → Files
followed lines =
    record {
      first = record { name = codes "x.b"; lines = lines };
      rest = record { name = codes "l\n.b"; lines = 2 } ∷ [];
    }

error_for_people : finding_text form.Text severity.Error (alone (codes "x.b")) undefined
    ≡ codes "x.b:3:6: error: no n\n     i = n; } g;\n         ^\n  fix: auto n;\n"
unfolding digits
error_for_people = refl

file_on_one_line : finding_text form.Text severity.Error (alone (codes "x\n1:1: error: y")) undefined
    ≡ codes "x\\u000a1:1: error: y:3:6: error: no n\n     i = n; } g;\n         ^\n  fix: auto n;\n"
unfolding digits
file_on_one_line = refl

-- the last line of the first file, and the first one of the next
on_last_line : finding_text form.Text severity.Error (followed 3) undefined
    ≡ codes "x.b:3:6: error: no n\n     i = n; } g;\n         ^\n  fix: auto n;\n"
unfolding digits
on_last_line = refl

in_next_file : finding_text form.Text severity.Error (followed 2) undefined
    ≡ codes "l\\u000a.b:1:6: error: no n\n     i = n; } g;\n         ^\n  fix: auto n;\n"
unfolding digits
in_next_file = refl

warning_for_editors : finding_text form.Json severity.Warning (alone (codes "a\"b")) undefined
    ≡ codes "{\"file\":\"a\\\"b\",\"line\":3,\"column\":6,\"severity\":\"warning\","
    ++ codes "\"code\":\"un\",\"message\":\"no n\",\"fix\":\"auto n;\",\"end\":7,\"utf16_column\":6,\"utf16_end\":7}\n"
unfolding digits
warning_for_editors = refl

in_next_file_for_editors : finding_text form.Json severity.Warning (followed 2) undefined
    ≡ codes "{\"file\":\"l\\u000a.b\",\"line\":1,\"column\":6,\"severity\":\"warning\","
    ++ codes "\"code\":\"un\",\"message\":\"no n\",\"fix\":\"auto n;\",\"end\":7,\"utf16_column\":6,\"utf16_end\":7}\n"
unfolding digits
in_next_file_for_editors = refl

-- the second place is where n is defined, and where `g` begins
second_texts : map (second_text {source = codes "n 5;\nf() ;"} (alone (codes "x.b")))
    (None ∷ Some (record { before = []; after = codes "n 5;\nf() ;"; split = refl })
    ∷ Some (record { before = codes "n 5;\nf"; after = codes "() ;"; split = refl }) ∷ [])
    ≡ ([] ∷ codes ",\"related\":{\"line\":1,\"column\":1,\"utf16_column\":1}"
    ∷ codes ",\"related\":{\"line\":2,\"column\":2,\"utf16_column\":2}" ∷ [])
unfolding digits
second_texts = refl

second_texts_of_several : map (second_text {source = codes "n 5;\nf() ;"} (followed 1))
    (None ∷ Some (record { before = []; after = codes "n 5;\nf() ;"; split = refl })
    ∷ Some (record { before = codes "n 5;\nf"; after = codes "() ;"; split = refl }) ∷ [])
    ≡ ([] ∷ codes ",\"related\":{\"file\":\"x.b\",\"line\":1,\"column\":1,\"utf16_column\":1}"
    ∷ codes ",\"related\":{\"file\":\"l\\u000a.b\",\"line\":1,\"column\":2,\"utf16_column\":2}" ∷ [])
unfolding digits
second_texts_of_several = refl

-- a finding of several marks, with a second place, in whose words there are quotes and backslashes
abbrev again : FindingParts (codes "n 5;\nsize 1; size 2;\n")
again = record {
  before = codes "n 5;\n";
  left = codes "size 1; ";
  right = codes "size 2;";
  after = codes "\n";
  split = refl;
  from_line = refl;
  in_line = refl;
  marks = 4;
  marked = refl;
  code = codes "r\"d";
  sentence = codes "\"size\" \\ again";
  fix = codes "a \"b\"";
  on_lines = refl;
  second = Some (record { before = codes "n 5;\n"; after = codes "size 1; size 2;\n"; split = refl });
  edits = [];
  few = refl;
}

warning_for_people : finding_text form.Text severity.Warning (alone (codes "x.b")) again
    ≡ codes "x.b:2:9: warning: \"size\" \\ again\n    size 1; size 2;\n            ^^^^\n  fix: a \"b\"\n"
unfolding digits
warning_for_people = refl

error_for_editors : finding_text form.Json severity.Error (alone (codes "x.b")) again
    ≡ codes "{\"file\":\"x.b\",\"line\":2,\"column\":9,\"severity\":\"error\",\"code\":\"r\\\"d\","
    ++ codes "\"message\":\"\\\"size\\\" \\\\ again\",\"fix\":\"a \\\"b\\\"\","
    ++ codes "\"end\":13,\"utf16_column\":9,\"utf16_end\":13,"
    ++ codes "\"related\":{\"line\":2,\"column\":1,\"utf16_column\":1}}\n"
unfolding digits
error_for_editors = refl

-- an edit that puts a `;` after a name of a letter of two bytes in quotes, and one that takes a word out
abbrev quoted : List ℕ
quoted = codes "\tx \"" ++ (195 ∷ 169 ∷ []) ++ codes "\"\ny 1;\n"

abbrev closed : EditParts quoted
closed = record {
  before = codes "\t";
  left = codes "x \"" ++ (195 ∷ 169 ∷ []) ++ codes "\"";
  old = [];
  right = [];
  after = codes "\ny 1;\n";
  split = refl;
  from_line = refl;
  in_line = refl;
  text = codes ";";
  on_line = refl;
  differs = refl;
}

abbrev shortened : EditParts quoted
shortened = record {
  before = codes "\tx \"" ++ (195 ∷ 169 ∷ []) ++ codes "\"\n";
  left = codes "y";
  old = codes " 1";
  right = codes ";";
  after = codes "\n";
  split = refl;
  from_line = refl;
  in_line = refl;
  text = codes "[\"]";
  on_line = refl;
  differs = refl;
}

-- the source with each, which is else as it was
mended_sources : map mended (closed ∷ shortened ∷ [])
    ≡ (codes "\tx \"" ++ (195 ∷ 169 ∷ []) ++ codes "\";\ny 1;\n")
    ∷ (codes "\tx \"" ++ (195 ∷ 169 ∷ []) ++ codes "\"\ny[\"];\n") ∷ []
mended_sources = refl

edit_objects : map (edit_object (alone (codes "x.b"))) (closed ∷ shortened ∷ [])
    ≡ (codes "{\"line\":1,\"column\":8,\"end\":8,\"utf16_column\":7,\"utf16_end\":7,"
    ++ codes "\"offset\":7,\"length\":0,\"text\":\";\"}")
    ∷ (codes "{\"line\":2,\"column\":2,\"end\":4,\"utf16_column\":2,\"utf16_end\":4,"
    ++ codes "\"offset\":9,\"length\":2,\"text\":\"[\\\"]\"}")
    ∷ []
unfolding digits
edit_objects = refl

edit_of_several : edit_object (followed 1) shortened
    ≡ codes "{\"file\":\"l\\u000a.b\",\"line\":1,\"column\":2,\"end\":4,\"utf16_column\":2,"
    ++ codes "\"utf16_end\":4,\"offset\":9,"
    ++ codes "\"length\":2,\"text\":\"[\\\"]\"}"
unfolding digits
edit_of_several = refl

mended_as_shown : map (mended_line (followed 1)) (closed ∷ shortened ∷ [])
    ≡ codes "\n  line 1 mended: x \"??\";" ∷ codes "\n  line 1 mended: y[\"];" ∷ []
unfolding digits
mended_as_shown = refl

-- the line of each as it is told once it was made
change_as_told : map (change_line (followed 1)) (closed ∷ shortened ∷ [])
    ≡ codes "x.b:1:8: mended: x \"??\";\n" ∷ codes "l\\u000a.b:1:2: mended: y[\"];\n" ∷ []
unfolding digits
change_as_told = refl

-- a line that ends, and one that goes on past what is shown
lines_go_on : map goes_on ([] ∷ codes "\na" ∷ codes "a\n" ∷ []) ≡ false ∷ false ∷ true ∷ []
lines_go_on = refl

cut_marks : cut_mark true ∷ cut_mark false ∷ [] ≡ codes " .." ∷ [] ∷ []
cut_marks = refl

-- none, one and two in an array
edit_arrays : map (edits_text (λ (n : ℕ). n ∷ [])) ([] ∷ (65 ∷ []) ∷ (65 ∷ 66 ∷ []) ∷ [])
    ≡ [] ∷ codes ",\"edits\":[A]" ∷ codes ",\"edits\":[A,B]" ∷ []
edit_arrays = refl

-- a finding with both
abbrev open_quote : FindingParts quoted
open_quote = record {
  before = [];
  left = codes "\tx \"" ++ (195 ∷ 169 ∷ []) ++ codes "\"";
  right = [];
  after = codes "\ny 1;\n";
  split = refl;
  from_line = refl;
  in_line = refl;
  marks = 1;
  marked = refl;
  code = codes "sx";
  sentence = codes "s";
  fix = codes "f";
  on_lines = refl;
  second = None;
  edits = closed ∷ shortened ∷ [];
  few = refl;
}

edits_for_people : finding_text form.Text severity.Error (alone (codes "x.b")) open_quote
    ≡ codes "x.b:1:8: error: s\n     x \"??\"\n           ^\n  line 1 mended: x \"??\";\n"
    ++ codes "  line 2 mended: y[\"];\n  fix: f\n"
unfolding digits
edits_for_people = refl

-- one on a later line, and one where there was none
later_lines : (a b : ℕ) → IsLater (Some (at_line a)) (Some (at_line b)) → b < a
later_lines a b h = h

new_one_is_not : (d : Diagnostic) → IsLater (Some d) None → ⊥
new_one_is_not d h = h

-- what mends is better: the fault is gone or later, what loaded loads, and what didn't has fewer undefined names
mends_are_better : (new old : Outcome) → IsBetter new old
    → (IsLater new.stop old.stop ⊎ GoesFarther old.edition new.source old.source)
    × ((told_first old.stop (fault_in old)).1 ≡ 0 → (told_first new.stop (fault_in new)).1 ≡ 0)
    × ((told_first old.stop (fault_in old)).1 ≡ 132 → ((told_first new.stop (fault_in new)).1 ≡ 0)
    ⊎ (length (told_subjects new.definitions) < length (told_subjects old.definitions)))
mends_are_better new old h = h

-- where a newline between both parts of a source shows its fault: on the line of the first part or before it, or after
stops_by : (a line : ℕ) → StopsBy line (Some (at_line a)) → a ≤ line
stops_by a line h = h

stops_past : (a line : ℕ) → StopsPast line (Some (at_line a)) → line < a
stops_past a line h = h

one_that_compiles_stops_by_no_line : (line : ℕ) → StopsBy line None → ⊥
one_that_compiles_stops_by_no_line line h = h

sources_with_newline : with_newline (codes "a b") (codes " c\n") ≡ codes "a b\n c\n"
sources_with_newline = refl

-- how many tokens a source has with a newline before this place: after a string and in it, where it ends at once
abbrev with_string : List ℕ
with_string = codes "f(){\"a b\";=;}"

abbrev tokens_with : ℕ → ℕ
tokens_with n = length (tokens_in editions.One (with_newline (take n with_string) (drop n with_string)))

tokens_parted : length (tokens_in editions.One with_string) ∷ map tokens_with (4 ∷ 5 ∷ 6 ∷ 8 ∷ 9 ∷ 10 ∷ [])
    ≡ 10 ∷ 10 ∷ 5 ∷ 5 ∷ 5 ∷ 10 ∷ 10 ∷ []
unfolding tokens_from cut longest greatest whole word_token keyword_of number_in operator_of other_of fixed_of escape_of
    with_quoted_byte
tokens_parted = refl

-- two sources alike but for a string that the new one opens: no newline in it leaves the tokens of the old one alone
abbrev long_source : List ℕ
long_source = codes "main() { auto x; putchar(\"ab cd\"); x = ; }"

abbrev count_with : ℕ → ℕ
count_with n = length (tokens_in editions.One (with_newline (take n long_source) (drop n long_source)))

all_of_long : length (tokens_in editions.One long_source) ≡ 17
unfolding tokens_from cut longest greatest whole word_token keyword_of number_in operator_of other_of fixed_of escape_of
    with_quoted_byte
all_of_long = refl

first_of_long : map count_with (28 ∷ 29 ∷ []) ≡ 10 ∷ 10 ∷ []
unfolding tokens_from cut longest greatest whole word_token keyword_of number_in operator_of other_of fixed_of escape_of
    with_quoted_byte
first_of_long = refl

others_of_long : map count_with (30 ∷ 31 ∷ []) ≡ 10 ∷ 10 ∷ []
unfolding tokens_from cut longest greatest whole word_token keyword_of number_in operator_of other_of fixed_of escape_of
    with_quoted_byte
others_of_long = refl

no_findings : findings_text {source = []} form.Text 0 (alone (codes "x.b")) [] ≡ []
no_findings = refl

-- tokens on the lines of a source, which no blank, comment or end is
tokens_on_lines : map (λ line. has_token_on editions.One line (codes "a b\n/*c*/\n\n;\n")) (1 ∷ 2 ∷ 3 ∷ 4 ∷ 5 ∷ [])
    ≡ true ∷ false ∷ false ∷ true ∷ false ∷ []
unfolding pieces_from longest greatest whole word_token keyword_of number_in operator_of other_of fixed_of
tokens_on_lines = refl

-- places in a token of the line, right after it, in a comment, and in a token of another line
in_tokens : map (λ before. is_in_token editions.One 1 before (codes "b1/**/\n;"))
    ([] ∷ codes " " ∷ codes "a" ∷ codes "/*" ∷ codes "\n" ∷ []) ≡ true ∷ true ∷ true ∷ false ∷ false ∷ []
unfolding pieces_from longest greatest whole word_token keyword_of number_in operator_of other_of fixed_of
in_tokens = refl

after_token : is_in_token editions.One 1 (codes "ab") (codes " ;") ≡ false
unfolding pieces_from longest greatest whole word_token keyword_of number_in operator_of other_of fixed_of
after_token = refl

-- a wrong token is one, and none comes after it
wrong_token_on_line : map (λ line. has_token_on editions.One line (codes "a\n@\nb")) (1 ∷ 2 ∷ 3 ∷ [])
    ≡ true ∷ true ∷ false ∷ []
unfolding pieces_from longest greatest whole word_token keyword_of number_in operator_of other_of fixed_of
wrong_token_on_line = refl

-- the last byte of a wrong constant, and the one after it
in_wrong_token : is_in_token editions.One 1 (codes "'ab") (codes "c'") ≡ true
unfolding pieces_from longest greatest whole word_token keyword_of number_in operator_of other_of fixed_of escape_of
    with_quoted_byte
in_wrong_token = refl

after_wrong_token : is_in_token editions.One 1 (codes "'abc") (codes "'") ≡ false
unfolding pieces_from longest greatest whole word_token keyword_of number_in operator_of other_of fixed_of escape_of
    with_quoted_byte
after_wrong_token = refl
