-- Promise: what comes of a source: its code text and its diagnostic, and what the compiler writes and answers.
use Rattle.std.specs.Prelude.{◌≡◌, ℕ, suc, List, [], ◌∷◌, ◌++◌, length, map, drop, codes, decimal, Option, Some, None}
use Rattle.std.specs.Prelude.{◌≢◌, ◌≤◌, ◌<◌, ◌⊎◌, take}
use Rattle.bword.specs.declared.edition.Edition.{Edition}
use Rattle.bword.specs.declared.ends.EndFault.{EndFault}
use Rattle.bword.specs.ByteEnds.{Incoming, Outgoing, Took, Grew, Writes, Refuses, CanFollow}
use Rattle.bword.specs.declared.ends.EndFault.TheVariants as end_fault
use Rattle.blang.specs.Text.{joined, opening, end_text}
use Rattle.blang.specs.declared.token.Letters.{Letters}
use Rattle.blang.specs.declared.token.Placed.{Placed}
use Rattle.blang.specs.declared.token.About.{About}
use Rattle.blang.specs.declared.token.Diagnostic.{Diagnostic}
use Rattle.blang.specs.Trees.{Definition, bare}
use Rattle.blang.specs.Scan.{identifier_of}
use Rattle.blang.specs.Code.{code_of, fault_of}
use Rattle.blang.specs.WellFormed.{BeginsProgram, Parted}
use Rattle.blang.specs.Cut.{token_first, tokens_from}
use Rattle.blang.specs.Endings.{EndsWith}
use Rattle.blang.specs.Text as text
use Rattle.blang.specs.declared.token.Letters.TheVariants as letters
use Rattle.blang.specs.declared.token.About.TheVariants as about

-- the names defined so far
abbrev pub Defined : Type 0
Defined = List (List ℕ)

abbrev pub compiled_text : Definition → List ℕ
compiled_text d = text.definition_text (code_of d)

-- the texts of definitions, and the diagnostic, if there is one
pub record Compilation : Type 0 where
  pub code : List (List ℕ)
  pub stop : Option Diagnostic

-- a definition with or without a fault, and what comes of those after it
abbrev pub compilation_with : Option Diagnostic → List ℕ → Compilation → Compilation
compilation_with (Some fault) text later = record { code = []; stop = Some fault }
compilation_with None text later = record { code = text ∷ later.code; stop = later.stop }

-- what comes of definitions: the texts up to the first fault, or all of them
abbrev pub compilation_of : Defined → List Definition → Option Diagnostic → Compilation
compilation_of names [] stop = record { code = []; stop = stop }
compilation_of names (d ∷ ds) stop =
    compilation_with (fault_of names d) (compiled_text d)
    (compilation_of (names ++ (identifier_of d).text ∷ []) ds stop)

-- What comes of these tokens, where these names are defined before.
pub record CompilesTo (names : Defined) (tokens : List Placed) (outcome : Compilation) : Type 0 where
  pub definitions : List Definition
  pub stop : Option Diagnostic
  pub parted : Parted tokens definitions stop
  pub outcome_is : outcome ≡ compilation_of names definitions stop

-- the line after the texts, where nothing is wrong
abbrev pub ending : Option Diagnostic → List ℕ
ending None = end_text
ending (Some fault) = []

-- what is written next
abbrev pub next_text : List (List ℕ) → Option Diagnostic → List ℕ
next_text [] stop = ending stop
next_text (text ∷ texts) stop = text

-- the whole code text, in an edition
abbrev pub code_text : Edition → Compilation → List ℕ
code_text edition outcome = opening edition ++ (joined outcome.code ++ ending outcome.stop)

abbrev pub letters_text : Letters → List ℕ
letters_text letters.OpenComment = codes "*/"
letters_text letters.Character = codes "ch"
letters_text letters.LongName = codes "nm"
letters_text letters.Constant = codes "ct"
letters_text letters.Syntax = codes "sx"
letters_text letters.Redeclared = codes "rd"
letters_text letters.NotLvalue = codes "lv"
letters_text letters.TooManyNames = codes ">s"
letters_text letters.TooManyCases = codes ">c"
letters_text letters.Undefined = codes "un"
letters_text letters.TooLarge = codes ">e"

abbrev pub about_text : About → List ℕ
about_text about.Nothing = []
about_text about.Case = codes " case"
about_text about.Break = codes " break"
about_text about.Default = codes " default"
about_text (about.Name name) = codes " " ++ name

-- the line of a diagnostic
abbrev pub line_of : Diagnostic → List ℕ
line_of d = letters_text d.letters ++ about_text d.about ++ codes " " ++ decimal d.line ++ codes "\n"

-- the line and the status of a fault, where there is one
abbrev pub fault_text : Option Diagnostic → List ℕ
fault_text None = []
fault_text (Some d) = line_of d

abbrev pub fault_status : Option Diagnostic → ℕ
fault_status None = 0
fault_status (Some d) = 1

abbrev pub status_of : EndFault → ℕ
status_of end_fault.Device = 133
status_of end_fault.Memory = 134

-- the outcome of each source that begins with the bytes taken, or of the one whose end was seen, is so
abbrev pub Whatever : Edition → List ℕ → Incoming → (Compilation → Type 0) → Type 0
Whatever edition taken end P =
    (more : List ℕ) → CanFollow end more → (r : Compilation) → CompilesTo [] (tokens_from edition 1 (taken ++ more)) r
    → P r

-- Of the bytes taken all but two at most end with a token of the source, and a program of so many definitions begins
-- with the tokens before that one.
pub record TakenUpTo (edition : Edition) (taken more : List ℕ) (count : ℕ) : Type 0 where
  pub before : List Placed
  pub held : Placed
  pub line : ℕ
  pub looked : List ℕ
  pub ahead : List ℕ
  pub split : taken ≡ looked ++ ahead
  pub few : length ahead ≤ 2
  pub ends : EndsWith edition held.token looked
  pub tokens : tokens_from edition 1 (taken ++ more)
      ≡ before ++ token_first held.token held.line (tokens_from edition line (ahead ++ more))
  pub begun : BeginsProgram (map bare before)
  pub count_is : length begun.program.definitions ≡ count

-- the edition, the input and the two outputs, before and after, and the status
pub record Run : Type 0 where
  pub edition : Edition
  pub source : Incoming
  pub source_after : Incoming
  pub code : Outgoing
  pub code_after : Outgoing
  pub line : Outgoing
  pub line_after : Outgoing
  pub status : ℕ

-- no read failed
abbrev pub AllRead : Run → Type 0
AllRead run = run.source_after.failures ≡ run.source.failures

-- no line was written, and no count of its stream has changed
abbrev pub IsSilent : Run → Type 0
IsSilent run = run.line_after ≡ run.line

-- No more was taken than up to the token after the definition that comes after so many, but for two bytes.
abbrev pub ReadsNoFurther : Run → List ℕ → (Compilation → ℕ) → Type 0
ReadsNoFurther run taken count =
    (more : List ℕ) → CanFollow run.source_after more → (r : Compilation)
    → CompilesTo [] (tokens_from run.edition 1 (taken ++ more)) r → TakenUpTo run.edition taken more (suc (count r))

-- The code was written.
pub record IsCompiled (run : Run) (r : Compilation) : Type 0 where
  pub read : AllRead run
  pub clean : r.stop ≡ None
  pub code : Writes run.code (code_text run.edition r) run.code_after
  pub silent : IsSilent run

-- The code before a fault was written, and the line of the fault.
pub record IsFaulty (run : Run) (r : Compilation) : Type 0 where
  pub read : AllRead run
  pub fault : Diagnostic
  pub stop : r.stop ≡ Some fault
  pub code : Writes run.code (code_text run.edition r) run.code_after
  pub line : Writes run.line (line_of fault) run.line_after

-- what the text begins with and the texts of so many definitions were written, and nothing else
abbrev pub HasWritten : Run → ℕ → Compilation → Type 0
HasWritten run count r = Writes run.code (opening run.edition ++ joined (take count r.code)) run.code_after

-- A read failed. The texts of some definitions were written, and no line.
pub record SourceFailed (run : Run) (taken : List ℕ) : Type 0 where
  pub counted : Grew run.source.failures run.source_after.failures
  pub count : ℕ
  pub code : Whatever run.edition taken run.source_after (HasWritten run count)
  pub silent : IsSilent run

-- The stream of the code refused the beginning of the text in this way, before anything was read.
pub record OpeningRefused (run : Run) (taken : List ℕ) (fault : EndFault) : Type 0 where
  pub unread : (taken ≡ []) × (run.source_after ≡ run.source)
  pub some : opening run.edition ≢ []
  pub code : Refuses run.code (opening run.edition) fault run.code_after
  pub silent : IsSilent run

-- So many texts were written, and a beginning of what comes next, since the stream of the code refused the rest so.
pub record TextCutOff (run : Run) (count : ℕ) (fault : EndFault) (r : Compilation) : Type 0 where
  pub within : count ≤ length r.code
  pub before : Outgoing
  pub written : Writes run.code (opening run.edition ++ joined (take count r.code)) before
  pub some : drop count r.code ≡ [] → r.stop ≡ None
  pub refused : Refuses before (next_text (drop count r.code) r.stop) fault run.code_after

-- The stream of the code refused so what comes after some texts. No line was written.
pub record CodeRefused (run : Run) (taken : List ℕ) (fault : EndFault) : Type 0 where
  pub read : AllRead run
  pub count : ℕ
  pub code : Whatever run.edition taken run.source_after (TextCutOff run count fault)
  pub no_further : ReadsNoFurther run taken (λ r. count)
  pub silent : IsSilent run

-- All of the code was written, and a beginning of the line of the fault, since its stream refused the rest so.
pub record LineCutOff (run : Run) (fault : EndFault) (r : Compilation) : Type 0 where
  pub diagnostic : Diagnostic
  pub stop : r.stop ≡ Some diagnostic
  pub code : Writes run.code (code_text run.edition r) run.code_after
  pub line : Refuses run.line (line_of diagnostic) fault run.line_after

-- The stream of the line refused it so.
pub record LineRefused (run : Run) (taken : List ℕ) (fault : EndFault) : Type 0 where
  pub read : AllRead run
  pub written : Whatever run.edition taken run.source_after (LineCutOff run fault)
  pub no_further : ReadsNoFurther run taken (λ r. length r.code)

-- The list of names can't grow: out of memory, which no contract sees. Nothing was written of the next definition.
pub record NamesRefused (run : Run) (taken : List ℕ) : Type 0 where
  pub read : AllRead run
  pub count : ℕ
  pub code : Whatever run.edition taken run.source_after (λ r. (count < length r.code) × HasWritten run count r)
  pub no_further : ReadsNoFurther run taken (λ r. count)
  pub silent : IsSilent run

-- a stream refused so
abbrev pub EndRefused : Run → List ℕ → EndFault → Type 0
EndRefused run taken fault = OpeningRefused run taken fault ⊎ CodeRefused run taken fault ⊎ LineRefused run taken fault

-- What was written and answered is the outcome of the source. If a stream refused, the count of just that kind grew.
pub record Compiles (run : Run) : Type 0 where
  pub taken : List ℕ
  pub took : Took run.source taken run.source_after
  pub compiled : run.status ≡ 0 → Whatever run.edition taken run.source_after (IsCompiled run)
  pub faulty : run.status ≡ 1 → Whatever run.edition taken run.source_after (IsFaulty run)
  pub no_further : run.status ≡ 1 → ReadsNoFurther run taken (λ r. length r.code)
  pub failed : run.status ≡ 133 → SourceFailed run taken ⊎ EndRefused run taken end_fault.Device
  pub refused : run.status ≡ 134 → NamesRefused run taken ⊎ EndRefused run taken end_fault.Memory
  pub no_other : (run.status ≡ 0) ⊎ (run.status ≡ 1) ⊎ (run.status ≡ 133) ⊎ (run.status ≡ 134)

-- A stream tells that it gives these bytes.
pub record Tells (end : Incoming) (bytes : List ℕ) : Type 0 where
  pub left : end.left ≡ Some bytes
  pub follow : CanFollow end bytes

-- No read and no write failed, and memory did not run out.
pub record IsUndisturbed (run : Run) : Type 0 where
  pub source_read : Grew run.source.failures run.source_after.failures → ⊥
  pub code_written : Grew run.code.failures run.code_after.failures → ⊥
  pub line_written : Grew run.line.failures run.line_after.failures → ⊥
  pub not_refused : run.status ≢ 134

-- The source has an outcome in the edition.
abbrev pub HasOutcome : Edition → List ℕ → Type 0
HasOutcome edition text = (r : Compilation) × CompilesTo [] (tokens_from edition 1 text) r

-- The code and the line of this outcome were written, and its status is the answer.
pub record CompileAnswers (run : Run) (r : Compilation) : Type 0 where
  pub code : Writes run.code (code_text run.edition r) run.code_after
  pub line : Writes run.line (fault_text r.stop) run.line_after
  pub answered : run.status ≡ fault_status r.stop

-- Where nothing fails, the source has an outcome, and it is what was written and answered.
abbrev pub CompileHeadline : Run → Type 0
CompileHeadline run =
    (text : List ℕ) → Tells run.source text → IsUndisturbed run
    → HasOutcome run.edition text
    × ((r : Compilation) → CompilesTo [] (tokens_from run.edition 1 text) r → CompileAnswers run r)
