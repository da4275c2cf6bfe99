-- Promise: what a run has to do with the meaning of its program, and what comes of a source that is compiled and run;
-- where nothing fails, the whole promise of `go_edition`, over streams that tell their bytes.
use Rattle.std.specs.Prelude.{◌≡◌, ◌≢◌, ℕ, ◌+◌, ◌≤◌, List, ◌++◌, map, [], Some, None}
use Rattle.bword.specs.ByteEnds.{Incoming, Outgoing, Took, Writes, CanFollow, Kept, outgoing_of, Grew}
use Rattle.bword.specs.declared.edition.Edition.{Edition}
use Rattle.blang.specs.Code.{code_of}
use Rattle.blang.specs.Trees.{Definition}
use Rattle.blang.specs.Machine.{Call, State, Running, Halted, Stuck, machine}
use Rattle.blang.specs.Reports.{Shows, RunGives, IsOwnStatus, load_number, RunEnds, HasNotRun, NotLoaded, Finishes}
use Rattle.blang.specs.Reports.{report_text}
use Rattle.blang.specs.Layout.{World, Ending, load_fault, Exited, Trapped}
use Rattle.blang.specs.declared.run.Outcome.{Outcome}
use Rattle.blang.specs.Value.{Answer, Ends, Wants}
use Rattle.blang.specs.Meaning.{meant, answer_world, IsBeginningOf, Loads}
use Rattle.blang.specs.Cut.{tokens_from}
use Rattle.blang.specs.Compiles.{CompilesTo, Compiles, HasOutcome, Tells, line_of}
use Rattle.blang.specs.declared.status.TheConstants.{DONE, MEMORY, FAULT, TRAP, LIMIT, REFUSED}
use Rattle.blang.specs.declared.run.LoadFault.{LoadFault}
use Rattle.blang.specs.declared.token.Diagnostic.{Diagnostic}
use Rattle.blang.specs.declared.run.Outcome.TheVariants as outcome
use Rattle.blang.specs.declared.run.Trap.TheVariants as trap
use Rattle.blang.specs.Compiles as compiled
use Rattle.blang.specs.Value as answer
use Rattle.blang.specs.declared.run.Report.TheVariants as report

-- A state of a machine and an answer of a program agree: the program ends as the machine has halted, or the machine
-- runs, and has written a beginning of what the program writes. No answer agrees with a machine that is stuck.
abbrev pub Agrees : State → Answer ⊥ → Type 0
Agrees (Running call below w) answer = IsBeginningOf w.output (answer_world answer).output
Agrees (Halted e w) answer = answer ≡ Ends e w
Agrees (Stuck w) answer = ⊥

-- A machine, by the number of its steps, does what a program means, by its fuel. After any number of steps it agrees
-- with the answer to one fuel more. Where the program wants more fuel, the machine still runs after as many steps or
-- more, and is then in the same world: so it writes all that the program writes. Where the program ends, it halts so at
-- some step.
pub record AsMeant (state : ℕ → State) (answer : ℕ → Answer ⊥) : Type 0 where
  pub agrees : (n : ℕ) → Agrees (state n) (answer (n + 1))
  pub keeps_up : (n : ℕ) (w : World) → answer n ≡ Wants w
      → (step : ℕ) × (call : Call) × (below : List Call) × (n ≤ step) × (state step ≡ Running call below w)
  pub done : (n : ℕ) (e : Ending) (w : World) → answer n ≡ Ends e w → (step : ℕ) × (state step ≡ Halted e w)

-- On each input, the code does what the program means.
abbrev pub RunsAsMeant : List Definition → Type 0
RunsAsMeant ds = (input : List ℕ) → AsMeant (machine (map code_of ds) input) (meant ds input)

-- Just so many steps of the program's code were made, or those up to its halt, and the code does what the program
-- means. It was never stuck, and a status of the program's own is below 128.
pub record DoesAsMeant (ds : List Definition) (steps : ℕ) (i j : Incoming) (o p : Outgoing) (result : Outcome)
    : Type 0 where
  pub made : RunGives (machine (map code_of ds)) steps i j o p result
  pub meant : RunsAsMeant ds
  pub not_stuck : result ≢ outcome.Trap trap.Stuck
  pub own_status : IsOwnStatus result

-- A program whose code doesn't load is reported. Any other is run, for so many steps at most, and does what it means.
pub data RunsProgram (steps : ℕ) (ds : List Definition) (ends : RunEnds) (status : ℕ) : Type 0 where
  refused : (f : LoadFault) (n : ℕ) → load_fault (map code_of ds) ≡ Some f → load_number f ≡ Some n → HasNotRun ends
      → NotLoaded n ends.line ends.line_after status → RunsProgram steps ds ends status
  ran : (outcome : Outcome) → Loads ds
      → DoesAsMeant ds steps ends.input ends.input_after ends.out ends.out_after outcome
      → Finishes outcome ends.line ends.line_after status → RunsProgram steps ds ends status
  no_memory : HasNotRun ends → ends.line_after ≡ ends.line → status ≡ MEMORY → RunsProgram steps ds ends status

-- the output stream that keeps the code
abbrev pub no_code : Outgoing
no_code = outgoing_of (record { bytes = []; refusals = 0 })

-- The source was compiled in the edition, and its program run.
pub record RunsSource (edition : Edition) (steps : ℕ) (source source_after : Incoming) (ends : RunEnds) (status : ℕ)
    : Type 0 where
  pub taken : List ℕ
  pub took : Took source taken source_after
  pub runs : (more : List ℕ) → CanFollow source_after more
      → (r : compiled.Compilation) → (g : CompilesTo [] (tokens_from edition 1 (taken ++ more)) r)
      → (source_after.failures ≡ source.failures) × (r.stop ≡ None) × RunsProgram steps g.definitions ends status

-- A source that isn't compiled in the edition, for a fault or a failure, is not run. The code is kept in memory, which
-- fails for want of memory alone.
pub data GoesOff (edition : Edition) (steps : ℕ) (source source_after : Incoming) (ends : RunEnds) (status : ℕ)
    : Type 0 where
  stopped : (kept : Kept) → (status ≡ DONE → ⊥) → HasNotRun ends
      → Compiles (record {
        edition = edition;
        source = source;
        source_after = source_after;
        code = no_code;
        code_after = outgoing_of kept;
        line = ends.line;
        line_after = ends.line_after;
        status = status;
      })
      → GoesOff edition steps source source_after ends status
  ran : RunsSource edition steps source source_after ends status
      → GoesOff edition steps source source_after ends status

-- No read and no write failed, and memory did not run out.
pub record NothingFailed (source source_after : Incoming) (ends : RunEnds) (status : ℕ) : Type 0 where
  pub source_read : Grew source.failures source_after.failures → ⊥
  pub input_read : Grew ends.input.failures ends.input_after.failures → ⊥
  pub output_written : Grew ends.out.failures ends.out_after.failures → ⊥
  pub line_written : Grew ends.line.failures ends.line_after.failures → ⊥
  pub not_refused : status ≢ MEMORY

-- So much input is left, these bytes and this line were written, and this is the status.
pub record Says (ends : RunEnds) (status : ℕ) (left output line : List ℕ) (answer : ℕ) : Type 0 where
  pub unread : ends.input_after.left ≡ Some left
  pub written : Writes ends.out output ends.out_after
  pub told : Writes ends.line line ends.line_after
  pub answered : status ≡ answer

-- the line and the status of a program that ends
abbrev pub line_at : Ending → List ℕ
line_at (Exited n) = []
line_at (Trapped kind) = report_text (report.Trap kind)

abbrev pub status_at : Ending → ℕ
status_at (Exited n) = n
status_at (Trapped kind) = TRAP

-- The program ends so.
pub record IsEnd
    (ds : List Definition) (input : List ℕ) (fuel : ℕ) (e : Ending) (w : World) (ends : RunEnds) (status : ℕ)
    : Type 0 where
  pub means : meant ds input fuel ≡ answer.Ends e w
  pub says : Says ends status w.input w.output (line_at e) (status_at e)

-- The limit was reached, with what just so many steps write, a beginning of what the program writes.
pub record IsLimit (ds : List Definition) (input : List ℕ) (steps : ℕ) (ends : RunEnds) (status : ℕ) : Type 0 where
  pub world : World
  pub shows : Shows outcome.Limit world.input world.output (machine (map code_of ds) input steps)
  pub begins : IsBeginningOf world.output (answer_world (meant ds input (steps + 1))).output
  pub says : Says ends status world.input world.output (report_text report.Limit) LIMIT

-- Where the code halts within so many steps, that is the end which the program means, and it is what was written and
-- answered. Else the limit is reached, as it always is where the program wants more fuel at every number. Past the
-- limit, too, the code does what the program means.
pub record RunAnswers (ds : List Definition) (input : List ℕ) (steps : ℕ) (ends : RunEnds) (status : ℕ) : Type 0 where
  pub halts : (n : ℕ) → n ≤ steps → (e : Ending) (w : World) → machine (map code_of ds) input n ≡ Halted e w
      → IsEnd ds input (n + 1) e w ends status
  pub limited : ((n : ℕ) → n ≤ steps → (e : Ending) (w : World) → machine (map code_of ds) input n ≢ Halted e w)
      → IsLimit ds input steps ends status
  pub endless : ((n : ℕ) → (w : World) × (meant ds input n ≡ Wants w)) → IsLimit ds input steps ends status
  pub as_meant : AsMeant (machine (map code_of ds) input) (meant ds input)

-- A source with a fault gets its line, and so does code that doesn't load. Any other program is run.
pub record GoAnswers
    (r : compiled.Compilation) (ds : List Definition) (input : List ℕ) (steps : ℕ) (ends : RunEnds) (status : ℕ)
    : Type 0 where
  pub faulty : (fault : Diagnostic) → r.stop ≡ Some fault → Says ends status input [] (line_of fault) FAULT
  pub refused : r.stop ≡ None → (f : LoadFault) (n : ℕ) → load_fault (map code_of ds) ≡ Some f → load_number f ≡ Some n
      → Says ends status input [] (report_text (report.Load n)) REFUSED
  pub runs : r.stop ≡ None → Loads ds → RunAnswers ds input steps ends status

-- The bytes that the source gives have an outcome in the edition, and what was written and answered is that of its
-- program on the bytes that the input gives.
abbrev pub Headline : Edition → (steps : ℕ) (source source_after : Incoming) (ends : RunEnds) (status : ℕ) → Type 0
Headline edition steps source source_after ends status =
    (text input : List ℕ) → Tells source text → Tells ends.input input → NothingFailed source source_after ends status
    → HasOutcome edition text
    × ((r : compiled.Compilation) (g : CompilesTo [] (tokens_from edition 1 text) r)
    → GoAnswers r g.definitions input steps ends status)
