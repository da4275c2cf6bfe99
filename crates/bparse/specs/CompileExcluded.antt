-- Promise: what the contract of compiling excludes, on small sources.
use Rattle.std.specs.Prelude.{◌≡◌, ◌≢◌, ◌⊎◌, ℕ, List, [], ◌∷◌, codes, Some, false}
use Rattle.bword.specs.declared.edition.Edition.TheVariants as editions
use Rattle.bword.specs.ByteEnds.{Grew}
use Rattle.blang.specs.Compiles.{Run, Compiles, Tells}
use Rattle.blang.specs.declared.token.Diagnostic.{Diagnostic}
use Rattle.bgrammar.specs.Reading.{after}
use Rattle.bparse.specs.Compilers.{Compiler, CompilerGives}
use Rattle.bparse.specs.declared.step.Step.TheVariants as step

-- A run in the first edition, over streams that tell their bytes, wrote this code and this line of a source, after
-- nothing, and answered this.
pub record Observed (text written told : List ℕ) (answer : ℕ) (run : Run) : Type 0 where
  pub edition : run.edition ≡ editions.One
  pub source : Tells run.source text
  pub before : (run.code.written ≡ Some []) × (run.line.written ≡ Some [])
  pub code : run.code_after.written ≡ Some written
  pub line : run.line_after.written ≡ Some told
  pub status : run.status ≡ answer

-- no run with this to be seen, where this holds of it, compiles
abbrev pub NeverWhere : (source code line : List ℕ) → ℕ → (Run → Type 0) → Type 0
NeverWhere source code line status P = (run : Run) → Observed source code line status run → P run → Compiles run → ⊥

abbrev pub Never : (source code line : List ℕ) → ℕ → Type 0
Never source code line status = NeverWhere source code line status (λ run. Unit {0})

-- no read and no write failed
abbrev pub NoneFailed : Run → Type 0
NoneFailed run =
    (Grew run.source.failures run.source_after.failures → ⊥) × (Grew run.code.failures run.code_after.failures → ⊥)
    × (Grew run.line.failures run.line_after.failures → ⊥)

-- no end was refused memory
abbrev pub NoneRefused : Run → Type 0
NoneRefused run =
    (Grew run.code.refusals run.code_after.refusals → ⊥) × (Grew run.line.refusals run.line_after.refusals → ⊥)

-- all bytes of the source were taken
abbrev pub AllTaken : Run → Type 0
AllTaken run = run.source_after.left ≡ Some []

abbrev pub NoReadFailed : Run → Type 0
NoReadFailed run = Grew run.source.failures run.source_after.failures → ⊥

abbrev pub NoLineFailed : Run → Type 0
NoLineFailed run = Grew run.line.failures run.line_after.failures → ⊥

pub record Excluded : Type 0 where
  -- the last line alone for a definition, and the source in place of its code
  pub last_line_alone : Never (codes "main(){}") (codes "E\n") [] 0
  pub source_itself : Never (codes "main(){}") (codes "main(){}") [] 0
  -- after a definition another one with a fault: the first kept back, the second written, the last line written
  pub kept_back : Never (codes "a;a;") [] (codes "rd a 1\n") 1
  pub faulty_written : Never (codes "a;a;") (codes "X a 0 0\nX a 0 0\n") (codes "rd a 1\n") 1
  pub ended : Never (codes "a;a;") (codes "X a 0 0\nE\n") (codes "rd a 1\n") 1
  -- another line, no line, and the status of a source without a fault
  pub other_line : Never (codes "a;a;") (codes "X a 0 0\n") (codes "sx 1\n") 1
  pub no_line : Never (codes "a;a;") (codes "X a 0 0\n") [] 1
  pub fault_hidden : Never (codes "a;a;") (codes "X a 0 0\n") (codes "rd a 1\n") 0
  -- a line and a fault of a source without one, and a status that there isn't
  pub line_invented : Never (codes "n 2000;") (codes "X n 1 0\nc 2000\nE\n") (codes "sx 1\n") 0
  pub fault_invented : Never (codes "n 2000;") (codes "X n 1 0\nc 2000\nE\n") (codes "sx 1\n") 1
  pub other_status : Never (codes "n 2000;") (codes "X n 1 0\nc 2000\nE\n") [] 2
  -- 0 before the end of the source was seen, and with bytes left that it doesn't have
  pub end_unseen : NeverWhere [] (codes "E\n") [] 0 (λ run. run.source_after.is_over ≡ false)
  pub bytes_invented : NeverWhere [] (codes "E\n") [] 0 (λ run. run.source_after.left ≡ Some (120 ∷ []))
  -- 0 and 1 after a read that failed
  pub failure_hidden : NeverWhere (codes "n 2000;") (codes "X n 1 0\nc 2000\nE\n") [] 0
      (λ run. run.source_after.failures ≢ run.source.failures)
  pub failure_passed : NeverWhere (codes "a;a;") (codes "X a 0 0\n") (codes "rd a 1\n") 1
      (λ run. run.source_after.failures ≢ run.source.failures)
  -- a failure where none was, and a whole line where its end took all of it
  pub failure_invented : NeverWhere (codes "n 2000;") [] [] 133 NoneFailed
  pub failure_after_line : NeverWhere (codes "a;a;") (codes "X a 0 0\n") (codes "rd a 1\n") 133
      (λ run. Grew run.line.failures run.line_after.failures → ⊥)
  -- want of memory where none is taken
  pub refusal_invented : NeverWhere [] [] [] 134 NoneRefused
  -- the last line after a read that failed
  pub last_line_early : NeverWhere (codes "a;b;c;d;") (codes "E\n") [] 133
      (λ run. (Grew run.code.failures run.code_after.failures → ⊥) × NoLineFailed run)
  -- a line that was refused before the code was written, another line that was begun, a line where memory was refused
  pub line_before_code : NeverWhere (codes "a;a;b;c;") [] [] 133
      (λ run. NoReadFailed run × (Grew run.code.failures run.code_after.failures → ⊥))
  pub line_begun_otherwise : Never (codes "a;a;b;c;") (codes "X a 0 0\n") (codes "sx") 133
  pub line_for_memory : Never (codes "a;b;c;d;") [] (codes "sx 1\n") 134
  -- a failed write of no code
  pub nothing_refused : NeverWhere (codes "#") [] [] 133 (λ run. NoReadFailed run × NoLineFailed run)
  -- a write after a read that failed, and memory refused after one
  pub two_failures : (run : Run) → run.status ≡ 133 → Compiles run → run.source_after.failures ≢ run.source.failures
      → (run.code_after.failures ≢ run.code.failures) ⊎ (run.line_after.failures ≢ run.line.failures) → ⊥
  pub failure_and_refusal : (run : Run) → run.status ≡ 134 → Compiles run
      → run.source_after.failures ≢ run.source.failures → ⊥
  -- in the second edition, something read before its first line was written
  pub read_early : (run : Run) → run.edition ≡ editions.Two
      → (run.code.written ≡ Some []) × (run.code_after.written ≡ Some []) → NoReadFailed run → run.status ≡ 133
      → Compiles run → run.source_after ≢ run.source → ⊥
  -- all of a source taken that goes on after its fault, where the line was written and where it was refused
  pub read_past : NeverWhere (codes "a;a;b;c;") (codes "X a 0 0\n") (codes "rd a 1\n") 1 AllTaken
  pub blanks_read : NeverWhere (codes "a;a;b    ") (codes "X a 0 0\n") (codes "rd a 1\n") 1 AllTaken
  pub line_late : NeverWhere (codes "a;a;b;c;") (codes "X a 0 0\n") [] 133 (λ run. AllTaken run × NoReadFailed run)
  -- no code written before the source ends: its first text was refused, and memory was
  pub all_kept : NeverWhere (codes "a;b;c;d;") [] [] 133 (λ run. AllTaken run × NoReadFailed run)
  pub names_late : NeverWhere (codes "a;b;c;d;") [] [] 134 (λ run. AllTaken run × NoneRefused run)
  -- a second token held where a fault is told
  pub read_on : (old new : Compiler) (fault : Diagnostic) → CompilerGives old (step.Fault fault) new
      → after new.tokens.ahead ≢ [] → ⊥
