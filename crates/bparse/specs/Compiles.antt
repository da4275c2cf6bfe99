-- Promise: what the compiler does with a whole source.
use Rattle.std.specs.Prelude.{◌≡◌, ◌≢◌, ℕ, false}
use Rattle.bparse.specs.Compilers.{Compiler, SameCompiler, CompilerGives}
use Rattle.bparse.specs.declared.step.Step.{Step}
use Rattle.bparse.specs.declared.step.Step.TheVariants as step
use Rattle.bword.specs.declared.edition.Edition.{Edition}
use Rattle.bword.specs.ByteEnds.{Incoming, Outgoing}
use Rattle.blang.specs.Compiles.{Run}

-- a run in this edition with these streams, each before and after it, with this status
abbrev pub run_of : Edition → (source source_after : Incoming) (code code_after line line_after : Outgoing) → ℕ → Run
run_of edition source source_after code code_after line line_after status = record {
  edition = edition;
  source = source;
  source_after = source_after;
  code = code;
  code_after = code_after;
  line = line;
  line_after = line_after;
  status = status;
}

-- The last of several calls answered this, and those before it that a definition was written.
pub record LastGives (first : Compiler) (answer : Step) (new : Compiler) : Type 0 where
  pub old : Compiler
  pub keeps_old : SameCompiler first old
  pub is_open : old.is_closed ≡ false
  pub not_written : answer ≢ step.Written
  pub gives : CompilerGives old answer new
  pub keeps : SameCompiler old new

-- What compiling all of the source in an edition answers, between these ends.
pub record CodeGives (edition : Edition) (i : Incoming) (o : Outgoing) (answer : Step) (j : Incoming)
    (p : Outgoing) : Type 0 where
  pub first : Compiler
  pub last : Compiler
  pub gives : LastGives first answer last
  pub edition_is : first.first.edition ≡ edition
  pub source : first.first.source ≡ i
  pub code : first.first.out ≡ o
  pub source_after : last.tokens.source.end ≡ j
  pub code_after : last.out ≡ p
