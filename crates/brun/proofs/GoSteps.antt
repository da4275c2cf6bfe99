-- A source that compiles is run as its program.
use Rattle.std.proofs.Common.{◌≡◌, ℕ, List, map, refl, subst}
use Rattle.bword.specs.declared.edition.Edition.{Edition}
use Rattle.bword.specs.ByteEnds.{Incoming, Outgoing}
use Rattle.blang.specs.declared.code.Definition as coded
use Rattle.bparse.specs.CodeLists.{CompilesList, kept_of}
use Rattle.blang.specs.Code.{code_of}
use Rattle.blang.specs.Trees.{Definition}
use Rattle.brun.proofs.MeantSteps.{does_as_meant}
use Rattle.blang.specs.Headline.{RunsProgram, RunsSource, GoesOff}
use Rattle.blang.specs.Headline as going
use Rattle.blang.specs.Reports.{RunEnds, HasNotRun}
use Rattle.brun.specs.Runs.{RunsDefinitions}
use Rattle.brun.specs.Runs as runs

program_runs : (steps : ℕ) (ds : List Definition) (ends : RunEnds) (status : ℕ) → RunsDefinitions steps (map code_of ds) ends status → RunsProgram steps ds ends status
program_runs steps ds ends status (runs.refused f n h k quiet told) = going.refused f n h k quiet told
program_runs steps ds ends status (runs.ran outcome loads gives own finish) = going.ran outcome loads (does_as_meant ds loads steps _ _ _ _ outcome gives own) finish
program_runs steps ds ends status (runs.no_memory some quiet silent is) = going.no_memory quiet silent is

pub source_runs : (edition : Edition) (steps : ℕ) (source source_after : Incoming) (ends : RunEnds) (status : ℕ) (ds : List coded.Definition) (line : Outgoing)
    → CompilesList edition source source_after ds ends.line line 0
    → RunsDefinitions steps ds (record ends { line = line }) status → RunsSource edition steps source source_after ends status
source_runs edition steps source source_after ends status ds line h done = record {
  taken = h.compiles.taken;
  took = h.compiles.took;
  runs = λ more c r g.
      let compiled = h.compiles.compiled refl more c r g in
      let made = subst (λ x. RunsDefinitions steps x (record ends { line = line }) status) (h.code refl more c r g) done in
      let runs = program_runs steps g.definitions (record ends { line = line }) status made in
      (compiled.read, compiled.clean, subst (λ x. RunsProgram steps g.definitions (record ends { line = x }) status) compiled.silent runs);
}

pub goes_stopped : (edition : Edition) (steps : ℕ) (source source_after : Incoming) (ends : RunEnds) (ds : List coded.Definition) (status : ℕ) → (status ≡ 0 → ⊥) → HasNotRun ends
    → CompilesList edition source source_after ds ends.line ends.line_after status → GoesOff edition steps source source_after ends status
goes_stopped edition steps source source_after ends ds status not_zero quiet h = going.stopped (kept_of h.list) not_zero quiet h.compiles

pub goes_ran : (edition : Edition) (steps : ℕ) (source source_after : Incoming) (ends : RunEnds) (line : Outgoing) (compiled status : ℕ) (ds : List coded.Definition) → compiled ≡ 0
    → CompilesList edition source source_after ds ends.line line compiled → RunsDefinitions steps ds (record ends { line = line }) status → GoesOff edition steps source source_after ends status
goes_ran edition steps source source_after ends line compiled status ds zero h done =
    going.ran (source_runs edition steps source source_after ends status ds line (subst (λ n. CompilesList edition source source_after ds ends.line line n) zero h) done)
