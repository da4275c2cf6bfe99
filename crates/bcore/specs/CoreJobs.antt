-- Promise: what a process is answered whose words ask to compile or to run, whatever tools its program has.
use Rattle.std.specs.Prelude.{◌≡◌, ◌⊎◌, ℕ, List, [], Option, Some, None}
use Rattle.clap.specs.Words.{Text}
use Rattle.blang.specs.Reports.{RunEnds}
use Rattle.blang.specs.declared.status.TheConstants.{MEMORY}
use Rattle.bcommand.specs.CommandLine.{Asked, asked_in, compile, fault_in, go, run}
use Rattle.bcore.specs.Serves.{CompilesInput, GoesFile, RunsFile, SaysNothing}
use Rattle.bcore.specs.Shelves.{Holdings}

-- a source was compiled, or compiled and run, or a code text was run; of what else is asked for this says nothing
abbrev pub DoesCore : Holdings → Asked → RunEnds → ℕ → Type 0
DoesCore shelf (compile edition libs) ends status = CompilesInput shelf edition libs ends status
DoesCore shelf (run file steps) ends status = RunsFile shelf file steps ends status
DoesCore shelf (go source steps) ends status = GoesFile shelf source steps ends status
DoesCore shelf _ ends status = Unit

-- what words without a fault ask for was done, or memory was refused and nothing was read or written
abbrev pub AnswersCore : Holdings → Option (List Text) → RunEnds → ℕ → Type 0
AnswersCore shelf (Some words) ends status =
    fault_in words ≡ [] → DoesCore shelf (asked_in words) ends status ⊎ SaysNothing ends status MEMORY
AnswersCore shelf None ends status = Unit
