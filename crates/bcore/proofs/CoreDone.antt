-- What is answered to words that ask to compile or to run, by what is answered to all words.
use Rattle.std.proofs.Common.{◌≡◌, ◌⊎◌, ℕ, List, [], ◌∷◌, inl, inr}
use Rattle.std.specs.Prelude.{Option, Some, None}
use Rattle.clap.specs.Words.{IsAmong, Text}
use Rattle.clap.specs.declared.error.kind.ErrorKind.{ErrorKind}
use Rattle.blang.specs.Reports.{RunEnds}
use Rattle.blang.specs.declared.status.TheConstants.{MEMORY}
use Rattle.bcommand.specs.CommandLine.{Asked, ask, asked_in, check_by, compile, contradiction, fault_in, find, go}
use Rattle.bcommand.specs.CommandLine.{locate_code, migrate, run, verify}
use Rattle.bcore.specs.CoreJobs.{AnswersCore, DoesCore}
use Rattle.bcore.specs.Processes.{AnswersWords}
use Rattle.bcore.specs.Serves.{Does, SaysNothing, Serves, ToolsDo, did, no_memory, refused}
use Rattle.bcore.specs.Shelves.{Holdings}

core_done : (tools : ToolsDo) (shelf : Holdings) (it : Asked) (ends : RunEnds) (status : ℕ) → Does tools shelf it ends status
    → DoesCore shelf it ends status
core_done tools shelf (compile edition libs) ends status does = does
core_done tools shelf (run file steps) ends status does = does
core_done tools shelf (go source steps) ends status does = does
core_done tools shelf migrate ends status does = tt
core_done tools shelf (contradiction clash) ends status does = tt
core_done tools shelf (locate_code file steps) ends status does = tt
core_done tools shelf (verify file) ends status does = tt
core_done tools shelf (ask source question) ends status does = tt
core_done tools shelf (check_by source rules for_editor) ends status does = tt
core_done tools shelf (find it) ends status does = tt

of_no_fault : (k : ErrorKind) (faults : List ErrorKind) → IsAmong k faults → faults ≡ [] → ⊥
of_no_fault k [] among none = among
of_no_fault k (x ∷ xs) among none = cc

pub words_done : (tools : ToolsDo) (shelf : Holdings) (words : Option (List Text)) (ends : RunEnds) (status : ℕ)
    → AnswersWords tools shelf words ends status → AnswersCore shelf words ends status
words_done tools shelf None ends status answers = tt
words_done tools shelf (Some words) ends status (did right does) = λ none. inl (core_done tools shelf (asked_in words) ends status does)
words_done tools shelf (Some words) ends status (refused k among refuses) = λ none. absurd (of_no_fault k (fault_in words) among none)
words_done tools shelf (Some words) ends status (no_memory silent) = λ none. inr silent
