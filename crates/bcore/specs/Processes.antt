-- Promise: the answer to a process, whose streams are kept in order.
use Rattle.std.specs.Prelude.{◌≡◌, ◌⊎◌, ℕ, List, [], false, Option, Some, None}
use Rattle.clap.specs.Words.{Text}
use Rattle.bword.specs.ByteEnds.{Incoming, Outgoing, streamed_of}
use Rattle.blang.specs.Reports.{HasNotRun, Reported, RunEnds}
use Rattle.blang.specs.declared.status.TheConstants.{DEVICE, MEMORY, WRONG_COMMAND}
use Rattle.bcore.specs.Serves.{Serves, ToolsDo, unread_line}
use Rattle.bcore.specs.Shelves.{Holdings}

-- what is done for the words of a process over these files; the words can't be read where one isn't UTF-8
abbrev pub AnswersWords : ToolsDo → Holdings → Option (List Text) → RunEnds → ℕ → Type 0
AnswersWords tools files (Some words) ends status = Serves tools files words ends status
AnswersWords tools files None ends status =
    HasNotRun ends × Reported unread_line WRONG_COMMAND ends.line ends.line_after status

-- What is known of the streams of a process: the bytes of its input, and those that its writer of lines took, before
-- and after.
pub record KnownStreams : Type 0 where
  pub input : Option (List ℕ)
  pub line : Option (List ℕ)
  pub line_after : Option (List ℕ)

-- the end over a reader of these bytes, before its first call
abbrev pub reader_end : Option (List ℕ) → Incoming
reader_end bytes = streamed_of (record { left = bytes; is_over = false; failures = 0; given = 0; ready = [] })

-- the end over a writer that took these bytes, before its first call
abbrev pub writer_end : Option (List ℕ) → Outgoing
writer_end bytes = record { written = bytes; failures = 0; refusals = 0 }

-- A task was performed over new ends of a process, and gave the status `told`. What was held of the output was shown,
-- or the status is that of a failed write. No contract knows the bytes of the output.
pub record Performed (does : RunEnds → ℕ → Type 0) (shown : Type 0) (known : KnownStreams) (status : ℕ) : Type 0 where
  pub ends : RunEnds
  pub told : ℕ
  pub input : ends.input ≡ reader_end known.input
  pub out : ends.out ≡ writer_end None
  pub line : ends.line ≡ writer_end known.line
  pub line_after : ends.line_after.written ≡ known.line_after
  pub did : does ends told
  pub status_is : (status ≡ told) × shown ⊎ (status ≡ DEVICE)

-- a task was performed, or memory for the streams was refused and no line was written
abbrev pub PerformsTask : (does : RunEnds → ℕ → Type 0) → (shown : Type 0) → KnownStreams → ℕ → Type 0
PerformsTask does shown known status =
    Performed does shown known status ⊎ (known.line_after ≡ known.line) × (status ≡ MEMORY)
