-- Promise: what the calls of the library do with a source and the files that follow it.
use Rattle.std.specs.Prelude.{◌≡◌, ◌⊎◌, ℕ, List, All, IsUtf8, Option, Some, None}
use Rattle.bword.specs.declared.edition.Edition.{Edition}
use Rattle.blang.specs.declared.status.TheConstants.{MEMORY, WRONG_COMMAND}
use Rattle.bsources.specs.FileLines.{NamedText}
use Rattle.bcheck.specs.Checks.{Checks}
use Rattle.bembed.specs.Asks.{check_of}
use Rattle.bembed.specs.Calls.{CompilesIn, GoesIn, edition_of}
use Rattle.bembed.specs.Rooms.{Filled, Overflow, Room, Untouched, fresh, stream_of}
use Rattle.bembed.specs.Wholes.{Whole, whole_of}
use Rattle.bembed.specs.declared.joined.NamedFile.{NamedFile}

-- a file of a program in C, by the type of the code
abbrev pub text_of : NamedFile → NamedText
text_of file = record { name = file.name.now; text = file.text.now }

abbrev pub AreNamed : List NamedText → Type 0
AreNamed files = All (λ it. IsUtf8 it.name) files

-- why files aren't put together: a name isn't UTF-8, or memory was refused
abbrev pub IsUnnamed : List NamedText → (status : ℕ) → Type 0
IsUnnamed files status = (AreNamed files → ⊥) × (status ≡ WRONG_COMMAND) ⊎ (status ≡ MEMORY)

-- the same of a source in an edition, which may not be one
abbrev pub IsUnread : Option Edition → List NamedText → (status : ℕ) → Type 0
IsUnread None files status = status ≡ WRONG_COMMAND
IsUnread (Some edition) files status = IsUnnamed files status

-- This is a source with its files, in the edition of that number.
pub record IsRead (number : ℕ) (source : List ℕ) (files : List NamedText) (it : Whole) : Type 0 where
  pub edition : edition_of number ≡ Some it.edition
  pub named : AreNamed files
  pub whole : it ≡ whole_of it.edition source files

-- This is done with a source and its files. Or nothing was written, since they can't be put together.
pub data AskedWith (number : ℕ) (source : List ℕ) (files : List NamedText) (out line : Room) (status : ℕ)
    (P : Whole → Type 0) : Type 0 where
  done : (it : Whole) → IsRead number source files it → P it → AskedWith number source files out line status P
  unread : Untouched out → Untouched line → IsUnread (edition_of number) files status
      → AskedWith number source files out line status P

-- A source is compiled, and its program is run, as that of one text.
abbrev pub CompilesWhole : (out line : Room) → (status : ℕ) → Whole → Type 0
CompilesWhole out line status it = CompilesIn it.text out line status it.edition

abbrev pub GoesWhole : (steps : ℕ) → (input : List ℕ) → (out line : Room) → (status : ℕ) → Whole → Type 0
GoesWhole steps input out line status it = GoesIn steps it.text input out line status it.edition

-- A source is checked, with the file of each finding, and there is no line.
pub record ChecksWhole (out line : Room) (status : ℕ) (it : Whole) : Type 0 where
  pub out_over : Overflow
  pub out_filled : Filled out out_over
  pub no_line : Untouched line
  pub checks : Checks (check_of it.edition it.files it.text fresh (stream_of out out_over) status)
