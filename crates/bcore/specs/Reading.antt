-- Inner words: what was read of the files of a source, and why they could not be.
use Rattle.std.specs.Prelude.{◌≡◌, ℕ, List, ◌∷◌, ◌++◌}
use Rattle.clap.specs.Words.{Text}
use Rattle.bsources.specs.Files.{Followed, file_of, file_shown, followed}
use Rattle.bcommand.specs.CommandLine.{SourceAsked}
use Rattle.bcore.specs.declared.shelf.FileFault.TheVariants as file_fault
use Rattle.bcore.specs.declared.sources.NamedFault.{NamedFault}
use Rattle.bcore.specs.declared.sources.Unread.{Unread}
use Rattle.bcore.specs.declared.sources.Unread.TheVariants as unread
use Rattle.bcore.specs.declared.sources.Whole.{Whole}
use Rattle.bcore.specs.Serves.{Reads, ReadsLibs, whole}
use Rattle.bcore.specs.Shelves.{Holdings}

abbrev pub HasReadLibs : Holdings → List Text → Followed → Type 0
HasReadLibs shelf names libs = (r : ReadsLibs shelf names) × (libs ≡ followed r.texts)

-- a source was read, and this is its text, and these are its files
pub record HasReadSource (shelf : Holdings) (source : SourceAsked) (it : Whole) : Type 0 where
  pub reads : Reads shelf source
  pub text : it.text.items ≡ whole reads
  pub first : file_shown it.first ≡ file_of source.file reads.text
  pub libs : it.libs ≡ followed reads.libs.texts

-- Of these files those before one were read. That one could not be, or there was no memory for it.
pub record LibIsUnread (shelf : Holdings) (names : List Text) (it : NamedFault) : Type 0 where
  pub before : List Text
  pub after : List Text
  pub in_turn : names ≡ before ++ it.name.now ∷ after
  pub reads : ReadsLibs shelf before
  pub reason : it.fault ≡ file_fault.Device → shelf.lacks it.name.now

abbrev pub IsUnread : Holdings → SourceAsked → Unread → Type 0
IsUnread shelf source (unread.File fault) = fault ≡ file_fault.Device → shelf.lacks source.file
IsUnread shelf source (unread.Lib it) =
    (text : List ℕ) × shelf.holds source.file text × LibIsUnread shelf source.libs it
