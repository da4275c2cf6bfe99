-- Promise: what is known of files, by their names.
use Rattle.std.specs.Prelude.{◌≡◌, ◌≢◌, ℕ, List, Option, IfSome}
use Rattle.clap.specs.Words.{Text}
use Rattle.bcore.specs.declared.shelf.MemFile.{MemFile}

-- Which texts are read under a name, and under which names none can be read.
pub record Holdings : Type 1 where
  pub holds : Text → List ℕ → Type 0
  pub lacks : Text → Type 0

-- one file: under its name its text is read, and no other
abbrev pub holding : MemFile → Holdings
holding file = record {
  holds = λ name text. (name ≡ file.name.now) × (text ≡ file.text.now);
  lacks = λ name. name ≢ file.name.now;
}

-- a text is all that some file gives, where the bytes of that are known
abbrev pub IsWhole : {F : Type 0} → (remaining : F → Option (List ℕ)) → (text : List ℕ) → Type 0
IsWhole {F} remaining text = (file : F) × IfSome (remaining file) (λ bytes. text ≡ bytes)

-- under each name all that some opened file gives; no contract of the system says which file a name opens, or none
abbrev pub opened : {F : Type 0} → (remaining : F → Option (List ℕ)) → Holdings
opened remaining = record { holds = λ name text. IsWhole remaining text; lacks = λ name. Unit {0} }
