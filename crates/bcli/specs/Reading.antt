-- Inner words: what was read of the code text of a program, and why it could not be.
use Rattle.std.specs.Prelude.{◌≡◌, ◌⊎◌, ℕ, List, Option, Some, None, option_map}
use Rattle.clap.specs.Words.{Text}
use Rattle.bword.specs.declared.edition.Edition.{Edition}
use Rattle.bcommand.specs.CommandLine.{OriginAsked, from_code, from_made, from_source}
use Rattle.btools.specs.Origins.{Code, Origin, Source}
use Rattle.bcli.specs.declared.origins.MadeTexts.{MadeTexts}
use Rattle.bcli.specs.declared.origins.OriginTexts.{OriginTexts}
use Rattle.bcli.specs.declared.origins.OriginTexts.TheVariants as texts
use Rattle.bcore.specs.declared.shelf.FileFault.TheVariants as file_fault
use Rattle.bcore.specs.declared.sources.NamedFault.{NamedFault}
use Rattle.bcore.specs.Shelves.{Holdings}

-- the program that is read from these texts, of a source in this edition and of this text
abbrev pub origin_read : OriginTexts → Edition → (text : List ℕ) → Origin
origin_read texts.Source edition text = Source edition
origin_read texts.Code edition text = Code (record { code = text; lines = None; source = None; names = None })
origin_read (texts.Made made) edition text = Code (record {
  code = made.code.items;
  lines = Some made.lines.items;
  source = Some text;
  names = option_map (λ v. v.items) made.names;
})

-- a file of names was read, if there is one
abbrev pub HasReadNames : Holdings → (named : Option Text) → Option (List ℕ) → Type 0
HasReadNames shelf None names = names ≡ None
HasReadNames shelf (Some named) None = ⊥
HasReadNames shelf (Some named) (Some names) = shelf.holds named names

-- a code text, its lines and its names were read
abbrev pub HasReadMade : Holdings → (made lined : Text) (named : Option Text) → MadeTexts → Type 0
HasReadMade shelf made lined named it =
    shelf.holds made it.code.items × shelf.holds lined it.lines.items
    × HasReadNames shelf named (option_map (λ v. v.items) it.names)

abbrev pub HasReadOrigin : Holdings → OriginAsked → OriginTexts → Type 0
HasReadOrigin shelf from_source it = it ≡ texts.Source
HasReadOrigin shelf from_code it = it ≡ texts.Code
HasReadOrigin shelf (from_made made lined named) it =
    (read : MadeTexts) × HasReadMade shelf made lined named read × (it ≡ texts.Made read)

-- It is the file of this name that could not be read, or there was no memory for it.
abbrev pub IsNamed : Holdings → Text → NamedFault → Type 0
IsNamed shelf name it = (it.name.now ≡ name) × (it.fault ≡ file_fault.Device → shelf.lacks name)

-- There is a file of names, and it could not be read.
abbrev pub NamesAreUnread : Holdings → (named : Option Text) → NamedFault → Type 0
NamesAreUnread shelf None it = ⊥
NamesAreUnread shelf (Some named) it = IsNamed shelf named it

-- The code text could not be read; or it was read and its lines could not be; or both were read and its names could not
-- be.
abbrev pub MadeIsUnread : Holdings → (made lined : Text) (named : Option Text) → NamedFault → Type 0
MadeIsUnread shelf made lined named it = IsNamed shelf made it
    ⊎ ((code : List ℕ) × shelf.holds made code × (IsNamed shelf lined it
    ⊎ ((lines : List ℕ) × shelf.holds lined lines × NamesAreUnread shelf named it)))

abbrev pub OriginIsUnread : Holdings → OriginAsked → NamedFault → Type 0
OriginIsUnread shelf from_source it = ⊥
OriginIsUnread shelf from_code it = ⊥
OriginIsUnread shelf (from_made made lined named) it = MadeIsUnread shelf made lined named it
