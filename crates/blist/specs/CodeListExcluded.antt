-- Promise: what no listing of a code text is, of each text and whatever its ends do.
use Rattle.std.specs.Prelude.{◌≡◌, ℕ, List, [], Option, Some, None, ◌⊎◌}
use Rattle.bword.specs.ByteEnds.{Grew, Writes}
use Rattle.bcode.specs.Faults.{IsFaultLine}
use Rattle.blang.specs.declared.code.Definition.{Definition}
use Rattle.blang.specs.declared.run.LoadFault.{LoadFault}
use Rattle.blang.specs.declared.run.Report.TheVariants as report
use Rattle.blang.specs.declared.status.TheConstants.{DEVICE, DONE, FAULT, REFUSED, WRONG_COMMAND}
use Rattle.blang.specs.Layout.{load_fault}
use Rattle.blang.specs.Machine.{image_of}
use Rattle.blang.specs.Reports.{report_text}
use Rattle.blang.specs.Text.{IsCodeText}
use Rattle.btools.specs.CodesExcluded.{IsUnsuited}
use Rattle.btools.specs.NamedFrames.{HasFrames}
use Rattle.btools.specs.Origins.{Code, beside}
use Rattle.btools.specs.PlaceLines.{CodeText, HasPlaceLines}
use Rattle.btools.specs.Programs.{ToldEnds, load_line}
use Rattle.btools.specs.declared.names.Frame.{Frame}
use Rattle.blist.specs.declared.listing.TheConstants.{UNDEFINED}
use Rattle.blist.specs.Listings.{Lists, list_text, wanted}

module _ (c : CodeText) (source : List ℕ) (name : Option (List ℕ)) (ends : ToldEnds) where
  abbrev pub Gives : (status : ℕ) → Type 0
  Gives status = Lists (Code c) source name ends status

  -- What is excluded of a listing of a code text of these definitions.
  pub record WrongTextListings (ds : List Definition) : Type 0 where
    -- 0 for what doesn't load, for a name that isn't defined, or with other rows, as with another line, or with other
    -- names than those of its file of names
    pub done : Gives DONE
        → (load_fault ds ≡ None) × (wanted name ds ≡ [] → ⊥)
        × ((lines : List ℕ) × (frames : List Frame) × HasPlaceLines c ds lines × HasFrames c ds frames
        × Writes ends.out (list_text (image_of ds) (beside (Code c) source) name ds lines frames) ends.out_after)
    -- 1
    pub fault : Gives FAULT → ⊥
    -- 132 for definitions that load, or with another line, or with anything else written
    pub unloaded : Gives REFUSED
        → ((f : LoadFault) × (text : List ℕ) × (load_fault ds ≡ Some f) × (load_line f ≡ Some text)
        × Writes ends.line text ends.line_after)
        × (ends.out_after ≡ ends.out)
    -- 135 for a name that is defined, and lines and names that suit the code, or with another line, or with anything
    -- else written
    pub unknown : Gives WRONG_COMMAND
        → (((wanted name ds ≡ []) × Writes ends.line UNDEFINED.now ends.line_after)
        ⊎ IsUnsuited c ds ends.line ends.line_after)
        × (ends.out_after ≡ ends.out)
    -- 133 where no write failed
    pub device : Gives DEVICE
        → Grew ends.out.failures ends.out_after.failures ⊎ Grew ends.line.failures ends.line_after.failures

  -- What is excluded of a listing of another text, of which this is the first wrong line.
  pub record WrongOtherListings (n : ℕ) : Type 0 where
    -- 0, 1 and 135
    pub done : Gives DONE → ⊥
    pub fault : Gives FAULT → ⊥
    pub unknown : Gives WRONG_COMMAND → ⊥
    -- 132 with another line, or with anything else written
    pub unread : Gives REFUSED
        → Writes ends.line (report_text (report.Code n)) ends.line_after × (ends.out_after ≡ ends.out)

pub record NoCodeListings : Type 0 where
  pub texts : (c : CodeText) (source : List ℕ) (name : Option (List ℕ)) (ends : ToldEnds) (ds : List Definition)
      → IsCodeText c.code ds → WrongTextListings c source name ends ds
  pub others : (c : CodeText) (source : List ℕ) (name : Option (List ℕ)) (ends : ToldEnds) (n : ℕ)
      → IsFaultLine c.code n → ((ds : List Definition) → IsCodeText c.code ds → ⊥)
      → WrongOtherListings c source name ends n
