-- Promise: what is written of a source that is fixed: what edits that mend it make of it, one after another.
use Rattle.std.specs.Prelude.{◌≡◌, ℕ, ◌*◌, ◌≤◌, IsTrue, List, [], ◌∷◌, ◌++◌, false, length, true}
use Rattle.std.specs.List.{flat_map}
use Rattle.bword.specs.declared.edition.Edition.{Edition}
use Rattle.blang.specs.Reports.{Reported}
use Rattle.blang.specs.declared.status.TheConstants.{DONE, MEMORY}
use Rattle.bsources.specs.Files.{Files, files_shown}
use Rattle.bcheck.specs.Checks.{EachOutcome, EditParts, Mends, Outcome, change_line, fault_in, mended, outcome_status}
use Rattle.bcheck.specs.Checks.{told_first}
use Rattle.bcheck.specs.Counts.{IsTally}
use Rattle.bcheck.specs.Right.{IsRight}
use Rattle.bcheck.specs.Spares.{spares}
use Rattle.bfix.specs.Due.{IsFinished, Setting}
use Rattle.bfix.specs.Keeping.{are_among, kept_of}
use Rattle.bfix.specs.LeftText.{left_text}
use Rattle.bfix.specs.OwnText.{Replacing, TellsAfter, own_in, rest_in}
use Rattle.bfix.specs.declared.fixing.FixedText.{FixedText}
use Rattle.bfix.specs.declared.fixing.Frame.{Frame}
use Rattle.bfix.specs.declared.fixing.Led.{Led}
use Rattle.bfix.specs.declared.fixing.TheConstants.{MOST_CHANGES}

-- A change of a text, which these bytes follow: an edit of both that mends them and needs no choice. The bytes that
-- follow stay, and no comment and no string is lost. What is right isn't changed.
pub record Changes (edition : Edition) (files : Files) (rest old new : List ℕ) : Type 0 where
  pub edit : EditParts (old ++ rest)
  pub makes : mended edit ≡ new ++ rest
  pub mends : EachOutcome edition (old ++ rest) (λ o. Mends o edit)
  pub keeps : IsTrue (are_among (kept_of edition (old ++ rest)) (kept_of edition (new ++ rest)))
  pub spared : spares edition (old ++ rest) (new ++ rest) edit.old ≡ true
  pub wrong : IsRight edition files (old ++ rest) → ⊥

-- The changes that these lines tell lead from a text to another one.
abbrev pub Lead : Edition → Files → (rest old : List ℕ) → (lines : List (List ℕ)) → (new : List ℕ) → Type 0
Lead edition files rest old [] new = new ≡ old
Lead edition files rest old (line ∷ lines) new =
    (next : List ℕ) × (c : Changes edition files rest old next) × (line ≡ change_line files c.edit)
    × Lead edition files rest next lines new

-- A text came of another one by some changes, at most so many. It has at most twice as many bytes.
pub record Fixed (edition : Edition) (files : Files) (rest old new : List ℕ) : Type 0 where
  pub lines : List (List ℕ)
  pub lead : Lead edition files rest old lines new
  pub few : length lines ≤ MOST_CHANGES
  pub small : length new ≤ 2 * length old

-- the text of all lines
abbrev pub all_lines : List (List ℕ) → List ℕ
all_lines lines = flat_map (λ line. line) lines

-- what is told of changes after which a source comes to this, of which so much is left: a line for each change, the
-- line of the compiler, and one that tells how much
abbrev pub all_told : (lines : List (List ℕ)) → Outcome → (count : ℕ) → List ℕ
all_told lines o count =
    (all_lines lines ++ (told_first o.stop (fault_in o)).0) ++ left_text (outcome_status o) count

-- what the text of a source that is fixed stands in
abbrev pub own_setting : Replacing → Setting
own_setting f = record { edition = f.edition; files = f.files; rest = rest_in f; most = 2 * length (own_in f) }

-- The text was written, and then the changes were told, and what is left, with the status of it; or memory was refused,
-- and nothing was written. It is left what a check of the text tells. No change is due that could still be made.
pub data Fixes (f : Replacing) : Type 0 where
  fixed : (text : List ℕ) (t : Fixed f.edition f.files (rest_in f) (own_in f) text) (written : ℕ)
      → Reported text DONE f.out f.out_after written
      → EachOutcome f.edition (text ++ rest_in f) (λ o. (count : ℕ) × IsTally o f.files count
      × TellsAfter written (all_told t.lines o count) (outcome_status o) f.line f.line_after f.status)
      → IsFinished (own_setting f) (own_in f) (length t.lines) text → Fixes f
  no_memory : f.out_after ≡ f.out → f.line_after ≡ f.line → f.status ≡ MEMORY → Fixes f

-- Inner words.

-- what was fixed, and what is told of it
pub record IsFixed (edition : Edition) (files : Files) (own rest : List ℕ) (f : FixedText) : Type 0 where
  pub fixed : Fixed edition files rest own f.text
  pub finished : IsFinished (record { edition = edition; files = files; rest = rest; most = 2 * length own }) own
      (length fixed.lines) f.text
  pub told : EachOutcome edition (f.text ++ rest) (λ o. (count : ℕ) × IsTally o files count
      × (f.told ≡ all_told fixed.lines o count) × (f.status ≡ outcome_status o))

-- what the text of a frame stands in
abbrev pub setting_of : Frame → Setting
setting_of frame = record {
  edition = frame.edition;
  files = files_shown frame.files;
  rest = frame.rest.now;
  most = frame.most;
}

-- changes led to a text, which has at most so many bytes
pub record IsLed (frame : Frame) (own : List ℕ) (l : Led) : Type 0 where
  pub lines : List (List ℕ)
  pub lead : Lead frame.edition (files_shown frame.files) frame.rest.now own lines l.text
  pub few : length lines ≤ MOST_CHANGES
  pub told : l.lines ≡ all_lines lines
  pub small : length own ≤ frame.most → length l.text ≤ frame.most

-- it was done as long as one was due, unless the text is ported
abbrev pub IsFollowed : Frame → List ℕ → Led → Type 0
IsFollowed frame own l =
    (led : IsLed frame own l)
    × (frame.is_ported ≡ false → IsFinished (setting_of frame) own (length led.lines) l.text)

-- the text and what follows it aren't right
abbrev pub IsWrong : Frame → List ℕ → Type 0
IsWrong frame text = IsRight frame.edition (files_shown frame.files) (text ++ frame.rest.now) → ⊥

-- one change made a text, which has at most so many bytes
pub record IsMade (frame : Frame) (old : List ℕ) (l : Led) : Type 0 where
  pub changes : Changes frame.edition (files_shown frame.files) frame.rest.now old l.text
  pub line : l.lines ≡ change_line (files_shown frame.files) changes.edit
  pub small : length l.text ≤ frame.most
