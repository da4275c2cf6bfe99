-- Promise: the first file of a source, in whose place another text is written, and what is told beside it.
use Rattle.std.specs.Prelude.{◌≡◌, ℕ, zero, suc, ◌-◌, ◌==◌, ◌&&◌, Bool, List, [], ◌∷◌, drop, take, if◌then◌else◌}
use Rattle.std.specs.Prelude.{nat_le}
use Rattle.bword.specs.declared.edition.Edition.{Edition}
use Rattle.bword.specs.ByteEnds.{Outgoing}
use Rattle.blang.specs.Reports.{Reported}
use Rattle.blang.specs.declared.status.TheConstants.{DONE}
use Rattle.bsources.specs.Files.{Files}
use Rattle.bfix.specs.declared.fixing.FixedText.{FixedText}

-- whether a byte is the newline after the last one of so many lines, and how many come after another byte
abbrev pub ends_lines : (lines byte : ℕ) → Bool
ends_lines lines byte = (byte == 10) && nat_le lines 1

abbrev pub lines_after : (lines byte : ℕ) → ℕ
lines_after lines byte = if byte == 10 then lines - 1 else lines

-- how many bytes so many lines have, without the newline after the last one
abbrev pub own_length : (lines : ℕ) → List ℕ → ℕ
own_length lines [] = 0
own_length lines (b ∷ bs) = if ends_lines lines b then 0 else suc (own_length (lines_after lines b) bs)

-- a source of these files, the two streams, before and after, and the status
pub record Replacing : Type 0 where
  pub edition : Edition
  pub files : Files
  pub source : List ℕ
  pub out : Outgoing
  pub out_after : Outgoing
  pub line : Outgoing
  pub line_after : Outgoing
  pub status : ℕ

-- the text of the first file, and what follows it
abbrev pub own_in : Replacing → List ℕ
own_in r = take (own_length r.files.first.lines r.source) r.source

abbrev pub rest_in : Replacing → List ℕ
rest_in r = drop (own_length r.files.first.lines r.source) r.source

-- The second text was told with this status, if the first one was written; else the status is that of the first.
abbrev pub TellsAfter : (written : ℕ) → (told : List ℕ) → (status : ℕ) → Outgoing → Outgoing → (result : ℕ) → Type 0
TellsAfter zero told status line line_after result = Reported told status line line_after result
TellsAfter (suc n) told status line line_after result = (line_after ≡ line) × (result ≡ suc n)

-- Inner words: both texts were told.
abbrev pub TellsTexts : (new told : List ℕ) → (status : ℕ) → (out out_after line line_after : Outgoing) → ℕ → Type 0
TellsTexts new told status out out_after line line_after result =
    (written : ℕ) × Reported new DONE out out_after written × TellsAfter written told status line line_after result

abbrev pub TellsBoth : FixedText → (out out_after line line_after : Outgoing) → (result : ℕ) → Type 0
TellsBoth f out out_after line line_after result =
    TellsTexts f.text f.told f.status out out_after line line_after result
