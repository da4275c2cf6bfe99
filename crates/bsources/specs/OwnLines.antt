-- Promise: the file that is told of a line is the one in whose text the line lies.
use Rattle.std.specs.Prelude.{◌≡◌, ◌⊎◌, ℕ, zero, suc, ◌+◌, ◌<◌, ◌≤◌, List, [], ◌∷◌, ◌++◌, get_or, map, None, Some}
use Rattle.bsources.specs.FileLines.{File, Files, NamedText, beyond_first, file_in, joined, later_shown, lines_in, own_line}
use Rattle.bsources.specs.declared.following.LaterFile.{LaterFile}

-- the number of the last line of each of these files, where so many lines come before them
abbrev pub ends_from : (before : ℕ) → List File → List ℕ
ends_from before [] = []
ends_from before (file ∷ rest) = (before + file.lines) ∷ ends_from (before + file.lines) rest

abbrev pub ends_of : List LaterFile → List ℕ
ends_of files = map (λ it. it.end) files

-- how many lines files have together
abbrev pub all_lines : List File → ℕ
all_lines [] = 0
all_lines (file ∷ rest) = file.lines + all_lines rest

-- The files know where they end, and how many lines they have together.
pub record HasEnds (files : List LaterFile) (lines : ℕ) : Type 0 where
  pub ends : ends_of files ≡ ends_from 0 (map later_shown files)
  pub all : lines ≡ all_lines (map later_shown files)

-- the end before a place, which is 0 before the first one
abbrev pub start_of : List ℕ → (place : ℕ) → ℕ
start_of ends zero = 0
start_of ends (suc place) = get_or ends place 0

-- The ends before this place are before the line, and the one at the place isn't, or it is the last one.
pub record IsPlaceOf (ends : List ℕ) (line last place : ℕ) : Type 0 where
  pub within : place ≤ last
  pub after : (place ≡ 0) ⊎ (start_of ends place < line)
  pub from : start_of ends place ≤ line
  pub upto : (place ≡ last) ⊎ (line ≤ get_or ends place 0)

-- the files of these texts
abbrev pub files_in : (first : NamedText) (rest : List NamedText) → Files
files_in first rest = record { first = file_in first; rest = map file_in rest }

abbrev pub texts_joined : (first : NamedText) (rest : List NamedText) → List ℕ
texts_joined first rest = joined first.text (map (λ it. it.text) rest)

-- For a place in a text, before which `u` stands there: of the line of the whole in which it is, the file of this text
-- is told, and the line in it. A text ends before the newline that comes after it.
pub record LinesLieInTheirFiles : Type 0 where
  pub first : (first : NamedText) (rest : List NamedText) (u v : List ℕ) → first.text ≡ u ++ v
      → (own_line (files_in first rest) (lines_in u) ≡ record { file = first.name; line = lines_in u })
      × (beyond_first (files_in first rest) (lines_in u) ≡ None)
  pub later : (first : NamedText) (before : List NamedText) (it : NamedText) (after : List NamedText) (u v : List ℕ)
      → it.text ≡ u ++ v
      → (own_line (files_in first (before ++ it ∷ after)) (lines_in (texts_joined first before ++ 10 ∷ u))
      ≡ record { file = it.name; line = lines_in u })
      × (beyond_first (files_in first (before ++ it ∷ after)) (lines_in (texts_joined first before ++ 10 ∷ u))
      ≡ Some (record { file = it.name; line = lines_in u }))
  -- and these bytes are those of the whole before the place
  pub whole : (first : NamedText) (before : List NamedText) (it : NamedText) (after : List NamedText) (u v : List ℕ)
      → it.text ≡ u ++ v
      → (rest : List ℕ)
      × (texts_joined first (before ++ it ∷ after) ≡ (texts_joined first before ++ 10 ∷ u) ++ (v ++ rest))
