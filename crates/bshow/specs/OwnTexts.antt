-- Promise: the text of each file of a source, told apart by how many lines each has.
use Rattle.std.specs.Prelude.{◌≡◌, ℕ, ◌-◌, ◌==◌, if◌then◌else◌, List, [], ◌∷◌, map}
use Rattle.bsources.specs.Files.{File, NamedText, file_in, joined}

-- a text up to the newline that ends so many lines, and what follows that newline
abbrev pub lines_until : (count : ℕ) → List ℕ → List ℕ
lines_until count [] = []
lines_until count (b ∷ bs) =
    if b == 10 then (if count == 1 then [] else b ∷ lines_until (count - 1) bs) else b ∷ lines_until count bs

abbrev pub lines_after : (count : ℕ) → List ℕ → List ℕ
lines_after count [] = []
lines_after count (b ∷ bs) =
    if b == 10 then (if count == 1 then bs else lines_after (count - 1) bs) else lines_after count bs

-- the text of each file: so many lines, and of the last one all that is left
abbrev pub own_texts : File → List File → (source : List ℕ) → List (List ℕ)
own_texts file [] source = source ∷ []
own_texts file (next ∷ rest) source =
    lines_until file.lines source ∷ own_texts next rest (lines_after file.lines source)

abbrev pub text_of : NamedText → List ℕ
text_of it = it.text

-- The source that files make up, and how many lines each has, give back the text of each.
abbrev pub FilesReadBack : Type 0
FilesReadBack =
    (first : NamedText) (rest : List NamedText)
    → own_texts (file_in first) (map file_in rest) (joined first.text (map text_of rest))
    ≡ first.text ∷ map text_of rest
