-- Promise: the names of the words and labels of the functions of a code text, by its file of names.
use Rattle.std.specs.Prelude.{◌≡◌, ℕ, ◌+◌, Bool, true, false, if◌then◌else◌, List, [], ◌∷◌, ◌++◌, codes, decimal, drop}
use Rattle.std.specs.Prelude.{Option, MatchOption, Some, None, Ok, Err, filter_map, length, map, nat_lt, take}
use Rattle.bauthor.specs.NameFiles.{names_read}
use Rattle.bauthor.specs.declared.line.NameLine.{NameLine}
use Rattle.bauthor.specs.declared.line.NameLine.TheVariants as line
use Rattle.bauthor.specs.declared.fault.Wanted.{Wanted}
use Rattle.bauthor.specs.declared.fault.Wanted.TheVariants as wanted
use Rattle.blang.specs.declared.code.Definition.{Definition}
use Rattle.blang.specs.declared.code.Definition.TheVariants as definition
use Rattle.btools.specs.PlaceLines.{CodeText}
use Rattle.btools.specs.declared.names.Frame.{Frame}
use Rattle.btools.specs.declared.names.FrameWord.{FrameWord}

-- the words of a frame and the labels of its function
pub record FunctionNames : Type 0 where
  pub words : List FrameWord
  pub labels : List (List ℕ)

abbrev pub function_names : Frame → FunctionNames
function_names f = record { words = f.words.items; labels = f.labels.items }

-- Words of a vector come next.
abbrev pub is_vector : List NameLine → Bool
is_vector (line.More ∷ ls) = true
is_vector ls = false

-- the words that lines name, of which the first one is of this word of the frame
abbrev pub words_named : (offset : ℕ) → List NameLine → List FrameWord
words_named offset [] = []
words_named offset (line.Word name ∷ ls) =
    record { name = name; offset = offset; is_vector = is_vector ls } ∷ words_named (offset + 1) ls
words_named offset (l ∷ ls) = words_named (offset + 1) ls

abbrev pub label_of : NameLine → Option (List ℕ)
label_of (line.Label name) = Some name
label_of l = None

abbrev pub lines_named : List NameLine → FunctionNames
lines_named ls = record { words = words_named 0 ls; labels = filter_map label_of ls }

-- The line of a function comes before those of its words and labels. Other definitions have none.
abbrev pub own_named : Definition → List NameLine → List FunctionNames
own_named (definition.Function f) ls = lines_named (take (f.frame + length f.targets) (drop 1 ls)) ∷ []
own_named d ls = []

abbrev pub names_after : Definition → List NameLine → List NameLine
names_after (definition.Function f) ls = drop (f.frame + length f.targets) (drop 1 ls)
names_after d ls = ls

-- the names of each function
abbrev pub frames_named : List Definition → List NameLine → List FunctionNames
frames_named [] ls = []
frames_named (d ∷ ds) ls = own_named d ls ++ frames_named ds (names_after d ls)

-- These are the names that a file has for code with these definitions.
abbrev pub HasNamesIn : (file : List ℕ) → List Definition → List Frame → Type 0
HasNamesIn file ds frames =
    (ls : List NameLine) × (names_read file ds ≡ Ok ls) × (map function_names frames ≡ frames_named ds ls)

-- The names of the functions of a code text of these definitions are those of its file of names; without one there are
-- none.
abbrev pub HasFrames : CodeText → List Definition → List Frame → Type 0
HasFrames c ds frames = MatchOption c.names (frames ≡ []) (λ file. HasNamesIn file ds frames)

-- This is the first wrong line of its file of names, and what it has to be.
abbrev pub HasWrongName : CodeText → List Definition → (number : ℕ) → Wanted → Type 0
HasWrongName c ds number w =
    MatchOption c.names ⊥ (λ file. names_read file ds ≡ Err (number, w))

abbrev pub word_form : (word : ℕ) → List ℕ
word_form word = if nat_lt 0 word then codes "'a NAME' or '-', for word " else codes "'a NAME', for word "

-- what a line of a file of names has to be
abbrev pub wanted_text : Wanted → List ℕ
wanted_text (wanted.Function name) = codes "'F " ++ name ++ codes "'"
wanted_text (wanted.Word function word) = word_form word ++ decimal word ++ codes " of " ++ function
wanted_text (wanted.Label function label) = codes "'l NAME', for label " ++ decimal label ++ codes " of " ++ function
wanted_text wanted.End = codes "its end"

-- what is told of a file of names whose first wrong line has this number
abbrev pub unnamed_line : (number : ℕ) → Wanted → List ℕ
unnamed_line number w =
    codes "error: line " ++ decimal number ++ codes " of the file of names has to be " ++ wanted_text w ++ codes "\n"
