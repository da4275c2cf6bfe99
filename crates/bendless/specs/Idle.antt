-- Promise: the names of the words that the conditions of a loop read, and that nothing in it changes.
use Rattle.std.specs.Prelude.{ℕ, ◌+◌, ◌%◌, ◌==◌, List, [], ◌∷◌, ◌++◌, codes, map, if◌then◌else◌}
use Rattle.std.specs.List.{flat_map}
use Rattle.blang.specs.Layout.{DefinitionKind, Simple, shape_of, size_of, store_words}
use Rattle.blang.specs.declared.code.Definition.{Definition}
use Rattle.bmach.specs.declared.machine.Active.{Active}
use Rattle.bparse.specs.Locals.{NamedWord}
use Rattle.btools.specs.FrameNames.{frame_seen}
use Rattle.btools.specs.Functions.{Placed}
use Rattle.btools.specs.declared.names.Frame.{Frame}
use Rattle.bendless.specs.Loops.{Noted, is_idle}

-- the words of the frame of the function that has its string words there, among functions with their frames
abbrev pub words_with : List Placed → List (List NamedWord) → (strings : ℕ) → List NamedWord
words_with (f ∷ fs) (words ∷ frames) strings = if f.strings == strings then words else words_with fs frames strings
words_with fs frames strings = []

abbrev pub spaced : List ℕ → List ℕ
spaced name = codes " " ++ name

-- The name of a vector stands for its words, and isn't told.
abbrev pub idle_name : Noted → (start : ℕ) → NamedWord → List ℕ
idle_name n start w =
    if w.is_vector then [] else (if is_idle n ((start + w.offset) % store_words) then spaced w.name else [])

abbrev pub frame_names : Noted → (start : ℕ) → List NamedWord → List ℕ
frame_names n start words = flat_map (idle_name n start) words

abbrev pub kind_name : DefinitionKind → (name : List ℕ) → List ℕ
kind_name Simple name = spaced name
kind_name kind name = []

-- the name of an external that lies there
abbrev pub external_name : Noted → (address : ℕ) → Definition → List ℕ
external_name n address d = if is_idle n address then kind_name (shape_of d).kind (shape_of d).name else []

abbrev pub external_names : Noted → (address : ℕ) → List Definition → List ℕ
external_names n address [] = []
external_names n address (d ∷ ds) =
    external_name n address d ++ external_names n ((address + size_of (shape_of d)) % store_words) ds

-- those of a program with these functions and frames, of a loop of this call
abbrev pub idle_names : List Placed → List Definition → List Frame → Active → Noted → List ℕ
idle_names fs ds frames call n =
    frame_names n call.start (words_with fs (map frame_seen frames) call.strings) ++ external_names n 7 ds
