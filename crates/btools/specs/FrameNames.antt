-- Promise: the names of the words of each frame of a program, and the name that is shown of a word.
use Rattle.std.specs.Prelude.{◌≡◌, ℕ, ◌+◌, ◌==◌, ◌&&◌, ◌||◌, List, [], find, flat_map, map, Bool, Option, nat_lt}
use Rattle.std.specs.Option.{option_map}
use Rattle.bword.specs.declared.edition.Edition.{Edition}
use Rattle.blang.specs.Compiles.{Compilation, CompilesTo}
use Rattle.blang.specs.Cut.{tokens_from}
use Rattle.bparse.specs.Locals.{NamedWord, frames_in}
use Rattle.btools.specs.declared.names.Frame.{Frame}
use Rattle.btools.specs.declared.names.FrameWord.{FrameWord}

abbrev pub word_seen : FrameWord → NamedWord
word_seen w = record { name = w.name; offset = w.offset; is_vector = w.is_vector }

abbrev pub frame_seen : Frame → List NamedWord
frame_seen f = map word_seen f.words.items

-- These are the words of the frames of the functions of a source, one function after another.
abbrev pub HasNames : Edition → List ℕ → List Frame → Type 0
HasNames edition source frames =
    (r : Compilation) (g : CompilesTo [] (tokens_from edition 1 source) r)
    → map frame_seen frames ≡ flat_map frames_in g.definitions

-- a word is shown by its name, and the first word of a vector by that of the vector
abbrev pub is_shown_at : (offset : ℕ) → NamedWord → Bool
is_shown_at offset w = w.offset == offset || w.is_vector && w.offset + 1 == offset

-- the name that is shown of a word of a frame, and whether that word is the first one of a vector
abbrev pub name_shown : List NamedWord → (offset : ℕ) → Option (List ℕ × Bool)
name_shown words offset = option_map (λ w. (w.name, nat_lt w.offset offset)) (find (is_shown_at offset) words)
