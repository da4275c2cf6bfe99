-- Promise: the things of a program to which the words of its memory belong.
use Rattle.std.specs.Prelude.{ℕ, ◌+◌, ◌-◌, ◌/◌, ◌%◌, ◌==◌, ◌||◌, ◌&&◌, Bool, false, List, [], ◌∷◌, ◌++◌}
use Rattle.std.specs.Prelude.{Option, Some, None, drop, length}
use Rattle.std.specs.Prelude.{map, max, nat_le, nat_lt, replicate, slice_index_or, unwrap_or, if◌then◌else◌}
use Rattle.std.specs.List.{flat_map}
use Rattle.blang.specs.CodeParts.{Function, function_of}
use Rattle.blang.specs.declared.code.Definition.{Definition}
use Rattle.blang.specs.declared.code.Ival.{Ival}
use Rattle.blang.specs.Layout.{DefinitionKind, Simple, address_in, addresses, shape_of, size_of, store_words}
use Rattle.bmach.specs.declared.machine.Active.{Active}
use Rattle.bparse.specs.Locals.{NamedWord}
use Rattle.btools.specs.FrameNames.{frame_seen, word_seen}
use Rattle.btools.specs.Functions.{Placed, entries_of, functions_of}
use Rattle.btools.specs.declared.names.Frame.{Frame}
use Rattle.bcareful.specs.declared.atlas as told
use Rattle.bcareful.specs.declared.thing.Owner.{Owner}
use Rattle.bcareful.specs.declared.thing.Part.{Part}
use Rattle.bcareful.specs.declared.thing.Part.TheVariants as part
use Rattle.bcareful.specs.declared.thing.Thing.{Thing}

-- so many words of the frame of a call, from this address on
abbrev pub owned : Owner → (start words : ℕ) → Thing
owned o start words =
    record { start = start; words = words; is_cut = false; depth = o.depth; number = o.number }

-- so many words of the data
abbrev pub of_data : (start words : ℕ) → (is_cut : Bool) → Thing
of_data start words is_cut = record { start = start; words = words; is_cut = is_cut; depth = 0; number = 0 }

-- whether an address is none of its words
abbrev pub is_outside : Thing → (address : ℕ) → Bool
is_outside t address = nat_lt address t.start || nat_le t.words (address - t.start)

-- whether a part of the word there comes after a string's end
abbrev pub is_past_end : Thing → Part → (address : ℕ) → Bool
is_past_end t part.Second address = t.is_cut && address - t.start + 1 == t.words
is_past_end t other address = false

-- A string ends with the word that has a byte 4.
abbrev pub ends_string : ℕ → Bool
ends_string word = word % 256 == 4 || word / 256 == 4

-- how many words the string has that begins these
abbrev pub string_words : List ℕ → ℕ
string_words [] = 0
string_words (w ∷ ws) = if ends_string w then 1 else string_words ws + 1

-- whether it ends with the first byte of a word
abbrev pub is_cut : List ℕ → Bool
is_cut [] = false
is_cut (w ∷ ws) = if ends_string w then w % 256 == 4 else is_cut ws

-- the string that begins at an offset among these words, the first of which has this address
abbrev pub string_at : (first : ℕ) → (words : List ℕ) → (offset : ℕ) → Thing
string_at first words offset =
    of_data ((first + offset) % store_words) (string_words (drop offset words)) (is_cut (drop offset words))

-- the offset of the next word that has a name, or the frame's end
abbrev pub next_offset : List NamedWord → (frame : ℕ) → ℕ
next_offset [] frame = frame
next_offset (w ∷ ws) frame = w.offset

-- A word of a frame is one of the vector after whose own word it comes, or else a thing by itself.
abbrev pub thing_among : (start : ℕ) → Owner → List NamedWord → (frame offset : ℕ) → Thing
thing_among start o [] frame offset = owned o ((start + offset) % store_words) 1
thing_among start o (w ∷ ws) frame offset =
    if nat_lt w.offset offset && nat_lt offset (next_offset ws frame)
    then owned o ((start + (w.offset + 1)) % store_words) (next_offset ws frame - (w.offset + 1))
    else thing_among start o ws frame offset

-- The parameters of a call are one thing.
abbrev pub frame_thing : Active → Owner → List NamedWord → (frame offset : ℕ) → Thing
frame_thing call o words frame offset =
    if nat_lt offset call.parameters then owned o (call.start % store_words) call.parameters
    else thing_among call.start o words frame offset

-- how many words the name of an external stands for
abbrev pub own_words : DefinitionKind → List Ival → ℕ
own_words Simple values = max 1 (length values)
own_words kind values = 1

-- the same at the address where a definition begins, and 1 at those of its other words
abbrev pub definition_extents : Definition → List ℕ
definition_extents d =
    own_words (shape_of d).kind (shape_of d).values ∷ replicate (size_of (shape_of d) - 1) 1

-- at all addresses; an external of the library has one word
abbrev pub extents_of : List Definition → List ℕ
extents_of ds = replicate 7 1 ++ flat_map definition_extents ds

-- a function, and the words of its frame that have names
pub record Site : Type 0 where
  pub function : Function
  pub words : List NamedWord

-- the one that has its string words there
abbrev pub located : List Placed → List (List NamedWord) → (strings : ℕ) → Option Site
located (f ∷ fs) (ws ∷ frames) strings =
    if f.strings == strings then Some (record { function = f.function; words = ws }) else located fs frames strings
located fs frames strings = None

-- what is known of a program: its definitions, its functions, the words of their frames, where its names lie, and how
-- many words the name of what begins at each address stands for; and whether it is found, too, where a result is no
-- word
pub record Atlas : Type 0 where
  pub definitions : List Definition
  pub functions : List Placed
  pub frames : List (List NamedWord)
  pub address_of : List ℕ → ℕ
  pub extents : List ℕ
  pub wraps : Bool

-- that of definitions, whose frames have these names
abbrev pub atlas_in : List Definition → List Frame → (wraps : Bool) → Atlas
atlas_in ds frames wraps = record {
  definitions = ds;
  functions = functions_of ds;
  frames = map frame_seen frames;
  address_of = λ x. unwrap_or (address_in (addresses (map shape_of ds)) x) 0;
  extents = extents_of ds;
  wraps = wraps;
}

abbrev pub atlas_of : told.Atlas.Atlas → Atlas
atlas_of a = record {
  definitions = a.program.now.definitions.items;
  functions = entries_of a.tables.now;
  frames = map frame_seen a.program.now.names.frames.items;
  address_of = λ x. unwrap_or (address_in a.program.now.image.addresses x) 0;
  extents = a.extents.now;
  wraps = a.wraps;
}

abbrev pub site_of : told.Site.Site → Site
site_of s = record { function = function_of s.parts.now; words = map word_seen s.words.now }

-- the thing that the external of this name is
abbrev pub external_thing : Atlas → (name : List ℕ) → Thing
external_thing a name = of_data (a.address_of name) (slice_index_or a.extents (a.address_of name) 1) false
