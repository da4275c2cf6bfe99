-- Promise: what a page tells beside its rows.
use Rattle.std.specs.Prelude.{ℕ, ◌==◌, List, [], ◌++◌, codes, decimal, length, map, max, slice_index, zip}
use Rattle.std.specs.Prelude.{if◌then◌else◌}
use Rattle.std.specs.List.{flat_map, range_with_len}
use Rattle.blang.specs.declared.code.Definition.{Definition}
use Rattle.blang.specs.declared.code.Definition.TheVariants as definition
use Rattle.blang.specs.declared.run.Outcome.{Outcome}
use Rattle.blang.specs.declared.run.Outcome.TheVariants as outcome
use Rattle.blang.specs.declared.run.Trap.{Trap}
use Rattle.blang.specs.declared.run.Trap.TheVariants as trap
use Rattle.blang.specs.Layout.{Spot, data_end, shape_of, spots, store_words}
use Rattle.bmach.specs.declared.machine.Active.{Active}
use Rattle.bsources.specs.Files.{File, Files}
use Rattle.btools.specs.declared.names.Frame.{Frame}
use Rattle.btools.specs.declared.names.FrameWord.{FrameWord}
use Rattle.btools.specs.Characters.{signed_text}
use Rattle.bshow.specs.Escapes.{escaped}

-- the files of the source in their order, and how many lines each has
abbrev pub file_text : File → List ℕ
file_text f = codes "[\"" ++ escaped f.name ++ codes "\"," ++ decimal f.lines ++ codes "],"

abbrev pub files_text : Files → List ℕ
files_text files = codes "[" ++ file_text files.first ++ flat_map file_text files.rest ++ codes "0]"

-- a definition: where it lies, its name, and how large it is
abbrev pub definition_name : Definition → List ℕ
definition_name d = (shape_of d).name

-- how large a definition is: parameters and words of the frame of a function, the words of an external before its
-- strings, and in brackets those of a vector after its own word
abbrev pub sizes_text : Definition → List ℕ
sizes_text (definition.Function f) = codes "," ++ decimal f.parameters ++ codes "," ++ decimal f.frame
sizes_text (definition.Simple x) = codes "," ++ decimal (max 1 (length x.values))
sizes_text (definition.Vector v) = codes ",[" ++ decimal (max v.words (length v.values)) ++ codes "]"

abbrev pub definition_text : (address : ℕ) → Definition → List ℕ
definition_text address d =
    codes "[" ++ decimal address ++ codes ",\"" ++ escaped (definition_name d) ++ codes "\"" ++ sizes_text d
    ++ codes "],"

abbrev pub spot_text : Spot × Definition → List ℕ
spot_text (s, d) = definition_text s.address d

-- the definitions, and where the data end
abbrev pub definitions_text : List Definition → List ℕ
definitions_text ds =
    codes "[" ++ flat_map spot_text (zip (spots (map shape_of ds)) ds) ++ decimal (data_end (map shape_of ds))
    ++ codes "]"

-- the names of the words of frames, and which words they are
abbrev pub frame_word_text : FrameWord → List ℕ
frame_word_text w = codes "[\"" ++ escaped w.name ++ codes "\"," ++ decimal w.offset ++ codes "],"

abbrev pub frame_text : Frame → List ℕ
frame_text f = codes "[" ++ flat_map frame_word_text f.words.items ++ codes "0],"

abbrev pub frames_text : List Frame → List ℕ
frames_text frames = codes "[" ++ flat_map frame_text frames ++ codes "0]"

-- what is known before the run: the files, the source, the input that was given, the definitions and the frames
abbrev pub program_text : Files → (source given : List ℕ) → List Definition → List Frame → List ℕ
program_text files source given ds frames =
    codes "{\"parts\":" ++ files_text files ++ codes ",\"source\":\"" ++ escaped source ++ codes "\",\"given\":\""
    ++ escaped given ++ codes "\",\"definitions\":" ++ definitions_text ds ++ codes ",\"frames\":"
    ++ frames_text frames

-- the calls below the running one, the nearest first: the address of the string words, and that of the frame
abbrev pub call_text : Active → List ℕ
call_text c = codes "[" ++ decimal c.strings ++ codes "," ++ decimal c.start ++ codes "],"

abbrev pub calls_text : List Active → List ℕ
calls_text calls = codes "[" ++ flat_map call_text calls ++ codes "0]"

-- the words of memory that aren't 0, each after its address
abbrev pub some_word : (address word : ℕ) → List ℕ
some_word address word =
    if word == 0 then [] else decimal address ++ codes "," ++ signed_text word ++ codes ","

abbrev pub memory_word : (store : List ℕ) → (address : ℕ) → List ℕ
memory_word store address = some_word address (slice_index store address)

unfoldable pub all_addresses : List ℕ
all_addresses = range_with_len 0 store_words

abbrev pub memory_text : (store : List ℕ) → List ℕ
memory_text store = codes "[" ++ flat_map (memory_word store) all_addresses ++ codes "0]"

-- what is known after the run: the calls before the step after so many, the words, and what was read and written
abbrev pub run_text : (calls : List Active) → (at : ℕ) → (store heard output : List ℕ) → List ℕ
run_text calls at store heard output =
    codes ",\"calls_at\":" ++ decimal at ++ codes ",\"calls\":" ++ calls_text calls ++ codes ",\"words\":"
    ++ memory_text store ++ codes ",\"heard\":\"" ++ escaped heard ++ codes "\",\"output\":\"" ++ escaped output
    ++ codes "\""

abbrev pub no_run_text : List ℕ
no_run_text = codes ",\"calls_at\":0,\"calls\":[0],\"words\":[0],\"heard\":\"\",\"output\":\"\"}"

abbrev pub trap_words : Trap → List ℕ
trap_words trap.ZeroDivisor = codes "trap dz, a division by 0"
trap_words trap.NotAFunction = codes "trap fn, a call of a value that is no function"
trap_words trap.NotALabel = codes "trap gt, a goto to a value that is no label of its function"
trap_words trap.NoRoom = codes "trap st, a frame without room in memory"
trap_words trap.TooDeep = codes "trap dp, more than 4096 active calls"
trap_words trap.BadBase = codes "trap bs, a base of printn that isn't from 2 to 10"
trap_words trap.Stuck = codes "trap sk, a step without an instruction or operands"

-- the sentence that tells what came of so many steps
abbrev pub exit_sentence : (status made : ℕ) → List ℕ
exit_sentence status made =
    codes "The run ended with status " ++ decimal status ++ codes ", in step " ++ decimal made ++ codes "."

abbrev pub trap_sentence : (words : List ℕ) → (made : ℕ) → List ℕ
trap_sentence words made =
    codes "The run was stopped by " ++ words ++ codes ", in step " ++ decimal made ++ codes "."

abbrev pub sentence : Outcome → (made : ℕ) → List ℕ
sentence (outcome.Exit status) made = exit_sentence status made
sentence (outcome.Trap kind) made = trap_sentence (trap_words kind) made
sentence r made = codes "The run goes on after step " ++ decimal made ++ codes "."

abbrev pub unbegun_sentence : Trap → List ℕ
unbegun_sentence kind = codes "The run never began: it was stopped by " ++ trap_words kind ++ codes "."
