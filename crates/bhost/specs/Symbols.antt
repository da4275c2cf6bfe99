-- Promise: what the names of a program in memory stand for.
use Rattle.std.specs.Prelude.{ℕ, ◌+◌, ◌-◌, ◌==◌, ◌&&◌, nat_le, nat_lt, Bool, false, if◌then◌else◌, List, [], ◌∷◌, ◌++◌, drop, find, get_or, length, replicate, slice_get, take}
use Rattle.std.specs.Prelude.{Option, Some, None, option_and_then, option_map}
use Rattle.bword.specs.Words.{same_name}
use Rattle.blang.specs.CodeParts.{Function}
use Rattle.blang.specs.Layout.{shape_of, size_of}
use Rattle.blang.specs.Lines as places
use Rattle.blang.specs.declared.code.Definition.{Definition}
use Rattle.blang.specs.declared.code.Definition.TheVariants as definition
use Rattle.btools.specs.declared.names.Frame.{Frame}
use Rattle.btools.specs.declared.names.FrameWord.{FrameWord}
use Rattle.btools.specs.declared.program.Program.{Program}
use Rattle.bhost.specs.Hosts.{LoadedValue}
use Rattle.bhost.specs.declared.desk.Answer.{Answer}
use Rattle.bhost.specs.declared.desk.Answer.TheVariants as answer
use Rattle.bhost.specs.declared.desk.Query.{Query}
use Rattle.bhost.specs.declared.desk.Query.TheVariants as query
use Rattle.bhost.specs.declared.desk.Symbol.{Symbol}
use Rattle.bhost.specs.declared.symbols.Entry.{Entry}
use Rattle.bhost.specs.declared.symbols.TheConstants.{AUTOMATIC, AUTOMATIC_VECTOR, FUNCTION, INSTRUCTION, LABEL, PARAMETER, SIMPLE, VECTOR}

-- a definition with its address, the names of its frame, and the lines and columns of its places
pub record Defined : Type 0 where
  pub address : ℕ
  pub definition : Definition
  pub frame : Option Frame
  pub lines : List ℕ
  pub columns : List ℕ

abbrev pub entry_shown : Entry → Defined
entry_shown e = record {
  address = e.address;
  definition = e.definition.now;
  frame = option_map (λ f. f.now) e.frame;
  lines = e.lines.now;
  columns = e.columns.now;
}

-- each function has the names of its frame, where there are some, in order
abbrev pub frame_first : Definition → List Frame → Option Frame
frame_first (definition.Function f) frames = slice_get frames 0
frame_first other frames = None

abbrev pub frames_after : Definition → List Frame → List Frame
frames_after (definition.Function f) frames = drop 1 frames
frames_after other frames = frames

-- definitions from an address on, each with what is kept of it
abbrev pub defined_from : (address : ℕ) → List Definition → List Frame → (lines columns : List ℕ) → List Defined
defined_from address [] frames lines columns = []
defined_from address (d ∷ ds) frames lines columns = record {
  address = address;
  definition = d;
  frame = frame_first d frames;
  lines = take (places.size_of d) lines;
  columns = take (places.size_of d) columns;
} ∷ defined_from (address + size_of (shape_of d)) ds (frames_after d frames) (drop (places.size_of d) lines)
    (drop (places.size_of d) columns)

-- those of a program, which begin at 7
abbrev pub defined_in : Program → List Defined
defined_in p = defined_from 7 p.definitions.items p.names.frames.items p.names.lines.items p.columns.items

-- whether a function has its string words there
abbrev pub has_strings : Definition → (address strings : ℕ) → Bool
has_strings (definition.Function f) address strings = address + 1 == strings
has_strings other address strings = false

-- whether a query is about this definition
abbrev pub answers : Query → Defined → Bool
answers (query.Named name) d = same_name (shape_of d.definition).name name
answers (query.At address) d = nat_le d.address address && nat_lt address (d.address + size_of (shape_of d.definition))
answers (query.Local strings number) d = has_strings d.definition d.address strings
answers (query.Label strings number) d = has_strings d.definition d.address strings
answers (query.Instruction strings place) d = has_strings d.definition d.address strings

-- a name with zeros after it, nine bytes in all
abbrev pub padded : List ℕ → List ℕ
padded name = name ++ replicate (9 - length name) 0

abbrev pub blank : Symbol
blank = record {
  name = replicate 9 0;
  kind = 0;
  parameters = 0;
  address = 0;
  words = 0;
  frame = 0;
  labels = 0;
  instructions = 0;
  line = 0;
  column = 0;
}

-- what a symbol of a definition has beside its address, its lines and how many words it takes
abbrev pub with_parts : Definition → Symbol → Symbol
with_parts (definition.Function f) s = record s {
  kind = FUNCTION;
  parameters = f.parameters;
  frame = f.frame;
  labels = length f.targets;
  instructions = length f.code;
}
with_parts (definition.Simple x) s = record s { kind = SIMPLE }
with_parts (definition.Vector v) s = record s { kind = VECTOR }

abbrev pub definition_symbol : Defined → Symbol
definition_symbol d = with_parts d.definition (record blank {
  name = padded (shape_of d.definition).name;
  address = d.address;
  words = size_of (shape_of d.definition);
  line = get_or d.lines 0 0;
  column = get_or d.columns 0 0;
})

abbrev pub parts_in : Definition → Option Function
parts_in (definition.Function f) = Some f
parts_in other = None

-- where the words end that belong to a named word of a frame of this size: where the next one begins
abbrev pub offset_or : Option FrameWord → (frame : ℕ) → ℕ
offset_or (Some word) frame = word.offset
offset_or None frame = frame

abbrev pub next_offset : List FrameWord → (number frame : ℕ) → ℕ
next_offset words number frame = offset_or (slice_get words (number + 1)) frame

abbrev pub local_kind : FrameWord → (parameters : ℕ) → ℕ
local_kind word parameters =
    if word.is_vector then AUTOMATIC_VECTOR else if nat_lt word.offset parameters then PARAMETER else AUTOMATIC

-- a named word of the frame of a function
abbrev pub word_symbol : Function → List FrameWord → (number : ℕ) → FrameWord → Symbol
word_symbol f words number word = record blank {
  name = padded word.name;
  kind = local_kind word f.parameters;
  address = word.offset;
  words = next_offset words number f.frame - word.offset;
}

abbrev pub local_symbol : Defined → (number : ℕ) → Option Symbol
local_symbol d number =
    option_and_then (λ f. option_and_then (λ frame.
    option_map (word_symbol f frame.words.items number) (slice_get frame.words.items number)) d.frame)
    (parts_in d.definition)

-- what is told of a place of a function: its line and its column
abbrev pub place_symbol : Defined → (name : List ℕ) → (kind place : ℕ) → Symbol
place_symbol d name kind place = record blank {
  name = name;
  kind = kind;
  address = place;
  line = get_or d.lines place 0;
  column = get_or d.columns place 0;
}

-- a label of a function
abbrev pub label_symbol : Defined → (number : ℕ) → Option Symbol
label_symbol d number =
    option_and_then (λ f. option_and_then (λ place. option_and_then (λ frame.
    option_map (λ name. place_symbol d (padded name) LABEL place) (slice_get frame.labels.items number)) d.frame)
    (slice_get f.targets number)) (parts_in d.definition)

-- an instruction of a function
abbrev pub instruction_symbol : Defined → (place : ℕ) → Option Symbol
instruction_symbol d place =
    option_and_then (λ f.
    if nat_lt place (length f.code) then Some (place_symbol d (replicate 9 0) INSTRUCTION place) else None)
    (parts_in d.definition)

-- what a query asks of the definition that it is about
abbrev pub symbol_in : Defined → Query → Option Symbol
symbol_in d (query.Named name) = Some (definition_symbol d)
symbol_in d (query.At address) = Some (definition_symbol d)
symbol_in d (query.Local strings number) = local_symbol d number
symbol_in d (query.Label strings number) = label_symbol d number
symbol_in d (query.Instruction strings place) = instruction_symbol d place

abbrev pub answer_of : Option Symbol → Answer
answer_of (Some symbol) = answer.Tells symbol
answer_of None = answer.Missing

-- what is told: of the first definition that a query is about
abbrev pub symbol_told : LoadedValue → Query → Answer
symbol_told loaded query =
    answer_of (option_and_then (λ d. symbol_in d query) (find (answers query) (defined_in loaded.program)))
