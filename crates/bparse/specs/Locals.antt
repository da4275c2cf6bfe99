-- Promise: what the compiler tells of a definition beside its code: its lines, its names, and the words of its frame.
use Rattle.std.specs.Prelude.{ℕ, ◌+◌, ◌-◌, List, [], ◌∷◌, ◌++◌, length, flat_map, is_some, Bool, true, false, nat_lt}
use Rattle.std.specs.Prelude.{Option, Some, None, if◌then◌else◌}
use Rattle.blang.specs.Trees.{Definition, Function}
use Rattle.blang.specs.Walk.{Event, AutoHere}
use Rattle.blang.specs.Scan.{Entry, NameKind, Automatic, automatic_words, function_events}
use Rattle.blang.specs.Lines.{program_lines}
use Rattle.bemit.specs.Drafts.{Draft, Going}
use Rattle.bcodegen.specs.Laws.{last_scope}

-- whether a definition is a function, its names in the order in which they were first seen, and the words of its frame
pub record Locals : Type 0 where
  pub is_function : Bool
  pub names : List Entry
  pub frame : ℕ

abbrev pub is_function : Definition → Bool
is_function (Function w parameters body) = true
is_function _ = false

-- those of a definition without a fault
abbrev pub locals_of : Definition → Locals
locals_of d = record { is_function = is_function d; names = (last_scope d).names; frame = (last_scope d).frame }

-- what a draft keeps of them that has no fault and isn't too large
abbrev pub locals_in : Draft → Option Locals
locals_in (Going s (Some m)) =
    Some (record { is_function = nat_lt 0 (length m.code); names = s.names; frame = s.frame })
locals_in _ = None

-- a word of a frame that has a name, and whether it is the own word of a vector, whose words follow
pub record NamedWord : Type 0 where
  pub name : List ℕ
  pub offset : ℕ
  pub is_vector : Bool

-- Each parameter and automatic takes a word, from this one on, and a vector takes its words after its own.
abbrev pub named_from : ℕ → List Event → List NamedWord
named_from k [] = []
named_from k (AutoHere w size ∷ es) =
    record { name = w.text; offset = k; is_vector = is_some size } ∷ named_from (k + automatic_words size) es
named_from k (e ∷ es) = named_from k es

-- the words of the frame of a function, in order, and of no other definition
abbrev pub frames_in : Definition → List (List NamedWord)
frames_in (Function w parameters body) = named_from 0 (function_events parameters body) ∷ []
frames_in _ = []

-- the word of an automatic name, or else the one that follows
abbrev pub own_word : NameKind → (following : ℕ) → ℕ
own_word (Automatic word) following = word
own_word _ following = following

-- the word of the first automatic name of a table, or else the first one after the frame
abbrev pub first_named : List Entry → (frame : ℕ) → ℕ
first_named [] frame = frame
first_named (e ∷ es) frame = own_word e.kind (first_named es frame)

-- the word of a name, before those of the names after it, the first of which is this one
abbrev pub words_with : List ℕ → NameKind → (following : ℕ) → List NamedWord → List NamedWord
words_with name (Automatic word) following words =
    record { name = name; offset = word; is_vector = nat_lt 1 (following - word) } ∷ words
words_with name _ following words = words

-- the words of a frame of this size by its table of names: what takes more than one is a vector
abbrev pub table_words : List Entry → (frame : ℕ) → List NamedWord
table_words [] frame = []
table_words (e ∷ es) frame = words_with e.name e.kind (first_named es frame) (table_words es frame)

abbrev pub table_frame : Locals → List (List NamedWord)
table_frame l = if l.is_function then table_words l.names l.frame ∷ [] else []

-- the lines of instructions and initial values, and the words of the frames of functions
pub record Notes : Type 0 where
  pub lines : List ℕ
  pub frames : List (List NamedWord)

abbrev pub no_notes : Notes
no_notes = record { lines = []; frames = [] }

abbrev pub with_notes : Notes → Notes → Notes
with_notes t more = record { lines = t.lines ++ more.lines; frames = t.frames ++ more.frames }

-- those of definitions, where these are the lines of their tokens and of those after them
abbrev pub notes_of : List Definition → List ℕ → Notes
notes_of ds lines = record { lines = program_lines ds lines; frames = flat_map frames_in ds }
