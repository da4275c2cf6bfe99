-- Promise: the marks of words and operands: before a run, and where a call begins.
use Rattle.std.specs.Prelude.{ℕ, zero, suc, ◌+◌, ◌-◌, ◌%◌, List, [], ◌∷◌, ◌++◌, length, map, max, nat_lt, replicate}
use Rattle.std.specs.Prelude.{slice_index_or}
use Rattle.std.specs.Prelude.{◌==◌, ◌&&◌, Bool, false, not, drop, slice_get, slice_set, take, if◌then◌else◌}
use Rattle.std.specs.Option.{option_map_or}
use Rattle.blang.specs.declared.code.Definition.{Definition}
use Rattle.blang.specs.declared.code.Ival.{Ival}
use Rattle.blang.specs.declared.code.Ival.TheVariants as ival
use Rattle.blang.specs.Layout.{DefinitionKind, Shape, Vector, shape_of, size_of, store_words, words_before_strings}
use Rattle.bcareful.specs.Things.{Atlas, external_thing, of_data, string_at}
use Rattle.bcareful.specs.declared.marks as told
use Rattle.bcareful.specs.declared.thing.Mark.{Mark}
use Rattle.bcareful.specs.declared.thing.Mark.TheVariants.{First, Of, Plain, Second, Unset}
use Rattle.bcareful.specs.declared.thing.Owner.{Owner}
use Rattle.bcareful.specs.declared.thing.Part.{Part}
use Rattle.bcareful.specs.declared.thing.Part.TheVariants as part
use Rattle.bcareful.specs.declared.thing.Thing.{Thing}

-- the marks of the operands of all calls, the topmost last, and of the words of memory; the numbers of the active
-- calls, the running one last; and the number of the next call
pub record Marks : Type 0 where
  pub operands : List Mark
  pub words : List Mark
  pub calls : List ℕ
  pub next : ℕ

abbrev pub marks_of : told.Marks.Marks → Marks
marks_of m =
    record { operands = m.operands.items; words = m.words.items; calls = m.calls.items; next = m.next }

-- the running call
abbrev pub running : (calls : List ℕ) → Owner
running calls = record { depth = length calls; number = slice_index_or calls (length calls - 1) 0 }

-- whether the call of a thing is over: it is no longer the one with so many active calls
abbrev pub is_over : (calls : List ℕ) → Thing → Bool
is_over calls t =
    nat_lt 0 t.depth && not (option_map_or (λ number. number == t.number) (slice_get calls (t.depth - 1)) false)

-- the character of a word that has this index
abbrev pub part_at : (index : ℕ) → Part
part_at index = if index % 2 == 0 then part.First else part.Second

-- the mark of a word after a part of it was set
abbrev pub with_part : Part → Mark → Mark
with_part part.First Unset = First
with_part part.First First = First
with_part part.Second Unset = Second
with_part part.Second Second = Second
with_part set mark = Plain

-- so many marks: some are left out, or these are added
abbrev pub resized : ℕ → Mark → List Mark → List Mark
resized n mark marks = take n marks ++ replicate (n - length marks) mark

-- the mark of an initial value, in a definition with these string words from an address on
abbrev pub value_mark : Atlas → (strings : ℕ) → (words : List ℕ) → Ival → Mark
value_mark a strings words (ival.Number n) = Plain
value_mark a strings words (ival.Name x) = Of (external_thing a x)
value_mark a strings words (ival.Text offset) = Of (string_at strings words offset)

-- the own word of a vector is the address of its words
abbrev pub own_marks : DefinitionKind → (address : ℕ) → List Ival → List Mark
own_marks (Vector n) address values =
    Of (of_data ((address + 1) % store_words) (max n (length values)) false) ∷ []
own_marks kind address values = []

-- the marks of the words of a definition that lies there
abbrev pub shape_marks : Atlas → (address : ℕ) → Shape → List Mark
shape_marks a address d =
    let strings = address + words_before_strings d.kind d.values in
    resized (size_of d) Plain (own_marks d.kind address d.values ++ map (value_mark a strings d.strings) d.values)

-- of definitions, one after another
abbrev pub data_marks : Atlas → (address : ℕ) → List Definition → List Mark
data_marks a address [] = []
data_marks a address (d ∷ ds) =
    shape_marks a address (shape_of d) ++ data_marks a ((address + size_of (shape_of d)) % store_words) ds

-- the marks of memory before a run: nothing has set the words after the data
abbrev pub memory_marks : Atlas → List Mark
memory_marks a = replicate 7 Plain ++ data_marks a 7 a.definitions

-- at least so many marks: nothing has set the words of those that are missing
abbrev pub grown : ℕ → List Mark → List Mark
grown n marks = marks ++ replicate (n - length marks) Unset

-- all that is known before the first call
abbrev pub unbegun : Atlas → Marks
unbegun a = record { operands = []; words = memory_marks a; calls = []; next = 0 }

-- the mark of a word of a frame where its call begins: a parameter has that of its argument
abbrev pub frame_mark : (parameters : ℕ) → (arguments : List Mark) → (offset : ℕ) → Mark
frame_mark parameters arguments offset =
    if nat_lt offset parameters then slice_index_or arguments offset Plain else Unset

-- the marks of memory where a call has begun with so many words in its frame, the first of which is there
abbrev pub begun : (parameters : ℕ) → (arguments : List Mark) → (start frame : ℕ) → List Mark → List Mark
begun parameters arguments start zero words = words
begun parameters arguments start (suc k) words =
    slice_set (begun parameters arguments start k words) (start + k) (frame_mark parameters arguments k)

-- the operands below so many, and those above
abbrev pub below : {A : Type 0} → ℕ → List A → List A
below n operands = take (length operands - n) operands

abbrev pub above : {A : Type 0} → ℕ → List A → List A
above n operands = drop (length operands - n) operands

-- the mark of the operand that has so many above it
abbrev pub operand_mark : ℕ → List Mark → Mark
operand_mark n operands = slice_index_or operands (length operands - (n + 1)) Plain
