-- Closed facts: the things of words, the marks after instructions, and what is found at each edge.
use Rattle.std.specs.Prelude.{◌≡◌, ℕ, List, [], ◌∷◌, ◌++◌, Option, Some, None, codes, map, refl, replicate, true, false}
use Rattle.bword.specs.declared.operators.BinOp.TheVariants as op
use Rattle.blang.specs.CodeParts.{Function}
use Rattle.blang.specs.declared.code.Definition.{Definition}
use Rattle.blang.specs.declared.code.Definition.TheVariants as definition
use Rattle.blang.specs.declared.code.Increment.{Increment}
use Rattle.blang.specs.declared.code.Increment.TheVariants.{PostDecrement, PostIncrement, PreDecrement, PreIncrement}
use Rattle.blang.specs.declared.code.Instr.{Instr}
use Rattle.blang.specs.declared.code.Instr.TheVariants as instr
use Rattle.blang.specs.declared.code.Ival.TheVariants as ival
use Rattle.bmach.specs.declared.machine.Active.{Active}
use Rattle.bparse.specs.Locals.{NamedWord}
use Rattle.bcareful.specs.Things.{Atlas, extents_of, frame_thing, is_cut, is_outside, is_past_end, of_data}
use Rattle.bcareful.specs.Things.{owned}
use Rattle.bcareful.specs.Things.{string_at, string_words}
use Rattle.bcareful.specs.Marks.{Marks, begun, data_marks, is_over, part_at, running, with_part}
use Rattle.bcareful.specs.Effects.{Moment, changed, combined, instr_effect, operands_taken}
use Rattle.bcareful.specs.Findings.{finding_of, instr_finding, wraps}
use Rattle.bcareful.specs.declared.effect.Effect.{Effect}
use Rattle.bcareful.specs.declared.effect.Effect.TheVariants.{Begins, Ends, Puts, Sets, Stores, Takes}
use Rattle.bcareful.specs.declared.finding.Finding.{Finding}
use Rattle.bcareful.specs.declared.finding.Finding.TheVariants.{Index, Low, Never, Over, Past, Wraps}
use Rattle.bcareful.specs.declared.thing.Mark.{Mark}
use Rattle.bcareful.specs.declared.thing.Mark.TheVariants.{First, Of, Plain, Second, Unset}
use Rattle.bcareful.specs.declared.thing.Owner.{Owner}
use Rattle.bcareful.specs.declared.thing.Part.TheVariants as part
use Rattle.bcareful.specs.declared.thing.Thing.{Thing}

-- a call of `f(a, b)` with `auto v 4, i`, whose frame lies at 10; it is the third call, and two are active
abbrev pub frame_words : List NamedWord
frame_words =
    record { name = codes "a"; offset = 0; is_vector = false }
    ∷ record { name = codes "b"; offset = 1; is_vector = false }
    ∷ record { name = codes "v"; offset = 2; is_vector = true }
    ∷ record { name = codes "i"; offset = 8; is_vector = false }
    ∷ []

abbrev pub f : Function
f = record {
  name = codes "f";
  parameters = 2;
  frame = 9;
  targets = [];
  strings = 1633 ∷ 1122 ∷ 4 ∷ [];
  code = [];
}

abbrev pub call : Active
call = record { strings = 8; parameters = 2; place = 0; start = 10 }

abbrev pub owner : Owner
owner = record { depth = 2; number = 2 }

abbrev pub thing : (start words : ℕ) → Thing
thing start words = owned owner start words

abbrev pub data_thing : (start words : ℕ) → Thing
data_thing start words = of_data start words false

abbrev pub v : Thing
v = thing 13 5

abbrev pub frame_of : (offset : ℕ) → Thing
frame_of offset = frame_thing call owner frame_words 9 offset

-- each word of its frame, the first and the last one of the vector among them
parameters : (frame_of 0 ≡ thing 10 2) × (frame_of 1 ≡ thing 10 2)
parameters = (refl, refl)

own_word_of_vector : frame_of 2 ≡ thing 12 1
own_word_of_vector = refl

words_of_vector : map frame_of (3 ∷ 4 ∷ 5 ∷ 6 ∷ 7 ∷ []) ≡ replicate 5 v
words_of_vector = refl

word_after_vector : frame_of 8 ≡ thing 18 1
word_after_vector = refl

last_vector : frame_thing call owner (record { name = codes "w"; offset = 2; is_vector = true } ∷ []) 9 8 ≡ thing 13 6
last_vector = refl

-- addresses around a thing
edges : map (is_outside v) (0 ∷ 12 ∷ 13 ∷ 17 ∷ 18 ∷ 65535 ∷ []) ≡ true ∷ true ∷ false ∷ false ∷ true ∷ true ∷ []
edges = refl

-- strings that end with a low and with a high byte, and one at the end of memory
strings : map string_words ((1633 ∷ 1122 ∷ 4 ∷ 9 ∷ []) ∷ (4 ∷ []) ∷ (1024 ∷ 7 ∷ []) ∷ (97 ∷ []) ∷ [])
    ≡ 2 ∷ 1 ∷ 1 ∷ 1 ∷ []
strings = refl

cut_strings : map is_cut ((1633 ∷ 1122 ∷ 4 ∷ 9 ∷ []) ∷ (4 ∷ []) ∷ (25185 ∷ 4 ∷ []) ∷ (1028 ∷ []) ∷ (97 ∷ []) ∷ [])
    ≡ false ∷ true ∷ true ∷ true ∷ false ∷ []
cut_strings = refl

string_with_offset : string_at 8 (1633 ∷ 1122 ∷ 25185 ∷ 4 ∷ []) 2 ≡ of_data 10 2 true
string_with_offset = refl

-- `"ab"` ends with the first byte of its second word, and `"a"` with the second byte of its only one
string_ends : (map (is_past_end (of_data 20 2 true) part.Second) (20 ∷ 21 ∷ 22 ∷ []) ≡ false ∷ true ∷ false ∷ [])
    × (map (λ p. is_past_end (of_data 20 2 true) p 21) (part.Whole ∷ part.First ∷ []) ≡ false ∷ false ∷ [])
    × (is_past_end (of_data 20 1 false) part.Second 20 ≡ false)
string_ends = (refl, refl, refl)

-- the call that runs, the one below it, one that was over before, and one of the same depth
active : (running (0 ∷ 2 ∷ []) ≡ owner) × (running (0 ∷ []) ≡ record { depth = 1; number = 0 })
active = (refl, refl)

over_calls : (is_over (0 ∷ 2 ∷ []) v ≡ false) × (is_over (0 ∷ 2 ∷ 3 ∷ []) v ≡ false) × (is_over (0 ∷ []) v ≡ true)
    × (is_over (0 ∷ 3 ∷ []) v ≡ true)
over_calls = (refl, refl, refl, refl)

data_is_never_over : (is_over [] (data_thing 7 1) ≡ false) × (is_over (0 ∷ 3 ∷ []) (data_thing 7 1) ≡ false)
data_is_never_over = (refl, refl)

-- the externals `x 1, v, "ab";` and `v[2] 5;`
abbrev pub externals : List Definition
externals =
    definition.Simple (record {
      name = codes "x";
      values = ival.Number 1 ∷ ival.Name (codes "v") ∷ ival.Text 0 ∷ [];
      strings = 1633 ∷ 4 ∷ [];
    })
    ∷ definition.Vector (record { name = codes "v"; words = 3; values = ival.Number 5 ∷ []; strings = [] })
    ∷ []

abbrev pub atlas : Atlas
atlas = record {
  definitions = externals;
  functions = [];
  frames = [];
  address_of = λ x. 12;
  extents = extents_of externals;
  wraps = false;
}

abbrev pub no_atlas : Atlas
no_atlas = record { definitions = []; functions = []; frames = []; address_of = λ x. 4; extents = []; wraps = true }

-- `a`, `b` and the own word of `v` are set, and so is its first word; of its third and fourth one a character alone is
abbrev pub words : List Mark
words = replicate 12 Plain ++ Of v ∷ Plain ∷ Unset ∷ First ∷ Second ∷ Unset ∷ Unset ∷ []

-- before a step with these operands, the topmost first, and their marks, the topmost last
abbrev pub before : List ℕ → List Mark → Moment
before operands marks = record {
  atlas = no_atlas;
  call = call;
  site = record { function = f; words = frame_words };
  operands = operands;
  pointed = record { counted = 32767; modified = 32767 };
  marks = record { operands = marks; words = words; calls = 0 ∷ 2 ∷ []; next = 3 };
}

-- what is found where a word is loaded, counted, stored and modified
abbrev pub on_load : ℕ → Mark → Option Finding
on_load address origin = instr_finding (before (address ∷ []) (origin ∷ [])) instr.Load

abbrev pub on_count : ℕ → Mark → Option Finding
on_count address origin = instr_finding (before (address ∷ []) (origin ∷ [])) (instr.Increment PostIncrement)

abbrev pub on_store : ℕ → Mark → Option Finding
on_store address origin = instr_finding (before (3 ∷ address ∷ []) (origin ∷ Plain ∷ [])) instr.Store

abbrev pub on_modify : ℕ → Mark → Option Finding
on_modify address origin = instr_finding (before (3 ∷ address ∷ []) (origin ∷ Plain ∷ [])) (instr.Modify op.Add)

never_set : (on_load 18 (Of (thing 18 1)) ≡ Some (Never part.Whole 18))
    × (on_count 18 (Of (thing 18 1)) ≡ Some (Never part.Whole 18))
    × (on_modify 17 (Of v) ≡ Some (Never part.Whole 17))
never_set = (refl, refl, refl)

stored_first : (on_store 17 (Of v) ≡ None) × (on_store 18 (Of (thing 18 1)) ≡ None)
stored_first = (refl, refl)

set_before : (on_load 12 (Of (thing 12 1)) ≡ None) × (on_load 13 (Of v) ≡ None) × (on_load 11 (Of (thing 10 2)) ≡ None)
    × (on_load 10 Plain ≡ None) × (on_load 7 Plain ≡ None) × (on_load 7 (Of (data_thing 7 1)) ≡ None)
set_before = (refl, refl, refl, refl, refl, refl)

library_word : on_load 4 (Of (data_thing 4 1)) ≡ None
library_word = refl

-- the words before a vector and after it, in each way; its first and its last one
index_before : (on_load 12 (Of v) ≡ Some (Index v 12)) × (on_count 12 (Of v) ≡ Some (Index v 12))
    × (on_store 12 (Of v) ≡ Some (Index v 12)) × (on_modify 12 (Of v) ≡ Some (Index v 12))
index_before = (refl, refl, refl, refl)

index_after : (on_load 18 (Of v) ≡ Some (Index v 18)) × (on_count 18 (Of v) ≡ Some (Index v 18))
    × (on_store 18 (Of v) ≡ Some (Index v 18)) × (on_modify 18 (Of v) ≡ Some (Index v 18))
index_after = (refl, refl, refl, refl)

index_within : (on_load 13 (Of v) ≡ None) × (on_store 13 (Of v) ≡ None) × (on_store 17 (Of v) ≡ None)
index_within = (refl, refl, refl)

-- the same of an external vector, of four words from 8 on
abbrev pub w : Thing
w = data_thing 8 4

external_index : (on_store 7 (Of w) ≡ Some (Index w 7)) × (on_store 8 (Of w) ≡ None) × (on_load 11 (Of w) ≡ None)
    × (on_load 12 (Of w) ≡ Some (Index w 12))
external_index = (refl, refl, refl, refl)

-- `&i + 1`, and the parameters, which are one thing
other_things : (on_load 19 (Of (thing 18 1)) ≡ Some (Index (thing 18 1) 19)) × (on_load 11 (Of (thing 10 2)) ≡ None)
    × (on_load 12 (Of (thing 10 2)) ≡ Some (Index (thing 10 2) 12))
other_things = (refl, refl, refl)

-- the first words, and those past the last frame
low_words : (on_load 6 Plain ≡ Some (Low 6)) × (on_store 0 Plain ≡ Some (Low 0)) × (on_modify 6 Unset ≡ Some (Low 6))
    × (on_store 7 Plain ≡ None)
low_words = (refl, refl, refl, refl)

past_frames : (on_load 19 Plain ≡ Some (Low 19)) × (on_store 18 Plain ≡ None)
    × (on_store 65535 Plain ≡ Some (Low 65535))
past_frames = (refl, refl, refl)

-- a word of a call that is over, wherever it lies
abbrev pub gone : Thing
gone = owned (record { depth = 2; number = 1 }) 14 1

over_frame : (on_load 14 (Of gone) ≡ Some (Over 14)) × (on_store 14 (Of gone) ≡ Some (Over 14))
    × (on_load 30 (Of gone) ≡ Some (Over 30))
    × (on_load 12 (Of (owned (record { depth = 3; number = 2 }) 12 1)) ≡ Some (Over 12))
over_frame = (refl, refl, refl, refl)

-- a word of the caller
caller_word : on_load 9 (Of (owned (record { depth = 1; number = 0 }) 9 1)) ≡ None
caller_word = refl

-- calls of `char` and `lchar` with this string and this index
abbrev pub on_char : Mark → (address index : ℕ) → Option Finding
on_char origin address index =
    instr_finding (before (index ∷ address ∷ 1 ∷ []) (Plain ∷ origin ∷ Plain ∷ [])) (instr.Call 2)

abbrev pub on_lchar : Mark → (address index : ℕ) → Option Finding
on_lchar origin address index =
    instr_finding (before (97 ∷ index ∷ address ∷ 2 ∷ []) (Plain ∷ origin ∷ Plain ∷ Plain ∷ [])) (instr.Call 3)

char_in_vector : (on_char (Of v) 13 1 ≡ None) × (on_char (Of v) 13 10 ≡ Some (Index v 18))
    × (on_char (Of v) 13 3 ≡ Some (Never part.Whole 14)) × (on_char (Of v) 12 1 ≡ Some (Index v 12))
char_in_vector = (refl, refl, refl, refl)

-- both characters of the third and the fourth word of `v`, and these words whole
half_set : (map (on_char (Of v) 13) (4 ∷ 5 ∷ 6 ∷ 7 ∷ [])
    ≡ None ∷ Some (Never part.Second 15) ∷ Some (Never part.First 16) ∷ None ∷ [])
    × (on_char (Of v) 15 1 ≡ Some (Never part.Second 15)) × (on_char (Of v) 13 2 ≡ Some (Never part.Whole 14))
    × (on_load 15 (Of v) ≡ Some (Never part.Second 15)) × (on_load 16 (Of v) ≡ Some (Never part.First 16))
    × (on_count 15 (Of v) ≡ Some (Never part.Second 15)) × (on_modify 16 (Of v) ≡ Some (Never part.First 16))
    × (on_store 15 (Of v) ≡ None) × (on_char First 13 4 ≡ None) × (on_char Second 0 13 ≡ Some (Low 6))
half_set = (refl, refl, refl, refl, refl, refl, refl, refl, refl, refl)

-- which character an index is, and what is set after either: of a word that nothing has set, of one whose first or
-- second character is set, and of one that is set, even to an address
parts : map part_at (0 ∷ 1 ∷ 2 ∷ 65535 ∷ []) ≡ part.First ∷ part.Second ∷ part.First ∷ part.Second ∷ []
parts = refl

set_in_part : (map (with_part part.First) (Unset ∷ First ∷ Second ∷ Plain ∷ Of v ∷ [])
    ≡ First ∷ First ∷ Plain ∷ Plain ∷ Plain ∷ [])
    × (map (with_part part.Second) (Unset ∷ First ∷ Second ∷ Plain ∷ Of v ∷ [])
    ≡ Second ∷ Plain ∷ Second ∷ Plain ∷ Plain ∷ [])
set_in_part = (refl, refl)

lchar_in_vector : (on_lchar (Of v) 13 9 ≡ None) × (on_lchar (Of v) 13 10 ≡ Some (Index v 18))
lchar_in_vector = (refl, refl)

-- a string of two words that ends with the first byte of the second one, and one that ends with the second byte
char_in_string : (on_char (Of (of_data 8 2 true)) 8 2 ≡ None) × (on_char (Of (of_data 8 2 true)) 8 3 ≡ Some (Past 9))
    × (on_char (Of (of_data 8 2 true)) 8 4 ≡ Some (Index (of_data 8 2 true) 10))
    × (on_char (Of (of_data 8 2 false)) 8 3 ≡ None)
    × (on_lchar (Of (of_data 8 2 true)) 8 3 ≡ Some (Past 9)) × (on_load 9 (Of (of_data 8 2 true)) ≡ None)
char_in_string = (refl, refl, refl, refl, refl, refl)

char_without_string : (on_char Plain 0 13 ≡ Some (Low 6)) × (on_char Plain 0 14 ≡ None)
    × (on_lchar Plain 18 2 ≡ Some (Low 19))
char_without_string = (refl, refl, refl)

other_calls : instr_finding (before (97 ∷ 4 ∷ []) (Plain ∷ Plain ∷ [])) (instr.Call 1) ≡ None
other_calls = refl

-- results at the limits of a word, of numbers on both sides of 0
sums_that_wrap : map (λ x. wraps op.Add x 1) (0 ∷ 32766 ∷ 32767 ∷ 32768 ∷ 65535 ∷ [])
    ≡ false ∷ false ∷ true ∷ false ∷ false ∷ []
sums_that_wrap = refl

differences_that_wrap : map (λ x. wraps op.Sub x 1) (0 ∷ 32767 ∷ 32768 ∷ 32769 ∷ []) ≡ false ∷ false ∷ true ∷ false ∷ []
differences_that_wrap = refl

products_that_wrap : (wraps op.Mul 5040 8 ≡ true) × (wraps op.Mul 181 181 ≡ false) × (wraps op.Mul 182 182 ≡ true)
    × (wraps op.Mul 32768 65535 ≡ true) × (wraps op.Mul 32768 1 ≡ false) × (wraps op.Mul 65535 65535 ≡ false)
products_that_wrap = (refl, refl, refl, refl, refl, refl)

no_other_wraps : map (λ o. wraps o 32768 65535) (op.Or ∷ op.And ∷ op.Eq ∷ op.Ne ∷ op.Lt ∷ op.Le ∷ op.Gt ∷ op.Ge
    ∷ op.Shl ∷ op.Shr
    ∷ op.Rem ∷ op.Div ∷ []) ≡ replicate 12 false
no_other_wraps = refl

-- two numbers, in an expression and in a modification; and addresses, which may wrap
wraps_found : (instr_finding (before (8 ∷ 5040 ∷ []) (Plain ∷ Plain ∷ [])) (instr.Binary op.Mul)
    ≡ Some (Wraps op.Mul 5040 8))
    × (on_modify 11 (Of (thing 10 2)) ≡ Some (Wraps op.Add 32767 3))
    × (instr_finding (before (3 ∷ 32767 ∷ []) (Of v ∷ Plain ∷ [])) (instr.Binary op.Add) ≡ None)
    × (instr_finding (before (3 ∷ 32767 ∷ []) (Plain ∷ Of v ∷ [])) (instr.Binary op.Add) ≡ None)
    × (on_modify 12 (Of (thing 12 1)) ≡ None)
wraps_found = (refl, refl, refl, refl, refl)

abbrev pub each_increment : List Increment
each_increment = PreIncrement ∷ PreDecrement ∷ PostIncrement ∷ PostDecrement ∷ []

-- the greatest and the least number that are counted on and back; and an address, which may wrap
abbrev pub on_counting : (counted : ℕ) → Increment → Option Finding
on_counting counted which = instr_finding
    (record (before (11 ∷ []) (Of (thing 10 2) ∷ [])) { pointed = record { counted = counted; modified = 0 } })
    (instr.Increment which)

counts_found : (map (on_counting 32767) each_increment
    ≡ Some (Wraps op.Add 32767 1) ∷ None ∷ Some (Wraps op.Add 32767 1) ∷ None ∷ [])
    × (map (on_counting 32768) each_increment
    ≡ None ∷ Some (Wraps op.Sub 32768 1) ∷ None ∷ Some (Wraps op.Sub 32768 1) ∷ [])
    × (map (on_counting 65535) each_increment ≡ None ∷ None ∷ None ∷ None ∷ [])
    × (on_count 12 (Of (thing 12 1)) ≡ None)
counts_found = (refl, refl, refl, refl)

-- where they are not asked for
wraps_unasked : instr_finding (record {
  atlas = atlas;
  call = call;
  site = record { function = f; words = frame_words };
  operands = 8 ∷ 5040 ∷ [];
  pointed = record { counted = 0; modified = 0 };
  marks = record { operands = Plain ∷ Plain ∷ []; words = []; calls = []; next = 0 };
}) (instr.Binary op.Mul) ≡ None
wraps_unasked = refl

-- an address with a number is one of its thing, and no other sum is
sums : (combined op.Add (Of v) Plain ≡ Of v) × (combined op.Add Plain (Of v) ≡ Of v)
    × (combined op.Add (Of v) (Of v) ≡ Plain)
    × (combined op.Add Plain Plain ≡ Plain) × (combined op.Add Unset (Of v) ≡ Of v)
    × (combined op.Add (Of v) First ≡ Of v) × (combined op.Add Second (Of v) ≡ Of v)
    × (combined op.Add First Second ≡ Plain)
sums = (refl, refl, refl, refl, refl, refl, refl, refl)

differences : (combined op.Sub (Of v) Plain ≡ Of v) × (combined op.Sub Plain (Of v) ≡ Plain)
    × (combined op.Sub (Of v) (Of v) ≡ Plain) × (combined op.Sub Plain Plain ≡ Plain)
    × (combined op.Sub (Of v) Second ≡ Of v)
differences = (refl, refl, refl, refl, refl)

-- no other operator keeps a thing
other_operators : map (λ o. combined o (Of v) Plain) (op.Or ∷ op.And ∷ op.Eq ∷ op.Ne ∷ op.Lt ∷ op.Le ∷ op.Gt ∷ op.Ge
    ∷ op.Shl
    ∷ op.Shr ∷ op.Rem ∷ op.Mul ∷ op.Div ∷ []) ≡ replicate 13 Plain
other_operators = refl

-- what each kind of instruction does to the marks
abbrev pub effect : Instr → Effect
effect i = instr_effect (before (3 ∷ 12 ∷ 7 ∷ []) (Plain ∷ Of (thing 12 1) ∷ Plain ∷ [])) i

put : (effect (instr.Constant 5) ≡ Puts 0 Plain) × (effect (instr.Label 0) ≡ Puts 0 Plain)
    × (effect (instr.Automatic 4) ≡ Puts 0 (Of v))
    × (effect (instr.External (codes "putchar")) ≡ Puts 0 (Of (data_thing 4 1)))
put = (refl, refl, refl, refl)

put_string : (effect (instr.Text 0) ≡ Puts 0 (Of (of_data 8 2 false)))
    × (effect (instr.Text 2) ≡ Puts 0 (Of (of_data 10 1 true)))
put_string = (refl, refl)

load_of_vector : instr_effect (before (12 ∷ []) (Of (thing 12 1) ∷ [])) instr.Load ≡ Puts 1 (Of v)
load_of_vector = refl

-- an address that is kept elsewhere, and one that is read again from there
store : (effect instr.Store ≡ Stores 2 12 Plain)
    × (instr_effect (before (13 ∷ 18 ∷ []) (Of (thing 18 1) ∷ Of v ∷ [])) instr.Store ≡ Stores 2 18 (Of v))
    × (instr_effect (before (13 ∷ 7 ∷ []) (Of (data_thing 7 1) ∷ Of v ∷ [])) instr.Store ≡ Stores 2 7 (Of v))
store = (refl, refl, refl)

-- `v =+ 3`, `v++` and `v = v + 1` leave the thing
moved_vector : (effect (instr.Modify op.Add) ≡ Stores 2 12 (Of v))
    × (instr_effect (before (12 ∷ []) (Of (thing 12 1) ∷ [])) (instr.Increment PostIncrement) ≡ Stores 1 12 (Of v))
    × (instr_effect (before (1 ∷ 13 ∷ 12 ∷ []) (Of (thing 12 1) ∷ Of v ∷ Plain ∷ [])) (instr.Binary op.Add)
    ≡ Puts 2 (Of v))
moved_vector = (refl, refl, refl)

others : (effect (instr.Binary op.Add) ≡ Puts 2 (Of (thing 12 1))) × (effect instr.Negate ≡ Puts 1 Plain)
    × (effect instr.Not ≡ Puts 1 Plain) × (effect (instr.Jump 3) ≡ Takes 0)
others = (refl, refl, refl, refl)

taken : (effect (instr.JumpIfZero 3) ≡ Takes 1) × (effect instr.Goto ≡ Takes 1) × (effect instr.Pop ≡ Takes 1)
taken = (refl, refl, refl)

cases : (effect (instr.JumpIfCase 3 0) ≡ Takes 1) × (effect (instr.JumpIfCase 4 0) ≡ Takes 0)
cases = (refl, refl)

calls : (effect (instr.Call 2) ≡ Begins 2) × (effect (instr.Call 0) ≡ Puts 1 Plain)
    × (effect instr.Return ≡ Ends 3 Plain)
calls = (refl, refl, refl)

-- `lchar(v, i, 'a')`
abbrev pub lchar_effect : (index : ℕ) → Effect
lchar_effect index =
    instr_effect (before (97 ∷ index ∷ 13 ∷ 2 ∷ []) (Plain ∷ Of v ∷ Plain ∷ Plain ∷ [])) (instr.Call 3)

lchar_sets : map lchar_effect (0 ∷ 1 ∷ 2 ∷ 3 ∷ 4 ∷ 5 ∷ 6 ∷ 7 ∷ [])
    ≡ Sets 4 13 Plain ∷ Sets 4 13 Plain ∷ Sets 4 14 First ∷ Sets 4 14 Second ∷ Sets 4 15 First ∷ Sets 4 15 Plain
    ∷ Sets 4 16 Plain ∷ Sets 4 16 Second ∷ []
lchar_sets = refl

-- how many operands each effect takes, and steps that lack one: nothing is found there
taken_by : map operands_taken (Takes 1 ∷ Puts 2 Plain ∷ Stores 2 7 Plain ∷ Sets 4 7 First ∷ Begins 2 ∷ Ends 3 Plain
    ∷ [])
    ≡ 1 ∷ 2 ∷ 2 ∷ 4 ∷ 3 ∷ 3 ∷ []
taken_by = refl

abbrev pub found_with : List ℕ → Instr → Option Finding
found_with operands i =
    finding_of (Some (record { moment = before operands (replicate 3 Plain); instr = i }))

lacking : (found_with [] instr.Load ≡ None) × (found_with (3 ∷ []) instr.Load ≡ Some (Low 3))
    × (found_with (9 ∷ []) instr.Store ≡ None) × (found_with (9 ∷ 3 ∷ []) instr.Store ≡ Some (Low 3))
    × (found_with (9 ∷ []) (instr.Modify op.Add) ≡ None) × (found_with [] (instr.Increment PreIncrement) ≡ None)
    × (found_with (32768 ∷ []) (instr.Binary op.Sub) ≡ None)
    × (found_with (32768 ∷ 0 ∷ []) (instr.Binary op.Sub) ≡ Some (Wraps op.Sub 0 32768))
    × (found_with (1 ∷ []) (instr.Call 1) ≡ None) × (found_with (3 ∷ 1 ∷ []) (instr.Call 1) ≡ Some (Low 3))
lacking = (refl, refl, refl, refl, refl, refl, refl, refl, refl, refl)

-- a frame that is used again: its parameters have the marks of the arguments, a missing one is set, and the rest is not
used_again : begun 2 (Of v ∷ []) 1 4 (replicate 6 Plain) ≡ Plain ∷ Of v ∷ Plain ∷ Unset ∷ Unset ∷ Plain ∷ []
used_again = refl

extra_argument : begun 1 (Plain ∷ Of v ∷ []) 1 2 (Unset ∷ Unset ∷ Unset ∷ Unset ∷ [])
    ≡ Unset ∷ Plain ∷ Unset ∷ Unset ∷ []
extra_argument = refl

-- what effects do, where a call of `g(x)` with one more word in its frame runs at 1
abbrev pub after : Effect → Marks → Marks
after e m = changed e (record { strings = 9; parameters = 1; place = 0; start = 1 }) (record {
  function = record { name = codes "g"; parameters = 1; frame = 2; targets = []; strings = []; code = [] };
  words = [];
}) m

abbrev pub marks : (operands words : List Mark) → (calls : List ℕ) → (next : ℕ) → Marks
marks operands words calls next = record { operands = operands; words = words; calls = calls; next = next }

-- a call with a vector's address: the parameter has its thing, and the callee and the arguments are taken
call_begins : after (Begins 1) (marks (Unset ∷ Plain ∷ Of v ∷ []) (replicate 3 Plain) (0 ∷ []) 5)
    ≡ marks (Unset ∷ []) (Plain ∷ Of v ∷ Unset ∷ []) (0 ∷ 5 ∷ []) 6
call_begins = refl

-- words that no frame had before
call_grows : after (Begins 0) (marks (Plain ∷ []) (Plain ∷ []) [] 0) ≡ marks [] (Plain ∷ Plain ∷ Unset ∷ []) (0 ∷ []) 1
call_grows = refl

last_number : after (Begins 0) (marks (Plain ∷ []) (replicate 3 Plain) [] 4294967295)
    ≡ marks [] (Plain ∷ Plain ∷ Unset ∷ []) (4294967295 ∷ []) 0
last_number = refl

-- a return leaves its word on the caller's operands, and its call is over
call_ends : after (Ends 1 (Of v)) (marks (Plain ∷ Of v ∷ []) [] (0 ∷ 5 ∷ []) 6)
    ≡ marks (Plain ∷ Of v ∷ []) [] (0 ∷ []) 6
call_ends = refl

other_effects : (after (Takes 1) (marks (Plain ∷ Unset ∷ []) (Plain ∷ []) (0 ∷ []) 1)
    ≡ marks (Plain ∷ []) (Plain ∷ []) (0 ∷ []) 1)
    × (after (Puts 1 (Of v)) (marks (Plain ∷ Unset ∷ []) (Plain ∷ []) (0 ∷ []) 1)
    ≡ marks (Plain ∷ Of v ∷ []) (Plain ∷ []) (0 ∷ []) 1)
    × (after (Stores 2 0 (Of v)) (marks (Plain ∷ Plain ∷ []) (Unset ∷ []) (0 ∷ []) 1)
    ≡ marks (Of v ∷ []) (Of v ∷ []) (0 ∷ []) 1)
    × (after (Stores 2 0 Plain) (marks (Plain ∷ Plain ∷ []) (First ∷ []) (0 ∷ []) 1)
    ≡ marks (Plain ∷ []) (Plain ∷ []) (0 ∷ []) 1)
    × (after (Sets 2 0 First) (marks (Of v ∷ Plain ∷ Plain ∷ []) (Unset ∷ Unset ∷ []) (0 ∷ []) 1)
    ≡ marks (Of v ∷ Plain ∷ []) (First ∷ Unset ∷ []) (0 ∷ []) 1)
other_effects = (refl, refl, refl, refl, refl)

-- the sizes and the marks of its externals
external_sizes : extents_of externals ≡ replicate 7 1 ++ 3 ∷ replicate 4 1 ++ replicate 4 1
external_sizes = refl

external_marks : data_marks atlas 7 externals
    ≡ Plain ∷ Of (data_thing 12 1) ∷ Of (of_data 10 2 true) ∷ Plain ∷ Plain ∷ Of (data_thing 13 3) ∷ Plain ∷ Plain
    ∷ Plain ∷ []
external_marks = refl
