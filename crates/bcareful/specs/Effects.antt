-- Promise: what a step does to the marks of words and operands.
use Rattle.std.specs.Prelude.{ℕ, zero, suc, ◌+◌, ◌-◌, ◌%◌, ◌^◌, ◌==◌, List, [], ◌∷◌, ◌++◌, Option}
use Rattle.std.specs.Prelude.{length, nat_le, nat_lt, slice_get}
use Rattle.std.specs.Prelude.{option_and_then, option_map, reverse, slice_index, slice_index_or, slice_set}
use Rattle.std.specs.Prelude.{if◌then◌else◌}
use Rattle.std.specs.Option.{option_map_or}
use Rattle.bword.specs.Words.{byte_address}
use Rattle.bword.specs.declared.operators.BinOp.{BinOp}
use Rattle.bword.specs.declared.operators.BinOp.TheVariants.{Add, Sub}
use Rattle.blang.specs.declared.code.Instr.{Instr}
use Rattle.blang.specs.declared.code.Instr.TheVariants as instr
use Rattle.bmach.specs.Stepping.{Paused}
use Rattle.bmach.specs.Stops.{active_of}
use Rattle.bmach.specs.declared.machine.Active.{Active}
use Rattle.bwatch.specs.Sights.{Sight, Sights}
use Rattle.bcareful.specs.Things.{Atlas, Site, external_thing, frame_thing, located, site_of, atlas_of, string_at}
use Rattle.bcareful.specs.Marks.{Marks, above, begun, below, grown, marks_of, operand_mark, part_at, running, unbegun}
use Rattle.bcareful.specs.Marks.{with_part}
use Rattle.bcareful.specs.declared.effect.Effect.{Effect}
use Rattle.bcareful.specs.declared.effect.Effect.TheVariants.{Begins, Ends, Puts, Sets, Stores, Takes}
use Rattle.bcareful.specs.declared.moment as told
use Rattle.bcareful.specs.declared.moment.Pointed.{Pointed}
use Rattle.bcareful.specs.declared.thing.Mark.{Mark}
use Rattle.bcareful.specs.declared.thing.Mark.TheVariants.{Of, Plain, Unset}

-- a run before a step, in a call of a function: its operands, the topmost first; the words at the addresses that have
-- no operand above them, and one; and the marks of all
pub record Moment : Type 0 where
  pub atlas : Atlas
  pub call : Active
  pub site : Site
  pub operands : List ℕ
  pub pointed : Pointed
  pub marks : Marks

abbrev pub moment_of : told.Moment.Moment → Moment
moment_of m = record {
  atlas = atlas_of m.atlas;
  call = m.call;
  site = site_of m.site;
  operands = reverse m.operands.now;
  pointed = m.pointed;
  marks = marks_of m.marks.now;
}

-- An address with a number added, or taken from it, is one of the same thing.
abbrev pub combined : BinOp → (left right : Mark) → Mark
combined Add (Of t) (Of u) = Plain
combined Add (Of t) right = Of t
combined Add left (Of u) = Of u
combined Sub (Of t) (Of u) = Plain
combined Sub (Of t) right = Of t
combined op left right = Plain

module _ (m : Moment) where
  -- the operand that has so many above it, and its mark
  abbrev pub operand : ℕ → ℕ
  operand n = slice_index m.operands n

  abbrev pub mark : ℕ → Mark
  mark n = operand_mark n m.marks.operands

  abbrev pub word_mark : (address : ℕ) → Mark
  word_mark address = slice_index_or m.marks.words address Unset

  -- an argument of a call with so many, and its mark; one that is missing is 0
  abbrev pub argument : (count number : ℕ) → ℕ
  argument count number = if nat_lt number count then operand (count - (number + 1)) else 0

  abbrev pub argument_mark : (count number : ℕ) → Mark
  argument_mark count number = if nat_lt number count then mark (count - (number + 1)) else Plain

  -- the word that a call of `char` reads, or one of `lchar` stores
  abbrev pub character_address : (count : ℕ) → ℕ
  character_address count = byte_address (argument count 0) (argument count 1)

  -- the mark of that word after a call of `lchar`
  abbrev pub character_mark : (count : ℕ) → Mark
  character_mark count = with_part (part_at (argument count 1)) (word_mark (character_address count))

  -- Of the library `lchar` alone sets a character; its functions have the values up to 6.
  abbrev pub call_effect : (count callee : ℕ) → Effect
  call_effect count callee =
      if callee == 2 then Sets (count + 1) (character_address count) (character_mark count)
      else if nat_le callee 6 then Puts (count + 1) Plain else Begins count

  -- what an instruction does to marks
  abbrev pub instr_effect : Instr → Effect
  instr_effect (instr.Constant n) = Puts 0 Plain
  instr_effect (instr.External x) = Puts 0 (Of (external_thing m.atlas x))
  instr_effect (instr.Automatic k) =
      Puts 0 (Of (frame_thing m.call (running m.marks.calls) m.site.words m.site.function.frame k))
  instr_effect (instr.Text offset) = Puts 0 (Of (string_at m.call.strings m.site.function.strings offset))
  instr_effect (instr.Label k) = Puts 0 Plain
  instr_effect instr.Load = Puts 1 (word_mark (operand 0))
  instr_effect instr.Store = Stores 2 (operand 1) (mark 0)
  instr_effect (instr.Binary op) = Puts 2 (combined op (mark 1) (mark 0))
  instr_effect (instr.Modify op) = Stores 2 (operand 1) (combined op (word_mark (operand 1)) (mark 0))
  instr_effect instr.Negate = Puts 1 Plain
  instr_effect instr.Not = Puts 1 Plain
  instr_effect (instr.Increment which) = Stores 1 (operand 0) (word_mark (operand 0))
  instr_effect (instr.Jump t) = Takes 0
  instr_effect (instr.JumpIfZero t) = Takes 1
  instr_effect instr.Goto = Takes 1
  instr_effect (instr.JumpIfCase value t) = if operand 0 == value then Takes 1 else Takes 0
  instr_effect (instr.Call n) = call_effect n (operand n)
  instr_effect instr.Return = Ends (length m.operands) (mark 0)
  instr_effect instr.Pop = Takes 1

-- how many operands a step with this effect takes
abbrev pub operands_taken : Effect → ℕ
operands_taken (Takes n) = n
operands_taken (Puts n mark) = n
operands_taken (Stores n address mark) = n
operands_taken (Sets n address mark) = n
operands_taken (Begins n) = n + 1
operands_taken (Ends n mark) = n

-- so many operands are taken, and one is put
abbrev pub put_after : ℕ → Mark → List Mark → List Mark
put_after n mark operands = below n operands ++ mark ∷ []

-- the marks after a step with this effect, after which this call of a function runs
abbrev pub changed : Effect → Active → Site → Marks → Marks
changed (Takes n) call site m =
    record { operands = below n m.operands; words = m.words; calls = m.calls; next = m.next }
changed (Puts n mark) call site m =
    record { operands = put_after n mark m.operands; words = m.words; calls = m.calls; next = m.next }
changed (Stores n address mark) call site m = record {
  operands = put_after n mark m.operands;
  words = slice_set m.words address mark;
  calls = m.calls;
  next = m.next;
}
changed (Sets n address mark) call site m = record {
  operands = put_after n Plain m.operands;
  words = slice_set m.words address mark;
  calls = m.calls;
  next = m.next;
}
changed (Begins n) call site m = record {
  operands = below (n + 1) m.operands;
  words = begun call.parameters (above n m.operands) call.start site.function.frame
      (grown (call.start + site.function.frame) m.words);
  calls = m.calls ++ m.next ∷ [];
  next = (m.next + 1) % 2 ^ 32;
}
changed (Ends n mark) call site m = record {
  operands = put_after n mark m.operands;
  words = m.words;
  calls = below 1 m.calls;
  next = m.next;
}

-- the same, if the function of the call is known
abbrev pub changed_in : Atlas → Effect → Active → Marks → Marks
changed_in a effect call m =
    option_map_or (λ site. changed effect call site m) (located a.functions a.frames call.strings) m

-- where the run is over nothing changes
abbrev pub changed_to : Atlas → Effect → (after : Sight) → Marks → Marks
changed_to a effect after m = option_map_or (λ call. changed_in a effect call m) after.call m

-- the moment before a step, and its instruction
pub record Step : Type 0 where
  pub moment : Moment
  pub instr : Instr

abbrev pub step_of : Atlas → Active → Site → (operands : List ℕ) → Pointed → Marks → Option Step
step_of a call site operands pointed marks =
    option_map
    (λ i. record {
      moment = record {
        atlas = a;
        call = call;
        site = site;
        operands = operands;
        pointed = pointed;
        marks = marks;
      };
      instr = i;
    })
    (slice_get site.function.code call.place)

-- the next step of a call with these operands, if there is one
abbrev pub step_by : Atlas → Active → (operands : List ℕ) → Pointed → Marks → Option Step
step_by a call operands pointed marks =
    option_and_then (λ site. step_of a call site operands pointed marks) (located a.functions a.frames call.strings)

-- the words at the addresses that have no operand above them, and one
abbrev pub pointed_in : (store operands : List ℕ) → Pointed
pointed_in store operands = record {
  counted = slice_index store (slice_index operands 0);
  modified = slice_index store (slice_index operands 1);
}

-- the next step of a run that is paused
abbrev pub next_step : Atlas → Paused → Marks → Option Step
next_step a p marks =
    step_by a (active_of p.call) p.call.operands (pointed_in p.store p.call.operands) marks

-- the next step of a run as it is seen
abbrev pub step_in : Atlas → Sight → Marks → Option Step
step_in a s marks =
    option_and_then (λ call. step_by a call s.operands (pointed_in s.store s.operands) marks) s.call

-- what a step does to the marks
abbrev pub effect_of : Option Step → Effect
effect_of step = option_map_or (λ t. instr_effect t.moment t.instr) step (Takes 0)

-- the marks after so many steps; before the first one the call of the main function begins
abbrev pub marks_at : Atlas → Sights → (made : ℕ) → Marks
marks_at a sights zero = changed_to a (Begins 0) (sights 0) (unbegun a)
marks_at a sights (suc n) =
    changed_to a (effect_of (step_in a (sights n) (marks_at a sights n))) (sights (n + 1)) (marks_at a sights n)
