-- Promise: what is found at a step.
use Rattle.std.specs.Prelude.{ℕ, zero, suc, ◌+◌, ◌%◌, ◌==◌, ◌&&◌, ◌||◌, Bool, true, false, List, Option, Some, None}
use Rattle.std.specs.Prelude.{is_some, length, nat_le, nat_lt}
use Rattle.std.specs.Prelude.{option_and_then, option_map, if◌then◌else◌}
use Rattle.std.specs.Prelude.{ℤ, pos, neg_ℤ, ◌+ℤ◌, ◌-ℤ◌, ◌*ℤ◌, int_le, not}
use Rattle.std.specs.Option.{option_or}
use Rattle.bword.specs.Words.{signed_of}
use Rattle.bword.specs.declared.operators.BinOp.{BinOp}
use Rattle.bword.specs.declared.operators.BinOp.TheVariants as op
use Rattle.blang.specs.declared.code.Increment.{Increment}
use Rattle.blang.specs.declared.code.Increment.TheVariants as increment
use Rattle.blang.specs.declared.code.Instr.{Instr}
use Rattle.blang.specs.declared.code.Instr.TheVariants as instr
use Rattle.blang.specs.Machine.{Loaded, States}
use Rattle.bwatch.specs.Sights.{Sights, sights_of}
use Rattle.bcareful.specs.Things.{Atlas, is_outside, is_past_end}
use Rattle.bcareful.specs.Marks.{is_over, part_at}
use Rattle.bcareful.specs.Effects.{Moment, Step, argument, argument_mark, character_address, mark, marks_at, operand}
use Rattle.bcareful.specs.Effects.{instr_effect, operands_taken, step_in, word_mark}
use Rattle.bcareful.specs.declared.finding.Finding.{Finding}
use Rattle.bcareful.specs.declared.finding.Finding.TheVariants.{Index, Low, Never, Over, Past, Wraps}
use Rattle.bcareful.specs.declared.finding.Touched.{Touched}
use Rattle.bcareful.specs.declared.thing.Mark.{Mark}
use Rattle.bcareful.specs.declared.thing.Mark.TheVariants.{First, Of, Plain, Second, Unset}
use Rattle.bcareful.specs.declared.thing.Part.{Part}
use Rattle.bcareful.specs.declared.thing.Part.TheVariants as part
use Rattle.bcareful.specs.declared.thing.Thing.{Thing}

-- what of a word with this mark nothing has set, where this part of it is read
abbrev pub unset_part : Part → Mark → Option Part
unset_part read Unset = Some part.Whole
unset_part part.First First = None
unset_part read First = Some part.Second
unset_part part.Second Second = None
unset_part read Second = Some part.First
unset_part read mark = None

abbrev pub is_address : Mark → Bool
is_address (Of thing) = true
is_address mark = false

-- whether the sum, the difference or the product of two words, as signed numbers, is no word
abbrev pub is_word : ℤ → Bool
is_word z = int_le (neg_ℤ (pos 32768)) z && int_le z (pos 32767)

abbrev pub wraps : BinOp → (left right : ℕ) → Bool
wraps op.Add left right = not (is_word (signed_of left +ℤ signed_of right))
wraps op.Sub left right = not (is_word (signed_of left -ℤ signed_of right))
wraps op.Mul left right = not (is_word (signed_of left *ℤ signed_of right))
wraps operator left right = false

-- `++` adds 1, and `--` takes it away.
abbrev pub counts_by : Increment → BinOp
counts_by increment.PreIncrement = op.Add
counts_by increment.PostIncrement = op.Add
counts_by increment.PreDecrement = op.Sub
counts_by increment.PostDecrement = op.Sub

module _ (m : Moment) where
  -- the word that a call of the library reads or stores; the functions `char` and `lchar` have the values 1 and 2
  abbrev pub call_touch : (count callee : ℕ) → Option Touched
  call_touch count callee =
      if callee == 1 || callee == 2
      then Some (record {
        address = character_address m count;
        origin = argument_mark m count 0;
        reads = callee == 1;
        part = part_at (argument m count 1);
      })
      else None

  -- the word at the address that has so many operands above it
  abbrev pub touch_through : (above : ℕ) → (reads : Bool) → Touched
  touch_through n reads =
      record { address = operand m n; origin = mark m n; reads = reads; part = part.Whole }

  -- the word of memory that an instruction reads or stores, and the mark of its address
  abbrev pub touch : Instr → Option Touched
  touch instr.Load = Some (touch_through 0 true)
  touch instr.Store = Some (touch_through 1 false)
  touch (instr.Modify op) = Some (touch_through 1 true)
  touch (instr.Increment which) = Some (touch_through 0 true)
  touch (instr.Call n) = call_touch n (operand m n)
  touch i = None

  -- the address after the last frame
  abbrev pub frames_end : ℕ
  frames_end = m.call.start + m.site.function.frame

  -- a word past the last frame; or a word or a character that is read and that nothing has set
  abbrev pub word_finding : Touched → Option Finding
  word_finding t =
      if nat_le frames_end t.address then Some (Low t.address)
      else if t.reads then option_map (λ unset. Never unset t.address) (unset_part t.part (word_mark m t.address))
      else None

  -- an address whose thing was of a call that is over, or that has left it; or a character after a string's end
  abbrev pub thing_finding : Thing → Touched → Option Finding
  thing_finding thing t =
      if is_over m.marks.calls thing then Some (Over t.address)
      else if is_outside thing t.address then Some (Index thing t.address)
      else if is_past_end thing t.part t.address then Some (Past t.address) else word_finding t

  -- the same; or one of the first words, of which nobody knows what its address was made of
  abbrev pub touch_finding : Mark → Touched → Option Finding
  touch_finding (Of thing) t = thing_finding thing t
  touch_finding origin t = if nat_lt t.address 7 then Some (Low t.address) else word_finding t

  -- an operation of two numbers whose result is no word
  abbrev pub result_finding : BinOp → (left right : ℕ) → (of_left of_right : Mark) → Option Finding
  result_finding op left right of_left of_right =
      if m.atlas.wraps && (not (is_address of_left || is_address of_right)) && wraps op left right
      then Some (Wraps op left right) else None

  abbrev pub wrap_finding : Instr → Option Finding
  wrap_finding (instr.Binary op) = result_finding op (operand m 1) (operand m 0) (mark m 1) (mark m 0)
  wrap_finding (instr.Modify op) =
      result_finding op m.pointed.modified (operand m 0) (word_mark m (operand m 1)) (mark m 0)
  wrap_finding (instr.Increment which) =
      result_finding (counts_by which) m.pointed.counted 1 (word_mark m (operand m 0)) Plain
  wrap_finding i = None

  abbrev pub found_word : Instr → Option Finding
  found_word i = option_and_then (λ t. touch_finding t.origin t) (touch i)

  -- whether the machine is stuck at an instruction, for want of operands
  abbrev pub lacks_operands : Instr → Bool
  lacks_operands i = nat_lt (length m.operands) (operands_taken (instr_effect m i))

  -- what is found at an instruction: at the word that it touches, or else of its result
  abbrev pub instr_finding : Instr → Option Finding
  instr_finding i = if lacks_operands i then None else option_or (found_word i) (wrap_finding i)

-- what is found at a step, if there is one
abbrev pub finding_of : Option Step → Option Finding
finding_of step = option_and_then (λ t. instr_finding t.moment t.instr) step

-- what is found at the step after so many
abbrev pub finding_at : Atlas → Sights → (made : ℕ) → Option Finding
finding_at a sights made = finding_of (step_in a (sights made) (marks_at a sights made))

-- how many of so many steps a careful run makes: it stays at its first finding
abbrev pub made_by : Atlas → Sights → (steps : ℕ) → ℕ
made_by a sights zero = 0
made_by a sights (suc n) =
    if is_some (finding_at a sights (made_by a sights n)) then made_by a sights n else made_by a sights n + 1

-- A machine that stays where the run has its first finding, and else makes the steps of this one with these functions.
abbrev pub careful : Atlas → List Loaded → States → States
careful a functions states input n = states input (made_by a (sights_of functions states input) n)
