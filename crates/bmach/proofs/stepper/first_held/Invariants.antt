use Rattle.std.proofs.Common.{◌≡◌, ◌+◌, ◌-◌, ◌≤◌, ℕ, List, drop, length, reverse, take}
use Rattle.bmach.specs.Stepping.{operand_sum}
use Rattle.bmach.specs.Steps.{callers_of}
use Rattle.bmach.proofs.stepper.first_held.Given as goal

-- the words from the first one on are operands of the callers before, and the others have those before it
abbrev pub invariant-loop-number : goal.invariant-loop-number
invariant-loop-number l =
    record {
      low : l.first ≤ l.words;
      held : (held : List ℕ) → length held ≡ l.words → operand_sum (callers_of (reverse l.below) held)
          ≡ (l.words - l.first) + operand_sum (callers_of (drop l.number (reverse l.below)) (take l.first held));
    }
