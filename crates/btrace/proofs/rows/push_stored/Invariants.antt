use Rattle.std.proofs.Common.{◌≡◌, ◌-◌, ◌≤◌, ◌++◌}
use Rattle.std.specs.List.{range_with_len}
use Rattle.btrace.specs.RowTexts.{stored_text}
use Rattle.btrace.proofs.rows.push_stored.Given as goal

-- rows of the words so far were added
abbrev pub invariant-loop-address : goal.invariant-loop-address
invariant-loop-address g l =
    (l.stored.end ≤ 65536 → l.text ≡ l.fn.text ++ stored_text l.stepper.store (range_with_len l.stored.start (l.address - l.stored.start)))
    × (l.stored.end ≤ l.stored.start → l.address ≡ l.stored.start)
