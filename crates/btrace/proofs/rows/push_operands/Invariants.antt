use Rattle.std.proofs.Common.{◌≡◌, ◌++◌, ◌-◌, [], codes, length, nat_lt, take, if◌then◌else◌}
use Rattle.std.specs.List.{flat_map}
use Rattle.btools.specs.Characters.{signed_text}
use Rattle.btrace.specs.declared.rows.TheConstants.{SHOWN_OPERANDS}
use Rattle.btrace.proofs.rows.push_operands.Given as goal

abbrev pub invariant-loop-word : goal.invariant-loop-word
invariant-loop-word l = l.text ≡ l.fn.text ++ (if nat_lt 0 (length l.operands - SHOWN_OPERANDS) then codes " .." else [])
    ++ flat_map (λ w. codes " " ++ signed_text w) (take l.word-index l.word-items)
