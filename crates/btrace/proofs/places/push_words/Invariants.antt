use Rattle.std.proofs.Common.{◌≡◌, ◌++◌, codes, map, nat_lt, [], if◌then◌else◌}
use Rattle.std.specs.List.{flat_map, range_with_len}
use Rattle.btools.specs.Characters.{signed_text}
use Rattle.btrace.specs.RowTexts.{parameter_at}
use Rattle.btrace.proofs.places.push_words.Given as goal

-- so many words are shown
abbrev pub invariant-loop-index : goal.invariant-loop-index
invariant-loop-index g l =
    l.text ≡ (l.fn.text ++ (if nat_lt 0 l.count then codes "  with" else [])) ++ flat_map (λ w. codes " " ++ signed_text w) (map (parameter_at l.stepper.store l.fn.call) (range_with_len 0 l.index))
