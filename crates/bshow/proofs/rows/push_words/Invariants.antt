use Rattle.std.proofs.Common.{◌≡◌, ◌-◌, ◌≤◌, ◌++◌}
use Rattle.std.specs.List.{range_with_len}
use Rattle.bshow.specs.Rows.{words_in}
use Rattle.bshow.proofs.rows.push_words.Given as goal

abbrev pub invariant-loop-address : goal.invariant-loop-address
invariant-loop-address g l =
    (l.addresses.end ≤ 65536
    → l.words.items ≡ l.fn.words.items ++ words_in l.stepper.store (range_with_len l.addresses.start (l.address - l.addresses.start)))
    × (l.addresses.end ≤ l.addresses.start → l.address ≡ l.addresses.start)
