use Rattle.std.proofs.Common.{◌≡◌, ◌+◌, ◌*◌, ◌≤◌, take, ◌++◌, length, decimal, codes}
use Rattle.std.specs.List.{flat_map}
use Rattle.bcode.proofs.page.push_header_line.Given as goal

abbrev pub invariant-loop-number : goal.invariant-loop-number
invariant-loop-number l =
    (l.page ≡ l.initial.page ++ flat_map (λ n. codes " " ++ decimal n) (take l.number-index l.numbers))
    × (length l.page ≤ length l.initial.page + l.number-index * 21)
