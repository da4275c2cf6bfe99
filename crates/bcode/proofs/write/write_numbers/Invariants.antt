use Rattle.std.proofs.Common.{take, ◌∷◌, [], map, decimal, ◌≡◌}
use Rattle.bcode.specs.Pages.{PageWritten}
use Rattle.blang.specs.Text.{line, joined}
use Rattle.bcode.proofs.write.write_numbers.Given as goal

abbrev pub invariant-loop-number : goal.invariant-loop-number
invariant-loop-number g l =
    PageWritten (g.O.ByteOut.outgoing l.initial.out) l.initial.page (joined (map (λ n. line ((l.letter ∷ []) ∷ decimal n ∷ [])) (take l.number-index l.numbers)))
    (g.O.ByteOut.outgoing l.out) l.page
    × (g.O.ByteOut.lender l.out ≡ g.O.ByteOut.lender l.initial.out)
