use Rattle.std.proofs.Common.{ap, ◌∙◌, sym}
use Rattle.std.specs.Ordering.{nat_cmp}
use Rattle.bword.specs.Words.{number_of_bytes}
use Rattle.bword.proofs.NameNumbers.{number_of-cmp}
use Rattle.bword.proofs.name.NameOrd.cmp.Goals as goal

pub returns : goal.returns
returns c =
    let x = c.args.self.now in
    let y = c.args.other.now in
    c.cmp.ensures
    ∙ ap (λ n. nat_cmp n c.number-2.result) c.number.ensures.number
    ∙ ap (nat_cmp (number_of_bytes 8 x)) c.number-2.ensures.number
    ∙ sym (number_of-cmp x y c.number.ensures.name c.number-2.ensures.name)
