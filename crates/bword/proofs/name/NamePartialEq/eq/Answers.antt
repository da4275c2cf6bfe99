use Rattle.std.proofs.Common.{ap, ◌∙◌}
use Rattle.std.specs.Prelude.{nat_eq}
use Rattle.bword.specs.Words.{number_of_bytes}
use Rattle.bword.proofs.NameNumbers.{number_of-eq}
use Rattle.bword.proofs.name.NamePartialEq.eq.Goals as goal

pub returns : goal.returns
returns c =
    let x = c.args.self.now in
    let y = c.args.other.now in
    ap (λ n. nat_eq n c.number-2.result) c.number.ensures.number
    ∙ ap (nat_eq (number_of_bytes 8 x)) c.number-2.ensures.number
    ∙ number_of-eq x y c.number.ensures.name c.number-2.ensures.name
