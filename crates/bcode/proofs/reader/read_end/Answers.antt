use Rattle.std.proofs.Common.{◌∙◌}
use Rattle.bcode.proofs.reader.read_end.Goals as goal

pub returns : goal.returns
returns g c =
    let sees = c.in_ok-is_over.ensures in
    (c.line.ensures ∙ sees.same, (sees.taken, sees.some c.if-branch.false, sees.part, sees.reads))
