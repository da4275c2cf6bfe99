use Rattle.std.proofs.Common.{arith, vec_items}
use Rattle.bcheck.proofs.RightSteps.{count_from}
use Rattle.bcheck.proofs.tally.faults.Goals as goal

pub returns : goal.returns
returns c =
    let source = c.args.source in
    count_from source.edition source.text.now c.args.line (vec_items c.in_ok-further.further) _ (omega (arith, c.len.ensures)) c.in_ok-further.ensures
