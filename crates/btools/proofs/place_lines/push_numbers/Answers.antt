use Rattle.std.proofs.Common.{arith}
use Rattle.btools.proofs.PlaceLines.{next_number}
use Rattle.btools.proofs.place_lines.push_numbers.Goals as goal

pub loop-number-preserved : goal.loop-number-preserved
loop-number-preserved c = record {
  from = omega (arith, c.loop-number.invariant.from);
  to = omega arith;
  lines = next_number c.args.first c.loop-number.number _ c.loop-number.lines.items c.push.new.self.items c.loop-number.invariant.from c.loop-number.invariant.lines c.in_ok-push.ensures.items;
}
