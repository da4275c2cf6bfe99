use Rattle.std.proofs.Common.{refl, rules}
use Rattle.bcheck.specs.Checks.{Checks}
use Rattle.bembed.specs.Asks.{check_of}
use Rattle.bembed.specs.Rooms.{overflow_of}
use Rattle.bembed.specs.Wholes.{alone}
use Rattle.bembed.proofs.Filling.{filled, in_edition, into_room}
use Rattle.bembed.proofs.asking.b_check.Goals as goal

pub returns : goal.returns
returns c = record {
  checks = in_edition _ _ _ _ c.args.edition c.edition_of.result c.in-Some.edition c.edition_of.ensures (search rules) (record {
    out_over = overflow_of c.check_alone.new.out.failures c.check_alone.new.out.over;
    out_filled = filled c.new-out.result c.check_alone.new.out _ c.new-out.ensures.before c.check_alone.ensures.out_lender
        (search rules) (search rules) (search rules);
    no_line = record { same = refl; none = search rules };
    checks = into_room (λ o p. Checks (check_of c.in-Some.edition (alone c.args.source.now) c.args.source.now o p c.check_alone.result))
        c.new-out.result.room.now c.check_alone.new.out.room.now _ c.new-out.result.count.now (overflow_of c.new-out.result.failures c.new-out.result.over) _ _ _
        c.new-out.ensures.empty (search rules) (search rules) c.check_alone.ensures.checks;
  });
}
