use Rattle.std.proofs.Common.{refl, rules}
use Rattle.bcheck.specs.Checks.{Checks}
use Rattle.bembed.specs.Asks.{check_of}
use Rattle.bembed.specs.WithFiles.{done}
use Rattle.bembed.proofs.Filling.{filled, into_room}
use Rattle.bembed.proofs.Over.{over_of}
use Rattle.bembed.proofs.with_files.b_check_with.Goals as goal

pub returns : goal.returns
returns c = record {
  checks = done c.in-Ok.whole c.in-Ok.ensures.ok (record {
    out_over = over_of c.check.new.out;
    out_filled = filled c.new-out.result c.check.new.out _ c.new-out.ensures.before c.check.ensures.out_lender
        (search rules) (search rules) (search rules);
    no_line = record { same = refl; none = search rules };
    checks = into_room
        (λ o p. Checks (check_of c.in-Ok.whole.edition c.in-Ok.whole.files c.in-Ok.whole.text o p c.check.result))
        c.new-out.result.room.now c.check.new.out.room.now _ c.new-out.result.count.now (over_of c.new-out.result) _ _ _
        c.new-out.ensures.empty (search rules) (search rules)
        (rw (c.edition.ensures, c.text.ensures, c.files.ensures) at c.check.ensures.checks);
  });
}
