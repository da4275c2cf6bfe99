use Rattle.std.proofs.Common.{rules}
use Rattle.brun.specs.Migrates.{Migrates, rewriting}
use Rattle.bword.specs.ByteEnds.{incoming_of}
use Rattle.bembed.specs.Rooms.{overflow_of}
use Rattle.bembed.proofs.Filling.{filled, into_rooms}
use Rattle.bembed.proofs.calls.b_migrate.Goals as goal

pub returns : goal.returns
returns c = record {
  migrates = record {
    code_after = c.migrate.new.input;
    out_over = overflow_of c.migrate.new.out.failures c.migrate.new.out.over;
    line_over = overflow_of c.migrate.new.diag.failures c.migrate.new.diag.over;
    out_filled = filled c.new-out.result c.migrate.new.out _ c.new-out.ensures.before c.migrate.ensures.out_lender
        (search rules) (search rules) (search rules);
    line_filled = filled c.new-line.result c.migrate.new.diag _ c.new-line.ensures.before c.migrate.ensures.diag_lender
        (search rules) (search rules) (search rules);
    migrates = into_rooms (λ i o p l m. Migrates (rewriting i (incoming_of c.migrate.new.input) o p) l m c.migrate.result)
        c.new-code.result c.args.code.now
        c.new-out.result.room.now c.migrate.new.out.room.now _ c.new-out.result.count.now (overflow_of c.new-out.result.failures c.new-out.result.over) _ _ _
        c.new-line.result.room.now c.migrate.new.diag.room.now _ c.new-line.result.count.now (overflow_of c.new-line.result.failures c.new-line.result.over) _ _ _
        c.new-code.ensures c.new-out.ensures.empty c.new-line.ensures.empty (search rules) (search rules) (search rules) (search rules) c.migrate.ensures.migrates;
  };
}
