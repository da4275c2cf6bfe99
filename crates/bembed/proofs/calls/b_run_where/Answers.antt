use Rattle.std.proofs.Common.{rules}
use Rattle.blang.specs.Reports.{run_ends}
use Rattle.bwhere.specs.Wheres.{LocatesCode}
use Rattle.bword.specs.ByteEnds.{incoming_of}
use Rattle.bembed.specs.Rooms.{overflow_of}
use Rattle.bembed.proofs.Filling.{filled, into_rooms}
use Rattle.bembed.proofs.calls.b_run_where.Goals as goal

pub returns : goal.returns
returns c = record {
  locates = record {
    input_after = c.locate_code.new.input;
    out_over = overflow_of c.locate_code.new.out.failures c.locate_code.new.out.over;
    line_over = overflow_of c.locate_code.new.diag.failures c.locate_code.new.diag.over;
    out_filled = filled c.new-out.result c.locate_code.new.out _ c.new-out.ensures.before c.locate_code.ensures.out_lender
        (search rules) (search rules) (search rules);
    line_filled = filled c.new-line.result c.locate_code.new.diag _ c.new-line.ensures.before c.locate_code.ensures.diag_lender
        (search rules) (search rules) (search rules);
    locates = into_rooms (λ i o p l m. LocatesCode c.args.steps c.args.code.now (run_ends i (incoming_of c.locate_code.new.input) o p l m) c.locate_code.result)
        c.new-input.result c.args.input.now
        c.new-out.result.room.now c.locate_code.new.out.room.now _ c.new-out.result.count.now (overflow_of c.new-out.result.failures c.new-out.result.over) _ _ _
        c.new-line.result.room.now c.locate_code.new.diag.room.now _ c.new-line.result.count.now (overflow_of c.new-line.result.failures c.new-line.result.over) _ _ _
        c.new-input.ensures c.new-out.ensures.empty c.new-line.ensures.empty (search rules) (search rules) (search rules) (search rules) c.locate_code.ensures.locates;
  };
}
