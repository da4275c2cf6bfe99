use Rattle.std.proofs.Common.{rules}
use Rattle.blang.specs.Reports.{run_ends}
use Rattle.brun.specs.Runs.{RunsText}
use Rattle.bword.specs.ByteEnds.{incoming_of}
use Rattle.bembed.specs.Rooms.{overflow_of}
use Rattle.bembed.proofs.Filling.{filled, into_rooms}
use Rattle.bembed.proofs.calls.b_run.Goals as goal

pub returns : goal.returns
returns c = record {
  runs = record {
    input_after = c.run_text.new.input;
    out_over = overflow_of c.run_text.new.out.failures c.run_text.new.out.over;
    line_over = overflow_of c.run_text.new.diag.failures c.run_text.new.diag.over;
    out_filled = filled c.new-out.result c.run_text.new.out _ c.new-out.ensures.before c.run_text.ensures.out_lender
        (search rules) (search rules) (search rules);
    line_filled = filled c.new-line.result c.run_text.new.diag _ c.new-line.ensures.before c.run_text.ensures.diag_lender
        (search rules) (search rules) (search rules);
    runs = into_rooms (λ i o p l m. RunsText c.args.steps c.args.code.now (run_ends i (incoming_of c.run_text.new.input) o p l m) c.run_text.result)
        c.new-input.result c.args.input.now
        c.new-out.result.room.now c.run_text.new.out.room.now _ c.new-out.result.count.now (overflow_of c.new-out.result.failures c.new-out.result.over) _ _ _
        c.new-line.result.room.now c.run_text.new.diag.room.now _ c.new-line.result.count.now (overflow_of c.new-line.result.failures c.new-line.result.over) _ _ _
        c.new-input.ensures c.new-out.ensures.empty c.new-line.ensures.empty (search rules) (search rules) (search rules) (search rules) c.run_text.ensures.runs;
  };
}
