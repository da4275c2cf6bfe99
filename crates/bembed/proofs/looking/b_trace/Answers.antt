use Rattle.std.proofs.Common.{None, rules}
use Rattle.btools.specs.Origins.{Source}
use Rattle.btrace.specs.Traces.{Traces}
use Rattle.bembed.specs.Looks.{rows_of}
use Rattle.bembed.specs.WithFiles.{done}
use Rattle.bembed.proofs.Over.{runs_over}
use Rattle.bembed.proofs.looking.b_trace.Goals as goal

pub returns : goal.returns
returns c = record {
  traces = done c.in-Ok.whole c.in-Ok.ensures.ok (runs_over
      (λ ends. Traces (Source c.in-Ok.whole.edition) c.in-Ok.whole.text c.args.steps (rows_of c.args.from c.args.last)
      c.in-Ok.whole.files None ends c.trace.result)
      c.args.input.now c.new-input.result c.trace.new.input c.new-out.result c.trace.new.out c.new-line.result c.trace.new.diag _ _
      c.new-input.ensures
      (record {
        before = c.new-out.ensures.before;
        empty = c.new-out.ensures.empty;
        same = c.trace.ensures.out_lender;
        after = search rules;
        told = search rules;
        size = search rules;
      })
      (record {
        before = c.new-line.ensures.before;
        empty = c.new-line.ensures.empty;
        same = c.trace.ensures.diag_lender;
        after = search rules;
        told = search rules;
        size = search rules;
      })
      (rw (c.edition.ensures, c.text.ensures, c.rows_of.ensures, c.files.ensures) at c.trace.ensures.traces));
}
