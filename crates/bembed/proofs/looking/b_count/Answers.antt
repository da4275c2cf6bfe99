use Rattle.std.proofs.Common.{rules}
use Rattle.bcount.specs.Counts.{Counts}
use Rattle.btools.specs.Origins.{Source}
use Rattle.bembed.specs.Looks.{style_of}
use Rattle.bembed.specs.WithFiles.{done}
use Rattle.bembed.proofs.Over.{runs_over}
use Rattle.bembed.proofs.looking.b_count.Goals as goal

pub returns : goal.returns
returns c = record {
  counts = done c.in-Ok.whole c.in-Ok.ensures.ok (runs_over
      (λ ends. Counts (record {
        origin = Source c.in-Ok.whole.edition;
        steps = c.args.steps;
        files = c.in-Ok.whole.files;
        style = style_of c.args.is_json;
      }) c.in-Ok.whole.text ends c.count.result)
      c.args.input.now c.new-input.result c.count.new.input c.new-out.result c.count.new.out c.new-line.result c.count.new.diag _ _
      c.new-input.ensures
      (record {
        before = c.new-out.ensures.before;
        empty = c.new-out.ensures.empty;
        same = c.count.ensures.out_lender;
        after = search rules;
        told = search rules;
        size = search rules;
      })
      (record {
        before = c.new-line.ensures.before;
        empty = c.new-line.ensures.empty;
        same = c.count.ensures.diag_lender;
        after = search rules;
        told = search rules;
        size = search rules;
      })
      (rw (c.edition.ensures, c.text.ensures, c.style_of.ensures, c.files.ensures) at c.count.ensures.counts));
}
