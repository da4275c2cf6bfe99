use Rattle.std.proofs.Common.{rules}
use Rattle.bshow.specs.Shows.{Shows}
use Rattle.bembed.specs.Looks.{page_asked, rows_of}
use Rattle.btools.specs.Origins.{Source}
use Rattle.bembed.specs.WithFiles.{done}
use Rattle.bembed.proofs.Over.{runs_over}
use Rattle.bembed.proofs.looking.b_show.Goals as goal

pub returns : goal.returns
returns c = record {
  shows = done c.in-Ok.whole c.in-Ok.ensures.ok (runs_over
      (λ ends. Shows (Source c.in-Ok.whole.edition) c.in-Ok.whole.text (page_asked c.args.steps
      (rows_of c.args.from c.args.last) c.in-Ok.whole.files c.args.input.now) ends c.show.result)
      c.args.input.now c.new-input.result c.show.new.input c.new-out.result c.show.new.out c.new-line.result c.show.new.diag _ _
      c.new-input.ensures
      (record {
        before = c.new-out.ensures.before;
        empty = c.new-out.ensures.empty;
        same = c.show.ensures.out_lender;
        after = search rules;
        told = search rules;
        size = search rules;
      })
      (record {
        before = c.new-line.ensures.before;
        empty = c.new-line.ensures.empty;
        same = c.show.ensures.diag_lender;
        after = search rules;
        told = search rules;
        size = search rules;
      })
      (rw (c.edition.ensures, c.text.ensures, c.page_of-wanted.ensures, c.rows_of.ensures, c.files.ensures) at c.show.ensures.shows));
}
