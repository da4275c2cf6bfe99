use Rattle.std.proofs.Common.{None, rules}
use Rattle.blist.specs.Listings.{Lists}
use Rattle.btools.specs.Origins.{Source}
use Rattle.bembed.specs.WithFiles.{done}
use Rattle.bembed.proofs.Over.{tells_over}
use Rattle.bembed.proofs.looking.b_list.Goals as goal

pub returns : goal.returns
returns c = record {
  lists = done c.in-Ok.whole c.in-Ok.ensures.ok (tells_over
      (λ ends. Lists (Source c.in-Ok.whole.edition) c.in-Ok.whole.text None ends c.list.result)
      c.new-out.result c.list.new.out c.new-line.result c.list.new.diag _ _
      (record {
        before = c.new-out.ensures.before;
        empty = c.new-out.ensures.empty;
        same = c.list.ensures.out_lender;
        after = search rules;
        told = search rules;
        size = search rules;
      })
      (record {
        before = c.new-line.ensures.before;
        empty = c.new-line.ensures.empty;
        same = c.list.ensures.diag_lender;
        after = search rules;
        told = search rules;
        size = search rules;
      })
      (rw (c.edition.ensures, c.text.ensures) at c.list.ensures.lists));
}
