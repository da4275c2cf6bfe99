use Rattle.std.proofs.Common.{rules}
use Rattle.blist.specs.Maps.{Maps}
use Rattle.btools.specs.Origins.{Source}
use Rattle.bembed.specs.WithFiles.{done}
use Rattle.bembed.proofs.Over.{tells_over}
use Rattle.bembed.proofs.looking.b_map.Goals as goal

pub returns : goal.returns
returns c = record {
  maps = done c.in-Ok.whole c.in-Ok.ensures.ok (tells_over
      (λ ends. Maps (Source c.in-Ok.whole.edition) c.in-Ok.whole.text ends c.map.result)
      c.new-out.result c.map.new.out c.new-line.result c.map.new.diag _ _
      (record {
        before = c.new-out.ensures.before;
        empty = c.new-out.ensures.empty;
        same = c.map.ensures.out_lender;
        after = search rules;
        told = search rules;
        size = search rules;
      })
      (record {
        before = c.new-line.ensures.before;
        empty = c.new-line.ensures.empty;
        same = c.map.ensures.diag_lender;
        after = search rules;
        told = search rules;
        size = search rules;
      })
      (rw (c.edition.ensures, c.text.ensures) at c.map.ensures.maps));
}
