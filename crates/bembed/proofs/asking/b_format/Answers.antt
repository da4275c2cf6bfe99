use Rattle.std.proofs.Common.{rules}
use Rattle.bformat.specs.Formats.{Formats}
use Rattle.bembed.specs.Asks.{format_of}
use Rattle.bembed.specs.Rooms.{overflow_of}
use Rattle.bembed.proofs.Filling.{filled, in_edition, into_both}
use Rattle.bembed.proofs.asking.b_format.Goals as goal

pub returns : goal.returns
returns c = record {
  formats = in_edition _ _ _ _ c.args.edition c.edition_of.result c.in-Some.edition c.edition_of.ensures (search rules) (record {
    out_over = overflow_of c.format.new.out.failures c.format.new.out.over;
    line_over = overflow_of c.format.new.diag.failures c.format.new.diag.over;
    out_filled = filled c.new-out.result c.format.new.out _ c.new-out.ensures.before c.format.ensures.out_lender
        (search rules) (search rules) (search rules);
    line_filled = filled c.new-line.result c.format.new.diag _ c.new-line.ensures.before c.format.ensures.diag_lender
        (search rules) (search rules) (search rules);
    formats = into_both (λ o p l m. Formats (format_of c.in-Some.edition c.args.source.now o p l m c.format.result))
        c.new-out.result.room.now c.format.new.out.room.now _ c.new-out.result.count.now (overflow_of c.new-out.result.failures c.new-out.result.over) _ _ _
        c.new-line.result.room.now c.format.new.diag.room.now _ c.new-line.result.count.now (overflow_of c.new-line.result.failures c.new-line.result.over) _ _ _
        c.new-out.ensures.empty c.new-line.ensures.empty (search rules) (search rules) (search rules) (search rules) c.format.ensures.formats;
  });
}
