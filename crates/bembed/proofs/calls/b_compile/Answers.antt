use Rattle.std.proofs.Common.{rules}
use Rattle.blang.specs.Compiles.{Compiles, CompileHeadline}
use Rattle.bword.specs.ByteEnds.{incoming_of}
use Rattle.bembed.specs.Calls.{run_over}
use Rattle.bembed.specs.Rooms.{overflow_of}
use Rattle.bembed.proofs.Filling.{filled, in_edition, into_rooms}
use Rattle.bembed.proofs.calls.b_compile.Goals as goal

pub returns : goal.returns
returns c = record {
  compiles = in_edition _ _ _ _ c.args.edition c.edition_of.result c.in-Some.edition c.edition_of.ensures (search rules) (record {
    source_after = c.compile_edition.new.source;
    out_over = overflow_of c.compile_edition.new.code.failures c.compile_edition.new.code.over;
    line_over = overflow_of c.compile_edition.new.diag.failures c.compile_edition.new.diag.over;
    out_filled = filled c.new-out.result c.compile_edition.new.code _ c.new-out.ensures.before c.compile_edition.ensures.code_lender
        (search rules) (search rules) (search rules);
    line_filled = filled c.new-line.result c.compile_edition.new.diag _ c.new-line.ensures.before c.compile_edition.ensures.diag_lender
        (search rules) (search rules) (search rules);
    compiles = into_rooms (λ i o p l m. Compiles (run_over c.in-Some.edition i (incoming_of c.compile_edition.new.source) o p l m c.compile_edition.result))
        c.new-source.result c.args.source.now
        c.new-out.result.room.now c.compile_edition.new.code.room.now _ c.new-out.result.count.now (overflow_of c.new-out.result.failures c.new-out.result.over) _ _ _
        c.new-line.result.room.now c.compile_edition.new.diag.room.now _ c.new-line.result.count.now (overflow_of c.new-line.result.failures c.new-line.result.over) _ _ _
        c.new-source.ensures c.new-out.ensures.empty c.new-line.ensures.empty (search rules) (search rules) (search rules) (search rules) c.compile_edition.ensures.compiles;
    headline = into_rooms (λ i o p l m. CompileHeadline (run_over c.in-Some.edition i (incoming_of c.compile_edition.new.source) o p l m c.compile_edition.result))
        c.new-source.result c.args.source.now
        c.new-out.result.room.now c.compile_edition.new.code.room.now _ c.new-out.result.count.now (overflow_of c.new-out.result.failures c.new-out.result.over) _ _ _
        c.new-line.result.room.now c.compile_edition.new.diag.room.now _ c.new-line.result.count.now (overflow_of c.new-line.result.failures c.new-line.result.over) _ _ _
        c.new-source.ensures c.new-out.ensures.empty c.new-line.ensures.empty (search rules) (search rules) (search rules) (search rules) c.compile_edition.ensures.headline;
  });
}
