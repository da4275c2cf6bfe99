use Rattle.std.proofs.Common.{◌∙◌, ℕ, List, ap, false, rules}
use Rattle.blang.specs.Compiles.{CompileHeadline, Compiles}
use Rattle.bword.specs.ByteEnds.{incoming_of}
use Rattle.bembed.specs.Calls.{run_over}
use Rattle.bembed.specs.WithFiles.{done}
use Rattle.bembed.proofs.Filling.{filled, into_rooms}
use Rattle.bembed.proofs.Over.{over_of}
use Rattle.bembed.proofs.with_files.b_compile_with.Goals as goal

pub returns : goal.returns
returns c = record {
  compiles = done c.in-Ok.whole c.in-Ok.ensures.ok (record {
    source_after = c.compile_edition.new.source;
    out_over = over_of c.compile_edition.new.code;
    line_over = over_of c.compile_edition.new.diag;
    out_filled = filled c.new-out.result c.compile_edition.new.code _ c.new-out.ensures.before c.compile_edition.ensures.code_lender
        (search rules) (search rules) (search rules);
    line_filled = filled c.new-line.result c.compile_edition.new.diag _ c.new-line.ensures.before c.compile_edition.ensures.diag_lender
        (search rules) (search rules) (search rules);
    compiles = into_rooms (λ i o p l m. Compiles (run_over c.in-Ok.whole.edition i (incoming_of c.compile_edition.new.source) o p l m c.compile_edition.result))
        c.new-source.result c.in-Ok.whole.text
        c.new-out.result.room.now c.compile_edition.new.code.room.now _ c.new-out.result.count.now (over_of c.new-out.result) _ _ _
        c.new-line.result.room.now c.compile_edition.new.diag.room.now _ c.new-line.result.count.now (over_of c.new-line.result) _ _ _
        (c.new-source.ensures ∙ ap (λ (t : List ℕ). record { left = t; is_over = false }) c.text.ensures)
        c.new-out.ensures.empty c.new-line.ensures.empty (search rules) (search rules) (search rules) (search rules)
        (rw c.edition.ensures at c.compile_edition.ensures.compiles);
    headline = into_rooms (λ i o p l m. CompileHeadline (run_over c.in-Ok.whole.edition i (incoming_of c.compile_edition.new.source) o p l m c.compile_edition.result))
        c.new-source.result c.in-Ok.whole.text
        c.new-out.result.room.now c.compile_edition.new.code.room.now _ c.new-out.result.count.now (over_of c.new-out.result) _ _ _
        c.new-line.result.room.now c.compile_edition.new.diag.room.now _ c.new-line.result.count.now (over_of c.new-line.result) _ _ _
        (c.new-source.ensures ∙ ap (λ (t : List ℕ). record { left = t; is_over = false }) c.text.ensures)
        c.new-out.ensures.empty c.new-line.ensures.empty (search rules) (search rules) (search rules) (search rules)
        (rw c.edition.ensures at c.compile_edition.ensures.headline);
  });
}
