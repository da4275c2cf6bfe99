use Rattle.std.proofs.Common.{◌∙◌, ℕ, List, ap, false, rules}
use Rattle.blang.specs.Headline.{GoesOff, Headline}
use Rattle.blang.specs.Reports.{run_ends}
use Rattle.bword.specs.ByteEnds.{incoming_of}
use Rattle.bembed.specs.Calls.{all_of}
use Rattle.bembed.specs.WithFiles.{done}
use Rattle.bembed.proofs.Filling.{filled, from_memory, into_rooms}
use Rattle.bembed.proofs.Over.{over_of, shown}
use Rattle.bembed.proofs.with_files.b_go_with.Goals as goal

pub returns : goal.returns
returns c = record {
  goes = done c.in-Ok.whole c.in-Ok.ensures.ok (record {
    source_after = c.go_edition.new.source;
    input_after = c.go_edition.new.input;
    out_over = over_of c.go_edition.new.out;
    line_over = over_of c.go_edition.new.diag;
    out_filled = filled c.new-out.result c.go_edition.new.out _ c.new-out.ensures.before c.go_edition.ensures.out_lender
        (search rules) (search rules) (search rules);
    line_filled = filled c.new-line.result c.go_edition.new.diag _ c.new-line.ensures.before c.go_edition.ensures.diag_lender
        (search rules) (search rules) (search rules);
    goes = into_rooms (λ i o p l m. GoesOff c.in-Ok.whole.edition c.args.steps (all_of c.in-Ok.whole.text) (incoming_of c.go_edition.new.source) (run_ends i (incoming_of c.go_edition.new.input) o p l m) c.go_edition.result)
        c.new-input.result c.args.input.now
        c.new-out.result.room.now c.go_edition.new.out.room.now _ c.new-out.result.count.now (over_of c.new-out.result) _ _ _
        c.new-line.result.room.now c.go_edition.new.diag.room.now _ c.new-line.result.count.now (over_of c.new-line.result) _ _ _
        c.new-input.ensures c.new-out.ensures.empty c.new-line.ensures.empty (search rules) (search rules) (search rules) (search rules)
        (from_memory (λ s. GoesOff c.in-Ok.whole.edition c.args.steps s (incoming_of c.go_edition.new.source) (run_ends (incoming_of c.new-input.result) (incoming_of c.go_edition.new.input)
        (shown c.new-out.result) (shown c.go_edition.new.out) (shown c.new-line.result) (shown c.go_edition.new.diag)) c.go_edition.result) c.new-source.result c.in-Ok.whole.text
        (c.new-source.ensures ∙ ap (λ (t : List ℕ). record { left = t; is_over = false }) c.text.ensures)
        (rw c.edition.ensures at c.go_edition.ensures.goes));
    headline = into_rooms (λ i o p l m. Headline c.in-Ok.whole.edition c.args.steps (all_of c.in-Ok.whole.text) (incoming_of c.go_edition.new.source) (run_ends i (incoming_of c.go_edition.new.input) o p l m) c.go_edition.result)
        c.new-input.result c.args.input.now
        c.new-out.result.room.now c.go_edition.new.out.room.now _ c.new-out.result.count.now (over_of c.new-out.result) _ _ _
        c.new-line.result.room.now c.go_edition.new.diag.room.now _ c.new-line.result.count.now (over_of c.new-line.result) _ _ _
        c.new-input.ensures c.new-out.ensures.empty c.new-line.ensures.empty (search rules) (search rules) (search rules) (search rules)
        (from_memory (λ s. Headline c.in-Ok.whole.edition c.args.steps s (incoming_of c.go_edition.new.source) (run_ends (incoming_of c.new-input.result) (incoming_of c.go_edition.new.input)
        (shown c.new-out.result) (shown c.go_edition.new.out) (shown c.new-line.result) (shown c.go_edition.new.diag)) c.go_edition.result) c.new-source.result c.in-Ok.whole.text
        (c.new-source.ensures ∙ ap (λ (t : List ℕ). record { left = t; is_over = false }) c.text.ensures)
        (rw c.edition.ensures at c.go_edition.ensures.headline));
  });
}
