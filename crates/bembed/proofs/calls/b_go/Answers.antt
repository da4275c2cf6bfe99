use Rattle.std.proofs.Common.{rules}
use Rattle.blang.specs.Headline.{GoesOff, Headline}
use Rattle.blang.specs.Reports.{run_ends}
use Rattle.bword.specs.ByteEnds.{incoming_of}
use Rattle.bembed.specs.Rooms.{overflow_of, room_of}
use Rattle.bembed.specs.Calls.{all_of}
use Rattle.bembed.proofs.Filling.{filled, from_memory, in_edition, into_rooms}
use Rattle.bembed.proofs.calls.b_go.Goals as goal

pub returns : goal.returns
returns c = record {
  goes = in_edition _ _ _ _ c.args.edition c.edition_of.result c.in-Some.edition c.edition_of.ensures (search rules) (record {
    source_after = c.go_edition.new.source;
    input_after = c.go_edition.new.input;
    out_over = overflow_of c.go_edition.new.out.failures c.go_edition.new.out.over;
    line_over = overflow_of c.go_edition.new.diag.failures c.go_edition.new.diag.over;
    out_filled = filled c.new-out.result c.go_edition.new.out _ c.new-out.ensures.before c.go_edition.ensures.out_lender
        (search rules) (search rules) (search rules);
    line_filled = filled c.new-line.result c.go_edition.new.diag _ c.new-line.ensures.before c.go_edition.ensures.diag_lender
        (search rules) (search rules) (search rules);
    goes = into_rooms (λ i o p l m. GoesOff c.in-Some.edition c.args.steps (all_of c.args.source.now) (incoming_of c.go_edition.new.source) (run_ends i (incoming_of c.go_edition.new.input) o p l m) c.go_edition.result)
        c.new-input.result c.args.input.now
        c.new-out.result.room.now c.go_edition.new.out.room.now _ c.new-out.result.count.now (overflow_of c.new-out.result.failures c.new-out.result.over) _ _ _
        c.new-line.result.room.now c.go_edition.new.diag.room.now _ c.new-line.result.count.now (overflow_of c.new-line.result.failures c.new-line.result.over) _ _ _
        c.new-input.ensures c.new-out.ensures.empty c.new-line.ensures.empty (search rules) (search rules) (search rules) (search rules)
        (from_memory (λ s. GoesOff c.in-Some.edition c.args.steps s (incoming_of c.go_edition.new.source) (run_ends (incoming_of c.new-input.result) (incoming_of c.go_edition.new.input)
        (room_of c.new-out.result.room.now c.new-out.result.count.now (overflow_of c.new-out.result.failures c.new-out.result.over)) (room_of c.go_edition.new.out.room.now c.go_edition.new.out.count.now (overflow_of c.go_edition.new.out.failures c.go_edition.new.out.over))
        (room_of c.new-line.result.room.now c.new-line.result.count.now (overflow_of c.new-line.result.failures c.new-line.result.over)) (room_of c.go_edition.new.diag.room.now c.go_edition.new.diag.count.now (overflow_of c.go_edition.new.diag.failures c.go_edition.new.diag.over))) c.go_edition.result) c.new-source.result c.args.source.now c.new-source.ensures c.go_edition.ensures.goes);
    headline = into_rooms (λ i o p l m. Headline c.in-Some.edition c.args.steps (all_of c.args.source.now) (incoming_of c.go_edition.new.source) (run_ends i (incoming_of c.go_edition.new.input) o p l m) c.go_edition.result)
        c.new-input.result c.args.input.now
        c.new-out.result.room.now c.go_edition.new.out.room.now _ c.new-out.result.count.now (overflow_of c.new-out.result.failures c.new-out.result.over) _ _ _
        c.new-line.result.room.now c.go_edition.new.diag.room.now _ c.new-line.result.count.now (overflow_of c.new-line.result.failures c.new-line.result.over) _ _ _
        c.new-input.ensures c.new-out.ensures.empty c.new-line.ensures.empty (search rules) (search rules) (search rules) (search rules)
        (from_memory (λ s. Headline c.in-Some.edition c.args.steps s (incoming_of c.go_edition.new.source) (run_ends (incoming_of c.new-input.result) (incoming_of c.go_edition.new.input)
        (room_of c.new-out.result.room.now c.new-out.result.count.now (overflow_of c.new-out.result.failures c.new-out.result.over)) (room_of c.go_edition.new.out.room.now c.go_edition.new.out.count.now (overflow_of c.go_edition.new.out.failures c.go_edition.new.out.over))
        (room_of c.new-line.result.room.now c.new-line.result.count.now (overflow_of c.new-line.result.failures c.new-line.result.over)) (room_of c.go_edition.new.diag.room.now c.go_edition.new.diag.count.now (overflow_of c.go_edition.new.diag.failures c.go_edition.new.diag.over))) c.go_edition.result) c.new-source.result c.args.source.now c.new-source.ensures c.go_edition.ensures.headline);
  });
}
