use Rattle.std.proofs.Common.{◌∙◌, subst, sym}
use Rattle.bnaming.proofs.ReadingSteps.{Reads, found_in, reads_end, reads_more}
use Rattle.std.specs.Prelude.{List}
use Rattle.bnaming.specs.declared.reading.Piece.{Piece}
use Rattle.bnaming.proofs.reading.pieces_of.Goals as goal

pub returns-then-is_end : goal.returns-then-is_end
returns-then-is_end c =
    let i = c.loop-scanner.invariant in
    let found = found_in _ _ _ c.args.edition c.args.source.now c.next-found.ensures.finds i.edition i.source in
    reads_end c.args.edition c.args.source.now _ _ c.next-found.result found i.reads (sym c.is_end.ensures ∙ c.if-is_end.true)

pub loop-scanner-preserved : goal.loop-scanner-preserved
loop-scanner-preserved c =
    let i = c.loop-scanner.invariant in
    let finds = c.next-found.ensures.finds in
    let source = c.args.source.now in
    let found = found_in _ _ _ c.args.edition source finds i.edition i.source in
    let more = reads_more c.args.edition source _ _ c.next-found.result found i.reads c.in_ok-placed.field-0 c.in_ok-placed.ensures (sym c.is_end.ensures ∙ c.if-is_end.false) in
    record {
      reads = subst (λ at. Reads c.args.edition source c.push.new.self.items at) (sym finds.at)
          (subst (λ (ps : List Piece). Reads c.args.edition source ps c.next-found.result.end) (sym c.in_ok-push.ensures.items) more);
      edition = finds.edition ∙ i.edition;
      source = finds.source ∙ i.source;
      mark = c.to-mark.ensures.is;
      place = c.to-mark.ensures.at ∙ sym finds.at;
    }
