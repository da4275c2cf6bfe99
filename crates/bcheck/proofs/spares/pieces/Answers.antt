use Rattle.std.proofs.Common.{◌∙◌, subst, sym}
use Rattle.blex.proofs.PlaceSteps.{found_in}
use Rattle.bcheck.proofs.SpareSteps.{Reads, reads_end, reads_more}
use Rattle.bcheck.proofs.spares.pieces.Goals as goal

pub returns-then-is_end : goal.returns-then-is_end
returns-then-is_end c =
    let i = c.loop-scanner.invariant in
    let found = found_in _ _ _ c.args.edition c.args.source.now c.next-piece.ensures.finds i.edition i.source in
    reads_end c.args.edition c.args.source.now _ _ c.next-piece.result found i.reads
    (sym c.is_end.ensures ∙ c.if-is_end.true)

pub loop-scanner-preserved : goal.loop-scanner-preserved
loop-scanner-preserved c =
    let i = c.loop-scanner.invariant in
    let found = found_in _ _ _ c.args.edition c.args.source.now c.next-piece.ensures.finds i.edition i.source in
    let more =
    reads_more c.args.edition c.args.source.now _ _ c.next-piece.result found i.reads
    (sym c.is_end.ensures ∙ c.if-is_end.false) in
    record {
      reads =
          subst (λ at. Reads c.args.edition c.args.source.now c.push_right.new.pieces.items at)
          (sym c.next-piece.ensures.finds.at)
          (subst (λ ps. Reads c.args.edition c.args.source.now ps c.next-piece.result.end)
          (sym c.in_ok-push_right.ensures) more);
      edition = c.next-piece.ensures.finds.edition ∙ i.edition;
      source = c.next-piece.ensures.finds.source ∙ i.source;
      within = rw c.next-piece.ensures.finds.at (rw i.source at c.next-piece.ensures.within);
    }
