use Rattle.std.proofs.Common.{◌∙◌, map, subst, sym}
use Rattle.blex.proofs.PlaceSteps.{found_in}
use Rattle.bfix.proofs.Kept.{Reads, reads_end, reads_more}
use Rattle.bfix.proofs.keeping.kept.Goals as goal

pub returns-then-is_over : goal.returns-then-is_over
returns-then-is_over c =
    let i = c.loop-scanner.invariant in
    let found = found_in _ _ _ c.args.edition c.args.source.now c.next-piece.ensures.finds i.edition i.source in
    reads_end c.args.edition c.args.source.now _ _ c.next-piece.result found i.reads
    (sym c.is_over.ensures ∙ c.if-is_over.true)

pub loop-scanner-preserved : goal.loop-scanner-preserved
loop-scanner-preserved c =
    let i = c.loop-scanner.invariant in
    let found = found_in _ _ _ c.args.edition c.args.source.now c.next-piece.ensures.finds i.edition i.source in
    let more =
    reads_more c.args.edition c.args.source.now _ _ c.next-piece.result found i.reads
    (sym c.is_over.ensures ∙ c.if-is_over.false) in
    record {
      reads =
          subst (λ at. Reads c.args.edition c.args.source.now (map (λ t. t.now) c.push_kept.new.texts.items) at)
          (sym c.next-piece.ensures.finds.at)
          (subst (λ ts. Reads c.args.edition c.args.source.now ts c.next-piece.result.end)
          (sym c.in_ok-push_kept.ensures) more);
      edition = c.next-piece.ensures.finds.edition ∙ i.edition;
      source = c.next-piece.ensures.finds.source ∙ i.source;
      within = rw c.next-piece.ensures.finds.at (rw i.source at c.next-piece.ensures.within);
    }
