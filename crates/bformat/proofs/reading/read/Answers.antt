use Rattle.std.proofs.Common.{◌∙◌, ◌≡◌, ◌++◌, ◌∷◌, [], ap, subst, sym}
use Rattle.std.proofs.lemmas.List.{map-append}
use Rattle.std.specs.Prelude.{slice_range}
use Rattle.blex.proofs.PlaceSteps.{found_in}
use Rattle.bformat.specs.declared.reading.SourceItem.{SourceItem}
use Rattle.bformat.specs.Readings.{texts}
use Rattle.bformat.proofs.Upcoming.{Reads, reads_end, reads_more, reads_wrong}
use Rattle.bformat.proofs.reading.read.Goals as goal

pub returns-then-is_end : goal.returns-then-is_end
returns-then-is_end c =
    let i = c.loop-scanner.invariant in
    let found = found_in _ _ _ c.args.edition c.args.source.now c.next-found.ensures.finds i.edition i.source in
    let end = reads_end c.args.edition c.args.source.now _ _ c.next-found.result found i.reads (sym c.is_end.ensures ∙ c.if-is_end.true) in
    record { all = end.0; fine = end.1 }

pub returns-then-is_bad : goal.returns-then-is_bad
returns-then-is_bad c =
    let i = c.loop-scanner.invariant in
    let found = found_in _ _ _ c.args.edition c.args.source.now c.next-found.ensures.finds i.edition i.source in
    reads_wrong c.args.edition c.args.source.now _ _ c.next-found.result found i.reads (sym c.is_bad.ensures ∙ c.if-is_bad.true)

pub loop-scanner-preserved : goal.loop-scanner-preserved
loop-scanner-preserved c =
    let i = c.loop-scanner.invariant in
    let found = found_in _ _ _ c.args.edition c.args.source.now c.next-found.ensures.finds i.edition i.source in
    let more = reads_more c.args.edition c.args.source.now _ _ c.next-found.result found i.reads (sym c.is_end.ensures ∙ c.if-is_end.false) (sym c.is_bad.ensures ∙ c.if-is_bad.false) in
    let pushed : texts c.push.new.self.items ≡ texts c.loop-scanner.pieces.items ++ slice_range c.args.source.now c.next-found.result.first c.next-found.result.end ∷ [] =
    ap texts c.in_ok-push.ensures.items ∙ map-append (λ (p : SourceItem). p.text.now) c.loop-scanner.pieces.items (c.piece_after.result ∷ [])
    ∙ ap (λ t. texts c.loop-scanner.pieces.items ++ t ∷ []) c.piece_after.ensures in
    record {
      reads = subst (λ at. Reads c.args.edition c.args.source.now (texts c.push.new.self.items) at) (sym c.next-found.ensures.finds.at)
          (subst (λ ts. Reads c.args.edition c.args.source.now ts c.next-found.result.end) (sym pushed) more);
      edition = c.next-found.ensures.finds.edition ∙ i.edition;
      source = c.next-found.ensures.finds.source ∙ i.source;
      place = sym c.next-found.ensures.finds.at;
      within = rw c.next-found.ensures.finds.at (rw i.source at c.next-found.ensures.within);
    }
