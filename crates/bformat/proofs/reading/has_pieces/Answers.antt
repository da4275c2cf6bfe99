use Rattle.std.proofs.Common.{◌∙◌, ◌≡◌, ◌+◌, ◌++◌, ◌∷◌, [], ap, get_or, subst, sym, take}
use Rattle.std.proofs.lemmas.List.{map-append, take_more}
use Rattle.std.proofs.Math.Seq.{take_all}
use Rattle.std.specs.Cmp.Lexicographic.{bytes_decides}
use Rattle.std.specs.Prelude.{slice_range}
use Rattle.std.proofs.lemmas.Bool.{not-false}
use Rattle.blex.proofs.PlaceSteps.{found_in}
use Rattle.bformat.specs.declared.reading.SourceItem.{SourceItem}
use Rattle.bformat.specs.Readings.{texts}
use Rattle.bformat.proofs.Upcoming.{Compares, compares_end, compares_more}
use Rattle.bformat.proofs.reading.has_pieces.Goals as goal

pub loop-piece-preserved : goal.loop-piece-preserved
loop-piece-preserved c =
    let i = c.loop-piece.invariant in
    let found = found_in _ _ _ c.args.edition c.args.text.now c.next-found.ensures.finds i.edition i.source in
    let more = compares_more c.args.edition c.args.text.now _ _ c.next-found.result found i.compares (sym c.is_end.ensures ∙ c.if-is_end.false) in
    let piece : SourceItem = get_or c.args.pieces.now c.loop-piece.piece-index _ in
    let same : slice_range c.args.text.now c.next-found.result.first c.next-found.result.end ≡ piece.text.now = (bytes_decides _ _).0 (not-false _ (sym c.ne.ensures ∙ c.if-ne.false)) in
    let taken : texts (take (c.loop-piece.piece-index + 1) c.args.pieces.now) ≡ texts (take c.loop-piece.piece-index c.args.pieces.now) ++ slice_range c.args.text.now c.next-found.result.first c.next-found.result.end ∷ [] =
    ap texts (take_more c.args.pieces.now c.loop-piece.piece-index _ c.loop-piece-test.true) ∙ map-append (λ (p : SourceItem). p.text.now) (take c.loop-piece.piece-index c.args.pieces.now) (piece ∷ [])
    ∙ ap (λ t. texts (take c.loop-piece.piece-index c.args.pieces.now) ++ t ∷ []) (sym same) in
    record {
      compares = subst (λ at. Compares c.args.edition c.args.text.now (texts (take (c.loop-piece.piece-index + 1) c.args.pieces.now)) at) (sym c.next-found.ensures.finds.at)
          (subst (λ ts. Compares c.args.edition c.args.text.now ts c.next-found.result.end) (sym taken) more);
      edition = c.next-found.ensures.finds.edition ∙ i.edition;
      source = c.next-found.ensures.finds.source ∙ i.source;
    }

pub returns : goal.returns
returns c = λ is.
    let i = c.loop-piece.invariant in
    let found = found_in _ _ _ c.args.edition c.args.text.now c.next.ensures.finds i.edition i.source in
    compares_end c.args.edition c.args.text.now _ _ c.next.result found
    (subst (λ ps. Compares c.args.edition c.args.text.now (texts ps) c.loop-piece.scanner.at) (take_all c.loop-piece.piece-index c.args.pieces.now c.loop-piece-test.false) i.compares)
    (sym c.is_end-2.ensures ∙ is)
