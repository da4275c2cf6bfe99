use Rattle.std.proofs.Common.{◌∙◌, ap, subst, sym}
use Rattle.blex.specs.Places.{Scanner}
use Rattle.bcheck.proofs.TokenPlaces.{Seeks, found_in, seeks_end, seeks_from, seeks_on}
use Rattle.bcheck.proofs.places.token_on.Goals as goal

pub loop-scanner-init : goal.loop-scanner-init
loop-scanner-init c = record {
  seeks = subst (λ at. Seeks c.args.edition c.args.source.now c.args.line at _) (sym (ap (λ (s : Scanner). s.at) c.new-scanner.ensures)) (seeks_from c.args.edition c.args.source.now c.args.line);
  edition = ap (λ (s : Scanner). s.edition) c.new-scanner.ensures;
  source = ap (λ (s : Scanner). s.source) c.new-scanner.ensures;
}

pub loop-scanner-preserved : goal.loop-scanner-preserved
loop-scanner-preserved c =
    let i = c.loop-scanner.invariant in
    let found = found_in _ _ _ c.args.edition c.args.source.now c.next-piece.ensures.finds i.edition i.source in
    let more = seeks_on c.args.edition c.args.source.now c.args.line _ _ _ c.next-piece.result found i.seeks c.choose-found.ensures (sym c.ends-is_last.ensures ∙ c.if-is_last.false) in
    record {
      seeks = subst (λ at. Seeks c.args.edition c.args.source.now c.args.line at c.choose-found.result) (sym c.next-piece.ensures.finds.at) more;
      edition = c.next-piece.ensures.finds.edition ∙ i.edition;
      source = c.next-piece.ensures.finds.source ∙ i.source;
    }

pub returns-then-is_last : goal.returns-then-is_last
returns-then-is_last c =
    let i = c.loop-scanner.invariant in
    let found = found_in _ _ _ c.args.edition c.args.source.now c.next-piece.ensures.finds i.edition i.source in
    seeks_end c.args.edition c.args.source.now c.args.line _ _ _ c.next-piece.result found i.seeks c.choose-found.ensures (sym c.ends-is_last.ensures ∙ c.if-is_last.true)
