use Rattle.std.proofs.Common.{◌≡◌, ◌∙◌, ℕ, List, [], Option, None, ap, subst, sym}
use Rattle.bword.specs.declared.edition.Edition.{Edition}
use Rattle.blex.specs.Places.{Scanner}
use Rattle.bcheck.proofs.SectionSteps.{Collects, collects_all, collects_from, collects_more}
use Rattle.bcheck.proofs.TokenPlaces.{found_in}
use Rattle.bcheck.proofs.further.places_after.Goals as goal

-- the same at an equal place
there : (edition : Edition) (line : ℕ) (source : List ℕ) (at other : ℕ) (head : Option ℕ) (places : List ℕ) → other ≡ at → Collects edition line source at head places → Collects edition line source other head places
there edition line source at other head places e h = subst (λ n. Collects edition line source n head places) (sym e) h

-- nothing was read so far
begun : (edition : Edition) (line : ℕ) (source : List ℕ) (at : ℕ) (places : List ℕ) → at ≡ 0 → places ≡ [] → Collects edition line source at None places
begun edition line source at places e f = there edition line source 0 at None places e (subst (λ ps. Collects edition line source 0 None ps) (sym f) (collects_from edition line source))

pub loop-places-init : goal.loop-places-init
loop-places-init c =
    let edition = c.args.source.edition in
    let source = c.args.source.text.now in
    record {
      collects = begun edition c.args.line source _ _ (ap (λ (s : Scanner). s.at) c.new-scanner.ensures) c.new-places.ensures.items;
      edition = ap (λ (s : Scanner). s.edition) c.new-scanner.ensures;
      source = ap (λ (s : Scanner). s.source) c.new-scanner.ensures;
    }

pub loop-places-preserved : goal.loop-places-preserved
loop-places-preserved c =
    let edition = c.args.source.edition in
    let source = c.args.source.text.now in
    let i = c.loop-places.invariant in
    let found = found_in _ _ _ edition source c.next-piece.ensures.finds i.edition i.source in
    let more = collects_more edition c.args.line source _ _ _ _ _ c.next-piece.result found i.collects c.in_ok-push_opened.ensures c.head_after-head.ensures (sym c.is_end.ensures ∙ c.if-is_end.false) in
    record {
      collects = there edition c.args.line source _ _ _ _ c.next-piece.ensures.finds.at more;
      edition = c.next-piece.ensures.finds.edition ∙ i.edition;
      source = c.next-piece.ensures.finds.source ∙ i.source;
    }

pub returns-then-is_end : goal.returns-then-is_end
returns-then-is_end c =
    let edition = c.args.source.edition in
    let source = c.args.source.text.now in
    let i = c.loop-places.invariant in
    let found = found_in _ _ _ edition source c.next-piece.ensures.finds i.edition i.source in
    collects_all edition c.args.line source _ _ None _ _ c.next-piece.result found i.collects c.in_ok-push_opened.ensures (sym c.is_end.ensures ∙ c.if-is_end.true)
