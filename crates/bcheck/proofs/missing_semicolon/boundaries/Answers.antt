use Rattle.std.proofs.Common.{◌∙◌, ◌++◌, [], ap, subst, sym, vec_items}
use Rattle.blex.specs.Places.{Scanner}
use Rattle.bcheck.specs.Boundaries.{boundary_on}
use Rattle.bcheck.proofs.BoundarySteps.{HasBoundaries, boundaries_end, boundaries_from, boundaries_more}
use Rattle.bcheck.proofs.TokenPlaces.{found_in}
use Rattle.bcheck.proofs.missing_semicolon.boundaries.Goals as goal

pub loop-places-init : goal.loop-places-init
loop-places-init c =
    let at = ap (λ (s : Scanner). s.at) c.new-scanner.ensures in
    let source = c.args.source.now in
    record {
      boundaries =
          subst (λ ps. HasBoundaries c.args.edition source c.args.line ps c.new-scanner.result.at) (sym c.new-places.ensures.items)
          (subst (λ n. HasBoundaries c.args.edition source c.args.line [] n) (sym at) (boundaries_from c.args.edition source c.args.line));
      edition = ap (λ (s : Scanner). s.edition) c.new-scanner.ensures;
      source = ap (λ (s : Scanner). s.source) c.new-scanner.ensures;
      last = sym at;
    }

pub loop-places-preserved : goal.loop-places-preserved
loop-places-preserved c =
    let i = c.loop-places.invariant in
    let edition = c.args.edition in
    let source = c.args.source.now in
    let line = c.args.line in
    let piece = c.next-piece.result in
    let old = vec_items c.loop-places.places in
    let found = found_in _ _ _ edition source c.next-piece.ensures.finds i.edition i.source in
    let more = boundaries_more edition source line old _ piece found i.boundaries (sym c.ends.ensures ∙ c.if-ends.false) in
    let pushed = c.in_ok-push_boundary.ensures ∙ ap (λ n. old ++ boundary_on line n piece) i.last in
    record {
      boundaries =
          subst (λ n. HasBoundaries edition source line (vec_items c.push_boundary.new.places) n) (sym c.next-piece.ensures.finds.at)
          (subst (λ ps. HasBoundaries edition source line ps piece.end) (sym pushed) more);
      edition = c.next-piece.ensures.finds.edition ∙ i.edition;
      source = c.next-piece.ensures.finds.source ∙ i.source;
      last = sym c.next-piece.ensures.finds.at;
    }

pub returns-then-ends : goal.returns-then-ends
returns-then-ends c =
    let i = c.loop-places.invariant in
    let edition = c.args.edition in
    let source = c.args.source.now in
    let line = c.args.line in
    let piece = c.next-piece.result in
    let old = vec_items c.loop-places.places in
    let found = found_in _ _ _ edition source c.next-piece.ensures.finds i.edition i.source in
    c.in_ok-push_boundary.ensures ∙ ap (λ n. old ++ boundary_on line n piece) i.last
    ∙ boundaries_end edition source line old _ piece found i.boundaries (sym c.ends.ensures ∙ c.if-ends.true)
