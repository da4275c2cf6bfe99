use Rattle.std.proofs.Common.{◌≡◌, ◌∙◌, ◌+◌, ◌<◌, ◌≤◌, ap, arith, length, subst, sym}
use Rattle.bendless.specs.Keeps.{IsAt, IsKept, repeat_of}
use Rattle.bendless.specs.Repeats.{Repeats}
use Rattle.bendless.specs.Replays.{Replayed, lender_replay}
use Rattle.bendless.proofs.Searching.{Came, HasKept, came_first, came_on, end_known, kept_full, kept_here, kept_on, kept_same, ok_given, repeats, states}
use Rattle.bendless.proofs.search.search.Goals as goal

pub loop-made-init : goal.loop-made-init
loop-made-init g c =
    let first = c.args.stepper in
    let bytes = c.args.bytes.now in
    let came = came_first first bytes c.requires in
    record {
      came = subst (λ (u : Replayed). Came first bytes 0 first u.left u.is_over) (sym c.new-input.ensures) came;
      kept = subst (λ (u : Replayed). HasKept first bytes c.in_ok-kept.kept 0 first u.left u.is_over) (sym c.new-input.ensures) (kept_here first bytes c.in_ok-kept.kept 0 first bytes _ came (ok_given c.of.result c.in_ok-kept.kept (λ k. IsKept k first (length bytes) 0) c.in_ok-kept.ensures.value c.of.ensures));
      which = ap lender_replay c.new-input.ensures;
      few = omega arith;
    }

pub is_at-requires : goal.is_at-requires
is_at-requires g c =
    kept_full c.args.stepper c.args.bytes.now c.loop-made.kept c.loop-made.made c.loop-made.stepper c.loop-made.input.left c.loop-made.input.is_over c.loop-made.invariant.kept

pub returns-then-is_at : goal.returns-then-is_at
returns-then-is_at g c more can =
    let first = c.args.stepper in
    let bytes = c.args.bytes.now in
    let p = c.loop-made.stepper in
    let p' = c.step.new.self in
    let u = c.loop-made.input in
    let u' = c.step.new.input in
    let n = c.loop-made.made in
    let k = c.loop-made.kept in
    let inv = c.loop-made.invariant in
    let is = c.left-left.ensures.stands in
    let long : k.callers ≤ length p'.below = omega (arith, c.if-callers-kept.true, c.callers.ensures) in
    let came = came_on first bytes n p p' u u' _ _ is inv.came c.in-Ok.ensures.gives c.in-Ok.ensures.image in
    let kept = kept_on first bytes k n p p' u u' _ _ is inv.came c.in-Ok.ensures.gives c.in-Ok.ensures.image long inv.kept in
    let later : k.made < n + 1 = let l = inv.kept.later in omega (arith, l) in
    let at : IsAt k p' (length u'.left) = subst (IsAt k p') c.left-left.ensures.count (c.is_at.ensures.is_at c.if-is_at.true) in
    let same = c.is_at.ensures.same in
    let found : repeat_of c.is_at.new.self (n + 1) ≡ repeat_of k (n + 1) =
    λ i. record { first = same.made i; again = n + 1; call = same.call i; callers = same.callers i } in
    subst (Repeats (states first bytes more)) (sym (c.again.ensures ∙ found))
    (repeats first bytes k (n + 1) p' u'.left u'.is_over came kept later at more (end_known u' bytes more c.args.has_end is (c.in-Ok.ensures.input ∙ inv.which) can))

pub overflow_sub-made : goal.overflow_sub-made
overflow_sub-made g c = let l = c.loop-made.invariant.kept.later in let e = c.is_at.ensures.same.made in omega (arith, l, e)

pub loop-made-preserved-then-made-kept : goal.loop-made-preserved-then-made-kept
loop-made-preserved-then-made-kept g c =
    let first = c.args.stepper in
    let bytes = c.args.bytes.now in
    let p = c.loop-made.stepper in
    let p' = c.step.new.self in
    let u = c.loop-made.input in
    let u' = c.step.new.input in
    let n = c.loop-made.made in
    let k = c.loop-made.kept in
    let inv = c.loop-made.invariant in
    let is = c.left-left.ensures.stands in
    let long : k.callers ≤ length p'.below = omega (arith, c.if-callers-kept.true, c.callers.ensures) in
    let kept = kept_on first bytes k n p p' u u' _ _ is inv.came c.in-Ok.ensures.gives c.in-Ok.ensures.image long inv.kept in
    record {
      came = came_on first bytes n p p' u u' _ _ is inv.came c.in-Ok.ensures.gives c.in-Ok.ensures.image;
      kept = kept_same first bytes k c.is_at.new.self (n + 1) p' u'.left u'.is_over c.is_at.ensures.same kept;
      which = c.in-Ok.ensures.input ∙ inv.which;
      few = inv.few;
    }

pub loop-made-preserved : goal.loop-made-preserved
loop-made-preserved g c =
    let first = c.args.stepper in
    let bytes = c.args.bytes.now in
    let p = c.loop-made.stepper in
    let p' = c.step.new.self in
    let u = c.loop-made.input in
    let u' = c.step.new.input in
    let n = c.loop-made.made in
    let inv = c.loop-made.invariant in
    let is = c.left-left.ensures.stands in
    let k = c.in_ok-kept-2.kept in
    let came = came_on first bytes n p p' u u' _ _ is inv.came c.in-Ok.ensures.gives c.in-Ok.ensures.image in
    record {
      came = came;
      kept = kept_here first bytes k (n + 1) p' u'.left u'.is_over came (subst (λ left. IsKept k p' left (n + 1)) c.left-left.ensures.count (ok_given c.of-in-loop-made.result k (λ x. IsKept x p' c.left-left.result (n + 1)) c.in_ok-kept-2.ensures.value c.of-in-loop-made.ensures));
      which = c.in-Ok.ensures.input ∙ inv.which;
      few = let f = inv.few in omega (arith, f, c.if-count-eq-MOST_KEPT.false);
    }
