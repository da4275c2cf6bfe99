use Rattle.std.proofs.Common.{◌∙◌, ◌≡◌, ◌+◌, ◌<◌, ◌∷◌, List, [], ap, arith, drop, length, refl, subst, sym}
use Rattle.std.proofs.lemmas.Option.{slice_get_read}
use Rattle.bnaming.specs.Binding.{reached}
use Rattle.bnaming.specs.declared.rows.Row.{Row}
use Rattle.bnaming.proofs.BindingSteps.{Indexes, entered_more, here, indexed, reached_end, reached_more}
use Rattle.bnaming.proofs.binding.index.Goals as goal

pub returns-then-ends : goal.returns-then-ends
returns-then-ends c =
    let l = c.loop-place in
    let rows = c.args.rows.now in
    let reach = c.args.reach in
    let ended : reached reach l.now_open (drop l.place rows) ≡ [] =
    reached_end reach l.now_open (drop l.place rows) (sym c.ends.ensures ∙ c.if-ends.true) in
    indexed rows reach (reached reach c.args.opens (drop c.args.start rows)) (reached reach l.now_open (drop l.place rows)) l.table ended l.invariant.1

pub loop-place-preserved : goal.loop-place-preserved
loop-place-preserved c =
    let l = c.loop-place in
    let rows = c.args.rows.now in
    let reach = c.args.reach in
    let r = c.index-rows-place.result in
    let more = c.opens_after-now_open.result in
    let within : l.place < length rows = omega (arith, c.loop-place-test.true) in
    let there = slice_get_read rows (length rows) l.place r refl within c.index-rows-place.is in
    let going : reached reach l.now_open (drop l.place rows) ≡ r ∷ reached reach more (drop (l.place + 1) rows) =
    ap (reached reach l.now_open) (here rows l.place r within c.index-rows-place.is)
    ∙ reached_more reach l.now_open r (drop (l.place + 1) rows) (sym c.ends.ensures ∙ c.if-ends.false)
    ∙ ap (λ n. r ∷ reached reach n (drop (l.place + 1) rows)) (sym c.opens_after-now_open.ensures.is) in (
      omega (arith, l.invariant.0, c.opens_after-now_open.ensures.more),
      entered_more rows reach (reached reach c.args.opens (drop c.args.start rows)) (reached reach more (drop (l.place + 1) rows)) r l.place there l.table c.enter.new.table c.in_ok-enter.ensures
          (subst (λ (rs : List Row). Indexes rows reach (reached reach c.args.opens (drop c.args.start rows)) rs l.table) going l.invariant.1),
    )
