use Rattle.std.proofs.Common.{◌∙◌, ◌++◌, [], ◌∷◌, ap, append-nil, get_or, map, refl, sym}
use Rattle.std.specs.List.{enumerate_from}
use Rattle.std.specs.Prelude.{ℕ, List, option_map}
use Rattle.std.proofs.lemmas.List.{drop_all}
use Rattle.btools.specs.ProgramLines.{lined_entry}
use Rattle.bcount.specs.Counts.{counted_at, row_of}
use Rattle.bcount.proofs.OnLines.{place_more}
use Rattle.bcount.proofs.lines.push_function.Goals as goal

pub loop-place-init : goal.loop-place-init
loop-place-init c = refl

pub loop-place-preserved : goal.loop-place-preserved
loop-place-preserved c =
    let f = option_map lined_entry c.args.entry in
    let items = c.loop-place.counted.items in
    let place = c.loop-place.place in
    place_more c.args.rows f c.args.counts.now place _ items c.push.new.self.items c.loop-place-test.true c.loop-place.invariant
    (c.in_ok-push.ensures.items ∙ (λ i. items ++ record { line = (c.row_of.ensures ∙ ap (row_of c.args.rows) c.line.ensures) i; count = get_or c.args.counts.now place 0 } ∷ []))

pub returns : goal.returns
returns c =
    let f = option_map lined_entry c.args.entry in
    let items = c.loop-place.counted.items in
    let place = c.loop-place.place in
    sym (c.loop-place.invariant ∙ ap (λ (cs : List ℕ). items ++ map (λ x. counted_at c.args.rows f x.0 x.1) (enumerate_from place cs)) (drop_all place c.args.counts.now c.loop-place-test.false) ∙ append-nil items)
