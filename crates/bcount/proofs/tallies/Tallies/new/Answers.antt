use Rattle.std.proofs.Common.{◌∙◌, ℕ, Global, Vec, [], ◌∷◌, ap, map, replicate}
use Rattle.std.proofs.lemmas.List.{map-append, take_all}
use Rattle.bcount.specs.Tallies.{blank}
use Rattle.bcount.proofs.Noting.{one_blank}
use Rattle.bcount.proofs.tallies.Tallies.new.Goals as goal

pub loop-entry-preserved : goal.loop-entry-preserved
loop-entry-preserved c =
    let items = λ (v : Vec ℕ Global). v.items in
    let e = c.entry-item.result in
    one_blank c.entries-entry-items.result.now c.loop-entry.entry-index e (map items c.loop-entry.counts.items) _ c.in_ok-zeros.field-0.items c.loop-entry-test.true c.entry-item.is c.loop-entry.invariant
    (c.in_ok-zeros.ensures ∙ ap (λ (n : ℕ). replicate n 0) (c.len.ensures ∙ e.parts.now.code.ok.0))
    (ap (map items) c.in_ok-push.ensures.items ∙ map-append items c.loop-entry.counts.items (c.in_ok-zeros.field-0 ∷ []))

pub returns-clause-counts : goal.returns-clause-counts
returns-clause-counts c =
    c.loop-entry.invariant ∙ ap (map blank) (take_all c.loop-entry.entry-index c.entries-entry-items.result.now c.loop-entry-test.false ∙ c.entries-entry-items.ensures)
