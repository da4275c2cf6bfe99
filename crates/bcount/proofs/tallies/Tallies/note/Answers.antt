use Rattle.std.proofs.Common.{◌∙◌, ◌<◌, ℕ, Global, Vec, [], ap, arith, length, map, sym}
use Rattle.std.proofs.lemmas.List.{get_or-map, length-map, map-set}
use Rattle.bcount.specs.Tallies.{bumped}
use Rattle.bcount.proofs.Noting.{noted_at, noted_nowhere}
use Rattle.bcount.proofs.tallies.Tallies.note.Goals as goal

pub returns-then-number-len-clause-counts : goal.returns-then-number-len-clause-counts
returns-then-number-len-clause-counts c long =
    let items = λ (v : Vec ℕ Global). v.items in
    let all = c.args.self.now.counts.items in
    let es = c.args.self.now.tables.now in
    let within : c.in-Some.number < length all = omega (arith, c.in-Some.ensures.0, long) in
    map-set items all c.in-Some.number c.bump.new.counts
    ∙ noted_at c.args.call.strings c.args.call.place c.in-Some.number es.entries.items (map items all) c.bump.new.counts.items (length-map all items ∙ long) es.in_order c.in-Some.ensures
    (c.bump.ensures ∙ ap (bumped c.args.call.place) (ap items c.index_mut.ensures.value ∙ sym (get_or-map items all c.in-Some.number _ [] within)))

pub returns-else-number-len-clause-counts : goal.returns-else-number-len-clause-counts
returns-else-number-len-clause-counts c long = absurd (omega (arith, c.in-Some.ensures.0, long, c.len.ensures, c.if-number-len.false, c.args.self.now.counts.ok.0))

pub returns-in_default-clause-counts : goal.returns-in_default-clause-counts
returns-in_default-clause-counts c long =
    let items = λ (v : Vec ℕ Global). v.items in
    let all = c.args.self.now.counts.items in
    noted_nowhere c.args.call.strings c.args.call.place c.args.self.now.tables.now.entries.items (map items all) (length-map all items ∙ long) c.in_default.ensures
