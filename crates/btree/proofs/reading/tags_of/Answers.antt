use Rattle.std.proofs.Common.{◌≡◌, ◌∙◌, ◌++◌, [], ap, drop, sym}
use Rattle.std.proofs.lemmas.List.{drop_all}
use Rattle.btree.specs.Machine.{run}
use Rattle.btree.proofs.Definitions.{are_tags}
use Rattle.btree.proofs.reading.tags_of.Goals as goal

pub returns : goal.returns
returns c =
    let none : drop c.loop-index.index c.args.sorts.now ≡ [] = drop_all c.loop-index.index c.args.sorts.now c.loop-index-test.false in
    are_tags c.args.sorts.now c.finish.new.self.tags.items
    (c.in_ok-finish.ensures ∙ ap (λ ss. c.loop-index.reader.tags.items ++ run c.loop-index.reader.phase c.loop-index.reader.opens ss) (sym none) ∙ sym c.loop-index.invariant)
