use Rattle.std.proofs.Common.{◌≡◌, ◌∙◌, ◌++◌, [], ap, append-nil, drop, sym}
use Rattle.std.proofs.lemmas.List.{drop_all}
use Rattle.btree.specs.NodeMachine.{node_run}
use Rattle.btree.proofs.NodesOfPrograms.{are_nodes}
use Rattle.btree.proofs.node_reading.nodes_of.Goals as goal

pub returns : goal.returns
returns c =
    let none : drop c.loop-index.index c.args.lexemes.now ≡ [] = drop_all c.loop-index.index c.args.lexemes.now c.loop-index-test.false in
    are_nodes c.args.lexemes.now c.loop-index.reader.tags.items
    (sym (append-nil c.loop-index.reader.tags.items) ∙ ap (λ ls. c.loop-index.reader.tags.items ++ node_run c.loop-index.reader.stage c.loop-index.reader.waiting ls) (sym none) ∙ sym c.loop-index.invariant)
