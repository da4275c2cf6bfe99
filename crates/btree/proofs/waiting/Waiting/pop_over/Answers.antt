use Rattle.std.proofs.Common.{◌≡◌, Some, arith}
use Rattle.btree.specs.declared.nodes.Pending.TheVariants as pending
use Rattle.btree.specs.NodeMachine.{innermost}
use Rattle.btree.proofs.NodeSteps.{popped}
use Rattle.btree.proofs.waiting.Waiting.pop_over.Goals as goal

pub returns-in-Some-Operator : goal.returns-in-Some-Operator
returns-in-Some-Operator c =
    let top : innermost c.args.self.now ≡ Some (pending.Operator c.in-Some-Operator.node) = grind (arith, c.innermost.ensures, c.in-Some-Operator.is, c.in-Some-Operator.field-0-is) in
    (popped c.args.self.now c.pop.new.self c.in-Some-Operator.node c.pop.result top c.pop.ensures, omega (arith, c.looseness.ensures, c.if-looseness-bound.true))
