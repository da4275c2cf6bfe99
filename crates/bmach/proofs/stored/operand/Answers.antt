use Rattle.std.proofs.Common.{◌∙◌, arith}
use Rattle.bmach.proofs.Storing.{one_operand}
use Rattle.bmach.proofs.stored.operand.Goals as goal

pub returns-clause-stored : goal.returns-clause-stored
returns-clause-stored c = c.one_word.ensures.stored ∙ one_operand c.args.operands.now c.args.above (omega arith)
