use Rattle.std.proofs.Common.{subst}
use Rattle.bauthor.specs.NameFiles.{Fails, function_wanted}
use Rattle.bauthor.specs.Readers.{Advances, read_by}
use Rattle.bauthor.proofs.Advancing.{lines_next, some_more}
use Rattle.bauthor.proofs.reading.Reader.take_all.Goals as goal

pub loop-definition-preserved : goal.loop-definition-preserved
loop-definition-preserved c =
    some_more read_by Fails _ _ _ _ c.args.self.now c.loop-definition.self c.take_definition.new.self c.loop-definition.invariant
    (lines_next function_wanted _ _ _ c.loop-definition-test.true c.definition-item.is)
    (subst (λ r. Advances (function_wanted c.definition-item.result) c.loop-definition.self r c.take_definition.new.self) c.in-Ok.is c.take_definition.ensures)
