use Rattle.std.proofs.Common.{subst}
use Rattle.bauthor.specs.LineFiles.{Fails, places_wanted}
use Rattle.bauthor.specs.Readers.{LinesAdvance, lines_by}
use Rattle.bauthor.proofs.Advancing.{lines_next, some_more}
use Rattle.bauthor.proofs.place_lines.LineReader.take_all.Goals as goal

pub loop-definition-preserved : goal.loop-definition-preserved
loop-definition-preserved c =
    some_more lines_by Fails _ _ _ _ c.args.self.now c.loop-definition.self c.take_definition.new.self c.loop-definition.invariant
    (lines_next (places_wanted c.args.last) _ _ _ c.loop-definition-test.true c.definition-item.is)
    (subst (λ r. LinesAdvance (places_wanted c.args.last c.definition-item.result) c.loop-definition.self r c.take_definition.new.self) c.in-Ok.is c.take_definition.ensures)
