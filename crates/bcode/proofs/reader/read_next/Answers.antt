use Rattle.std.proofs.Common.{subst, Option, Ok}
use Rattle.bcode.specs.Ahead.{TakesText, DefinitionGives}
use Rattle.blang.specs.Text.{end_text}
use Rattle.blang.specs.declared.code.Definition.{Definition}
use Rattle.bcode.proofs.ReaderLaws.{opening_exit, definition_exit, end_exit}
use Rattle.bcode.proofs.reader.read_next.Goals as goal

pub returns-in_err-read_opening : goal.returns-in_err-read_opening
returns-in_err-read_opening g c = opening_exit _ _ _ _ _ c.from_residual.ensures.1 c.in_err-read_opening.ensures

pub returns-in_err-definition : goal.returns-in_err-definition
returns-in_err-definition g c = definition_exit _ _ _ _ _ _ c.in_ok-read_opening.ensures c.from_residual-in_err-definition.ensures.1 c.in_err-definition.ensures

pub returns-in_err-read_end-in-None : goal.returns-in_err-read_end-in-None
returns-in_err-read_end-in-None g c =
    let last : TakesText c.read_opening.new.lines end_text 1 c.next_definition.new.lines =
    subst (λ (o : Option Definition). DefinitionGives c.read_opening.new.lines (Ok o) c.next_definition.new.lines) c.in-None.is c.in_ok-definition.ensures in
    end_exit _ _ _ _ _ _ _ c.in_ok-read_opening.ensures last c.from_residual-in_err-read_end-in-None.ensures.1 c.in_err-read_end-in-None.ensures
