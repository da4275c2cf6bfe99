use Rattle.std.proofs.Common.{Err, refl}
use Rattle.bcode.specs.Ahead.{TakesText, DefinitionGives, NextDefinitionGives}
use Rattle.blang.specs.Text.{end_text}
use Rattle.bcode.proofs.CopyLaws.{text_exit, none_given}
use Rattle.bcode.proofs.ReaderLaws.{opening_exit, definition_exit, end_exit}
use Rattle.bcode.proofs.reader.copy_next.Goals as goal

pub returns-in_err-read_opening : goal.returns-in_err-read_opening
returns-in_err-read_opening g c =
    text_exit _ _ (λ a. NextDefinitionGives c.args.opens c.args.lines.now a c.read_opening.new.lines) _ _ c.from_residual.ensures.1
    (opening_exit _ _ _ (Err _) _ refl c.in_err-read_opening.ensures)

pub returns-in_err-copy_definition : goal.returns-in_err-copy_definition
returns-in_err-copy_definition g c =
    text_exit _ _ (λ a. NextDefinitionGives c.args.opens c.args.lines.now a c.copy_definition.new.lines) _ _ c.from_residual-in_err-copy_definition.ensures.1
    (definition_exit _ _ _ _ (Err _) _ c.in_ok-read_opening.ensures refl c.in_err-copy_definition.ensures)

pub returns-in_err-read_end : goal.returns-in_err-read_end
returns-in_err-read_end g c =
    let last : TakesText c.read_opening.new.lines end_text 1 c.copy_definition.new.lines =
    (none_given _ _ (λ a. DefinitionGives c.read_opening.new.lines a c.copy_definition.new.lines) _ c.if-branch.false c.in_ok-copy_definition.ensures).0 in
    text_exit _ _ (λ a. NextDefinitionGives c.args.opens c.args.lines.now a c.read_end.new.lines) _ _ c.from_residual-in_err-read_end.ensures.1
    (end_exit _ _ _ _ _ (Err _) _ c.in_ok-read_opening.ensures last refl c.in_err-read_end.ensures)
