use Rattle.std.proofs.Common.{ap, ◌∙◌}
use Rattle.std.specs.Prelude.{is_some}
use Rattle.bnames.proofs.NameMembers.{is_some-value_of}
use Rattle.bread.specs.Definitions.{definition_begun}
use Rattle.bread.proofs.DefinitionSteps.{definition_err, definition_first, definition_then, definition_took}
use Rattle.bread.proofs.definitions.definition.Goals as goal

pub returns-in_err-word : goal.returns-in_err-word
returns-in_err-word g c = definition_err _ _ c.from_residual.result _ _ c.in_err-word.field-0.0 c.from_residual.ensures.1 (definition_first _ _ c.in_err-word.field-0.0 c.in_err-word.ensures.tokens)

pub returns-in_err-kind : goal.returns-in_err-kind
returns-in_err-kind g c = definition_err _ _ c.from_residual-in_err-kind.result _ _ c.in_err-kind.field-0.0 c.from_residual-in_err-kind.ensures.1 (definition_then _ _ _ _ _ c.in_err-kind.field-0.0 c.in_ok-word.ensures.tokens.runs c.clear_lines.ensures (c.in_err-kind.ensures _))

pub returns : goal.returns
returns g c = definition_took _ _ _ _ _ c.in_ok-word.word _ _ _ c.in_ok-kind.kind c.in_ok-word.ensures.tokens c.clear_lines.ensures (c.begin.ensures ∙ ap (definition_begun (record { text = c.in_ok-word.word.name; line = c.in_ok-word.word.line })) (c.is_some-is_defined.ensures ∙ ap is_some c.find.ensures.value ∙ is_some-value_of c.in_ok-word.word.name c.args.names.now)) (c.in_ok-kind.ensures.0 _) c.in_ok-kind.ensures.1
