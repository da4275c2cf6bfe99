use Rattle.std.proofs.Common.{◌∙◌, ap}
use Rattle.bemit.specs.Trails.{took}
use Rattle.bread.proofs.Moving.{past}
use Rattle.blex.proofs.LexemeSteps.{token_here, lexeme_here}
use Rattle.bgrammar.specs.DefinitionReader.{vector, function, after_name}
use Rattle.bread.proofs.DefinitionSteps.{filled_kind, kind_err, kind_after, bracket_runs, paren_runs, simple_halts, simple_took}
use Rattle.bread.proofs.definitions.after_name.Goals as goal

pub returns-in_ok-advance-in-OpenBracket : goal.returns-in_ok-advance-in-OpenBracket
returns-in_ok-advance-in-OpenBracket g c = kind_after vector after_name _ _ _ c.vector.result _ _ (bracket_runs _ _ c.in_ok-advance-in-OpenBracket.ensures.ok (token_here c.args.parser.now.tokens.text c.lexeme.ensures c.in-OpenBracket.is)) (λ w u ls q. ap took q ∙ past c.in_ok-advance-in-OpenBracket.ensures.ok ls) c.vector.ensures

pub returns-in_ok-advance-in-OpenParen : goal.returns-in_ok-advance-in-OpenParen
returns-in_ok-advance-in-OpenParen g c = kind_after function after_name _ _ _ c.function.result _ _ (paren_runs _ _ c.in_ok-advance-in-OpenParen.ensures.ok (token_here c.args.parser.now.tokens.text c.lexeme.ensures c.in-OpenParen.is)) (λ w u ls q. ap took q ∙ past c.in_ok-advance-in-OpenParen.ensures.ok ls) c.function.ensures

pub returns-in_err-values-in_default : goal.returns-in_err-values-in_default
returns-in_err-values-in_default g c = kind_err _ _ _ _ c.from_residual-in_err-values-in_default.result _ _ c.in_err-values-in_default.field-0.0 c.from_residual-in_err-values-in_default.ensures.1 (λ w. simple_halts _ c.requires (λ e. c.in_default.not-OpenBracket (lexeme_here c.lexeme.result c.args.parser.now.tokens.text (c.lexeme.ensures ∙ e))) (λ e. c.in_default.not-OpenParen (lexeme_here c.lexeme.result c.args.parser.now.tokens.text (c.lexeme.ensures ∙ e))) w _ c.in_err-values-in_default.field-0.0 c.in_err-values-in_default.ensures)

pub returns-in_ok-values-in_default : goal.returns-in_ok-values-in_default
returns-in_ok-values-in_default g c = filled_kind _ _ c.fill_lines.ensures (simple_took _ c.requires (λ e. c.in_default.not-OpenBracket (lexeme_here c.lexeme.result c.args.parser.now.tokens.text (c.lexeme.ensures ∙ e))) (λ e. c.in_default.not-OpenParen (lexeme_here c.lexeme.result c.args.parser.now.tokens.text (c.lexeme.ensures ∙ e))) _ _ _ _ _ c.in_ok-values-in_default.ensures _ c.value_place.ensures.place) c.in_ok-values-in_default.ensures.single
