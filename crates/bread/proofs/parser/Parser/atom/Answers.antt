use Rattle.std.proofs.Common.{◌∙◌, ap, sym}
use Rattle.bgrammar.specs.ExpressionReader.{inner, primary, primary_at}
use Rattle.bgrammar.specs.StatementReader.{is_open_paren}
use Rattle.bread.proofs.Moving.{single_here, not_named, halt_here}
use Rattle.blex.proofs.LexemeSteps.{token_here}
use Rattle.bread.proofs.ExpressionSteps.{primary_none, number_took, character_took, text_took}
use Rattle.bread.proofs.parser.Parser.atom.Goals as goal

pub returns-in-Number : goal.returns-in-Number
returns-in-Number g c = number_took c.args.self.now.tokens c.take.new.self.tokens c.args.self.now.draft c.emit.new.self c.take.new.self.draft c.take.result c.in-Number.word c.place-place.result c.place-place.ensures.place c.take.ensures.tokens c.take.ensures.draft (token_here c.args.self.now.tokens.text c.lexeme.ensures c.in-Number.is) c.emit.ensures

pub returns-in-Character : goal.returns-in-Character
returns-in-Character g c = character_took c.args.self.now.tokens c.take-in-Character.new.self.tokens c.args.self.now.draft c.emit-in-Character.new.self c.take-in-Character.new.self.draft c.take-in-Character.result c.in-Character.word c.place-place.result c.place-place.ensures.place c.take-in-Character.ensures.tokens c.take-in-Character.ensures.draft (token_here c.args.self.now.tokens.text c.lexeme.ensures c.in-Character.is) c.emit-in-Character.ensures

pub returns-in-String : goal.returns-in-String
returns-in-String g c = text_took c.args.self.now.tokens c.take-in-String.new.self.tokens c.args.self.now.draft c.string-offset.new.self c.emit-in-String.new.self c.take-in-String.new.self.draft c.take-in-String.result c.args.self.now.tokens.text c.string.result.now c.string-offset.result c.place-place.result c.place-place.ensures.place c.take-in-String.ensures.tokens c.take-in-String.ensures.draft (token_here c.args.self.now.tokens.text c.lexeme.ensures c.in-String.is) c.string.ensures c.string-offset.ensures.draft c.string-offset.ensures.offset c.emit-in-String.ensures

pub returns-in_default : goal.returns-in_default
returns-in_default g c = λ room offset.
    halt_here {f = primary (inner room) offset} (single_here c.requires.loaded (not_named c.lexeme.result c.args.self.now.tokens.text c.lexeme.ensures (λ x. c.in_default.not-Name x)))
    (λ u e n. ap (λ t. primary_at (inner room) offset t u) (e ∙ sym c.lexeme.ensures)
    ∙ primary_none c.lexeme.result c.args.self.now.tokens.text (λ x. c.in_default.not-Name x) (λ x. c.in_default.not-Number x) (λ x. c.in_default.not-Character x) c.in_default.not-String (ap is_open_paren c.lexeme.ensures ∙ c.requires.no_group) (inner room) offset u)
