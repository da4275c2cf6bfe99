use Rattle.std.proofs.Common.{sym, ap, ◌∙◌}
use Rattle.blex.proofs.LexemeSteps.{token_here}
use Rattle.blang.specs.declared.code.Ival.TheVariants as ival
use Rattle.blang.specs.Trees.{Ival_text}
use Rattle.bgrammar.specs.Fitting.{values_words}
use Rattle.bgrammar.specs.DefinitionReader.{ival, ival_at}
use Rattle.bemit.specs.Drafts.{valued, stringed, offset_of}
use Rattle.bread.proofs.DefinitionSteps.{number_ends, name_ends, value_ends}
use Rattle.bread.proofs.Moving.{single_here, not_named, halt_here}
use Rattle.bread.proofs.Takings.{constant_here, ival_none}
use Rattle.bread.proofs.definitions.value.Goals as goal

pub returns-in-Number : goal.returns-in-Number
returns-in-Number g c = number_ends c.in-Number.word _ _ c.valued-in-Number.result _ _ (constant_here c.args.parser.now.tokens.text c.lexeme.ensures c.in-Number.is) c.value_place-place.result c.value_place-place.ensures.place c.valued-in-Number.ensures

pub returns-in-Name : goal.returns-in-Name
returns-in-Name g c = name_ends c.in-Name.name _ _ c.valued.result _ _ (token_here c.args.parser.now.tokens.text c.lexeme.ensures c.in-Name.is) c.value_place-place.result c.value_place-place.ensures.place c.valued.ensures

pub returns-in-String : goal.returns-in-String
returns-in-String g c = let d = c.args.parser.now.draft in let text = c.args.parser.now.tokens.text in value_ends (λ before. Ival_text text (values_words before)) (ival.Text c.string-offset.result) c.args.parser.now.tokens d c.string-offset.new.self c.valued-in-String.result _ _ (λ before u f l. ap (λ t. ival_at (values_words before) t u) (f ∙ token_here text c.lexeme.ensures c.in-String.is)) (λ before. sym (ap (λ o. valued (ival.Text o) c.string-offset.new.self) c.string-offset.ensures.offset ∙ ap (valued (ival.Text (offset_of d))) (c.string-offset.ensures.draft ∙ ap (λ b. stringed b d) c.string.ensures))) c.value_place-place.result c.value_place-place.ensures.place c.valued-in-String.ensures

pub returns-in_default : goal.returns-in_default
returns-in_default g c = λ before.
    halt_here {f = ival before} (single_here c.requires (not_named c.lexeme.result c.args.parser.now.tokens.text c.lexeme.ensures (λ x. c.in_default.not-Name x)))
    (λ u e n. ap (λ t. ival_at (values_words before) t u) (e ∙ sym c.lexeme.ensures)
    ∙ ival_none c.lexeme.result c.args.parser.now.tokens.text (λ x. c.in_default.not-Name x) (λ x. c.in_default.not-Number x) (λ x. c.in_default.not-Character x) c.in_default.not-String (values_words before) u)
