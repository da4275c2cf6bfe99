use Rattle.std.proofs.Common.{◌+◌, sym, ap, ◌∙◌}
use Rattle.std.specs.Option.{is_some}
use Rattle.blang.specs.declared.token.Token.TheVariants as token
use Rattle.blex.proofs.LexemeSteps.{token_here, lexeme_here}
use Rattle.bgrammar.specs.Fitting.{words, statement_words, body_words}
use Rattle.blang.specs.Trees.{Goto}
use Rattle.bgrammar.specs.StatementReader.{compound, switched, chosen, looped, goes_on, level}
use Rattle.bgrammar.specs.StatementReader as reader
use Rattle.blang.specs.declared.code.Instr.TheVariants as instr
use Rattle.bemit.specs.Drafts.{filled}
use Rattle.bemit.specs.Effects.{evaluated, done}
use Rattle.bemit.specs.Trails.{trailed_statement}
use Rattle.bread.specs.Headings.{unheaded}
use Rattle.bread.specs.Statements.{after_current, conditional_after, repeated}
use Rattle.bread.proofs.Steps.{compiles_err, noted_part}
use Rattle.bread.proofs.Takings.{less, both_fall, falls_before}
use Rattle.bread.proofs.StatementSteps.{compiles_as, at_brace, empty_ends, plain_ends, at_if, at_while, at_switch, at_goto, break_ends, return_ends, other_ends, headings_begin, headings_go, headings_stop, headings_end, compound_enter, compound_ends, body_begins, body_goes, body_halts, body_ends, tested_enter, tested_halts, conditional_body, conditional_ends, repeated_body, repeated_took, otherwise_absent, otherwise_halts, otherwise_took, chooses_err, switched_enter, switched_value, switched_brace, switched_body_halts, switched_took}
use Rattle.bread.proofs.statement.+statements.Goals as goal

pub statement-headings-init : goal.statement-headings-init
statement-headings-init g t c = headings_begin _ _ c.requires

pub statement-headings-preserved : goal.statement-headings-preserved
statement-headings-preserved g t c = headings_go c.headings.invariant (rw c.if-branch.true at c.in_ok-heading.ensures)

pub statement-returns-in_err-heading : goal.statement-returns-in_err-heading
statement-returns-in_err-heading g t c = compiles_err _ _ _ _ _ _ c.from_residual.result _ _ c.in_err-heading.field-0.0 c.from_residual.ensures.1 (λ i. headings_stop c.headings.invariant _ _ c.in_err-heading.field-0.0 c.in_err-heading.ensures c.args.room i)

pub statement-returns : goal.statement-returns
statement-returns g t c = headings_end c.headings.invariant c.args.room _ _ (rw c.if-branch.false at c.in_ok-heading.ensures) c.unheaded.result _ _ c.unheaded.ensures

pub unheaded-returns-in-OpenBrace : goal.unheaded-returns-in-OpenBrace
unheaded-returns-in-OpenBrace g t c = compiles_as (unheaded c.args.room) (compound (level c.args.room)) done trailed_statement _ _ c.compound.result _ _ c.requires (at_brace c.args.room c.args.parser.now.tokens (token_here c.args.parser.now.tokens.text c.lexeme.ensures c.in-OpenBrace.is)) c.compound.ensures

pub unheaded-returns-in-Semicolon : goal.unheaded-returns-in-Semicolon
unheaded-returns-in-Semicolon g t c = empty_ends c.args.room _ _ c.expect_at.result _ _ c.place-place.result c.place-place.ensures.place c.requires (token_here c.args.parser.now.tokens.text c.lexeme.ensures c.in-Semicolon.is) c.expect_at.ensures.tokens c.expect_at.ensures.draft

pub unheaded-returns-in_default : goal.unheaded-returns-in_default
unheaded-returns-in_default g t c = plain_ends c.args.room _ _ c.ended.result _ _ c.requires (λ e. c.in_default.not-OpenBrace (lexeme_here c.lexeme.result c.args.parser.now.tokens.text (c.lexeme.ensures ∙ e))) (λ e. c.in_default.not-Semicolon (lexeme_here c.lexeme.result c.args.parser.now.tokens.text (c.lexeme.ensures ∙ e))) (λ k e. c.in_default.not-Keyword k (lexeme_here c.lexeme.result c.args.parser.now.tokens.text (c.lexeme.ensures ∙ e))) c.ended.ensures

pub keyed-returns-in-If : goal.keyed-returns-in-If
keyed-returns-in-If g t c = compiles_as (unheaded c.args.room) (conditional_after c.args.room) done trailed_statement _ _ c.conditional.result _ _ c.requires.loaded (at_if c.args.room c.args.parser.now.tokens (c.requires.keyword ∙ ap (λ k. token.Keyword k) c.in-If.is)) c.conditional.ensures

pub keyed-returns-in-While : goal.keyed-returns-in-While
keyed-returns-in-While g t c = compiles_as (unheaded c.args.room) (repeated c.args.room) done trailed_statement _ _ c.repeated.result _ _ c.requires.loaded (at_while c.args.room c.args.parser.now.tokens (c.requires.keyword ∙ ap (λ k. token.Keyword k) c.in-While.is)) c.repeated.ensures

pub keyed-returns-in-Switch : goal.keyed-returns-in-Switch
keyed-returns-in-Switch g t c = compiles_as (unheaded c.args.room) (switched (level c.args.room)) done trailed_statement _ _ c.switched.result _ _ c.requires.loaded (at_switch c.args.room c.args.parser.now.tokens (c.requires.keyword ∙ ap (λ k. token.Keyword k) c.in-Switch.is)) c.switched.ensures

pub keyed-returns-in-Goto : goal.keyed-returns-in-Goto
keyed-returns-in-Goto g t c = compiles_as (unheaded c.args.room) (after_current (λ off. reader.ended c.args.room off Goto)) done trailed_statement _ _ c.goto.result _ _ c.requires.loaded (at_goto c.args.room c.args.parser.now.tokens (c.requires.keyword ∙ ap (λ k. token.Keyword k) c.in-Goto.is)) c.goto.ensures

pub keyed-returns-in_ok-take-in-Return : goal.keyed-returns-in_ok-take-in-Return
keyed-returns-in_ok-take-in-Return g t c = return_ends c.args.room _ _ _ c.returned.result _ _ c.place-in-Return.result c.place-in-Return.ensures.place (c.requires.keyword ∙ ap (λ k. token.Keyword k) c.in-Return.is) c.in_ok-take-in-Return.ensures.ok c.returned.ensures

pub keyed-returns-in_ok-take-in-Break : goal.keyed-returns-in_ok-take-in-Break
keyed-returns-in_ok-take-in-Break g t c = break_ends c.args.room c.line-line.result _ _ c.line-line.ensures (c.requires.keyword ∙ ap (λ k. token.Keyword k) c.in-Break.is) c.place.result c.in_ok-take-in-Break.ensures.ok _ c.broken.result _ _ c.place.ensures.place c.broken.ensures

pub keyed-returns-in_default : goal.keyed-returns-in_default
keyed-returns-in_default g t c = other_ends c.args.room c.args.keyword _ _ c.ended.result _ _ c.requires.loaded c.requires.keyword c.in_default.not-If c.in_default.not-While c.in_default.not-Switch c.in_default.not-Goto c.in_default.not-Break c.in_default.not-Return c.ended.ensures

pub compound-returns-in_err-room : goal.compound-returns-in_err-room
compound-returns-in_err-room g t c = compiles_err _ _ _ _ _ _ c.from_residual.result _ _ c.in_err-room.field-0.0 c.from_residual.ensures.1 (λ i. compound_enter c.args.room i _ _ c.in_err-room.field-0.0 c.in_err-room.ensures.tokens)

pub compound-returns : goal.compound-returns
compound-returns g t c = compound_ends c.args.room c.in_ok-room.room _ _ _ _ c.body.result _ _ c.in_ok-room.ensures.tokens c.in_ok-room.ensures.draft c.body.ensures

pub body-statements-init : goal.body-statements-init
body-statements-init g t c = ((λ i. body_begins c.args.room i _ _ c.requires.0), c.requires)

pub body-statements-preserved : goal.body-statements-preserved
body-statements-preserved g t c = let b = c.statements.invariant in let e = c.in_ok-statement.ensures in ((λ i. body_goes c.args.room i _ _ _ _ (b.0 i) b.1.0 (sym (c.goes_on.ensures c.statements.parser.tokens.text ∙ ap (λ t. is_some (goes_on t)) c.lexeme.ensures) ∙ c.statements-test.true) _ _ (e.0 (i + body_words (b.0 i).body))), e.1)

pub body-returns-in_err-statement : goal.body-returns-in_err-statement
body-returns-in_err-statement g t c = let b = c.statements.invariant in compiles_err _ _ _ _ _ _ c.from_residual.result _ _ c.in_err-statement.field-0.0 c.from_residual.ensures.1 (λ i. body_halts c.args.room i _ _ _ _ (b.0 i) b.1.0 (sym (c.goes_on.ensures c.statements.parser.tokens.text ∙ ap (λ t. is_some (goes_on t)) c.lexeme.ensures) ∙ c.statements-test.true) _ c.in_err-statement.field-0.0 (c.in_err-statement.ensures (i + body_words (b.0 i).body)))

pub body-returns : goal.body-returns
body-returns g t c = let b = c.statements.invariant in body_ends c.args.room _ _ _ _ b.0 b.1.0 (sym (c.goes_on.ensures c.statements.parser.tokens.text ∙ ap (λ t. is_some (goes_on t)) c.lexeme.ensures) ∙ c.statements-test.false) c.expect_at.result _ _ c.place-place.result c.place-place.ensures.place c.expect_at.ensures.tokens c.expect_at.ensures.draft

pub conditional-returns-in_err-room : goal.conditional-returns-in_err-room
conditional-returns-in_err-room g t c = compiles_err _ _ _ _ _ _ c.from_residual.result _ _ c.in_err-room.field-0.0 c.from_residual.ensures.1 (λ i. tested_enter c.args.room i _ _ chosen c.in_err-room.field-0.0 c.in_err-room.ensures.tokens)

pub conditional-returns-in_err-condition : goal.conditional-returns-in_err-condition
conditional-returns-in_err-condition g t c = compiles_err _ _ _ _ _ _ c.from_residual-in_err-condition.result _ _ c.in_err-condition.field-0.0 c.from_residual-in_err-condition.ensures.1 (λ i. tested_halts c.args.room c.in_ok-room.room i _ _ c.in_ok-room.ensures.tokens chosen _ c.in_err-condition.field-0.0 (c.in_err-condition.ensures i))

pub conditional-returns-in_err-statement : goal.conditional-returns-in_err-statement
conditional-returns-in_err-statement g t c = compiles_err _ _ _ _ _ _ c.from_residual-in_err-statement.result _ _ c.in_err-statement.field-0.0 c.from_residual-in_err-statement.ensures.1 (λ i. let w = c.in_ok-condition.ensures.0 i in conditional_body c.args.room c.in_ok-room.room i _ _ _ _ c.in_ok-room.ensures.tokens w.tree w.runs c.in_err-statement.field-0.0 (c.in_err-statement.ensures (i + words w.tree)))

pub repeated-returns-in_err-room : goal.repeated-returns-in_err-room
repeated-returns-in_err-room g t c = compiles_err _ _ _ _ _ _ c.from_residual.result _ _ c.in_err-room.field-0.0 c.from_residual.ensures.1 (λ i. tested_enter c.args.room i _ _ looped c.in_err-room.field-0.0 c.in_err-room.ensures.tokens)

pub repeated-returns-in_err-condition : goal.repeated-returns-in_err-condition
repeated-returns-in_err-condition g t c = compiles_err _ _ _ _ _ _ c.from_residual-in_err-condition.result _ _ c.in_err-condition.field-0.0 c.from_residual-in_err-condition.ensures.1 (λ i. tested_halts c.args.room c.in_ok-room.room i _ _ c.in_ok-room.ensures.tokens looped _ c.in_err-condition.field-0.0 (c.in_err-condition.ensures i))

pub repeated-returns-in_err-statement : goal.repeated-returns-in_err-statement
repeated-returns-in_err-statement g t c = compiles_err _ _ _ _ _ _ c.from_residual-in_err-statement.result _ _ c.in_err-statement.field-0.0 c.from_residual-in_err-statement.ensures.1 (λ i. let w = c.in_ok-condition.ensures.0 i in repeated_body c.args.room c.in_ok-room.room i _ _ _ _ c.in_ok-room.ensures.tokens w.tree w.runs c.in_err-statement.field-0.0 (c.in_err-statement.ensures (i + words w.tree)))

pub conditional-returns : goal.conditional-returns
conditional-returns g t c = conditional_ends c.args.room c.in_ok-room.room c.place-test.result _ _ _ _ _ _ _ _ _ c.in_ok-room.ensures.tokens c.in_ok-room.ensures.draft c.in_ok-condition.ensures.0 c.place-test.ensures.place c.emit.ensures c.in_ok-statement.ensures.0 c.in_ok-statement.ensures.2 c.otherwise.result _ _ c.otherwise.ensures

pub repeated-returns : goal.repeated-returns
repeated-returns g t c = noted_part _ _ c.note.ensures (repeated_took c.args.room c.in_ok-room.room c.place-top.result c.place-test.result _ c.place.result c.line-line.result _ _ _ _ _ _ _ _ _ _ _ _ c.in_ok-room.ensures.tokens c.place.ensures.place c.line-line.ensures c.place-top.ensures.place c.in_ok-room.ensures.draft c.in_ok-condition.ensures.0 c.place-test.ensures.place c.emit.ensures c.mark-mark.ensures c.begin_loop.ensures c.in_ok-statement.ensures.0 c.close_loop.ensures c.skip_to_here.ensures) c.in_ok-statement.ensures.1 (both_fall (both_fall (less c.in_ok-room.ensures.tokens.1) c.in_ok-condition.ensures.2) c.in_ok-statement.ensures.2)

pub otherwise-returns-then-not-is_at : goal.otherwise-returns-then-not-is_at
otherwise-returns-then-not-is_at g t c = otherwise_absent c.args.room c.args.test _ _ _ c.requires (sym c.is_at.ensures ∙ c.if-not-is_at.true) c.skip_to_here.ensures

pub otherwise-returns-in_err-statement : goal.otherwise-returns-in_err-statement
otherwise-returns-in_err-statement g t c = chooses_err c.args.room c.args.test _ _ c.from_residual-in_err-statement.result _ _ c.in_err-statement.field-0.0 c.from_residual-in_err-statement.ensures.1 (λ i e s. otherwise_halts c.args.room _ _ c.in_ok-advance.ensures.ok (sym c.is_at.ensures ∙ c.if-not-is_at.false) i e s _ c.in_err-statement.field-0.0 (c.in_err-statement.ensures (i + words e + statement_words s)))

pub otherwise-returns : goal.otherwise-returns
otherwise-returns g t c = let e = c.in_ok-statement.ensures in otherwise_took c.args.room _ _ c.in_ok-advance.ensures.ok (sym c.is_at.ensures ∙ c.if-not-is_at.false) c.args.test c.place-jump.result _ _ _ _ _ _ c.place-jump.ensures.place c.emit.ensures c.skip_to_here-2.ensures e.0 e.1 e.2 (c.fill.ensures ∙ ap (λ p. filled c.place-jump.result (instr.Jump p) c.statement.new.parser.draft) c.place-end.ensures.place)

pub switched-returns-in_err-room : goal.switched-returns-in_err-room
switched-returns-in_err-room g t c = compiles_err _ _ _ _ _ _ c.from_residual.result _ _ c.in_err-room.field-0.0 c.from_residual.ensures.1 (λ i. switched_enter c.args.room i _ _ c.in_err-room.field-0.0 c.in_err-room.ensures.tokens)

pub switched-returns-in_err-evaluate : goal.switched-returns-in_err-evaluate
switched-returns-in_err-evaluate g t c = compiles_err _ _ _ _ _ _ c.from_residual-in_err-evaluate.result _ _ c.in_err-evaluate.field-0.0 c.from_residual-in_err-evaluate.ensures.1 (λ i. switched_value c.args.room c.in_ok-room.room i _ _ c.in_ok-room.ensures.tokens _ c.in_err-evaluate.field-0.0 (c.in_err-evaluate.ensures i))

pub switched-returns-in_err-expect : goal.switched-returns-in_err-expect
switched-returns-in_err-expect g t c = compiles_err _ _ _ _ _ _ c.from_residual-in_err-expect.result _ _ c.in_err-expect.field-0.0 c.from_residual-in_err-expect.ensures.1 (λ i. let w = c.in_ok-evaluate.ensures.0 i in switched_brace c.args.room c.in_ok-room.room i _ _ c.in_ok-room.ensures.tokens _ w.tree w.runs _ c.in_err-expect.field-0.0 c.in_err-expect.ensures.tokens)

pub switched-returns-in_err-body : goal.switched-returns-in_err-body
switched-returns-in_err-body g t c = compiles_err _ _ _ _ _ _ c.from_residual-in_err-body.result _ _ c.in_err-body.field-0.0 c.from_residual-in_err-body.ensures.1 (λ i. let w = c.in_ok-evaluate.ensures.0 i in switched_body_halts c.args.room c.in_ok-room.room i _ _ c.in_ok-room.ensures.tokens _ w.tree w.runs _ c.in_ok-expect.ensures.tokens _ c.in_err-body.field-0.0 (c.in_err-body.ensures (i + words w.tree)))

pub switched-returns : goal.switched-returns
switched-returns g t c = noted_part _ _ c.note.ensures (λ i. let w = c.in_ok-evaluate.ensures.0 i in switched_took c.args.room c.in_ok-room.room i _ _ c.in_ok-room.ensures.tokens _ w.tree w.runs _ c.in_ok-expect.ensures.tokens c.place-jump.result _ c.place.result c.line-line.result _ _ _ _ _ _ _ _ c.place.ensures.place c.line-line.ensures c.in_ok-room.ensures.draft w.leads (c.in_ok-expect.ensures.draft ∙ w.made ∙ ap (evaluated w.tree) c.in_ok-room.ensures.draft) c.mark-mark.ensures c.place-jump.ensures.place c.emit.ensures c.begin_switch.ensures (c.in_ok-body.ensures.0 (i + words w.tree)) c.close_switch.ensures) c.in_ok-body.ensures.1 (both_fall (falls_before (less c.in_ok-room.ensures.tokens.1) (c.in_ok-evaluate.ensures.0 0).runs.falls) (both_fall c.in_ok-expect.ensures.tokens.falls c.in_ok-body.ensures.2))
