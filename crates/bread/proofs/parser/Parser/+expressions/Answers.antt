use Rattle.std.proofs.Common.{◌+◌, ◌-◌, ◌<◌, false, Some, Ok, sym, ap, ◌∙◌, refl, arith}
use Rattle.blang.specs.Trees.{PostIncrement, PostDecrement, Literal, Number}
use Rattle.bgrammar.specs.ExpressionReader.{inner, primary, postfix, postfix_with, call, operand, chain, conditional, reader, Rvalue, Index, Call, Step, suffix, prefix_op}
use Rattle.bgrammar.specs.Reading.{first}
use Rattle.bemit.specs.Drafts.{emitted}
use Rattle.bemit.specs.declared.form.Form.TheVariants.{Place, Lone}
use Rattle.bread.specs.declared.halt.Halt.TheVariants as halt
use Rattle.bread.specs.Tokens.{work}
use Rattle.bread.specs.Parsers.{called_at, assigned_at, op_within, prefix_meant, suffix_meant}
use Rattle.bread.proofs.Moving.{follows_err, continues_err, passes_err, halt_bind}
use Rattle.bread.proofs.ExpressionSteps.{conditional_none, suffixes, group_stops, group_open, group_took, no_arguments, first_stops, arguments_begin, comma_stops, more_stops, arguments_go, end_stops, arguments_end, tighter_rank, chain_first_stops, chain_begins, operator_stops, right_stops, chain_goes, chain_ends, arm_stops, colon_stops, chain_stops, rest_stops, conditional_took, evaluate_took, operand_none, prefix_stops, prefix_took, prefix_leaves, postfix_begins, postfix_stops, postfix_goes, postfix_ends, rvalue_stops, rvalue_goes, assign_full, assign_stops, assign_took, as_suffix, index_stops, index_open, index_took, index_called, call_stops, call_took, call_called, increment_took, decrement_took}
use Rattle.bread.proofs.parser.Parser.+expressions.Goals as goal

pub primary-returns-in_err-form : goal.primary-returns-in_err-form
primary-returns-in_err-form g t c = follows_err (primary (inner c.args.room)) (called_at c.rvalue.new.self.tokens) c.args.self.now.tokens c.rvalue.new.self.tokens c.args.self.now.draft c.rvalue.new.self.draft c.from_residual-in_err-form.result c.in_err-form.field-0.0 c.from_residual-in_err-form.ensures.1 (group_stops c.args.room _ c.args.self.now.tokens c.enter.new.self.tokens c.in_ok-room.ensures.tokens (sym c.if-not-is_at.ensures) c.rvalue.new.self.tokens c.in_err-form.field-0.0 c.in_err-form.ensures)

pub primary-returns-in_err-expect : goal.primary-returns-in_err-expect
primary-returns-in_err-expect g t c = follows_err (primary (inner c.args.room)) (called_at c.expect.new.self.tokens) c.args.self.now.tokens c.expect.new.self.tokens c.args.self.now.draft c.expect.new.self.draft c.from_residual-in_err-expect.result c.in_err-expect.field-0.0 c.from_residual-in_err-expect.ensures.1 (group_open c.args.room _ c.args.self.now.tokens c.enter.new.self.tokens c.in_ok-room.ensures.tokens (sym c.if-not-is_at.ensures) c.rvalue.new.self.tokens c.args.self.now.draft c.enter.new.self.draft c.rvalue.new.self.draft c.in_ok-form.form c.in_ok-form.ensures.0 c.expect.new.self.tokens c.in_err-expect.field-0.0 c.in_err-expect.ensures.tokens)

pub primary-returns : goal.primary-returns
primary-returns g t c = group_took c.args.room _ c.args.self.now.tokens c.enter.new.self.tokens c.in_ok-room.ensures.tokens (sym c.if-not-is_at.ensures) c.rvalue.new.self.tokens c.args.self.now.draft c.enter.new.self.draft c.rvalue.new.self.draft c.in_ok-form.form c.in_ok-form.ensures.0 c.expect.new.self.tokens c.expect.new.self.draft c.grouped.result c.in_ok-room.ensures.draft c.in_ok-expect.ensures.tokens c.in_ok-expect.ensures.draft c.grouped.ensures

pub arguments-returns-then-is_at : goal.arguments-returns-then-is_at
arguments-returns-then-is_at g t c = no_arguments c.args.room c.args.self.now.tokens c.advance.new.self c.args.self.now.draft (sym c.if-is_at.ensures) c.in_ok-advance.ensures.ok

pub arguments-returns-in_err-evaluate : goal.arguments-returns-in_err-evaluate
arguments-returns-in_err-evaluate g t c = passes_err (call (inner (c.args.room + 1))) c.args.self.now.tokens c.evaluate.new.self.tokens c.args.self.now.draft c.evaluate.new.self.draft c.from_residual-in_err-evaluate.result c.in_err-evaluate.field-0.0 c.from_residual-in_err-evaluate.ensures.1 (first_stops c.args.room c.args.self.now.tokens c.requires (sym c.if-is_at.ensures) c.evaluate.new.self.tokens c.in_err-evaluate.field-0.0 c.in_err-evaluate.ensures)

pub arguments-more-init : goal.arguments-more-init
arguments-more-init g t c = arguments_begin c.args.room c.args.self.now.tokens c.requires (sym c.if-is_at.ensures) c.evaluate.new.self.tokens c.args.self.now.draft c.evaluate.new.self.draft c.in_ok-evaluate.ensures

pub arguments-returns-in_err-advance-2 : goal.arguments-returns-in_err-advance-2
arguments-returns-in_err-advance-2 g t c = passes_err (call (inner (c.args.room + 1))) c.args.self.now.tokens c.advance-in-more.new.self c.args.self.now.draft c.more.self.draft c.from_residual-in_err-advance-2.result halt.Device c.from_residual-in_err-advance-2.ensures.1 (comma_stops c.args.room c.args.self.now.tokens c.more.self.tokens c.args.self.now.draft c.more.self.draft c.more.count c.more.invariant c.advance-in-more.new.self halt.Device c.in_err-advance-2.ensures.err refl)

pub arguments-returns-in_err-evaluate-2 : goal.arguments-returns-in_err-evaluate-2
arguments-returns-in_err-evaluate-2 g t c = passes_err (call (inner (c.args.room + 1))) c.args.self.now.tokens c.evaluate-in-more.new.self.tokens c.args.self.now.draft c.evaluate-in-more.new.self.draft c.from_residual-in_err-evaluate-2.result c.in_err-evaluate-2.field-0.0 c.from_residual-in_err-evaluate-2.ensures.1 (more_stops c.args.room c.args.self.now.tokens c.more.self.tokens c.args.self.now.draft c.more.self.draft c.more.count c.more.invariant c.advance-in-more.new.self (sym c.more-test.ensures) c.in_ok-advance-2.ensures.ok c.evaluate-in-more.new.self.tokens c.in_err-evaluate-2.field-0.0 c.in_err-evaluate-2.ensures)

pub arguments-more-smaller : goal.arguments-more-smaller
arguments-more-smaller g t c = let h : work c.evaluate-in-more.new.self.tokens < work c.more.self.tokens = omega (arith, c.in_ok-advance-2.ensures.ok.falls, (c.in_ok-evaluate-2.ensures.0 0).runs.falls) in h

pub arguments-more-preserved : goal.arguments-more-preserved
arguments-more-preserved g t c = arguments_go c.args.room c.args.self.now.tokens c.more.self.tokens c.args.self.now.draft c.more.self.draft c.more.count c.more.invariant c.advance-in-more.new.self (sym c.more-test.ensures) c.in_ok-advance-2.ensures.ok c.evaluate-in-more.new.self.tokens c.evaluate-in-more.new.self.draft c.saturating_add-count.result c.in_ok-evaluate-2.ensures c.saturating_add-count.ensures

pub arguments-returns-in_err-expect : goal.arguments-returns-in_err-expect
arguments-returns-in_err-expect g t c = passes_err (call (inner (c.args.room + 1))) c.args.self.now.tokens c.expect.new.self.tokens c.args.self.now.draft c.expect.new.self.draft c.from_residual-in_err-expect.result c.in_err-expect.field-0.0 c.from_residual-in_err-expect.ensures.1 (end_stops c.args.room c.args.self.now.tokens c.more.self.tokens c.args.self.now.draft c.more.self.draft c.more.count c.more.invariant (sym c.more-test.ensures) c.expect.new.self.tokens c.in_err-expect.field-0.0 c.in_err-expect.ensures.tokens)

pub arguments-returns : goal.arguments-returns
arguments-returns g t c = arguments_end c.args.room c.args.self.now.tokens c.more.self.tokens c.args.self.now.draft c.more.self.draft c.more.count c.more.invariant (sym c.more-test.ensures) c.expect.new.self.tokens c.expect.new.self.draft c.in_ok-expect.ensures.tokens c.in_ok-expect.ensures.draft

pub chain-returns-in_err-form : goal.chain-returns-in_err-form
chain-returns-in_err-form g t c = follows_err (chain (inner c.args.room) c.args.rank) false c.args.self.now.tokens c.operand.new.self.tokens c.args.self.now.draft c.operand.new.self.draft c.from_residual.result c.in_err-form.field-0.0 c.from_residual.ensures.1 (chain_first_stops c.args.room c.args.rank c.args.self.now.tokens c.operand.new.self.tokens c.in_err-form.field-0.0 c.in_err-form.ensures)

pub chain-operators-init : goal.chain-operators-init
chain-operators-init g t c = chain_begins c.args.room c.args.rank c.args.self.now.tokens c.operand.new.self.tokens c.args.self.now.draft c.operand.new.self.draft c.in_ok-form.form c.in_ok-form.ensures

pub chain-returns-in_err-advance : goal.chain-returns-in_err-advance
chain-returns-in_err-advance g t c = follows_err (chain (inner c.args.room) c.args.rank) false c.args.self.now.tokens c.advance.new.self c.args.self.now.draft c.load.new.draft c.from_residual-in_err-advance.result halt.Device c.from_residual-in_err-advance.ensures.1 (operator_stops c.args.room c.args.rank c.args.self.now.tokens c.operators.self.tokens c.advance.new.self c.args.self.now.draft c.operators.self.draft c.operators.form halt.Device c.operators.invariant c.in_err-advance.ensures.err refl)

pub chain-returns-in_err-right : goal.chain-returns-in_err-right
chain-returns-in_err-right g t c = follows_err (chain (inner c.args.room) c.args.rank) false c.args.self.now.tokens c.chain.new.self.tokens c.args.self.now.draft c.chain.new.self.draft c.from_residual-in_err-right.result c.in_err-right.field-0.0 c.from_residual-in_err-right.ensures.1 (right_stops c.args.room c.args.rank c.args.self.now.tokens c.operators.self.tokens c.args.self.now.draft c.operators.self.draft c.operators.form c.operators.invariant c.in-Some.op (sym (c.in-Some.ensures c.operators.self.tokens.text ∙ ap (op_within c.args.rank) c.lexeme.ensures)) (c.rank_of.result - 1) (tighter_rank c.in-Some.op c.rank_of.result c.rank_of.ensures) c.advance.new.self c.in_ok-advance.ensures.ok c.chain.new.self.tokens c.in_err-right.field-0.0 c.in_err-right.ensures)

pub chain-operators-smaller : goal.chain-operators-smaller
chain-operators-smaller g t c = let h : work c.chain.new.self.tokens < work c.operators.self.tokens = omega (arith, c.in_ok-advance.ensures.ok.falls, (c.in_ok-right.ensures.0 0).runs.falls) in h

pub chain-operators-preserved : goal.chain-operators-preserved
chain-operators-preserved g t c = chain_goes c.args.room c.args.rank c.args.self.now.tokens c.operators.self.tokens c.args.self.now.draft c.operators.self.draft c.operators.form c.operators.invariant c.in-Some.op (sym (c.in-Some.ensures c.operators.self.tokens.text ∙ ap (op_within c.args.rank) c.lexeme.ensures)) (c.rank_of.result - 1) (tighter_rank c.in-Some.op c.rank_of.result c.rank_of.ensures) c.advance.new.self c.in_ok-advance.ensures.ok c.chain.new.self.tokens c.load.new.draft c.chain.new.self.draft c.load-in-Some.new.draft c.emit.new.self c.in_ok-right.right c.load.ensures c.in_ok-right.ensures c.load-in-Some.ensures c.emit.ensures

pub chain-returns : goal.chain-returns
chain-returns g t c = chain_ends c.args.room c.args.rank c.args.self.now.tokens c.operators.self.tokens c.args.self.now.draft c.operators.self.draft c.operators.form c.operators.invariant (sym (c.in_default.ensures c.operators.self.tokens.text ∙ ap (op_within c.args.rank) c.lexeme.ensures))

pub conditional-returns-in_err-evaluate : goal.conditional-returns-in_err-evaluate
conditional-returns-in_err-evaluate g t c = continues_err (conditional (inner c.args.room)) false false c.args.form c.args.self.now.tokens c.evaluate.new.self.tokens c.args.self.now.draft c.evaluate.new.self.draft c.from_residual-in_err-evaluate.result c.in_err-evaluate.field-0.0 c.from_residual-in_err-evaluate.ensures.1 (arm_stops c.args.room c.in_ok-room.room c.args.self.now.tokens c.enter.new.self.tokens c.in_ok-room.ensures.tokens (sym c.if-not-is_at.ensures) c.evaluate.new.self.tokens c.in_err-evaluate.field-0.0 c.in_err-evaluate.ensures)

pub conditional-returns-in_err-expect : goal.conditional-returns-in_err-expect
conditional-returns-in_err-expect g t c = continues_err (conditional (inner c.args.room)) false false c.args.form c.args.self.now.tokens c.expect.new.self.tokens c.args.self.now.draft c.expect.new.self.draft c.from_residual-in_err-expect.result c.in_err-expect.field-0.0 c.from_residual-in_err-expect.ensures.1 (colon_stops c.args.room c.in_ok-room.room c.args.self.now.tokens c.enter.new.self.tokens c.in_ok-room.ensures.tokens (sym c.if-not-is_at.ensures) c.evaluate.new.self.tokens c.emit.new.self c.evaluate.new.self.draft c.in_ok-evaluate.ensures.0 c.expect.new.self.tokens c.in_err-expect.field-0.0 c.in_err-expect.ensures.tokens)

pub conditional-returns-in_err-form : goal.conditional-returns-in_err-form
conditional-returns-in_err-form g t c = continues_err (conditional (inner c.args.room)) false false c.args.form c.args.self.now.tokens c.chain.new.self.tokens c.args.self.now.draft c.chain.new.self.draft c.from_residual-in_err-form.result c.in_err-form.field-0.0 c.from_residual-in_err-form.ensures.1 (chain_stops c.args.room c.in_ok-room.room c.args.self.now.tokens c.enter.new.self.tokens c.in_ok-room.ensures.tokens (sym c.if-not-is_at.ensures) c.evaluate.new.self.tokens c.emit.new.self c.evaluate.new.self.draft c.in_ok-evaluate.ensures.0 c.expect.new.self.tokens c.in_ok-expect.ensures.tokens c.chain.new.self.tokens c.in_err-form.field-0.0 c.in_err-form.ensures)

pub conditional-returns-in_err-form-2 : goal.conditional-returns-in_err-form-2
conditional-returns-in_err-form-2 g t c = continues_err (conditional (inner c.args.room)) false false c.args.form c.args.self.now.tokens c.conditional.new.self.tokens c.args.self.now.draft c.conditional.new.self.draft c.from_residual-in_err-form-2.result c.in_err-form-2.field-0.0 c.from_residual-in_err-form-2.ensures.1 (rest_stops c.args.room c.in_ok-room.room c.args.self.now.tokens c.enter.new.self.tokens c.in_ok-room.ensures.tokens (sym c.if-not-is_at.ensures) c.evaluate.new.self.tokens c.emit.new.self c.evaluate.new.self.draft c.in_ok-evaluate.ensures.0 c.expect.new.self.tokens c.in_ok-expect.ensures.tokens c.chain.new.self.tokens c.fill.new.self c.chain.new.self.draft c.in_ok-form.form c.in_ok-form.ensures.0 c.conditional.new.self.tokens c.in_err-form-2.field-0.0 c.in_err-form-2.ensures)

pub conditional-returns : goal.conditional-returns
conditional-returns g t c = conditional_took c.args.room c.in_ok-room.room c.args.self.now.tokens c.enter.new.self.tokens c.in_ok-room.ensures.tokens (sym c.if-not-is_at.ensures) c.evaluate.new.self.tokens c.emit.new.self c.evaluate.new.self.draft c.in_ok-evaluate.ensures.0 c.expect.new.self.tokens c.in_ok-expect.ensures.tokens c.chain.new.self.tokens c.fill.new.self c.chain.new.self.draft c.in_ok-form.form c.in_ok-form.ensures.0 c.conditional.new.self.tokens c.args.self.now.draft c.load.new.draft c.enter.new.self.draft c.expect.new.self.draft c.emit-2.new.self c.conditional.new.self.draft c.load-2.new.draft c.fill-2.new.self c.args.form c.in_ok-form-2.form c.place-test.result c.place-end.result c.place-second.result c.place-following.result c.in_ok-form-2.ensures c.load.ensures c.in_ok-room.ensures.draft c.place-test.ensures.place c.emit.ensures c.in_ok-expect.ensures.draft c.place-end.ensures.place c.emit-2.ensures c.place-second.ensures.place c.fill.ensures c.load-2.ensures c.place-following.ensures.place c.fill-2.ensures

pub evaluate-returns : goal.evaluate-returns
evaluate-returns g t c = evaluate_took c.args.room c.args.self.now.tokens c.rvalue.new.self.tokens c.args.self.now.draft c.rvalue.new.self.draft c.load.new.draft c.in_ok-form.form c.in_ok-form.ensures c.load.ensures

pub operand-returns-in_default : goal.operand-returns-in_default
operand-returns-in_default g t c = operand_none c.args.room c.args.self.now.tokens c.postfix.new.self.tokens c.args.self.now.draft c.postfix.new.self.draft c.postfix.result c.requires (sym (c.in_default.ensures c.args.self.now.tokens.text ∙ ap prefix_op c.lexeme.ensures)) c.postfix.ensures

pub operand-returns-in_err-form : goal.operand-returns-in_err-form
operand-returns-in_err-form g t c = follows_err (operand (inner c.args.room)) false c.args.self.now.tokens c.operand.new.self.tokens c.args.self.now.draft c.operand.new.self.draft c.from_residual-in_err-form.result c.in_err-form.field-0.0 c.from_residual-in_err-form.ensures.1 (prefix_stops c.args.room c.in_ok-room.room (prefix_meant c.in-Some.op) c.args.self.now.tokens c.enter.new.self.tokens c.in_ok-room.ensures.tokens (sym (c.in-Some.ensures c.args.self.now.tokens.text ∙ ap prefix_op c.lexeme.ensures)) c.operand.new.self.tokens c.in_err-form.field-0.0 c.in_err-form.ensures)

pub operand-returns : goal.operand-returns
operand-returns g t c = prefix_took c.args.room c.in_ok-room.room (prefix_meant c.in-Some.op) c.args.self.now.tokens c.enter.new.self.tokens c.in_ok-room.ensures.tokens (sym (c.in-Some.ensures c.args.self.now.tokens.text ∙ ap prefix_op c.lexeme.ensures)) c.operand.new.self.tokens c.note.new.self c.args.self.now.draft c.enter.new.self.draft c.operand.new.self.draft c.prefix.new.draft c.in_ok-form.form c.prefix.result c.line-line.result c.place.result c.note.ensures c.in_ok-room.ensures.draft c.in_ok-form.ensures c.line-line.ensures c.prefix.ensures.draft (prefix_leaves c.in-Some.op c.prefix.result c.prefix.ensures.form) c.place.ensures.place

pub postfix-returns-in_err-form : goal.postfix-returns-in_err-form
postfix-returns-in_err-form g t c = follows_err (postfix (inner c.args.room)) false c.args.self.now.tokens c.primary.new.self.tokens c.args.self.now.draft c.primary.new.self.draft c.from_residual.result c.in_err-form.field-0.0 c.from_residual.ensures.1 (λ off. halt_bind c.args.self.now.tokens (primary (inner c.args.room) off) (suffixes c.args.room off) c.in_err-form.field-0.0 c.primary.new.self.tokens (c.in_err-form.ensures off))

pub postfix-suffixes-init : goal.postfix-suffixes-init
postfix-suffixes-init g t c = postfix_begins c.args.room c.args.self.now.tokens c.primary.new.self.tokens c.args.self.now.draft c.primary.new.self.draft c.in_ok-form.form c.in_ok-form.ensures

pub postfix-returns-in_err-form-2 : goal.postfix-returns-in_err-form-2
postfix-returns-in_err-form-2 g t c = follows_err (postfix (inner c.args.room)) false c.args.self.now.tokens c.suffixed.new.self.tokens c.args.self.now.draft c.suffixed.new.self.draft c.from_residual-in_err-form-2.result c.in_err-form-2.field-0.0 c.from_residual-in_err-form-2.ensures.1 (postfix_stops c.args.room c.args.self.now.tokens c.suffixes.self.tokens c.args.self.now.draft c.suffixes.self.draft c.suffixes.form c.suffixes.invariant (suffix_meant c.in-Some.next) (sym (c.in-Some.ensures c.suffixes.self.tokens.text ∙ ap suffix c.lexeme.ensures)) c.suffixed.new.self.tokens c.in_err-form-2.field-0.0 c.in_err-form-2.ensures.tree)

pub postfix-suffixes-preserved : goal.postfix-suffixes-preserved
postfix-suffixes-preserved g t c = postfix_goes c.args.room c.args.self.now.tokens c.suffixes.self.tokens c.args.self.now.draft c.suffixes.self.draft c.suffixes.form c.suffixes.invariant (suffix_meant c.in-Some.next) (sym (c.in-Some.ensures c.suffixes.self.tokens.text ∙ ap suffix c.lexeme.ensures)) c.suffixed.new.self.tokens c.suffixed.new.self.draft c.in_ok-form-2.form c.in_ok-form-2.ensures.tree

pub postfix-returns : goal.postfix-returns
postfix-returns g t c = postfix_ends c.args.room c.args.self.now.tokens c.suffixes.self.tokens c.args.self.now.draft c.suffixes.self.draft c.suffixes.form c.suffixes.invariant (sym (c.in_default.ensures c.suffixes.self.tokens.text ∙ ap suffix c.lexeme.ensures))

pub rvalue-returns-in_err-form : goal.rvalue-returns-in_err-form
rvalue-returns-in_err-form g t c = follows_err (reader c.args.room Rvalue) false c.args.self.now.tokens c.chain.new.self.tokens c.args.self.now.draft c.chain.new.self.draft c.from_residual.result c.in_err-form.field-0.0 c.from_residual.ensures.1 (rvalue_stops c.args.room c.args.self.now.tokens c.chain.new.self.tokens c.in_err-form.field-0.0 c.in_err-form.ensures)

pub rvalue-returns-in_default : goal.rvalue-returns-in_default
rvalue-returns-in_default g t c = rvalue_goes c.args.room c.args.self.now.tokens c.chain.new.self.tokens c.args.self.now.draft c.chain.new.self.draft c.in_ok-form.form c.in_ok-form.ensures (sym (c.in_default.ensures c.chain.new.self.tokens.text ∙ ap (assigned_at c.in_ok-form.form) c.lexeme.ensures)) c.conditional.new.self.tokens c.conditional.new.self.draft c.conditional.result c.conditional.ensures

pub rvalue-returns-in_err-room : goal.rvalue-returns-in_err-room
rvalue-returns-in_err-room g t c = follows_err (reader c.args.room Rvalue) false c.args.self.now.tokens c.enter.new.self.tokens c.args.self.now.draft c.enter.new.self.draft c.from_residual-in_err-room.result c.in_err-room.field-0.0 c.from_residual-in_err-room.ensures.1 (assign_full c.args.room c.args.self.now.tokens c.chain.new.self.tokens c.args.self.now.draft c.chain.new.self.draft c.in_ok-form.form c.in_ok-form.ensures c.in-Some.op (sym (c.in-Some.ensures c.chain.new.self.tokens.text ∙ ap (assigned_at c.in_ok-form.form) c.lexeme.ensures)) c.enter.new.self.tokens c.in_err-room.field-0.0 c.in_err-room.ensures.tokens)

pub rvalue-returns-in_err-evaluate : goal.rvalue-returns-in_err-evaluate
rvalue-returns-in_err-evaluate g t c = follows_err (reader c.args.room Rvalue) false c.args.self.now.tokens c.evaluate.new.self.tokens c.args.self.now.draft c.evaluate.new.self.draft c.from_residual-in_err-evaluate.result c.in_err-evaluate.field-0.0 c.from_residual-in_err-evaluate.ensures.1 (assign_stops c.args.room c.args.self.now.tokens c.chain.new.self.tokens c.args.self.now.draft c.chain.new.self.draft c.in_ok-form.form c.in_ok-form.ensures c.in-Some.op (sym (c.in-Some.ensures c.chain.new.self.tokens.text ∙ ap (assigned_at c.in_ok-form.form) c.lexeme.ensures)) c.in_ok-room.room c.enter.new.self.tokens c.in_ok-room.ensures.tokens c.evaluate.new.self.tokens c.in_err-evaluate.field-0.0 c.in_err-evaluate.ensures)

pub rvalue-returns : goal.rvalue-returns
rvalue-returns g t c = assign_took c.args.room c.args.self.now.tokens c.chain.new.self.tokens c.args.self.now.draft c.chain.new.self.draft c.in_ok-form.form c.in_ok-form.ensures c.in-Some.op (sym (c.in-Some.ensures c.chain.new.self.tokens.text ∙ ap (assigned_at c.in_ok-form.form) c.lexeme.ensures)) c.in_ok-room.room c.enter.new.self.tokens c.in_ok-room.ensures.tokens c.evaluate.new.self.tokens c.want_lvalue.new.self c.enter.new.self.draft c.evaluate.new.self.draft c.emit.new.self c.line-line.result c.line-line.ensures c.want_lvalue.ensures c.in_ok-room.ensures.draft c.in_ok-evaluate.ensures (c.emit.ensures ∙ ap (λ i. emitted i c.evaluate.new.self.draft) c.assignment.ensures)

pub suffixed-returns-in_err-evaluate-in-Index-clause-tree : goal.suffixed-returns-in_err-evaluate-in-Index-clause-tree
suffixed-returns-in_err-evaluate-in-Index-clause-tree g t c = as_suffix c.args.room (suffix_meant c.args.next) Index c.args.form c.args.self.now.tokens c.evaluate.new.self.tokens c.args.self.now.draft c.evaluate.new.self.draft c.from_residual-in_err-evaluate-in-Index.result (ap suffix_meant c.in-Index.is) (continues_err (λ off e. postfix_with (inner c.args.room) off Index e) (called_at c.args.self.now.tokens) (called_at c.evaluate.new.self.tokens) c.args.form c.args.self.now.tokens c.evaluate.new.self.tokens c.args.self.now.draft c.evaluate.new.self.draft c.from_residual-in_err-evaluate-in-Index.result c.in_err-evaluate-in-Index.field-0.0 c.from_residual-in_err-evaluate-in-Index.ensures.1 (index_stops c.args.room c.in_ok-room-in-Index.room c.args.self.now.tokens c.enter.new.self.tokens c.in_ok-room-in-Index.ensures.tokens c.evaluate.new.self.tokens c.in_err-evaluate-in-Index.field-0.0 c.in_err-evaluate-in-Index.ensures))

pub suffixed-returns-in_err-expect-in-Index-clause-tree : goal.suffixed-returns-in_err-expect-in-Index-clause-tree
suffixed-returns-in_err-expect-in-Index-clause-tree g t c = as_suffix c.args.room (suffix_meant c.args.next) Index c.args.form c.args.self.now.tokens c.expect.new.self.tokens c.args.self.now.draft c.expect.new.self.draft c.from_residual-in_err-expect-in-Index.result (ap suffix_meant c.in-Index.is) (continues_err (λ off e. postfix_with (inner c.args.room) off Index e) (called_at c.args.self.now.tokens) (called_at c.expect.new.self.tokens) c.args.form c.args.self.now.tokens c.expect.new.self.tokens c.args.self.now.draft c.expect.new.self.draft c.from_residual-in_err-expect-in-Index.result c.in_err-expect-in-Index.field-0.0 c.from_residual-in_err-expect-in-Index.ensures.1 (index_open c.args.room c.in_ok-room-in-Index.room c.args.self.now.tokens c.enter.new.self.tokens c.in_ok-room-in-Index.ensures.tokens c.evaluate.new.self.tokens c.enter.new.self.draft c.evaluate.new.self.draft c.in_ok-evaluate-in-Index.ensures.0 c.expect.new.self.tokens c.in_err-expect-in-Index.field-0.0 c.in_err-expect-in-Index.ensures.tokens))

pub suffixed-returns-in_ok-expect-in-Index-clause-tree : goal.suffixed-returns-in_ok-expect-in-Index-clause-tree
suffixed-returns-in_ok-expect-in-Index-clause-tree g t c = as_suffix c.args.room (suffix_meant c.args.next) Index c.args.form c.args.self.now.tokens c.expect.new.self.tokens c.args.self.now.draft c.emit.new.self (Ok Place) (ap suffix_meant c.in-Index.is) (index_took c.args.room c.in_ok-room-in-Index.room c.args.self.now.tokens c.enter.new.self.tokens c.in_ok-room-in-Index.ensures.tokens c.evaluate.new.self.tokens c.enter.new.self.draft c.evaluate.new.self.draft c.in_ok-evaluate-in-Index.ensures.0 c.expect.new.self.tokens c.args.self.now.draft c.load.new.draft c.expect.new.self.draft c.emit.new.self c.args.form (index_called (first c.args.self.now.tokens.ahead) (c.requires.here ∙ ap (λ s. Some (suffix_meant s)) c.in-Index.is)) c.load.ensures c.in_ok-room-in-Index.ensures.draft c.in_ok-expect-in-Index.ensures.tokens c.in_ok-expect-in-Index.ensures.draft c.emit.ensures)

pub suffixed-returns-in_ok-expect-in-Index-clause-falls : goal.suffixed-returns-in_ok-expect-in-Index-clause-falls
suffixed-returns-in_ok-expect-in-Index-clause-falls g t c = omega (arith, c.in_ok-room-in-Index.ensures.tokens.1.falls, (c.in_ok-evaluate-in-Index.ensures.0 0).runs.falls, c.in_ok-expect-in-Index.ensures.tokens.falls)

pub suffixed-returns-in_err-count-in-Call-clause-tree : goal.suffixed-returns-in_err-count-in-Call-clause-tree
suffixed-returns-in_err-count-in-Call-clause-tree g t c = as_suffix c.args.room (suffix_meant c.args.next) Call c.args.form c.args.self.now.tokens c.arguments.new.self.tokens c.args.self.now.draft c.arguments.new.self.draft c.from_residual-in_err-count-in-Call.result (ap suffix_meant c.in-Call.is) (continues_err (λ off e. postfix_with (inner c.args.room) off Call e) (called_at c.args.self.now.tokens) (called_at c.arguments.new.self.tokens) c.args.form c.args.self.now.tokens c.arguments.new.self.tokens c.args.self.now.draft c.arguments.new.self.draft c.from_residual-in_err-count-in-Call.result c.in_err-count-in-Call.field-0.0 c.from_residual-in_err-count-in-Call.ensures.1 (call_stops c.args.room c.in_ok-room-in-Call.room c.args.self.now.tokens c.enter-in-Call.new.self.tokens c.in_ok-room-in-Call.ensures.tokens c.arguments.new.self.tokens c.in_err-count-in-Call.field-0.0 c.in_err-count-in-Call.ensures))

pub suffixed-returns-in_ok-count-in-Call-clause-tree : goal.suffixed-returns-in_ok-count-in-Call-clause-tree
suffixed-returns-in_ok-count-in-Call-clause-tree g t c = as_suffix c.args.room (suffix_meant c.args.next) Call c.args.form c.args.self.now.tokens c.arguments.new.self.tokens c.args.self.now.draft c.emit-in-Call.new.self (Ok Lone) (ap suffix_meant c.in-Call.is) (call_took c.args.room c.in_ok-room-in-Call.room c.args.self.now.tokens c.enter-in-Call.new.self.tokens c.in_ok-room-in-Call.ensures.tokens c.arguments.new.self.tokens c.args.self.now.draft c.load-in-Call.new.draft c.enter-in-Call.new.self.draft c.arguments.new.self.draft c.emit-in-Call.new.self c.args.form c.in_ok-count-in-Call.count (call_called (first c.args.self.now.tokens.ahead) (c.requires.here ∙ ap (λ s. Some (suffix_meant s)) c.in-Call.is)) c.load-in-Call.ensures c.in_ok-room-in-Call.ensures.draft c.in_ok-count-in-Call.ensures c.emit-in-Call.ensures)

pub suffixed-returns-in_ok-count-in-Call-clause-falls : goal.suffixed-returns-in_ok-count-in-Call-clause-falls
suffixed-returns-in_ok-count-in-Call-clause-falls g t c = omega (arith, c.in_ok-room-in-Call.ensures.tokens.1.falls, (c.in_ok-count-in-Call.ensures.0 0 (Literal (Number 0))).runs.falls)

pub suffixed-returns-in-Increment-clause-tree : goal.suffixed-returns-in-Increment-clause-tree
suffixed-returns-in-Increment-clause-tree g t c = as_suffix c.args.room (suffix_meant c.args.next) (Step PostIncrement) c.args.form c.args.self.now.tokens c.step.new.self.tokens c.args.self.now.draft c.step.new.self.draft c.step.result (ap suffix_meant c.in-Increment.is) (increment_took c.args.room c.args.self.now.tokens c.step.new.self.tokens c.args.self.now.draft c.step.new.self.draft c.args.form c.step.result (c.requires.here ∙ ap (λ s. Some (suffix_meant s)) c.in-Increment.is) c.step.ensures.tokens c.step.ensures.draft)

pub suffixed-returns-in-Decrement-clause-tree : goal.suffixed-returns-in-Decrement-clause-tree
suffixed-returns-in-Decrement-clause-tree g t c = as_suffix c.args.room (suffix_meant c.args.next) (Step PostDecrement) c.args.form c.args.self.now.tokens c.step-in-Decrement.new.self.tokens c.args.self.now.draft c.step-in-Decrement.new.self.draft c.step-in-Decrement.result (ap suffix_meant c.in-Decrement.is) (decrement_took c.args.room c.args.self.now.tokens c.step-in-Decrement.new.self.tokens c.args.self.now.draft c.step-in-Decrement.new.self.draft c.args.form c.step-in-Decrement.result (c.requires.here ∙ ap (λ s. Some (suffix_meant s)) c.in-Decrement.is) c.step-in-Decrement.ensures.tokens c.step-in-Decrement.ensures.draft)

pub conditional-returns-then-not-is_at : goal.conditional-returns-then-not-is_at
conditional-returns-then-not-is_at g t c = conditional_none c.args.room c.args.self.now.tokens c.args.self.now.draft c.args.form c.requires (sym c.if-not-is_at.ensures)
