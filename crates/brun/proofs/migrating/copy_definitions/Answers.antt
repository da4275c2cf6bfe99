use Rattle.std.proofs.Common.{refl, ◌∙◌, ap, ◌++◌}
use Rattle.bcode.specs.Readers.{StepGives, code_step}
use Rattle.blang.specs.Text.{definition_text}
use Rattle.bcode.proofs.CopyLaws.{one_given, none_given}
use Rattle.brun.proofs.MigrateSteps.{passing_none, passing_more, stopped_by, ended, end_refused, definition_refused, stop_exit}
use Rattle.brun.proofs.migrating.copy_definitions.Goals as goal

pub definitions-init : goal.definitions-init
definitions-init g c = (passing_none c.args.reader.now (g.O.ByteOut.outgoing c.args.out.now) c.requires.since, refl)

pub definitions-preserved : goal.definitions-preserved
definitions-preserved g c =
    let p = c.definitions.invariant.0 in
    let given = one_given _ _ (λ answer. StepGives c.definitions.reader (code_step answer) c.copy_next.new.self) _ c.if-not-branch.false c.in_ok-copy_next.ensures.gives in
    let text = given.2 ∙ ap (λ l. l ++ definition_text given.0) c.clear.ensures.items in (
      passing_more _ _ _ _ _ c.requires.edition p c.in_ok-copy_next.ensures.keeps given.0 _ (given.1.1 p.definitions p.since) (rw (c.as_slice.ensures.value, text) at c.in_ok-put.ensures.gives),
      c.in_ok-put.ensures.same ∙ c.definitions.invariant.1,
    )

pub returns-in_err-copy_next-clause-gives : goal.returns-in_err-copy_next-clause-gives
returns-in_err-copy_next-clause-gives g c = λ out begun.
    stop_exit _ c.from_residual.result _ c.from_residual.ensures.1
    (stopped_by _ _ _ _ _ c.requires.edition c.definitions.invariant.0 c.in_err-copy_next.ensures.keeps out begun _ c.in_err-copy_next.ensures.gives)

pub returns-in_err-write_end-clause-gives : goal.returns-in_err-write_end-clause-gives
returns-in_err-write_end-clause-gives g c = λ out begun.
    let p = c.definitions.invariant.0 in
    let end = (none_given _ _ (λ answer. StepGives c.definitions.reader (code_step answer) c.copy_next.new.self) _ c.if-not-branch.true c.in_ok-copy_next.ensures.gives).0 in
    stop_exit _ c.from_residual-in_err-write_end.result _ c.from_residual-in_err-write_end.ensures.1
    (end_refused _ _ _ _ _ c.requires.edition p c.in_ok-copy_next.ensures.keeps out begun _ _ (end.1 p.definitions p.since) c.in_err-write_end.ensures.gives)

pub returns-then-not-branch-clause-gives : goal.returns-then-not-branch-clause-gives
returns-then-not-branch-clause-gives g c = λ out begun.
    let p = c.definitions.invariant.0 in
    let end = (none_given _ _ (λ answer. StepGives c.definitions.reader (code_step answer) c.copy_next.new.self) _ c.if-not-branch.true c.in_ok-copy_next.ensures.gives).0 in
    ended _ _ _ _ _ c.requires.edition p c.in_ok-copy_next.ensures.keeps out begun _ (end.1 p.definitions p.since) c.in_ok-write_end.ensures.gives

pub returns-in_err-put-clause-gives : goal.returns-in_err-put-clause-gives
returns-in_err-put-clause-gives g c = λ out begun.
    let p = c.definitions.invariant.0 in
    let given = one_given _ _ (λ answer. StepGives c.definitions.reader (code_step answer) c.copy_next.new.self) _ c.if-not-branch.false c.in_ok-copy_next.ensures.gives in
    let text = given.2 ∙ ap (λ l. l ++ definition_text given.0) c.clear.ensures.items in
    stop_exit _ c.from_residual-in_err-put.result _ c.from_residual-in_err-put.ensures.1
    (definition_refused _ _ _ _ _ c.requires.edition p c.in_ok-copy_next.ensures.keeps out begun given.0 (given.1.1 p.definitions p.since) _ _
    (rw (c.as_slice.ensures.value, text) at c.in_err-put.ensures.gives))
