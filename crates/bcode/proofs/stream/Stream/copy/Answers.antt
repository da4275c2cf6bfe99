use Rattle.std.proofs.Common.{arith, ◌<◌, ◌∙◌, ◌++◌, ap}
use Rattle.bcode.proofs.CopyLaws.{run_shorter, run_fits, run_takes, run_text, run_falls, run_refused, none_at_most}
use Rattle.bcode.proofs.stream.Stream.copy.Goals as goal

pub overflow_sub-len : goal.overflow_sub-len
overflow_sub-len g c = run_shorter c.requires.shape.shape _ _ c.ahead-ahead.ensures _ _ c.lines_at-count.ensures.lines

pub take-requires : goal.take-requires
take-requires g c = run_fits c.requires.shape.shape _ _ c.ahead-ahead.ensures _ _ c.lines_at-count.ensures.lines

pub invariant_of-self : goal.invariant_of-self
invariant_of-self g c =
    let falls = run_falls c.requires.shape.shape _ _ c.ahead-ahead.ensures _ _ c.lines_at-count.ensures.lines c.take.ensures.takes in
    let before = c.self.invariant in
    omega arith

pub returns-in_err-extend_from_slice : goal.returns-in_err-extend_from_slice
returns-in_err-extend_from_slice g c = run_refused _ _ _ _ _ _ _ _ _ c.from_residual.ensures.1 (none_at_most _ _)

pub returns : goal.returns
returns g c =
    let some : 0 < c.lines_at-count.result.0 = omega (arith, c.if-count-eq0.false) in
    let text = run_text c.requires.shape.shape _ _ c.ahead-ahead.ensures _ _ c.lines_at-count.ensures.lines in
    rw (← c.self.view_is, c.from.ensures) (run_takes c.requires.shape.shape _ _ c.ahead-ahead.ensures _ _ c.lines_at-count.ensures.lines c.take.ensures.takes _ _ c.take.ensures.same some c.lines_at-count.ensures.few
    (c.in_ok-extend_from_slice.ensures.items ∙ ap (λ t. c.args.text.now.items ++ t) text))
