use Rattle.std.proofs.Common.{arith, ◌≡◌, ◌<◌}
use Rattle.bcode.proofs.CopyLaws.{run_shorter, run_fits, run_takes, run_falls, run_refused, none_at_most, nothing_put}
use Rattle.bcode.proofs.stream.Stream.read_several.Goals as goal

pub overflow_sub-len : goal.overflow_sub-len
overflow_sub-len g c = run_shorter c.requires.shape.shape _ _ c.ahead-ahead.ensures _ _ c.in_ok-count.ensures.2.0

pub take-requires : goal.take-requires
take-requires g c = run_fits c.requires.shape.shape _ _ c.ahead-ahead.ensures _ _ c.in_ok-count.ensures.2.0

pub invariant_of-self : goal.invariant_of-self
invariant_of-self g c =
    let falls = run_falls c.requires.shape.shape _ _ c.ahead-ahead.ensures _ _ c.in_ok-count.ensures.2.0 c.take.ensures.takes in
    let before = c.self.invariant in
    omega arith

pub returns-in_err-count : goal.returns-in_err-count
returns-in_err-count g c = run_refused _ _ _ _ _ _ _ _ _ c.from_residual.ensures.1 (none_at_most _ _)

pub returns-then-count-eq0 : goal.returns-then-count-eq0
returns-then-count-eq0 g c =
    let zero : c.in_ok-count.count ≡ 0 = omega (arith, c.if-count-eq0.true) in
    rw (nothing_put zero c.in_ok-count.ensures.2) at c.read_one.ensures

pub returns : goal.returns
returns g c =
    let some : 0 < c.in_ok-count.count = omega (arith, c.if-count-eq0.false) in
    rw (← c.self.view_is, c.from.ensures) (run_takes c.requires.shape.shape _ _ c.ahead-ahead.ensures _ _ c.in_ok-count.ensures.2.0 c.take.ensures.takes _ _ c.take.ensures.same some c.in_ok-count.ensures.0 c.in_ok-count.ensures.2.1)
