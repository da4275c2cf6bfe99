use Rattle.std.proofs.Common.{arith, ◌≡◌}
use Rattle.bcode.proofs.CopyLaws.{puts_none, puts_more, value_refused, refused}
use Rattle.bcode.proofs.stream.values_at.Goals as goal

pub loop-count-init : goal.loop-count-init
loop-count-init g c = puts_none _ _ _

pub returns-in_err-keep : goal.returns-in_err-keep
returns-in_err-keep g c =
    refused _ _ _ c.from_residual.result c.from_residual.ensures.1
    (c.in_err-keep.ensures.refused, value_refused c.requires.exact c.loop-count.invariant.0 c.loop-count-test.true _ c.in-Some.ensures)

pub loop-count-preserved : goal.loop-count-preserved
loop-count-preserved g c = puts_more _ _ c.requires.exact c.loop-count.invariant _ c.in-Some.ensures c.in_ok-keep.ensures.kept

pub returns : goal.returns
returns g c =
    let all : c.loop-count.count ≡ c.args.most = omega arith in
    (omega arith, λ less. absurd (omega (arith, less)), rw all at c.loop-count.invariant)
