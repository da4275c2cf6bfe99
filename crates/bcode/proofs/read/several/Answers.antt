use Rattle.std.proofs.Common.{arith, ◌≡◌, ◌-◌, ◌+◌, refl}
use Rattle.bcode.proofs.AheadLaws.{gives_none}
use Rattle.bcode.proofs.CopyLaws.{lines_none, lines_more, several_exit, values_read}
use Rattle.bcode.proofs.read.several.Goals as goal

pub returns-in_err-values : goal.returns-in_err-values
returns-in_err-values g c = gives_none _ _ (λ v. v.items) _ _ _ c.from_residual.ensures.1

pub loop-left-init : goal.loop-left-init
loop-left-init g c =
    let none : c.args.count - c.args.count ≡ 0 = omega arith in (omega arith, rw (none, c.in_ok-values.ensures.items) (lines_none refl _ _))

pub returns-in_err-left : goal.returns-in_err-left
returns-in_err-left g c =
    let few = c.loop-left.invariant.0 in
    several_exit (λ v. v.items) _ _ c.loop-left.left c.args.count _ _ (omega arith) (omega arith) c.loop-left.invariant.1 c.from_residual-in_err-left.ensures.1 c.in_err-left.ensures

pub loop-left-preserved : goal.loop-left-preserved
loop-left-preserved g c =
    let few = c.loop-left.invariant.0 in
    let ran = c.in_ok-left.ensures in
    let least = ran.1 in
    let n = c.in_ok-left.field-0 in
    let same : c.args.count - c.loop-left.left + n ≡ c.args.count - (c.loop-left.left - n) = omega arith in
    (omega arith, rw (← same) (lines_more (λ xs ys. refl) c.loop-left.invariant.1 ran.2))

pub returns : goal.returns
returns g c =
    let all : c.args.count - c.loop-left.left ≡ c.args.count = omega arith in
    values_read (rw all at c.loop-left.invariant.1)
