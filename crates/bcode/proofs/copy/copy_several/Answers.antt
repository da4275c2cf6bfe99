use Rattle.std.proofs.Common.{arith, ◌≡◌, ◌-◌, ◌+◌, refl, Err}
use Rattle.std.proofs.lemmas.List.Concat.{flat_map-append}
use Rattle.bcode.proofs.CopyLaws.{lines_none, lines_more, several_exit, all_exit}
use Rattle.bcode.proofs.copy.copy_several.Goals as goal

pub loop-left-init : goal.loop-left-init
loop-left-init g c =
    let none : c.args.count - c.args.count ≡ 0 = omega arith in (omega arith, rw none (lines_none refl _ _))

pub returns-in_err-left : goal.returns-in_err-left
returns-in_err-left g c =
    let few = c.loop-left.invariant.0 in
    all_exit _ _ _ _ _ _ _ c.args.count _ _ c.from_residual.ensures.1
    (several_exit (λ xs. xs) _ _ c.loop-left.left c.args.count (Err _) _ (omega arith) (omega arith) c.loop-left.invariant.1 refl c.in_err-left.ensures)

pub loop-left-preserved : goal.loop-left-preserved
loop-left-preserved g c =
    let few = c.loop-left.invariant.0 in
    let ran = c.in_ok-left.ensures in
    let least = ran.1 in
    let n = c.in_ok-left.field-0 in
    let same : c.args.count - c.loop-left.left + n ≡ c.args.count - (c.loop-left.left - n) = omega arith in
    (omega arith, rw (← same) (lines_more (flat_map-append (g.F.LineForm.spell c.args.form)) c.loop-left.invariant.1 ran.2))
