use Rattle.std.proofs.Common.{◌∙◌, ◌<◌, ap, arith, length}
use Rattle.bdraw.proofs.CallsDrawn.{is_there, one_call}
use Rattle.bdraw.proofs.scene.calls_of.Goals.{in-Some+in_ok-push-2, in_default}
use Rattle.bdraw.proofs.scene.calls_of.Goals as goal

pub loop-number-preserved : goal.loop-number-preserved
loop-number-preserved g c =
    let below = c.args.stepper.now.below in
    let i = c.loop-number.number in
    let within : i < length below = omega (arith, c.loop-number-test.true, c.min-callers.ensures, c.callers.ensures) in
    elim c.match-caller.branch [
      | in-Some+in_ok-push-2 w ↦ ap (λ v. v.items) w.drawn-is ∙ one_call c.args.running below i w.in-Some.call c.caller.result c.caller.ensures w.in-Some.is c.loop-number.drawn.items w.push-in-Some.new.self.items c.loop-number.invariant w.in_ok-push-2.ensures.items
      | in_default w ↦ absurd (is_there below i within c.caller.result c.caller.ensures w.in_default.is)
    ]
