use Rattle.std.proofs.Common.{◌≡◌, ◌∙◌, [], arith, refl}
use Rattle.std.proofs.lemmas.Result.{IfOk-weaker}
use Rattle.bwatch.proofs.Seen.{all_on, if_refused, none_on, one_on, over_on, read_with, refused_on, where_refused}
use Rattle.bwatch.proofs.watching.make_steps.Goals as goal

pub loop-made-init : goal.loop-made-init
loop-made-init g c = (none_on (g.W.Onlooker.has_seen c.args.onlooker.now c.args.onlooker.now) c.args.stepper.now (g.I.ByteIn.incoming c.args.input.now) c.requires, refl)

pub loop-made-preserved : goal.loop-made-preserved
loop-made-preserved g c =
    let s = rw c.in-Ok.is at (c.in_ok-make_step.ensures.gives c.args.onlooker.now) in (
      one_on (g.W.Onlooker.has_seen c.args.onlooker.now c.loop-made.onlooker) (g.W.Onlooker.awaits c.args.onlooker.now c.make_step.new.onlooker) (g.W.Onlooker.has_seen c.args.onlooker.now c.make_step.new.onlooker) c.args.stepper.now c.loop-made.stepper c.make_step.new.stepper c.loop-made.made _ _ _ c.loop-made.invariant.0 s.written s.turn s.looked c.make_step.ensures.image,
      c.make_step.ensures.same ∙ c.loop-made.invariant.1,
    )

pub returns-in_err-make_step-clause-read : goal.returns-in_err-make_step-clause-read
returns-in_err-make_step-clause-read g c =
    where_refused c.from_residual.result _
    (read_with (g.W.Onlooker.has_seen c.args.onlooker.now c.loop-made.onlooker) (g.W.Onlooker.awaits c.args.onlooker.now c.make_step.new.onlooker) (g.W.Onlooker.has_seen c.args.onlooker.now c.make_step.new.onlooker) c.args.stepper.now c.loop-made.stepper c.make_step.new.stepper c.loop-made.made _ _ _ c.loop-made.invariant.0 c.args.steps c.loop-made-test.true (record { bytes = []; refusals = 0 })
    c.in_err-make_step.ensures.read)

pub returns-in-Err-clause-gives : goal.returns-in-Err-clause-gives
returns-in-Err-clause-gives g c =
    let s = rw c.in-Err.is at (c.in_ok-make_step.ensures.gives c.args.onlooker.now) in
    IfOk-weaker c.stop_at.result _ _
    (over_on (g.W.Onlooker.has_seen c.args.onlooker.now c.loop-made.onlooker) (g.W.Onlooker.awaits c.args.onlooker.now c.make_step.new.onlooker) (g.W.Onlooker.has_seen c.args.onlooker.now c.make_step.new.onlooker) c.args.stepper.now c.loop-made.stepper c.make_step.new.stepper c.loop-made.made _ _ _ c.loop-made.invariant.0 c.args.steps c.loop-made-test.true s.written
    c.in-Err.outcome c.top-call.result c.top-call.ensures s.turn s.looked (rw c.in-Err.is at c.in_ok-make_step.ensures.words) (rw c.in-Err.is at c.in_ok-make_step.ensures.below))
    c.stop_at.ensures.stops

pub returns-in-Err-clause-read : goal.returns-in-Err-clause-read
returns-in-Err-clause-read g c =
    let s = rw c.in-Err.is at (c.in_ok-make_step.ensures.gives c.args.onlooker.now) in
    if_refused c.stop_at.result _ _
    (λ is. refused_on (g.W.Onlooker.has_seen c.args.onlooker.now c.loop-made.onlooker) (g.W.Onlooker.awaits c.args.onlooker.now c.make_step.new.onlooker) (g.W.Onlooker.has_seen c.args.onlooker.now c.make_step.new.onlooker) c.args.stepper.now c.loop-made.stepper c.make_step.new.stepper c.loop-made.made _ _ _ c.loop-made.invariant.0 c.args.steps c.loop-made-test.true s.written c.in-Err.outcome is s.turn)
    c.stop_at.ensures.refused

pub returns-clause-gives : goal.returns-clause-gives
returns-clause-gives g c =
    let all : c.loop-made.made ≡ c.args.steps = omega (arith, c.loop-made-test.false, c.loop-made.auto.made-end) in
    all_on (g.W.Onlooker.has_seen c.args.onlooker.now c.loop-made.onlooker) (g.W.Onlooker.awaits c.args.onlooker.now c.loop-made.onlooker) (g.W.Onlooker.has_seen c.args.onlooker.now c.loop-made.onlooker) c.args.stepper.now c.loop-made.stepper c.loop-made.stepper c.loop-made.made _ _ (g.I.ByteIn.incoming c.loop-made.input) c.loop-made.invariant.0 c.args.steps all _ refl c.top.ensures
