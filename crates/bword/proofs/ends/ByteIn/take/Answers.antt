use Rattle.std.proofs.Common.{◌≡◌, arith, refl, ◌∙◌}
use Rattle.bword.proofs.Fetched.{TakesReady-none, takes_next}
use Rattle.bword.proofs.ends.ByteIn.take.Goals as goal

pub loop-init : goal.loop-init
loop-init g c = record { takes = TakesReady-none _; same = refl; rest = refl; within = omega arith }

pub loop-preserved : goal.loop-preserved
loop-preserved g c =
    let step = takes_next _ _ _ _ _ (omega (arith, c.requires)) c.loop.invariant.takes c.loop.invariant.rest c.next.ensures.gives c.next.ensures.ready in
    record { takes = step.0; same = c.next.ensures.same ∙ c.loop.invariant.same; rest = step.1; within = omega arith }

pub returns-clause-takes : goal.returns-clause-takes
returns-clause-takes g c = let all : c.loop.counter ≡ c.args.count = omega arith in rw all at c.loop.invariant.takes

pub returns-clause-same : goal.returns-clause-same
returns-clause-same g c = c.loop.invariant.same

pub returns-clause-ready : goal.returns-clause-ready
returns-clause-ready g c = let all : c.loop.counter ≡ c.args.count = omega arith in rw all at c.loop.invariant.rest
