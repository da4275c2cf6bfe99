use Rattle.std.proofs.Common.{[]}
use Rattle.blang.specs.Machine as machine
use Rattle.bmach.specs.Stepping.{machine_at}
use Rattle.bmach.proofs.Beginning.{begins_not, run_from}
use Rattle.bmach.proofs.Running.{same_run}
use Rattle.bmach.proofs.stepper.run.Goals as goal

pub returns-in-Err-clause-gives : goal.returns-in-Err-clause-gives
returns-in-Err-clause-gives g c =
    begins_not c.args.image.now c.args.steps (g.I.ByteIn.incoming c.args.input.now) (g.O.ByteOut.outgoing c.args.out.now) c.in-Err.outcome c.in-Err.ensures

pub returns-in-Ok-clause-gives : goal.returns-in-Ok-clause-gives
returns-in-Ok-clause-gives g c =
    let image = c.args.image.now in
    let p = c.in-Ok.stepper in
    same_run (machine.run image) (λ left n. machine.steps p.image n (machine_at p left [])) c.args.steps
    (g.I.ByteIn.incoming c.args.input.now) (g.I.ByteIn.incoming c.run.new.input) (g.O.ByteOut.outgoing c.args.out.now) (g.O.ByteOut.outgoing c.run.new.out)
    c.run.result.outcome (run_from image p c.in-Ok.ensures) c.run.ensures.gives
