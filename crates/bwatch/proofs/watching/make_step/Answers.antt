use Rattle.std.proofs.Common.{Err, Ok, ap, refl, subst}
use Rattle.bword.specs.ByteEnds.{Outgoing, outgoing_of}
use Rattle.bmach.specs.Stepping.{machine_at}
use Rattle.bmach.specs.Turns.{TurnGives}
use Rattle.bmach.proofs.Readings.{turn_read, unread_step}
use Rattle.bwatch.proofs.Seen.{where_refused}
use Rattle.bwatch.proofs.watching.make_step.Goals as goal

pub returns-in_err-before-clause-read : goal.returns-in_err-before-clause-read
returns-in_err-before-clause-read g c =
    let i = g.I.ByteIn.incoming c.args.input.now in
    where_refused c.from_residual.result _ (unread_step c.args.stepper.now i i refl)

pub returns-in_err-after-in-Ok-clause-read : goal.returns-in_err-after-in-Ok-clause-read
returns-in_err-after-in-Ok-clause-read g c =
    where_refused c.from_residual-in_err-after-in-Ok.result _
    (turn_read c.args.stepper.now (g.I.ByteIn.incoming c.args.input.now) (g.I.ByteIn.incoming c.step.new.input) _ _ c.step.new.self (Ok tt) (λ e. cc) c.in-Ok.ensures.gives)

pub returns-clause-gives : goal.returns-clause-gives
returns-clause-gives g c first =
    let now = c.args.stepper.now in record {
      written = c.step.new.out;
      turn = subst (λ (o : Outgoing). TurnGives now.image (machine_at now) (machine_at c.step.new.self) (g.I.ByteIn.incoming c.args.input.now) (g.I.ByteIn.incoming c.step.new.input) o (outgoing_of c.step.new.out) (Err c.in-Err.outcome)) (ap outgoing_of c.new-written.ensures) c.in-Err.ensures.gives;
      looked = c.in_ok-before.ensures first;
    }
