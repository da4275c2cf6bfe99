use Rattle.std.proofs.Common.{arith, refl, sym}
use Rattle.bmach.specs.Stepping.{machine_at}
use Rattle.bmach.proofs.Running.{following}
use Rattle.bmach.proofs.Slicing.{slice_over}
use Rattle.bmach.proofs.Turning.{goes_on}
use Rattle.bmach.proofs.stepper.Stepper.slice_one.Goals as goal

pub returns-in-Err-clause-gives : goal.returns-in-Err-clause-gives
returns-in-Err-clause-gives g c =
    let old = c.args.self.now in
    let outcome = c.in-Err.outcome in
    let i = g.I.ByteIn.incoming c.args.input.now in
    let o = g.O.ByteOut.outgoing c.args.out.now in
    slice_over old old c.step.new.self 1 0 i i (g.I.ByteIn.incoming c.step.new.input) o o (g.O.ByteOut.outgoing c.step.new.out)
    (record { outcome = outcome; call = c.top-before.result; steps = 1 }) outcome (omega arith) refl (sym c.top-before.ensures)
    (goes_on (following old.image 0 (machine_at old)) (machine_at old) i o (λ left before. refl)) c.requires c.in-Err.ensures.gives
    c.in-Err.ensures.words c.in-Err.ensures.below
