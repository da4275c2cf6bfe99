use Rattle.std.proofs.Common.{◌≡◌, ◌∙◌, ◌+◌, arith, refl, sym}
use Rattle.bmach.specs.Stops.{active_of}
use Rattle.bcareful.specs.Effects.{changed_in, effect_of, next_step}
use Rattle.bcareful.specs.Marks.{marks_of}
use Rattle.bcareful.specs.Things.{atlas_of}
use Rattle.bcareful.proofs.Steps.{all_on, found_on, main_marks, none_on, one_on, over_on, refused_on}
use Rattle.bcareful.proofs.watching.careful_steps.Goals as goal

pub returns-in_default-clause-gives : goal.returns-in_default-clause-gives
returns-in_default-clause-gives g c =
    let a = atlas_of c.args.atlas.now in
    let first = c.args.stepper.now in
    rw c.over.ensures
    (refused_on a first first first 0 (main_marks a first) (none_on a first (g.I.ByteIn.incoming c.args.input.now) (g.O.ByteOut.outgoing c.args.out.now)) c.args.steps (omega arith) _ 0)

pub returns-in-Some-clause-gives : goal.returns-in-Some-clause-gives
returns-in-Some-clause-gives g c =
    let a = atlas_of c.args.atlas.now in
    let now = c.loop-made.stepper in
    let marks = marks_of c.loop-made.marks in
    found_on a c.args.stepper.now now now c.loop-made.made marks c.loop-made.invariant.0 c.args.steps c.loop-made-test.true
    (record { finding = c.in-Some.finding; call = c.top-call.result; made = c.loop-made.made }) (sym c.look_at-look.ensures.finding ∙ c.in-Some.is) refl c.top-call.ensures

pub returns-in-Err-clause-gives : goal.returns-in-Err-clause-gives
returns-in-Err-clause-gives g c =
    let a = atlas_of c.args.atlas.now in
    let now = c.loop-made.stepper in
    let marks = marks_of c.loop-made.marks in
    rw c.over-in-Err.ensures
    (over_on a c.args.stepper.now now c.step.new.self c.loop-made.made marks c.loop-made.invariant.0 c.args.steps c.loop-made-test.true
    (sym c.look_at-look.ensures.finding ∙ c.in_default-finding.is) c.top-call.result c.top-call.ensures _ _ c.in-Err.outcome c.in-Err.ensures.gives)

pub returns-in-Err-change-clause-gives : goal.returns-in-Err-change-clause-gives
returns-in-Err-change-clause-gives g c =
    let a = atlas_of c.args.atlas.now in
    let first = c.args.stepper.now in
    let now = c.loop-made.stepper in
    let after = c.step.new.self in
    let made = c.loop-made.made in
    let marks = marks_of c.loop-made.marks in
    let changed = changed_in a (effect_of (next_step a now marks)) (active_of after.call) marks in
    rw c.over-in-Err-change.ensures
    (refused_on a first after after (made + 1) changed
    (one_on a first now after made marks c.loop-made.invariant.0 c.in-Ok-step.ensures.gives c.step.ensures.image (sym c.look_at-look.ensures.finding ∙ c.in_default-finding.is) changed refl)
    c.args.steps (omega (arith, c.loop-made-test.true)) _ (made + 1))

pub loop-made-preserved : goal.loop-made-preserved
loop-made-preserved g c =
    let a = atlas_of c.args.atlas.now in
    let now = c.loop-made.stepper in
    let after = c.step.new.self in
    let marks = marks_of c.loop-made.marks in (
      one_on a c.args.stepper.now now after c.loop-made.made marks c.loop-made.invariant.0 c.in-Ok-step.ensures.gives c.step.ensures.image (sym c.look_at-look.ensures.finding ∙ c.in_default-finding.is) (marks_of c.change.new.self)
          (c.in-Ok-change.ensures ∙ (λ k. changed_in a (c.look_at-look.ensures.effect k) (c.top-in-loop-made.ensures k) marks)),
      c.step.ensures.input ∙ c.loop-made.invariant.1,
      c.step.ensures.out ∙ c.loop-made.invariant.2,
    )

pub returns-clause-gives : goal.returns-clause-gives
returns-clause-gives g c =
    let all : c.loop-made.made ≡ c.args.steps = omega (arith, c.loop-made-test.false, c.loop-made.auto.made-end) in
    rw c.over-2.ensures
    (all_on (atlas_of c.args.atlas.now) c.args.stepper.now c.loop-made.stepper c.loop-made.stepper c.loop-made.made (marks_of c.loop-made.marks) c.loop-made.invariant.0 c.args.steps all c.top-last.result c.top-last.ensures)
