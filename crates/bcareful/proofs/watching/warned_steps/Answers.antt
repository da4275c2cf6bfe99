use Rattle.std.proofs.Common.{◌≡◌, ◌∙◌, ◌+◌, List, ℕ, ap, arith, refl}
use Rattle.btrace.specs.RowTexts.{legend_of}
use Rattle.bwatch.specs.Sights.{sight_at}
use Rattle.bcareful.specs.Effects.{changed_in, effect_of, next_step}
use Rattle.bcareful.specs.Marks.{marks_of}
use Rattle.bcareful.specs.Things.{atlas_of}
use Rattle.bcareful.specs.Warned.{warned, warnings_of}
use Rattle.bmach.specs.Stops.{active_of}
use Rattle.bcareful.proofs.WarnedSteps.{all_told, as_told, one_told, over_told, refused_told, told_next}
use Rattle.bcareful.proofs.watching.warned_steps.Goals as goal

pub returns-in-Err-clause-gives : goal.returns-in-Err-clause-gives
returns-in-Err-clause-gives g c =
    let a = atlas_of c.args.teller.now.atlas in
    let legend = legend_of c.args.teller.now.legend in
    let source = c.args.teller.now.source.now in
    as_told a legend source _ _ _ _ _ _ _ _ _ _ _ c.refused-in-Err.ensures.stop c.refused-in-Err.ensures.text
    (refused_told a legend source c.args.stepper.now c.loop-made.stepper c.loop-made.made (marks_of c.loop-made.marks) (warnings_of c.loop-made.warnings) c.loop-made.invariant.0
    c.args.steps (omega (arith, c.loop-made-test.true)) c.top-call.result c.loop-made.made)

pub returns-in-Err-step-clause-gives : goal.returns-in-Err-step-clause-gives
returns-in-Err-step-clause-gives g c =
    let a = atlas_of c.args.teller.now.atlas in
    let legend = legend_of c.args.teller.now.legend in
    let source = c.args.teller.now.source.now in
    let now = c.loop-made.stepper in
    let marks = marks_of c.loop-made.marks in
    let w = warnings_of c.loop-made.warnings in
    let w' = warnings_of c.add.new.self in
    let looked : (output : List ℕ) → w' ≡ told_next a legend source now c.loop-made.made marks w output =
    λ output. c.in-Ok-add.ensures output ∙ ap (λ f. warned a legend source (sight_at now output) c.loop-made.made f w) c.look_at-look.ensures.finding in
    as_told a legend source _ _ _ _ _ _ _ _ _ _ _ c.warned_at.ensures.stop c.warned_at.ensures.text
    (over_told a legend source c.args.stepper.now now c.loop-made.made marks w w' c.loop-made.invariant.0 looked c.step.new.self c.args.steps c.loop-made-test.true c.top-call.result c.top-call.ensures
    _ _ c.in-Err-step.outcome c.in-Err-step.ensures.gives)

pub returns-in-Err-change-clause-gives : goal.returns-in-Err-change-clause-gives
returns-in-Err-change-clause-gives g c =
    let a = atlas_of c.args.teller.now.atlas in
    let legend = legend_of c.args.teller.now.legend in
    let source = c.args.teller.now.source.now in
    let now = c.loop-made.stepper in
    let after = c.step.new.self in
    let marks = marks_of c.loop-made.marks in
    let w = warnings_of c.loop-made.warnings in
    let w' = warnings_of c.add.new.self in
    let looked : (output : List ℕ) → w' ≡ told_next a legend source now c.loop-made.made marks w output =
    λ output. c.in-Ok-add.ensures output ∙ ap (λ f. warned a legend source (sight_at now output) c.loop-made.made f w) c.look_at-look.ensures.finding in
    let changed = changed_in a (effect_of (next_step a now marks)) (active_of after.call) marks in
    as_told a legend source _ _ _ _ _ _ _ _ _ _ _ c.refused-in-Err-change.ensures.stop c.refused-in-Err-change.ensures.text
    (refused_told a legend source c.args.stepper.now after (c.loop-made.made + 1) changed w'
    (one_told a legend source c.args.stepper.now now c.loop-made.made marks w w' c.loop-made.invariant.0 looked after c.in-Ok-step.ensures.gives c.step.ensures.image changed refl)
    c.args.steps (omega (arith, c.loop-made-test.true)) c.top-call.result c.loop-made.made)

pub loop-made-preserved : goal.loop-made-preserved
loop-made-preserved g c =
    let a = atlas_of c.args.teller.now.atlas in
    let legend = legend_of c.args.teller.now.legend in
    let source = c.args.teller.now.source.now in
    let now = c.loop-made.stepper in
    let after = c.step.new.self in
    let marks = marks_of c.loop-made.marks in
    let w = warnings_of c.loop-made.warnings in
    let w' = warnings_of c.add.new.self in
    let looked : (output : List ℕ) → w' ≡ told_next a legend source now c.loop-made.made marks w output =
    λ output. c.in-Ok-add.ensures output ∙ ap (λ f. warned a legend source (sight_at now output) c.loop-made.made f w) c.look_at-look.ensures.finding in (
      one_told a legend source c.args.stepper.now now c.loop-made.made marks w w' c.loop-made.invariant.0 looked after c.in-Ok-step.ensures.gives c.step.ensures.image (marks_of c.change.new.self)
          (c.in-Ok-change.ensures ∙ (λ k. changed_in a (c.look_at-look.ensures.effect k) (c.top-in-loop-made.ensures k) marks)),
      c.step.ensures.input ∙ c.loop-made.invariant.1,
      c.step.ensures.out ∙ c.loop-made.invariant.2,
    )

pub returns-clause-gives : goal.returns-clause-gives
returns-clause-gives g c =
    let a = atlas_of c.args.teller.now.atlas in
    let legend = legend_of c.args.teller.now.legend in
    let source = c.args.teller.now.source.now in
    let all : c.loop-made.made ≡ c.args.steps = omega (arith, c.loop-made-test.false, c.loop-made.auto.made-end) in
    as_told a legend source _ _ _ _ _ _ _ _ _ _ _ c.warned_at-2.ensures.stop c.warned_at-2.ensures.text
    (all_told a legend source c.args.stepper.now c.loop-made.stepper c.loop-made.made (marks_of c.loop-made.marks) (warnings_of c.loop-made.warnings) c.loop-made.invariant.0 c.args.steps all c.top-last.result c.top-last.ensures)
