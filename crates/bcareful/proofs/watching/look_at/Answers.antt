use Rattle.std.proofs.Common.{◌∙◌}
use Rattle.std.specs.Prelude.{slice_index}
use Rattle.bcareful.specs.Effects.{effect_of, step_by}
use Rattle.bcareful.specs.Findings.{finding_of}
use Rattle.bcareful.specs.Marks.{marks_of}
use Rattle.bcareful.specs.Things.{atlas_of}
use Rattle.bcareful.proofs.watching.look_at.Goals as goal

pub returns-clause-finding : goal.returns-clause-finding
returns-clause-finding g c =
    let a = atlas_of c.args.atlas.now in
    let marks = marks_of c.args.marks.now in
    let counted = c.word.ensures ∙ (λ k. slice_index c.args.stepper.now.store ((c.operand_of.ensures ∙ (λ j. slice_index (c.operands-operands.ensures j) 0)) k)) in
    let modified = c.word-2.ensures ∙ (λ k. slice_index c.args.stepper.now.store ((c.operand_of-2.ensures ∙ (λ j. slice_index (c.operands-operands.ensures j) 1)) k)) in
    c.look_by.ensures.finding ∙ (λ k. finding_of (step_by a (c.top.ensures k) (c.operands-operands.ensures k) (record { counted = counted k; modified = modified k }) marks))

pub returns-clause-effect : goal.returns-clause-effect
returns-clause-effect g c =
    let a = atlas_of c.args.atlas.now in
    let marks = marks_of c.args.marks.now in
    let counted = c.word.ensures ∙ (λ k. slice_index c.args.stepper.now.store ((c.operand_of.ensures ∙ (λ j. slice_index (c.operands-operands.ensures j) 0)) k)) in
    let modified = c.word-2.ensures ∙ (λ k. slice_index c.args.stepper.now.store ((c.operand_of-2.ensures ∙ (λ j. slice_index (c.operands-operands.ensures j) 1)) k)) in
    c.look_by.ensures.effect ∙ (λ k. effect_of (step_by a (c.top.ensures k) (c.operands-operands.ensures k) (record { counted = counted k; modified = modified k }) marks))
