use Rattle.std.proofs.Common.{◌≡◌, ◌∙◌, ℕ, List, ap, map, reverse, subst, sym}
use Rattle.bmach.specs.Images.{loaded_of}
use Rattle.bmach.specs.Steps.{machine_call, callers_of, calls_below, machine_with, world_with}
use Rattle.blang.specs.Machine.{step}
use Rattle.bmach.specs.Stepping.{Paused, machine_at, paused}
use Rattle.bmach.specs.Turns.{KeepsBelow, LeavesWords, TurnGives}
use Rattle.bmach.proofs.Turning.{paced_below}
use Rattle.bmach.proofs.stepper.Stepper.step.Goals as goal

pub returns-clause-gives : goal.returns-clause-gives
returns-clause-gives g c =
    let image = c.self.inside.image.now in
    let calls = c.self.inside.calls in
    let old = paused image calls (g.S.Store.words c.self.inside.store) in
    let functions : image.functions ≡ map loaded_of c.deref.result.now =
    sym (ap (λ i. i.functions) c.image.view_is) ∙ ap (map loaded_of) (sym c.deref.ensures.value) in
    subst (λ (p : Paused). TurnGives p.image (machine_at p) (machine_with c.turn.new.calls (g.S.Store.words c.turn.new.store)) (g.I.ByteIn.incoming c.args.input.now) (g.I.ByteIn.incoming c.turn.new.input) (g.O.ByteOut.outgoing c.args.out.now) (g.O.ByteOut.outgoing c.turn.new.out) c.turn.result) c.self.view_is
    (c.turn.ensures.gives image (machine_at old) functions (λ left before. paced_below image c.make_step-pace.result (machine_call c.make_step-pace.new.call) (reverse calls.below.items) (world_with (g.S.Store.words c.make_step-pace.new.store) left before) _ _
    c.make_step-pace.ensures.below (c.make_step-pace.ensures.paced image (calls_below calls) left before)))

pub returns-clause-words : goal.returns-clause-words
returns-clause-words g c =
    let image = c.self.inside.image.now in
    let calls = c.self.inside.calls in
    let old = paused image calls (g.S.Store.words c.self.inside.store) in
    let functions : image.functions ≡ map loaded_of c.deref.result.now =
    sym (ap (λ i. i.functions) c.image.view_is) ∙ ap (map loaded_of) (sym c.deref.ensures.value) in
    subst (λ (p : Paused). LeavesWords (λ left before. step p.image (machine_at p left before)) c.turn.result (g.S.Store.words c.turn.new.store)) c.self.view_is
    (c.turn.ensures.words image (machine_at old) functions (λ left before. paced_below image c.make_step-pace.result (machine_call c.make_step-pace.new.call) (reverse calls.below.items) (world_with (g.S.Store.words c.make_step-pace.new.store) left before) _ _
    c.make_step-pace.ensures.below (c.make_step-pace.ensures.paced image (calls_below calls) left before)))

pub returns-clause-below : goal.returns-clause-below
returns-clause-below g c =
    let callers = reverse c.self.inside.calls.below.items in
    let new = calls_below c.turn.new.calls in
    subst (λ (p : Paused). KeepsBelow c.turn.result p.below new) c.self.view_is
    (subst (λ (words : List ℕ). KeepsBelow c.turn.result (callers_of callers words) new) c.make_step-pace.ensures.below c.turn.ensures.below)
