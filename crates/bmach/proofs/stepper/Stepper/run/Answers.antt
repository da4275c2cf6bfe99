use Rattle.std.proofs.Common.{◌≡◌, ◌∙◌, [], ap, map, subst, sym}
use Rattle.blang.specs.Machine.{steps}
use Rattle.blang.specs.Reports.{RunGives}
use Rattle.bmach.specs.Images.{loaded_of}
use Rattle.bmach.specs.Stepping.{Paused, machine_at}
use Rattle.bmach.specs.Stops.{IsLastAt, IsOverAt}
use Rattle.bmach.proofs.stepper.Stepper.run.Goals as goal

pub returns-clause-gives : goal.returns-clause-gives
returns-clause-gives g c =
    let image = c.self.inside.image.now in
    let functions : image.functions ≡ map loaded_of c.deref.result.now =
    sym (ap (λ i. i.functions) c.image.view_is) ∙ ap (map loaded_of) (sym c.deref.ensures.value) in
    subst (λ (p : Paused). RunGives (λ left n. steps p.image n (machine_at p left [])) c.args.steps (g.I.ByteIn.incoming c.args.input.now) (g.I.ByteIn.incoming c.run_steps.new.input) (g.O.ByteOut.outgoing c.args.out.now) (g.O.ByteOut.outgoing c.run_steps.new.out) c.run_steps.result.stop.outcome) c.self.view_is
    (c.run_steps.ensures.gives image functions)

pub returns-clause-stops : goal.returns-clause-stops
returns-clause-stops g c =
    let image = c.self.inside.image.now in
    let functions : image.functions ≡ map loaded_of c.deref.result.now =
    sym (ap (λ i. i.functions) c.image.view_is) ∙ ap (map loaded_of) (sym c.deref.ensures.value) in
    let stop = c.run_steps.result.stop in
    subst (λ (p : Paused). IsOverAt (λ left n. steps p.image n (machine_at p left [])) c.args.steps (g.I.ByteIn.incoming c.args.input.now) (g.I.ByteIn.incoming c.run_steps.new.input) stop.outcome stop.call stop.steps) c.self.view_is
    (c.run_steps.ensures.stops image functions)

pub returns-clause-last : goal.returns-clause-last
returns-clause-last g c =
    let image = c.self.inside.image.now in
    let functions : image.functions ≡ map loaded_of c.deref.result.now =
    sym (ap (λ i. i.functions) c.image.view_is) ∙ ap (map loaded_of) (sym c.deref.ensures.value) in
    let stop = c.run_steps.result.stop in
    subst (λ (p : Paused). IsLastAt (λ left n. steps p.image n (machine_at p left [])) c.args.steps (g.I.ByteIn.incoming c.args.input.now) (g.I.ByteIn.incoming c.run_steps.new.input) stop.outcome stop.call stop.steps) c.self.view_is
    (c.run_steps.ensures.last image functions)
