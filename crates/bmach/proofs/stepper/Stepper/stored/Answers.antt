use Rattle.std.proofs.Common.{◌≡◌, ◌∙◌, ◌-◌, ℕ, List, ap, map, subst, sym}
use Rattle.std.specs.List.{range_with_len}
use Rattle.bmach.specs.Images.{loaded_of}
use Rattle.bmach.specs.Stepping.{Paused, machine_at}
use Rattle.bmach.specs.Steps.{calls_below, machine_call, world_with}
use Rattle.bmach.specs.Stored.{KeepsOthers, stored_next}
use Rattle.bmach.proofs.Storing.{others_kept}
use Rattle.bmach.proofs.stepper.Stepper.stored.Goals as goal

pub returns-clause-stored : goal.returns-clause-stored
returns-clause-stored g c =
    let calls = c.self.inside.calls in
    let told = c.stored_next.result in
    let functions : map loaded_of c.deref.result.now ≡ c.self.inside.image.now.functions =
    ap (map loaded_of) c.deref.ensures.value ∙ ap (λ i. i.functions) c.image.view_is in
    subst (λ (p : Paused). range_with_len told.start (told.end - told.start) ≡ stored_next p.image.functions p.call p.below) c.self.view_is
    (c.stored_next.ensures.stored ∙ ap (λ fs. stored_next fs (machine_call calls.top) (calls_below calls)) functions)

pub returns-clause-others : goal.returns-clause-others
returns-clause-others g c left before =
    let p = c.args.self.now in
    subst (λ (xs : List ℕ). KeepsOthers p.image (machine_at p left before) xs) (sym (returns-clause-stored g c))
    (others_kept p.image p.call p.below (world_with p.store left before))
