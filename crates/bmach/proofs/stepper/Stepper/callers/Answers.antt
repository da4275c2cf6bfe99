use Rattle.std.proofs.Common.{◌∙◌, ap, length, sym}
use Rattle.bmach.specs.Stepping.{Paused}
use Rattle.bmach.proofs.Calling.{calls_counted}
use Rattle.bmach.proofs.stepper.Stepper.callers.Goals as goal

pub returns : goal.returns
returns g c =
    let calls = c.self.inside.calls in
    c.len.ensures ∙ calls.below.ok.0 ∙ sym (calls_counted calls) ∙ ap (λ (p : Paused). length p.below) c.self.view_is
