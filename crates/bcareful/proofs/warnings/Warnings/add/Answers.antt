use Rattle.std.proofs.Common.{◌∙◌, ap, sym}
use Rattle.std.proofs.lemmas.Result.{on_ok_weaker}
use Rattle.btrace.specs.RowTexts.{legend_of}
use Rattle.bwatch.specs.Sights.{sight_at}
use Rattle.bcareful.specs.Things.{atlas_of}
use Rattle.bcareful.specs.Tellings.{careful_text}
use Rattle.bcareful.specs.Warned.{noted, warned, warnings_of}
use Rattle.bcareful.proofs.warnings.Warnings.add.Goals as goal

pub returns : goal.returns
returns g c =
    let a = atlas_of c.args.teller.now.atlas in
    let legend = legend_of c.args.teller.now.legend in
    let source = c.args.teller.now.source.now in
    let w = warnings_of c.args.self.now in
    on_ok_weaker c.note.result
    (λ e output.
    let s = sight_at c.args.stepper.now output in
    let text = c.as_slice.ensures ∙ c.in_ok-text.ensures output
    ∙ (λ k. careful_text a legend source s (record { finding = c.in-Some.finding; call = c.top-call.ensures k; made = c.args.made })) in
    e ∙ (λ k. noted (c.top-call.ensures k) (text k) w) ∙ ap (λ f. warned a legend source s c.args.made f w) (sym c.in-Some.is))
    c.note.ensures
