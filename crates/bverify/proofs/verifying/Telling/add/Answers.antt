use Rattle.std.proofs.Common.{◌≡◌, List, [], refl, sym, subst}
use Rattle.std.specs.Prelude.{OnOk}
use Rattle.bverify.specs.Verifies.{IsChecked, with_flaws}
use Rattle.bverify.specs.declared.flaws.PlacedFlaw.{PlacedFlaw}
use Rattle.bverify.proofs.Tellings.{none_told}
use Rattle.bverify.proofs.verifying.Telling.add.Goals as goal

pub returns-in-Function : goal.returns-in-Function
returns-in-Function c =
    subst (λ d. OnOk c.add_function.result ((flaws : List PlacedFlaw) × IsChecked d flaws × (c.add_function.new.self ≡ with_flaws c.args.self.now d c.args.lines.now flaws))) (sym c.in-Function.is) c.add_function.ensures

pub returns-in-Simple : goal.returns-in-Simple
returns-in-Simple c =
    ([], subst (λ d. IsChecked d []) (sym c.in-Simple.is) refl, none_told c.args.self.now c.args.definition.now c.args.lines.now)

pub returns-in-Vector : goal.returns-in-Vector
returns-in-Vector c =
    ([], subst (λ d. IsChecked d []) (sym c.in-Vector.is) refl, none_told c.args.self.now c.args.definition.now c.args.lines.now)
