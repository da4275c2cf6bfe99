use Rattle.std.proofs.Common.{sym, subst}
use Rattle.blang.specs.declared.code.Definition.{Definition}
use Rattle.bmach.specs.Loading.{known_in}
use Rattle.bmach.specs.Parts.{AddsDefinition}
use Rattle.bmach.proofs.part.Part.add.Goals as goal

pub returns-in-Function : goal.returns-in-Function
returns-in-Function c =
    let adds : Definition → Type 0 = λ d. AddsDefinition (known_in c.args.addresses.now) c.args.self.now d c.add_function.result c.add_function.new.self in
    subst adds (sym c.in-Function.is) c.add_function.ensures

pub returns-in-Simple : goal.returns-in-Simple
returns-in-Simple c =
    let adds : Definition → Type 0 = λ d. AddsDefinition (known_in c.args.addresses.now) c.args.self.now d c.add_simple.result c.add_simple.new.self in
    subst adds (sym c.in-Simple.is) c.add_simple.ensures

pub returns-in-Vector : goal.returns-in-Vector
returns-in-Vector c =
    let adds : Definition → Type 0 = λ d. AddsDefinition (known_in c.args.addresses.now) c.args.self.now d c.add_vector.result c.add_vector.new.self in
    subst adds (sym c.in-Vector.is) c.add_vector.ensures
