use Rattle.std.proofs.Common.{◌≡◌, ◌∙◌, ◌++◌, OnOk, List, ℕ, ap, map, option_map, subst, sym}
use Rattle.std.specs.Borrow.{Bor}
use Rattle.blang.specs.CodeParts.{Function, Simple, Vector, function_of, simple_of, vector_of}
use Rattle.blang.specs.declared.code.Definition.{Definition}
use Rattle.blang.specs.declared.code.Definition.TheVariants as definition
use Rattle.btools.specs.declared.names.Frame.{Frame}
use Rattle.blist.specs.ListingTexts.{definition_rows}
use Rattle.blist.proofs.listing.push_definition.Goals as goal

pub returns-in-Function : goal.returns-in-Function
returns-in-Function c =
    let told = c.args.told in
    let same : definition.Function (function_of c.parts.result.now) ≡ c.args.definition.now = ap (λ (f : Function). definition.Function f) c.parts.ensures.same ∙ sym c.in-Function.is in
    subst (λ (d : Definition). OnOk c.push_function.result (c.push_function.new.text ≡ c.args.text.now ++ definition_rows (map (λ (t : Bor (List ℕ)). t.now) told.texts.now) c.args.address told.lines.now (option_map (λ (f : Bor Frame). f.now) told.frame) d)) same c.push_function.ensures

pub returns-in-Simple : goal.returns-in-Simple
returns-in-Simple c =
    let told = c.args.told in
    let same : definition.Simple (simple_of c.parts-in-Simple.result.now) ≡ c.args.definition.now = ap (λ (s : Simple). definition.Simple s) c.parts-in-Simple.ensures.same ∙ sym c.in-Simple.is in
    subst (λ (d : Definition). OnOk c.push_simple.result (c.push_simple.new.text ≡ c.args.text.now ++ definition_rows (map (λ (t : Bor (List ℕ)). t.now) told.texts.now) c.args.address told.lines.now (option_map (λ (f : Bor Frame). f.now) told.frame) d)) same c.push_simple.ensures

pub returns-in-Vector : goal.returns-in-Vector
returns-in-Vector c =
    let told = c.args.told in
    let same : definition.Vector (vector_of c.parts-in-Vector.result.now) ≡ c.args.definition.now = ap (λ (v : Vector). definition.Vector v) c.parts-in-Vector.ensures.same ∙ sym c.in-Vector.is in
    subst (λ (d : Definition). OnOk c.push_vector.result (c.push_vector.new.text ≡ c.args.text.now ++ definition_rows (map (λ (t : Bor (List ℕ)). t.now) told.texts.now) c.args.address told.lines.now (option_map (λ (f : Bor Frame). f.now) told.frame) d)) same c.push_vector.ensures
