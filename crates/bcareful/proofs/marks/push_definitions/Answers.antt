use Rattle.std.proofs.Common.{◌∙◌, ◌<◌, ◌++◌, ap, get_or, length, subst}
use Rattle.bcareful.specs.Things.{atlas_of}
use Rattle.bcareful.proofs.Looking.{one_definition}
use Rattle.bcareful.proofs.marks.push_definitions.Goals as goal

pub loop-definition-preserved : goal.loop-definition-preserved
loop-definition-preserved c =
    let ds = c.args.atlas.now.program.now.definitions.items in
    let i = c.loop-definition.definition-index in
    let d = c.definition-item.result in
    let same = c.deref-definition-items.ensures.value in
    one_definition (atlas_of c.args.atlas.now) c.loop-definition.address ds i d (subst (λ xs. i < length xs) same c.loop-definition-test.true)
    (c.definition-item.is ∙ ap (λ xs. get_or xs i d) same) c.loop-definition.words.items _ _ c.size_of-address.result
    (c.in_ok-extend_from_slice.ensures.items ∙ ap (λ ms. c.loop-definition.words.items ++ ms) (c.deref.ensures.value ∙ c.in_ok-marks.ensures))
    c.size_of-address.ensures.value c.loop-definition.invariant
