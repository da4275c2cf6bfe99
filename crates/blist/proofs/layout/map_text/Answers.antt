use Rattle.std.proofs.Common.{◌∙◌, ◌++◌, List, ap, ap₂, arith, codes, decimal}
use Rattle.std.proofs.lemmas.List.{take_all}
use Rattle.std.specs.List.{flat_map}
use Rattle.blang.specs.declared.code.Definition.{Definition}
use Rattle.blang.specs.Layout.{shape_of}
use Rattle.blist.specs.declared.layout.TheConstants.{HEADING}
use Rattle.blist.specs.Maps.{map_row}
use Rattle.btools.proofs.AddedTexts.{each_more}
use Rattle.blist.proofs.layout.map_text.Goals as goal

pub loop-definition-preserved : goal.loop-definition-preserved
loop-definition-preserved c =
    each_more (λ d. map_row c.args.image.now (shape_of d)) HEADING.now c.loop-definition.text _ c.args.definitions.now c.loop-definition.definition-index c.definition-item.result
    c.loop-definition-test.true c.definition-item.is c.loop-definition.invariant c.in_ok-push_row.ensures

pub returns : goal.returns
returns c =
    let rows = λ (ds : List Definition). HEADING.now ++ flat_map (λ d. map_row c.args.image.now (shape_of d)) ds in
    c.in_ok-push-3.ensures
    ∙ ap (λ t. t ++ codes "\n") (c.in_ok-push_number.ensures
    ∙ ap₂ (λ t n. t ++ decimal n) (c.in_ok-push-2.ensures
    ∙ ap (λ t. t ++ codes "data end ") (c.loop-definition.invariant ∙ ap rows (take_all c.loop-definition.definition-index c.args.definitions.now (omega arith))))
    (c.from.ensures ∙ c.data_end.ensures))
