use Rattle.std.proofs.Common.{◌∙◌, ◌++◌, ap, arith, codes}
use Rattle.std.specs.List.{flat_map}
use Rattle.std.proofs.lemmas.List.{take_all}
use Rattle.btools.proofs.AddedTexts.{each_more}
use Rattle.bdraw.specs.Shapes.{beginning, shape_text, title_text}
use Rattle.bdraw.proofs.shapes.picture_text.Goals as goal

pub loop-shape-preserved : goal.loop-shape-preserved
loop-shape-preserved c =
    each_more shape_text (beginning c.args.height ++ title_text c.args.title.now) c.loop-shape.text _ c.args.shapes.now c.loop-shape.shape-index c.shape-item.result
    c.loop-shape-test.true c.shape-item.is c.loop-shape.invariant c.in_ok-push_shape.ensures

pub returns : goal.returns
returns c =
    c.in_ok-push-5.ensures
    ∙ ap (λ t. t ++ codes "</svg>\n") (c.loop-shape.invariant
    ∙ ap (λ ss. beginning c.args.height ++ title_text c.args.title.now ++ flat_map shape_text ss) (take_all c.loop-shape.shape-index c.args.shapes.now (omega arith)))
