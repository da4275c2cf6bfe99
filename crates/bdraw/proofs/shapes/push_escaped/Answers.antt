use Rattle.std.proofs.Common.{◌∙◌, ◌++◌, ap, arith, get_or}
use Rattle.std.proofs.lemmas.List.{get_or_default, take_all}
use Rattle.btools.proofs.AddedTexts.{each_more}
use Rattle.bdraw.specs.Shapes.{escape, escaped}
use Rattle.bdraw.proofs.shapes.push_escaped.Goals as goal

pub loop-byte-preserved : goal.loop-byte-preserved
loop-byte-preserved c =
    each_more escape c.args.text.now c.loop-byte.text _ c.args.words.now c.loop-byte.byte-index (get_or c.args.words.now c.loop-byte.byte-index 0)
    c.loop-byte-test.true (get_or_default _ _ _ _ c.loop-byte-test.true) c.loop-byte.invariant c.in_ok-push_escape.ensures

pub returns : goal.returns
returns c = c.loop-byte.invariant ∙ ap (λ ws. c.args.text.now ++ escaped ws) (take_all c.loop-byte.byte-index c.args.words.now (omega arith))
