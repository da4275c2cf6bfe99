use Rattle.std.proofs.Common.{◌∙◌, ◌++◌, ap, arith, get_or}
use Rattle.std.proofs.lemmas.List.{get_or_default, take_all}
use Rattle.btools.proofs.AddedTexts.{each_more}
use Rattle.bshow.specs.Rows.{other_text, others_text}
use Rattle.bshow.proofs.rows.push_others.Goals as goal

pub loop-word-preserved : goal.loop-word-preserved
loop-word-preserved c =
    each_more other_text c.args.text.now c.loop-word.text _ c.args.words.now c.loop-word.word-index (get_or c.args.words.now c.loop-word.word-index 0)
    c.loop-word-test.true (get_or_default _ _ _ _ c.loop-word-test.true) c.loop-word.invariant c.in_ok-push_other.ensures

pub returns : goal.returns
returns c = c.loop-word.invariant ∙ ap (λ ws. c.args.text.now ++ others_text ws) (take_all c.loop-word.word-index c.args.words.now (omega arith))
