use Rattle.std.proofs.Common.{[], ◌∷◌, ◌∙◌, ◌++◌, ap, arith, get_or}
use Rattle.std.specs.List.{flat_map}
use Rattle.std.proofs.lemmas.List.{get_or_default, take_all}
use Rattle.btools.proofs.AddedTexts.{each_more}
use Rattle.bcheck.specs.Checks.{shown_text}
use Rattle.bcheck.proofs.pieces.push_shown.Goals as goal

pub loop-byte-preserved : goal.loop-byte-preserved
loop-byte-preserved c =
    each_more shown_text c.args.text.now c.loop-byte.text _ c.args.bytes.now c.loop-byte.byte-index (get_or c.args.bytes.now c.loop-byte.byte-index 0)
    c.loop-byte-test.true (get_or_default _ _ _ _ c.loop-byte-test.true) c.loop-byte.invariant
    (c.in_ok-push.ensures ∙ ap (λ b. c.loop-byte.text ++ b ∷ []) c.shown_as.ensures)

pub returns : goal.returns
returns c = c.loop-byte.invariant ∙ ap (λ bs. c.args.text.now ++ flat_map shown_text bs) (take_all c.loop-byte.byte-index c.args.bytes.now (omega arith))
