use Rattle.std.proofs.Common.{◌∙◌, ◌++◌, ap, arith, get_or}
use Rattle.std.proofs.lemmas.List.{get_or_default, take_all}
use Rattle.btools.proofs.AddedTexts.{each_more}
use Rattle.btools.specs.Quoting.{file_byte, file_text}
use Rattle.btools.proofs.quoting.push_file.Goals as goal

pub loop-byte-preserved : goal.loop-byte-preserved
loop-byte-preserved c =
    each_more file_byte c.args.text.now c.loop-byte.text _ c.args.name.now c.loop-byte.byte-index (get_or c.args.name.now c.loop-byte.byte-index 0)
    c.loop-byte-test.true (get_or_default _ _ _ _ c.loop-byte-test.true) c.loop-byte.invariant c.in_ok-push_file_byte.ensures

pub returns : goal.returns
returns c = c.loop-byte.invariant ∙ ap (λ bs. c.args.text.now ++ file_text bs) (take_all c.loop-byte.byte-index c.args.name.now (omega arith))
