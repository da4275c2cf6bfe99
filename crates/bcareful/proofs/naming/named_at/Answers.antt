use Rattle.std.proofs.Common.{◌∙◌, option_map}
use Rattle.btools.specs.FrameNames.{word_seen}
use Rattle.bcareful.proofs.Looking.{one_word}
use Rattle.bcareful.proofs.naming.named_at.Goals as goal

pub loop-word-preserved : goal.loop-word-preserved
loop-word-preserved c =
    one_word c.args.words.now c.loop-word.word-index c.word-item.result c.args.offset (option_map word_seen c.loop-word.last) c.loop-word-test.true c.word-item.is c.if-word-offset.false
    ∙ c.loop-word.invariant
