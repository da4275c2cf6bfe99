use Rattle.bendless.specs.Loops.{noted_of}
use Rattle.bendless.proofs.IdleNames.{one_word}
use Rattle.bendless.proofs.idle.push_frame_names.Goals as goal

pub loop-word-preserved : goal.loop-word-preserved
loop-word-preserved c =
    one_word (noted_of c.args.notes.now) c.args.call.start c.args.words.now c.loop-word.word-index c.word-item.result c.loop-word-test.true c.word-item.is c.loop-word.text _ _
    c.in_ok-push_frame_name.ensures c.loop-word.invariant
