use Rattle.std.proofs.Common.{◌≡◌, ◌++◌, drop, map}
use Rattle.btools.specs.FrameNames.{word_seen}
use Rattle.bendless.specs.Idle.{frame_names}
use Rattle.bendless.specs.Loops.{noted_of}
use Rattle.bendless.proofs.idle.push_frame_names.Given as goal

-- what the words so far have not yet told, those that are left tell
abbrev pub invariant-loop-word : goal.invariant-loop-word
invariant-loop-word l =
    l.text ++ frame_names (noted_of l.notes) l.call.start (map word_seen (drop l.word-index l.words))
    ≡ l.fn.text ++ frame_names (noted_of l.notes) l.call.start (map word_seen l.words)
