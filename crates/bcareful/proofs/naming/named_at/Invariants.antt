use Rattle.std.proofs.Common.{◌≡◌, None, drop, map, option_map}
use Rattle.btools.specs.FrameNames.{word_seen}
use Rattle.bcareful.specs.Tellings.{named_at}
use Rattle.bcareful.proofs.naming.named_at.Given as goal

-- the last word so far comes up to this one
abbrev pub invariant-loop-word : goal.invariant-loop-word
invariant-loop-word l =
    named_at (map word_seen (drop l.word-index l.words)) l.offset (option_map word_seen l.last)
    ≡ named_at (map word_seen l.words) l.offset None
