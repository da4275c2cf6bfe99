use Rattle.std.proofs.Common.{◌≡◌, drop, map}
use Rattle.btools.specs.FrameNames.{word_seen}
use Rattle.bcareful.specs.Things.{thing_among}
use Rattle.bcareful.proofs.thing.thing_among.Given as goal

-- none of the vectors so far has the word
abbrev pub invariant-loop-index : goal.invariant-loop-index
invariant-loop-index l =
    thing_among l.start l.owner (map word_seen (drop l.index l.words)) l.frame l.offset
    ≡ thing_among l.start l.owner (map word_seen l.words) l.frame l.offset
