use Rattle.std.proofs.Common.{◌≡◌, ◌++◌, codes, take}
use Rattle.std.specs.List.{flat_map}
use Rattle.bshow.specs.Facts.{frame_word_text}
use Rattle.bshow.proofs.facts.push_frame.Given as goal

abbrev pub invariant-loop-word : goal.invariant-loop-word
invariant-loop-word l = l.text ≡ (l.fn.text ++ codes "[") ++ flat_map frame_word_text (take l.word-index l.word-items)
