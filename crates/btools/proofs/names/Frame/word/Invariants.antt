use Rattle.std.proofs.Common.{◌≡◌, None, map, take}
use Rattle.std.specs.Prelude.{find}
use Rattle.btools.specs.FrameNames.{is_shown_at, word_seen}
use Rattle.btools.proofs.names.Frame.word.Given as goal

-- none of those so far is_shown_at the word
abbrev pub invariant-loop-word : goal.invariant-loop-word
invariant-loop-word l = find (is_shown_at l.offset) (map word_seen (take l.word-index l.word-items)) ≡ None
