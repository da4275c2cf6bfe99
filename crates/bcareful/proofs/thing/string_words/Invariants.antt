use Rattle.std.proofs.Common.{◌≡◌, ◌+◌, drop}
use Rattle.bcareful.specs.Things.{string_words}
use Rattle.bcareful.proofs.thing.string_words.Given as goal

-- none of the words so far ends the string
abbrev pub invariant-loop-word : goal.invariant-loop-word
invariant-loop-word l =
    (l.count ≡ l.word-index) × (string_words l.words ≡ l.count + string_words (drop l.word-index l.words))
