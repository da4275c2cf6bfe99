use Rattle.std.proofs.Common.{◌≡◌, drop}
use Rattle.bcareful.specs.Things.{is_cut}
use Rattle.bcareful.proofs.thing.is_cut.Given as goal

-- none of the words so far ends the string
abbrev pub invariant-loop-word : goal.invariant-loop-word
invariant-loop-word l = is_cut (drop l.word-index l.words) ≡ is_cut l.words
