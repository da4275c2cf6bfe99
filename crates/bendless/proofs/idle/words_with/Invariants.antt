use Rattle.std.proofs.Common.{◌≡◌, drop}
use Rattle.bendless.proofs.IdleNames.{words_from}
use Rattle.bendless.proofs.idle.words_with.Given as goal

-- none of the functions so far is the one
abbrev pub invariant-loop-number : goal.invariant-loop-number
invariant-loop-number l =
    words_from l.strings (drop l.number l.entries) (drop l.number l.frames) ≡ words_from l.strings l.entries l.frames
