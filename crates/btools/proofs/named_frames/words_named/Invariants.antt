use Rattle.std.proofs.Common.{◌≡◌, ◌++◌, length}
use Rattle.btools.specs.NamedFrames.{words_named}
use Rattle.btools.proofs.named_frames.words_named.Given as goal

-- the words so far, and those of the lines that are left
abbrev pub invariant-loop-rest : goal.invariant-loop-rest
invariant-loop-rest l = l.words.items ++ words_named l.offset l.rest ≡ words_named 0 l.lines

abbrev pub decreases-loop-rest : goal.decreases-loop-rest
decreases-loop-rest l = length l.rest
