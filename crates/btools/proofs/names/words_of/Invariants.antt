use Rattle.std.proofs.Common.{◌≡◌, ◌≤◌, length}
use Rattle.bparse.specs.Locals.{table_words}
use Rattle.btools.proofs.FrameNames.{words_so_far}
use Rattle.btools.proofs.names.words_of.Given as goal

abbrev pub invariant-loop-rest : goal.invariant-loop-rest
invariant-loop-rest l = (words_so_far (table_words l.rest l.end) l.words.items ≡ table_words l.names l.size) × (length l.rest ≤ 128)

abbrev pub decreases-loop-rest : goal.decreases-loop-rest
decreases-loop-rest l = length l.rest
