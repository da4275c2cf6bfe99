use Rattle.std.proofs.Common.{◌≡◌, ◌++◌}
use Rattle.blist.specs.Maps.{words_from}
use Rattle.blist.proofs.layout.push_words.Given as goal

abbrev pub invariant-loop-index : goal.invariant-loop-index
invariant-loop-index l = l.text ≡ l.fn.text ++ words_from l.image l.address l.index
