use Rattle.bcode.proofs.MemoryLaws.{HasRead}
use Rattle.bcode.proofs.read.read_code.Given as goal

abbrev pub invariant-definitions : goal.invariant-definitions
invariant-definitions l = HasRead l.text l.definitions.items l.reader

abbrev pub decreases-definitions : goal.decreases-definitions
decreases-definitions l = l.reader.ahead.end.bound
