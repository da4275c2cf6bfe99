use Rattle.std.proofs.Common.{arith}
use Rattle.bmach.proofs.text.put_character.Goals as goal

pub returns-then-character-eq0-clause-range : goal.returns-then-character-eq0-clause-range
returns-then-character-eq0-clause-range c = omega arith
