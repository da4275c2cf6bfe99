use Rattle.std.proofs.Common.{refl}
use Rattle.bcommand.proofs.GivenOptions.{text_or}
use Rattle.bcommand.proofs.parsing.pattern_of.Goals as goal

pub returns : goal.returns
returns c = text_or c.text_of.result _ _ _ refl c.unwrap_or.ensures c.text_of.ensures
