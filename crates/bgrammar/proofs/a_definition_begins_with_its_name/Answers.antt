use Rattle.bgrammar.proofs.LawProofs.{begins_with_name}
use Rattle.bgrammar.proofs.a_definition_begins_with_its_name.Goals as goal

pub returns : goal.returns
returns c = begins_with_name
