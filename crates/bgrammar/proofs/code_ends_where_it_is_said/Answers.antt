use Rattle.bgrammar.proofs.CodeLaws.{statement_ends}
use Rattle.bgrammar.proofs.code_ends_where_it_is_said.Goals as goal

pub returns : goal.returns
returns c = statement_ends
