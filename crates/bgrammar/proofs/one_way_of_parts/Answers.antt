use Rattle.bgrammar.proofs.ProgramRules.{has_parts, one_way}
use Rattle.bgrammar.proofs.one_way_of_parts.Goals as goal

pub returns-clause-some : goal.returns-clause-some
returns-clause-some c = has_parts

pub returns-clause-once : goal.returns-clause-once
returns-clause-once c = one_way
