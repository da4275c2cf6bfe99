use Rattle.std.proofs.Common.{rules}
use Rattle.bnames.proofs.name_table.Probes.compare.Goals as goal

pub returns-clause-counted : goal.returns-clause-counted
returns-clause-counted c = search rules
