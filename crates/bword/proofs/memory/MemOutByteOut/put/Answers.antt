use Rattle.std.proofs.Common.{rules}
use Rattle.bword.proofs.memory.MemOutByteOut.put.Goals as goal

pub returns-then-is_err-clause-whole : goal.returns-then-is_err-clause-whole
returns-then-is_err-clause-whole c = search rules
