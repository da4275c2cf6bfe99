use Rattle.std.proofs.Common.{refl}
use Rattle.bcore.proofs.tools.NoToolsTools.answer.Goals as goal

pub returns-clause-answers : goal.returns-clause-answers
returns-clause-answers g c =
    (record { unread = refl; silent = refl }, (rw c.as_bytes.ensures.value at c.tell.ensures.told))
