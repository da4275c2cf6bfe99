use Rattle.bcore.specs.Shelves.{opened}
use Rattle.bcore.proofs.CoreDone.{words_done}
use Rattle.bcore.proofs.process.core_is_answered.Goals as goal

pub returns : goal.returns
returns g c = record { core = words_done g.T.Tools.answers (opened g.R.File.Read.remaining) }
