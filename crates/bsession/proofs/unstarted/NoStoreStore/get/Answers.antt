use Rattle.std.proofs.Common.{sym}
use Rattle.bsession.specs.Zeros.{zero_at}
use Rattle.bsession.proofs.unstarted.NoStoreStore.get.Goals as goal

pub returns : goal.returns
returns c = sym (zero_at c.args.arg2)
