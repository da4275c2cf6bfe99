use Rattle.std.proofs.Common.{rules}
use Rattle.bword.proofs.flat_store.FlatStoreStore.set.Goals as goal

pub returns-clause-stored : goal.returns-clause-stored
returns-clause-stored c = search rules
