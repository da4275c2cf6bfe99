use Rattle.std.proofs.Common.{refl}
use Rattle.bword.proofs.StoreLemmas.{IsStore-replicate, zeros-replicate}
use Rattle.bword.proofs.flat_store.FlatStore.new.Goals as goal

pub invariant_of-result : goal.invariant_of-result
invariant_of-result c = record { whole = IsStore-replicate c.in-Ok.words.items 65536 refl c.in-Ok.ensures }

pub returns-in-Ok : goal.returns-in-Ok
returns-in-Ok c = zeros-replicate c.in-Ok.words.items 65536 refl c.in-Ok.ensures
