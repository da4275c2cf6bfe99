use Rattle.bgrammar.proofs.Membership.{by_membership}
use Rattle.bgrammar.proofs.names_count_by_membership_alone.Goals as goal

pub returns : goal.returns
returns c = by_membership
