use Rattle.bmean.proofs.Fuel.{ends_for_good}
use Rattle.bmean.proofs.more_fuel_changes_no_end.Goals as goal

pub returns : goal.returns
returns c = ends_for_good
