use Rattle.bembed.proofs.RoomsExcluded.{excluded}
use Rattle.bembed.proofs.calls.wrong_rooms_are_excluded.Goals as goal

pub returns : goal.returns
returns c = excluded
