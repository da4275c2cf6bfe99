use Rattle.bcheck.proofs.TokenPlaces.{stands_there}
use Rattle.bcheck.proofs.places.place_on.Goals as goal

pub returns-in_default-clause-stands : goal.returns-in_default-clause-stands
returns-in_default-clause-stands c = stands_there c.args.edition c.args.line _ c.args.source.now c.line_start.ensures
