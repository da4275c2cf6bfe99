use Rattle.bnaming.proofs.KindLaws.{kinds_of_scan}
use Rattle.bnaming.proofs.naming.names_are_declared_as_scanned.Goals as goal

pub returns : goal.returns
returns c = kinds_of_scan
