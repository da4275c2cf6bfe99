use Rattle.bgrammar.proofs.CodeLaws.{scans_on}
use Rattle.bgrammar.proofs.a_scan_goes_on.Goals as goal

pub returns : goal.returns
returns c = scans_on
