use Rattle.blang.specs.Cut.{is_blank}
use Rattle.blex.proofs.NameRuns.{run_place}
use Rattle.blex.proofs.scanner.blanks.Goals as goal

pub returns : goal.returns
returns c = run_place is_blank c.args.bytes.now _ _ c.other_place.ensures c.unwrap_or.ensures
