use Rattle.bcount.proofs.Counted.{all_counted}
use Rattle.bcount.proofs.tallies.TalliesOnlooker.end.Goals as goal

pub returns : goal.returns
returns g c first sights = all_counted first c.args.self.now c.args._stepper.now sights c.args._stop.outcome c.args._stop
