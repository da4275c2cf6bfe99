use Rattle.bendless.proofs.LoopSteps.{noted_all}
use Rattle.bendless.proofs.looping.LoopWatcherOnlooker.end.Goals as goal

pub returns : goal.returns
returns g c first sights h = noted_all first c.args.self.now c.args._stepper.now sights c.args._stop c.args._stop.outcome h
