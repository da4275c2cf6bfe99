use Rattle.bcli.proofs.Processes.{process_excluded}
use Rattle.bcli.proofs.serving.wrong_processes_are_excluded.Goals as goal

pub returns : goal.returns
returns g c = process_excluded (g.S.Shelf.holdings c.args._shelf.now)
