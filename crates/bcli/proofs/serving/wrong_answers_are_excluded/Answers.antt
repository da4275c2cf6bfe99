use Rattle.bcli.proofs.ShellExcluded.{excluded}
use Rattle.bcli.proofs.serving.wrong_answers_are_excluded.Goals as goal

pub returns : goal.returns
returns g c = excluded (g.S.Shelf.holdings c.args._shelf.now)
