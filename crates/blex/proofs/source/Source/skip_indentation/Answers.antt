use Rattle.std.proofs.Common.{◌≡◌, None, sym}
use Rattle.blex.specs.Runs.{is_space}
use Rattle.blex.proofs.Passing.{none_of}
use Rattle.blex.proofs.BlockSteps.{PassesRun-none}
use Rattle.blex.proofs.NameRuns.{spaces_block}
use Rattle.blex.proofs.source.Source.skip_indentation.Goals as goal

pub returns-then-before-ne10 : goal.returns-then-before-ne10
returns-then-before-ne10 g c = PassesRun-none is_space _

pub returns-then-is_some : goal.returns-then-is_some
returns-then-is_some g c = PassesRun-none is_space _

pub returns : goal.returns
returns g c =
    let none : c.self.inside.first ≡ None = none_of _ (sym c.if-is_some.ensures) in
    rw (← c.self.view_is)
    (spaces_block _ _ _ _ _ _ _ _ _ _ _ none (c.self.invariant none) c.ahead-block.ensures c.take.ensures.takes c.take.ensures.same c.space_end.ensures c.unwrap_or-count.ensures)
