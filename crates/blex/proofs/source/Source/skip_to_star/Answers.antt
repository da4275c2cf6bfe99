use Rattle.std.proofs.Common.{◌≡◌, None, sym}
use Rattle.blex.specs.Runs.{is_no_star}
use Rattle.blex.proofs.Passing.{none_of}
use Rattle.blex.proofs.BlockSteps.{PassesRun-none, block_passes}
use Rattle.blex.proofs.source.Source.skip_to_star.Goals as goal

pub returns-then-is_some : goal.returns-then-is_some
returns-then-is_some g c = PassesRun-none is_no_star _

pub returns : goal.returns
returns g c =
    let none : c.self.inside.first ≡ None = none_of _ (sym c.if-is_some.ensures) in
    let n = c.before_star-count.ensures in
    rw (← c.self.view_is)
    (block_passes is_no_star _ _ _ _ _ _ _ _ _ _ _ none (c.self.invariant none) c.ahead-block.ensures n.within c.take.ensures.takes c.take.ensures.same c.line_number_after-self-inside.ensures n.none)
