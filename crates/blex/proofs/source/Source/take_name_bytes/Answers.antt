use Rattle.std.proofs.Common.{◌≡◌, None, refl, sym}
use Rattle.blex.proofs.Passing.{none_of}
use Rattle.blex.proofs.NameRuns.{name_goes_on, name_stops}
use Rattle.blex.proofs.WordSteps.{TakesName-none}
use Rattle.blex.proofs.source.Source.take_name_bytes.Goals as goal

pub returns-then-is_some : goal.returns-then-is_some
returns-then-is_some g c = TakesName-none _ _

pub returns-in_default : goal.returns-in_default
returns-in_default g c =
    let none : c.self.inside.first ≡ None = none_of _ (sym c.if-is_some.ensures) in
    rw (← c.self.view_is)
    (name_goes_on _ _ _ _ _ _ _ _ _ _ none (c.self.invariant none) c.ahead-block.ensures c.take.ensures.same _ (record { number = c.name_end.new.number; len = c.saturating_add-spelling.result }) c.in_default.ensures c.take.ensures.takes c.saturating_add-spelling.ensures)

pub returns : goal.returns
returns g c =
    let none : c.self.inside.first ≡ None = none_of _ (sym c.if-is_some.ensures) in
    rw (← c.self.view_is)
    (name_stops _ _ _ _ _ _ _ _ _ _ none (c.self.invariant none) c.ahead-block.ensures c.take-2.ensures.same _ (record { number = c.name_end.new.number; len = c.saturating_add-spelling-2.result }) _ _ c.in-Some.ensures refl c.take-2.ensures.takes c.saturating_add-spelling-2.ensures)
