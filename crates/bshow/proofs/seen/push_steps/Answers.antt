use Rattle.std.proofs.Common.{◌++◌, ap}
use Rattle.std.specs.List.{flat_map}
use Rattle.bshow.specs.Rows.{table_code}
use Rattle.bshow.specs.Steps.{seen_cells}
use Rattle.bshow.proofs.seen.push_steps.Goals as goal

pub loop-step-init : goal.loop-step-init
loop-step-init c = ap (λ steps. c.args.page.now ++ flat_map (seen_cells (table_code c.args.tables.now)) steps) c.into_iter-step-iterator.ensures.into_iter_gives.0
