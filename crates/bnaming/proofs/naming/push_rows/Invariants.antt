use Rattle.std.proofs.Common.{◌≡◌, ◌≤◌, ◌++◌, List, drop}
use Rattle.bsources.specs.Files.{files_shown}
use Rattle.bnaming.specs.declared.binding.Reach.TheVariants as reach
use Rattle.bnaming.specs.declared.rows.Row.{Row}
use Rattle.bnaming.specs.Binding.{IsIndex}
use Rattle.bnaming.specs.Names.{bindings, bindings_of, texts_of}
use Rattle.bnaming.proofs.naming.push_rows.Given as goal

abbrev pub invariant-loop-place : goal.invariant-loop-place
invariant-loop-place l =
    (around : List Row) × IsIndex l.rows reach.Definition around l.own × (l.opens ≤ l.place)
    × (l.text ++ texts_of (files_shown l.files) (bindings l.rows around l.opens (drop l.place l.rows))
    ≡ l.fn.text ++ texts_of (files_shown l.files) (bindings_of l.rows))
