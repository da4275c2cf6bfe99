use Rattle.std.proofs.Common.{◌∙◌, ◌++◌, ◌∷◌, [], ap, map, sym, subst}
use Rattle.std.specs.Prelude.{OnOk}
use Rattle.std.proofs.lemmas.List.{map-append}
use Rattle.std.proofs.lemmas.Result.{on_ok_weaker}
use Rattle.bwatch.specs.Trails.{last_of}
use Rattle.bwatch.specs.declared.trail.TraceRows.{TraceRows}
use Rattle.bwatch.specs.declared.trail.TraceRows.TheVariants as rows
use Rattle.bwatch.proofs.Kept.{map-chosen}
use Rattle.bshow.specs.Rows.{table_code}
use Rattle.bshow.specs.Steps.{KeepsRow, seen_cells}
use Rattle.bshow.proofs.seen.KeptRows.keep.Goals as goal

pub returns-in-Last : goal.returns-in-Last
returns-in-Last c =
    let cells = seen_cells (table_code c.args.tables.now) in
    let old = c.args.self.now in
    let count = c.in-Last.count in
    subst (λ (which : TraceRows). OnOk c.keep_last.result (KeepsRow (table_code c.args.tables.now) which (cells old.step) old c.keep_last.new.self)) (sym c.in-Last.is)
    (on_ok_weaker c.keep_last.result (λ h. (
      h.0,
      λ few.
          ap (map cells) (h.1 few) ∙ map-chosen cells (rows.Last count) (old.last.items ++ old.step ∷ [])
          ∙ ap (last_of count) (map-append cells old.last.items (old.step ∷ [])),
    )) c.keep_last.ensures)
