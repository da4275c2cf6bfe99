use Rattle.std.proofs.Common.{Bool, List, sym, subst, ℕ}
use Rattle.std.specs.Prelude.{OnOk}
use Rattle.std.proofs.lemmas.Result.{on_ok_weaker}
use Rattle.bwatch.specs.declared.trail.TraceRows.{TraceRows}
use Rattle.bwatch.specs.declared.trail.TraceRows.TheVariants as rows
use Rattle.bshow.specs.Rows.{LinedCode, table_code}
use Rattle.bshow.specs.Steps.{KeepsIf, KeepsRow, idle_cells}
use Rattle.bshow.specs.declared.seen.KeptRows.{KeptRows}
use Rattle.bshow.specs.declared.seen.SeenStep.{SeenStep}
use Rattle.bshow.proofs.recorder.keep_idle.Goals as goal

-- what is kept does not tell of the step that is being made
same_rows : (code : LinedCode) (which : TraceRows) (row : List ℕ) (step : SeenStep) (old new : KeptRows) → KeepsRow code which row (record old { step = step }) new → KeepsRow code which row old new
same_rows code (rows.From number) row step old new h = h
same_rows code (rows.Last count) row step old new h = h

pub returns : goal.returns
returns c =
    let code = table_code c.args.tables.now in
    let old = c.args.rows.now in
    let which = c.args.which in
    subst (λ (shows : Bool). OnOk c.keep.result (KeepsIf code shows which (idle_cells code old.step) old c.keep.new.self)) (sym c.if-not-shows.false)
    (on_ok_weaker c.keep.result (λ keeps. subst (λ row. KeepsRow code which row old c.keep.new.self) (c.did_nothing.ensures code) (same_rows code which _ c.did_nothing.new.self old c.keep.new.self keeps)) c.keep.ensures)
