use Rattle.std.proofs.Common.{◌≡◌, Bool, refl, ℕ}
use Rattle.std.proofs.lemmas.Result.{on_ok_weaker}
use Rattle.blang.specs.declared.run.Outcome.{Outcome}
use Rattle.blang.specs.declared.run.Outcome.TheVariants as outcome
use Rattle.bmach.specs.Stepping.{Paused}
use Rattle.bwatch.specs.declared.trail.TraceRows.{TraceRows}
use Rattle.bshow.specs.Rows.{LinedCode, table_code}
use Rattle.bshow.specs.Steps.{EndsRows, KeepsIf, idle_cells, whole_rows}
use Rattle.bshow.specs.declared.seen.KeptRows.{KeptRows}
use Rattle.bshow.proofs.recorder.end_rows.Goals as goal

over : (code : LinedCode) (which : TraceRows) (shows : Bool) (p : Paused) (r : Outcome) (made : ℕ) (old kept new : KeptRows) → (r ≡ outcome.Limit → ⊥) → KeepsIf code shows which (idle_cells code old.step) old kept → new.page ≡ whole_rows code kept → EndsRows code which shows p r made old new
over code which shows p (outcome.Exit status) made old kept new other idle page = (kept, idle, page)
over code which shows p (outcome.Trap kind) made old kept new other idle page = (kept, idle, page)
over code which shows p outcome.Limit made old kept new other idle page = absurd (other refl)
over code which shows p outcome.Device made old kept new other idle page = (kept, idle, page)
over code which shows p outcome.Memory made old kept new other idle page = (kept, idle, page)

pub returns-in_ok-keep_idle-in_default : goal.returns-in_ok-keep_idle-in_default
returns-in_ok-keep_idle-in_default g c =
    let stop = c.args.stop in
    let kept = c.keep_idle.new.rows in
    on_ok_weaker c.push_steps.result (λ page.
    over (table_code c.args.tables.now) c.args.which c.args.shows c.args.stepper.now stop.outcome stop.steps c.args.rows.now kept (record kept { page = c.push_steps.new.page }) c.in_default.not-Limit c.in_ok-keep_idle-in_default.ensures page) c.push_steps.ensures
