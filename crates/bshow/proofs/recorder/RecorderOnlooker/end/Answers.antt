use Rattle.std.proofs.Common.{◌∙◌, ◌++◌, ap, reverse}
use Rattle.std.proofs.lemmas.Result.{on_ok_weaker}
use Rattle.bshow.specs.Facts.{run_text, sentence}
use Rattle.bshow.specs.Shows.{said_text}
use Rattle.bshow.proofs.Recorded.{told_at}
use Rattle.bshow.proofs.recorder.RecorderOnlooker.end.Goals as goal

pub returns : goal.returns
returns g c =
    let t = c.args.self.now in
    let stop = c.args.stop in
    let new = record t { rows = record c.end_rows.new.rows { page = c.push_run.new.text } } in
    let said = c.in_ok-push_said.ensures ∙ ap (λ program. c.end_rows.new.rows.page ++ said_text (sentence stop.outcome stop.steps) program) c.as_slice.ensures in
    on_ok_weaker c.push_run.result (λ end first sights ends.
    told_at first t new c.args.stepper.now sights c.end_rows.new.rows stop.outcome stop ends c.in_ok-end_rows.ensures
    (end ∙ (λ i. said i ++ run_text (reverse (c.deref.ensures.value i)) t.calls_at c.args.stepper.now.store (c.as_slice-2.ensures i) (c.as_slice-3.ensures i)))) c.push_run.ensures
