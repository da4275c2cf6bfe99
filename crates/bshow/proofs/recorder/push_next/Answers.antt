use Rattle.std.proofs.Common.{◌∙◌, ◌+◌, ◌++◌, [], ap, append_assoc, codes}
use Rattle.std.proofs.lemmas.Result.{on_ok_weaker}
use Rattle.bwatch.specs.Sights.{sight_at}
use Rattle.bshow.specs.Rows.{sight_cells, table_code}
use Rattle.bshow.specs.Steps.{whole_rows}
use Rattle.bshow.proofs.recorder.push_next.Goals as goal

pub returns : goal.returns
returns g c =
    let code = table_code c.args.tables.now in
    on_ok_weaker c.push.result (λ end.
    end ∙ ap (λ x. x ++ codes "</tr>\n") (c.in_ok-push_call.ensures ∙ (λ i. c.in_ok-push_steps.ensures i ++ c.in_ok-see.ensures.cells code i))
    ∙ append_assoc (whole_rows code c.args.rows.now) (sight_cells code (c.args.made + 1) (sight_at c.args.stepper.now [])) (codes "</tr>\n")) c.push.ensures
