use Rattle.std.proofs.Common.{◌∙◌, ◌++◌, ap, codes}
use Rattle.std.proofs.lemmas.Result.{on_ok_weaker}
use Rattle.btools.proofs.AddedTexts.{piece}
use Rattle.bcareful.specs.Tellings.{part_text}
use Rattle.bcareful.proofs.telling.push_fault.Goals as goal

pub returns-in_ok-push-in-Never : goal.returns-in_ok-push-in-Never
returns-in_ok-push-in-Never g c =
    let before = c.push.new.self in
    let added = ap (λ x. before ++ x) c.part_text.ensures in
    let part = part_text c.in-Never.part in
    rw c.in-Never.is (on_ok_weaker c.push-in-Never.result (λ e. piece c.args.text.now before c.push-in-Never.new.self (codes "nothing has set ") part c.in_ok-push-in-Never.ensures (e ∙ added)) c.push-in-Never.ensures)
