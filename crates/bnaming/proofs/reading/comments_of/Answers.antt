use Rattle.std.proofs.Common.{◌∙◌, ◌++◌, [], append-nil, ap, sym}
use Rattle.std.specs.List.{cons_option}
use Rattle.bnaming.specs.Pieces.{comment_in}
use Rattle.bnaming.proofs.BindingSteps.{kept_more, none_here}
use Rattle.bnaming.proofs.reading.comments_of.Goals as goal
use Rattle.bnaming.proofs.reading.comments_of.Goals.{in-Some+in_ok-push, in_default}

pub loop-piece-preserved : goal.loop-piece-preserved
loop-piece-preserved c =
    let old = c.loop-piece.comments.items in
    kept_more comment_in c.args.pieces.now c.loop-piece.piece-index c.piece-item.result old c.match-comment.comments.items c.loop-piece-test.true c.piece-item.is c.loop-piece.invariant
    (elim c.match-comment.branch [
      | in-Some+in_ok-push w ↦ ap (λ v. v.items) w.comments-is ∙ w.in_ok-push.ensures.items ∙ ap (λ o. old ++ cons_option o []) (sym w.in-Some.is ∙ c.comment.ensures)
      | in_default w ↦ ap (λ v. v.items) w.comments-is ∙ sym (append-nil old) ∙ ap (λ o. old ++ cons_option o []) (sym (none_here _ w.in_default.not-Some) ∙ c.comment.ensures)
    ])
