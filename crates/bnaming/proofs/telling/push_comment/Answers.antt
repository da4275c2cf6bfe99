use Rattle.std.proofs.lemmas.Result.{on_ok_weaker}
use Rattle.bnaming.proofs.TextSteps.{three_texts}
use Rattle.bnaming.proofs.telling.push_comment.Goals as goal

pub returns : goal.returns
returns c = on_ok_weaker c.push-2.result (λ e. three_texts _ _ _ _ c.in_ok-push.ensures c.in_ok-push_span.ensures e) c.push-2.ensures
