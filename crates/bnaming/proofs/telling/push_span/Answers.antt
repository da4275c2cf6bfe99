use Rattle.std.proofs.lemmas.Result.{on_ok_weaker}
use Rattle.bnaming.proofs.TextSteps.{three_texts}
use Rattle.bnaming.proofs.telling.push_span.Goals as goal

pub returns : goal.returns
returns c = on_ok_weaker c.push_units.result (λ e. three_texts _ _ _ _ c.in_ok-push_place.ensures c.in_ok-push_end.ensures e) c.push_units.ensures
