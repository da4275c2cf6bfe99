use Rattle.std.proofs.Common.{rules, tests, ◌∙◌, ◌==◌, [], ap}
use Rattle.std.proofs.lemmas.Iterator.Consumers.{nth_from_yields_List}
use Rattle.std.proofs.lemmas.Iterator.Splits.{YieldsList-from_slice_split}
use Rattle.std.proofs.lemmas.Option.{unwrap_or-slice_get}
use Rattle.std.specs.List.{slice_split}
use Rattle.std.specs.Option.{unwrap_or}
use Rattle.btools.proofs.SourceLines.{unwrapped}
use Rattle.bwhere.proofs.due.part_at.Goals as goal

pub returns : goal.returns
returns c =
    let found =
    nth_from_yields_List c.nth.result c.nth.new.self c.args.number c.nth.ensures.ran
    (YieldsList-from_slice_split _ (λ b. b == 32) c.args.line.now c.split-parts.ensures.rest c.split-parts.ensures.done c.split-parts.ensures.closure (λ x r q k. search (rules, tests))) in
    (λ i. (c.unwrap_or.ensures i).now) ∙ unwrapped c.nth.result _ ∙ ap (λ o. unwrap_or o []) found ∙ unwrap_or-slice_get (slice_split (λ b. b == 32) c.args.line.now) c.args.number []
