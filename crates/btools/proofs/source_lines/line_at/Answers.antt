use Rattle.std.proofs.Common.{rules, tests, ◌∙◌, ◌==◌, [], ap, get_or}
use Rattle.std.proofs.lemmas.Iterator.Consumers.{nth_from_yields_List}
use Rattle.std.proofs.lemmas.Iterator.Splits.{YieldsList-from_slice_split}
use Rattle.std.proofs.lemmas.Option.{unwrap_or-slice_get}
use Rattle.std.specs.Option.{unwrap_or}
use Rattle.btools.proofs.SourceLines.{unwrapped}
use Rattle.btools.specs.SourceLines.{source_lines}
use Rattle.btools.proofs.source_lines.line_at.Goals as goal

pub returns : goal.returns
returns c =
    let found =
    nth_from_yields_List c.nth.result c.nth.new.self c.saturating_sub.result c.nth.ensures.ran
    (YieldsList-from_slice_split _ (λ b. b == 10) c.args.source.now c.split-lines.ensures.rest c.split-lines.ensures.done c.split-lines.ensures.closure (λ x r q k. search (rules, tests))) in
    (λ i. (c.unwrap_or.ensures i).now) ∙ unwrapped c.nth.result _ ∙ ap (λ o. unwrap_or o []) found ∙ unwrap_or-slice_get (source_lines c.args.source.now) c.saturating_sub.result []
    ∙ ap (λ n. get_or (source_lines c.args.source.now) n []) c.saturating_sub.ensures
