use Rattle.std.proofs.Common.{rules, tests, ◌∙◌, ◌==◌, ap}
use Rattle.std.proofs.lemmas.Iterator.Search.{position_from_yields_List}
use Rattle.std.proofs.lemmas.Iterator.Splits.{YieldsList-from_slice_split}
use Rattle.bwhere.specs.Wheres.{number_after, uses}
use Rattle.bwhere.proofs.loading.line_using.Goals as goal

pub returns : goal.returns
returns c =
    c.number_after.ensures ∙ ap number_after (position_from_yields_List (λ line. uses line c.args.name.now) c.position.new.self _ c.position.result c.position.ensures.ran
    (YieldsList-from_slice_split _ (λ b. b == 10) c.args.code.now c.split-lines.ensures.rest c.split-lines.ensures.done c.split-lines.ensures.closure (λ x r q k. search (rules, tests)))
    (λ x b q k. search (rules, tests)))
