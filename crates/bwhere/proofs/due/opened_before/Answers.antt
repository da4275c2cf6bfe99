use Rattle.std.proofs.Common.{rules, tests, ◌∙◌, ◌-◌, ◌==◌, ap}
use Rattle.std.specs.Slice.Iter.{split_callee}
use Rattle.std.proofs.lemmas.Iterator.{YieldsList-from_take}
use Rattle.std.proofs.lemmas.Iterator.Consumers.{fold_from_yields_List}
use Rattle.std.proofs.lemmas.Iterator.Splits.{YieldsList-from_slice_split}
use Rattle.bwhere.specs.Dues.{next_opened}
use Rattle.bwhere.proofs.due.opened_before.Goals as goal

pub returns : goal.returns
returns c =
    fold_from_yields_List _ next_opened _ c.fold.result c.fold.ensures.ran
    (YieldsList-from_take (c.args.number - 1)
    (YieldsList-from_slice_split _ (λ b. b == 10) c.args.code.now (cc) (cc) (ap split_callee c.take.ensures.source ∙ c.split.ensures.closure) (λ x r q k. search (rules, tests)))
    (c.take.ensures.count ∙ c.saturating_sub-count.ensures)) (λ a x b q k. search (rules, tests))
