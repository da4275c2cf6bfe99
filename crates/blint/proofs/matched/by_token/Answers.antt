use Rattle.std.proofs.Common.{◌∙◌, ap, arith, sym}
use Rattle.std.proofs.Math.Seq.{drop-length}
use Rattle.blint.specs.Noticed.{first_notices}
use Rattle.blint.proofs.FirstNotices.{none_said, put_before}
use Rattle.blint.proofs.matched.by_token.Goals as goal

pub loop-left-init : goal.loop-left-init
loop-left-init c =
    (c.in_ok-firsts.ensures ∙ sym (ap (λ ns. first_notices ns 0 c.args.count) (drop-length c.args.notices.now) ∙ none_said 0 c.args.count), omega arith)

pub loop-left-preserved : goal.loop-left-preserved
loop-left-preserved c = put_before _ _ _ _ _ _ c.loop-left-test.true c.loop-left.invariant.1 c.loop-left.invariant.0 c.put.ensures
