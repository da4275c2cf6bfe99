use Rattle.std.proofs.Common.{◌∙◌, ap, length, sym}
use Rattle.bcheck.proofs.ChangeSteps.{fewer_counted}
use Rattle.bcheck.proofs.mending.has_fewer_names.Goals as goal

pub returns : goal.returns
returns c = λ is.
    fewer_counted _ _ c.args.new.now c.args.old.now c.in_ok-found.ensures c.in_ok-before.ensures (length c.as_slice.result.now) (length c.as_slice-2.result.now) (ap length c.as_slice.ensures.value) (ap length c.as_slice-2.ensures.value)
    (sym c.are_less.ensures ∙ is)
