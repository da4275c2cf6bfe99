use Rattle.std.proofs.Common.{◌∙◌, ap}
use Rattle.bcheck.specs.Spares.{fits_kind, joined, swap_of}
use Rattle.bcheck.proofs.spares.is_of_kind.Goals as goal

pub returns : goal.returns
returns c =
    let s = swap_of c.args.trial.now in
    c.fits_kind.ensures
    ∙ ap (λ old. fits_kind s old c.as_slice-2.result.now) (c.as_slice.ensures ∙ c.in_ok-old.ensures)
    ∙ ap (fits_kind s (joined s.changed.source s.changed.olds)) (c.as_slice-2.ensures ∙ c.in_ok-new.ensures)
