use Rattle.std.proofs.Common.{◌∙◌}
use Rattle.btools.proofs.Reading.{if_ok}
use Rattle.bcheck.proofs.SpareSteps.{spares_is}
use Rattle.bcheck.proofs.spares.spares.Goals as goal

pub returns : goal.returns
returns c =
    if_ok c.keeps.result _ _
    (λ result is. spares_is c.args.edition c.args.source.now c.args.new.now c.args.taken.now _ _ _ _ _ _ _ _ result
    (c.as_slice.ensures.value ∙ c.in_ok-olds.ensures) (c.as_slice-2.ensures.value ∙ c.in_ok-news.ensures)
    (c.as_slice-8.ensures.value ∙ c.in_ok-out.ensures) (c.as_slice-7.ensures.value ∙ c.in_ok-before.ensures)
    (c.as_slice-3.ensures.value ∙ c.in_ok-first_olds.ensures.olds)
    (c.as_slice-4.ensures.value ∙ c.in_ok-first_olds.ensures.news)
    (c.as_slice-5.ensures.value ∙ c.in_ok-last_olds.ensures.olds)
    (c.as_slice-6.ensures.value ∙ c.in_ok-last_olds.ensures.news)
    is)
    c.keeps.ensures
