use Rattle.std.proofs.Common.{◌∙◌, refl, subst, sym, None}
use Rattle.btools.proofs.Reading.{if_ok}
use Rattle.bcheck.proofs.MendSteps.{StopIs}
use Rattle.bcheck.proofs.BoundarySteps.{no_boundaries, on_line}
use Rattle.bcheck.proofs.missing_semicolon.fault_boundaries.Goals as goal

pub returns-in-Faulty : goal.returns-in-Faulty
returns-in-Faulty c =
    let it = c.in_ok-judgement in
    if_ok c.boundaries.result _ _
    (λ places here. on_line c.args.edition c.args.source.now it.judgement.verdict _ _ _ c.in-Faulty.is it.ensures.stop here)
    c.boundaries.ensures

pub returns-in-Clean : goal.returns-in-Clean
returns-in-Clean c =
    let it = c.in_ok-judgement in
    λ r g.
    c.new.ensures.items
    ∙ sym (no_boundaries c.args.edition c.args.source.now it.judgement.verdict it.ensures.judged it.ensures.stop
    (subst (λ v. StopIs v None) (sym c.in-Clean.is) refl) r g)

pub returns : goal.returns
returns c =
    let it = c.in_ok-judgement in
    λ r g.
    c.new-in-Unloaded.ensures.items
    ∙ sym (no_boundaries c.args.edition c.args.source.now it.judgement.verdict it.ensures.judged it.ensures.stop
    (subst (λ v. StopIs v None) (sym c.in-Unloaded.is) refl) r g)
