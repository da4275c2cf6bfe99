use Rattle.std.proofs.Common.{◌≡◌, false, ap, ◌∙◌, subst}
use Rattle.bverify.specs.Flaws.{flaws_of, some_can_be_stuck}
use Rattle.bverify.proofs.FlawLists.{fits, never_idle}
use Rattle.bverify.proofs.flaws.verify_code.Goals as goal

pub returns-clause-fits : goal.returns-clause-fits
returns-clause-fits c none =
    let targets = c.args.targets.now in
    let code = c.args.code.now in
    let told = c.in_ok-flaws.ensures ∙ ap (flaws_of targets code) c.deref.ensures.value in
    fits targets code c.in_ok-depths.depths.items c.in_ok-depths.ensures.all
    (subst (λ l. some_can_be_stuck l ≡ false) told none)

pub returns-clause-never_idly : goal.returns-clause-never_idly
returns-clause-never_idly c other f =
    let targets = c.args.targets.now in
    let code = c.args.code.now in
    let told = c.in_ok-flaws.ensures ∙ ap (flaws_of targets code) c.deref.ensures.value in
    let e = c.in_ok-depths.ensures in
    ap some_can_be_stuck told ∙ never_idle targets code other f c.in_ok-depths.depths.items e.all e.begun e.reached e.closed
