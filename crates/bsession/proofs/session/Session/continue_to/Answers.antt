use Rattle.std.proofs.Common.{◌∙◌, arith, refl, suc, subst, sym}
use Rattle.bsession.specs.Stops.{StepMade, stops_shown}
use Rattle.bsession.specs.declared.session.SliceEnd.TheVariants as end
use Rattle.bsession.proofs.Walking.{ends_after_all, ends_early, is_all}
use Rattle.bsession.proofs.session.Session.continue_to.Goals as goal

pub loop-left-init : goal.loop-left-init
loop-left-init c = (0, omega arith, refl, tt)

pub loop-left-preserved : goal.loop-left-preserved
loop-left-preserved c =
    let mid = c.loop-left.self in
    let new = c.continue_for-why.new.self in
    let i = c.loop-left.invariant in
    let count = i.1 in
    let some = c.loop-left-test.true in
    let all = is_all c.continue_for-why.result (sym c.made_all.ensures ∙ c.if-not-made_all.false) in
    let made = c.continue_for-why.ensures in
    let last : StepMade mid new end.Limit = subst (λ why. StepMade mid new why) all (made.goes, made.limits, made.within) in (
      suc i.0,
      omega (arith, count, some),
      (mid, i.2, i.3, last),
      sym c.stops_here.ensures ∙ c.if-stops_here.false,
    )

pub returns : goal.returns
returns c =
    let i = c.loop-left.invariant in
    ends_after_all (stops_shown c.args.stops) c.args.self.now c.loop-left.self c.args.steps i.0 c.loop-left.left i.1
    c.loop-left-test.false i.2 i.3

pub returns-then-not-made_all : goal.returns-then-not-made_all
returns-then-not-made_all c =
    let mid = c.loop-left.self in
    let i = c.loop-left.invariant in
    let count = i.1 in
    let some = c.loop-left-test.true in
    let made = c.continue_for-why.ensures in
    ends_early (stops_shown c.args.stops) c.args.self.now mid c.continue_for-why.new.self c.args.steps i.0 c.continue_for-why.result
    (omega (arith, count, some)) i.2 i.3 (made.goes, made.limits, made.within)
    (sym c.made_all.ensures ∙ c.if-not-made_all.true)

pub returns-then-stops_here : goal.returns-then-stops_here
returns-then-stops_here c =
    let mid = c.loop-left.self in
    let new = c.continue_for-why.new.self in
    let i = c.loop-left.invariant in
    let count = i.1 in
    let some = c.loop-left-test.true in
    let all = is_all c.continue_for-why.result (sym c.made_all.ensures ∙ c.if-not-made_all.false) in
    let made = c.continue_for-why.ensures in
    let last : StepMade mid new end.Limit = subst (λ why. StepMade mid new why) all (made.goes, made.limits, made.within) in (
      i.0,
      omega (arith, count, some),
      (mid, i.2, i.3, last),
      sym c.stops_here.ensures ∙ c.if-stops_here.true,
    )
