use Rattle.std.proofs.Common.{◌≡◌, ◌∙◌, ◌+◌, ◌*◌, ◌≤◌, ap, arith, inl, subst, sym}
use Rattle.blang.specs.declared.run.Outcome.TheVariants as outcome
use Rattle.bsession.specs.Sessions.{Goes, PassesAt, SessionView, SliceComesTo, SliceMade, allowed, end_of}
use Rattle.bsession.specs.declared.session.Held.TheVariants as held
use Rattle.bsession.specs.declared.session.SliceEnd.{SliceEnd}
use Rattle.bsession.specs.declared.session.SliceEnd.TheVariants as end
use Rattle.bsession.proofs.Parts.{all_made, few_made, goes_later, goes_on_within, kept_first, kept_further, limit_is, none_within, not_limit, not_over, nothing_made, part_gives, whole_or_rest}
use Rattle.bsession.specs.declared.session.TheConstants.{PART_STEPS}
use Rattle.bmach.specs.Stepping.{Paused}
use Rattle.bsession.proofs.session.Session.go_on.Goals as goal

pub loop-outcome-init : goal.loop-outcome-init
loop-outcome-init c =
    let now = c.args.self.now in
    let steps : c.self.inside.steps ≡ now.steps = ap (λ (h : SessionView). h.steps) c.self.view_is in
    let few = c.min.ensures in
    let least = c.min-left.ensures in
    record {
      left = omega (arith, few, least, steps);
      goes = c.requires;
      made = λ p is. nothing_made p now c.args.steps held.Output is;
      parts = (0, omega arith);
      kept = λ p is. kept_first p now (subst (PassesAt now.state now) c.in_default.is c.passed.ensures) is;
    }

pub loop-outcome-preserved : goal.loop-outcome-preserved
loop-outcome-preserved c =
    let old = c.args.self.now in
    let n = c.args.steps in
    let mid = c.loop-outcome.self in
    let new = c.make_part-outcome.new.self in
    let part = c.min-part.result in
    let came = c.make_part-outcome.result in
    let q = c.loop-outcome.invariant.goes.0 in
    let stands = c.loop-outcome.invariant.goes.1 in
    let left = c.loop-outcome.invariant.left in
    let least = c.min-part.ensures in
    let can = sym c.can_go_on.ensures ∙ c.if-not-can_go_on.false in
    let p = c.requires.0 in
    let g = c.loop-outcome.invariant.made p c.requires.1 in
    let counted = g.counted in
    let within : g.made + part ≤ allowed old n = omega (arith, counted, left, least) in
    let limit : came ≡ outcome.Limit = limit_is came (sym c.is_limit.ensures ∙ c.if-not-is_limit.false) in
    let h : SliceMade q mid new part end.Limit = subst (λ r. SliceComesTo q mid new part (end_of r)) limit (c.make_part-outcome.ensures q stands) in
    let all = all_made p q old mid new n part (end.Holds held.Output) g stands within (omega (arith, within)) h in
    let made = h.counted in
    let parts = c.loop-outcome.invariant.parts in
    let before = parts.1 in
    let some = c.if-left-eq0.false in
    let whole : part ≡ PART_STEPS = omega (arith, least, some) in
    let after : new.steps ≡ old.steps + (parts.0 + 1) * PART_STEPS = omega (arith, before, all, made, whole) in
    let next : (p : Paused) → old.state ≡ Goes p → SliceMade p old new n (end.Holds held.Output) = λ p is.
    let g = c.loop-outcome.invariant.made p is in
    let counted = g.counted in
    let within : g.made + part ≤ allowed old n = omega (arith, counted, left, least) in
    goes_later p q old mid new n part (end.Holds held.Output) g stands within (omega (arith, within)) held.Output came
    (inl (parts.0 + 1, omega (arith, counted, before, whole))) can (c.make_part-outcome.ensures q stands) in
    record {
      left = omega (arith, left, least, all, made);
      goes = h.ends.1;
      made = next;
      parts = (parts.0 + 1, after);
      kept = λ p is.
          let g = next p is in
          let counted = g.counted in
          kept_further p h.ends.1.0 old new n (end.Holds held.Output) g h.ends.1.1
          (subst (PassesAt new.state new) c.in_default-passed.is c.passed-in-loop-outcome.ensures) (parts.0 + 1) mid.steps
          (omega (arith, counted, after)) (omega (arith, before)) (c.loop-outcome.invariant.kept p is);
    }

pub returns-in-Some-clause-goes : goal.returns-in-Some-clause-goes
returns-in-Some-clause-goes c p is = nothing_made p c.args.self.now c.args.steps c.in-Some.held is

pub returns-then-not-can_go_on-clause-goes : goal.returns-then-not-can_go_on-clause-goes
returns-then-not-can_go_on-clause-goes c p is =
    let old = c.args.self.now in
    let n = c.args.steps in
    let part = c.min-part.result in
    let came = c.make_part-outcome.result in
    let new = c.make_part-outcome.new.self in
    let g = c.loop-outcome.invariant.made p is in
    let q = c.loop-outcome.invariant.goes.0 in
    let stands = c.loop-outcome.invariant.goes.1 in
    let counted = g.counted in
    let left = c.loop-outcome.invariant.left in
    let least = c.min-part.ensures in
    let within : g.made + part ≤ allowed old n = omega (arith, counted, left, least) in
    subst (λ (why : SliceEnd). SliceComesTo p old new n why) (sym c.end_of.ensures)
    (part_gives p q old c.loop-outcome.self new n part (end.Holds held.Output) g stands within (omega (arith, within)) came
    (λ limit. absurd (not_over came (sym c.can_go_on.ensures ∙ c.if-not-can_go_on.true) limit)) (c.make_part-outcome.ensures q stands))

pub returns-in-Some-passed-clause-goes : goal.returns-in-Some-passed-clause-goes
returns-in-Some-passed-clause-goes c p is =
    let old = c.args.self.now in
    let n = c.args.steps in
    let part = c.min-part.result in
    let came = c.make_part-outcome.result in
    let g = c.loop-outcome.invariant.made p is in
    let q = c.loop-outcome.invariant.goes.0 in
    let stands = c.loop-outcome.invariant.goes.1 in
    let counted = g.counted in
    let left = c.loop-outcome.invariant.left in
    let least = c.min-part.ensures in
    let within : g.made + part ≤ allowed old n = omega (arith, counted, left, least) in
    goes_later p q old c.loop-outcome.self c.make_part-outcome.new.self n part (end.Holds held.Output) g stands within (omega (arith, within))
    c.in-Some-passed.held came (whole_or_rest old c.loop-outcome.self n part c.loop-outcome.left g.made c.loop-outcome.invariant.parts counted left least)
    (sym c.can_go_on.ensures ∙ c.if-not-can_go_on.false) (c.make_part-outcome.ensures q stands)

pub returns-then-not-is_limit-clause-goes : goal.returns-then-not-is_limit-clause-goes
returns-then-not-is_limit-clause-goes c p is =
    let old = c.args.self.now in
    let n = c.args.steps in
    let part = c.min-part.result in
    let came = c.make_part-outcome.result in
    let new = c.make_part-outcome.new.self in
    let g = c.loop-outcome.invariant.made p is in
    let q = c.loop-outcome.invariant.goes.0 in
    let stands = c.loop-outcome.invariant.goes.1 in
    let counted = g.counted in
    let left = c.loop-outcome.invariant.left in
    let least = c.min-part.ensures in
    let within : g.made + part ≤ allowed old n = omega (arith, counted, left, least) in
    subst (λ (why : SliceEnd). SliceComesTo p old new n why) (sym c.end_of-then-not-is_limit.ensures)
    (part_gives p q old c.loop-outcome.self new n part (end.Holds held.Output) g stands within (omega (arith, within)) came
    (λ limit. absurd (not_limit came (sym c.is_limit.ensures ∙ c.if-not-is_limit.true) limit)) (c.make_part-outcome.ensures q stands))

pub returns-then-left-eq0-clause-goes : goal.returns-then-left-eq0-clause-goes
returns-then-left-eq0-clause-goes c p is =
    let old = c.args.self.now in
    let n = c.args.steps in
    let part = c.min-part.result in
    let came = c.make_part-outcome.result in
    let new = c.make_part-outcome.new.self in
    let g = c.loop-outcome.invariant.made p is in
    let q = c.loop-outcome.invariant.goes.0 in
    let stands = c.loop-outcome.invariant.goes.1 in
    let counted = g.counted in
    let left = c.loop-outcome.invariant.left in
    let least = c.min-part.ensures in
    let none = c.if-left-eq0.true in
    let within : g.made + part ≤ allowed old n = omega (arith, counted, left, least) in
    let limit : came ≡ outcome.Limit = limit_is came (sym c.is_limit.ensures ∙ c.if-not-is_limit.false) in
    subst (λ r. SliceComesTo p old new n (end_of r)) limit
    (part_gives p q old c.loop-outcome.self new n part (end.Holds held.Output) g stands within (omega (arith, within)) came
    (λ is. omega (arith, counted, left, least, none)) (c.make_part-outcome.ensures q stands))

pub returns-in-Some-clause-within : goal.returns-in-Some-clause-within
returns-in-Some-clause-within c = none_within c.args.self.now.state c.args.self.now

pub returns-then-not-can_go_on-clause-within : goal.returns-then-not-can_go_on-clause-within
returns-then-not-can_go_on-clause-within c =
    let goes = c.loop-outcome.invariant.goes in
    let least = c.min-part.ensures in
    let few = few_made goes.0 c.loop-outcome.self c.make_part-outcome.new.self c.min-part.result c.make_part-outcome.result (c.make_part-outcome.ensures goes.0 goes.1) in
    let parts = c.loop-outcome.invariant.parts in
    goes_on_within c.args.self.now.state c.args.self.now c.make_part-outcome.new.self parts.0 c.loop-outcome.self.steps parts.1
    (omega (arith, few, least)) c.loop-outcome.invariant.kept

pub returns-in-Some-passed-clause-within : goal.returns-in-Some-passed-clause-within
returns-in-Some-passed-clause-within c =
    let goes = c.loop-outcome.invariant.goes in
    let least = c.min-part.ensures in
    let few = few_made goes.0 c.loop-outcome.self c.make_part-outcome.new.self c.min-part.result c.make_part-outcome.result (c.make_part-outcome.ensures goes.0 goes.1) in
    let parts = c.loop-outcome.invariant.parts in
    goes_on_within c.args.self.now.state c.args.self.now c.make_part-outcome.new.self parts.0 c.loop-outcome.self.steps parts.1
    (omega (arith, few, least)) c.loop-outcome.invariant.kept

pub returns-then-not-is_limit-clause-within : goal.returns-then-not-is_limit-clause-within
returns-then-not-is_limit-clause-within c =
    let goes = c.loop-outcome.invariant.goes in
    let least = c.min-part.ensures in
    let few = few_made goes.0 c.loop-outcome.self c.make_part-outcome.new.self c.min-part.result c.make_part-outcome.result (c.make_part-outcome.ensures goes.0 goes.1) in
    let parts = c.loop-outcome.invariant.parts in
    goes_on_within c.args.self.now.state c.args.self.now c.make_part-outcome.new.self parts.0 c.loop-outcome.self.steps parts.1
    (omega (arith, few, least)) c.loop-outcome.invariant.kept

pub returns-then-left-eq0-clause-within : goal.returns-then-left-eq0-clause-within
returns-then-left-eq0-clause-within c =
    let goes = c.loop-outcome.invariant.goes in
    let least = c.min-part.ensures in
    let few = few_made goes.0 c.loop-outcome.self c.make_part-outcome.new.self c.min-part.result c.make_part-outcome.result (c.make_part-outcome.ensures goes.0 goes.1) in
    let parts = c.loop-outcome.invariant.parts in
    goes_on_within c.args.self.now.state c.args.self.now c.make_part-outcome.new.self parts.0 c.loop-outcome.self.steps parts.1
    (omega (arith, few, least)) c.loop-outcome.invariant.kept
