use Rattle.std.proofs.Common.{◌∙◌, ◌++◌, IfSome, ap, arith, inl, inr, length, subst, ◌≡◌}
use Rattle.bfix.specs.Due.{IsSettled, are_all}
use Rattle.bfix.specs.Fixes.{IsMade, setting_of}
use Rattle.bfix.proofs.FixSteps.{follows_from, follows_more}
use Rattle.bfix.proofs.fixing.follow.Goals as goal

pub loop-count-init : goal.loop-count-init
loop-count-init c =
    follows_from c.args.frame.now c.args.own.now _ _
    (c.in_ok-push.ensures ∙ ap (λ t. t ++ c.args.own.now) c.new-text.ensures) c.new-lines.ensures

pub loop-count-preserved : goal.loop-count-preserved
loop-count-preserved c =
    let frame = c.args.frame.now in
    let made : IsMade frame c.loop-count.text c.in-Some.next =
    subst (λ t. IsMade frame t c.in-Some.next) c.as_slice.ensures
    (subst (λ x. IfSome x (IsMade frame c.as_slice.result.now)) c.in-Some.is c.in_ok-found.ensures.made) in
    follows_more frame c.args.own.now c.loop-count.text c.loop-count.lines _ c.loop-count.count c.in-Some.next
    c.loop-count.invariant made
    (c.in_ok-push-2.ensures ∙ ap (λ t. c.loop-count.lines ++ t) c.as_slice-in-loop-count.ensures)

pub returns : goal.returns
returns c =
    let i = c.loop-count.invariant in
    let few = i.few in
    let all : length i.lines ≡ c.most_changes-count-end.result =
    omega (arith, few, c.loop-count.auto.count-end, c.loop-count-test.false) in (
      record {
        lines = i.lines;
        lead = i.lead;
        few = omega (arith, all, c.most_changes-count-end.ensures.most);
        told = i.tells;
        small = i.small;
      },
      λ fixed. inl (ap (λ n. are_all n (length c.args.own.now)) all ∙ c.most_changes-count-end.ensures.all),
    )

pub returns-in_default : goal.returns-in_default
returns-in_default c =
    let i = c.loop-count.invariant in
    let few = i.few in (
      record {
        lines = i.lines;
        lead = i.lead;
        few = omega (arith, few, c.most_changes-count-end.ensures.most, c.loop-count-test.true);
        told = i.tells;
        small = i.small;
      },
      λ fixed. inr
          (subst (λ t. IsSettled (setting_of c.args.frame.now) t) c.as_slice.ensures
          (c.in_ok-found.ensures.settled fixed c.in_default.is)),
    )
