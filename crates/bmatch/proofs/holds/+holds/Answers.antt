use Rattle.std.proofs.Common.{◌≡◌, ◌∙◌, ◌++◌, IfOk, List, ap, append_assoc, drop, subst}
use Rattle.bmatch.specs.Holds.{holds_in, if_none, if_some}
use Rattle.bmatch.specs.declared.binds.Binds.{Binds}
use Rattle.bmatch.specs.declared.conditions.Claim.{Claim}
use Rattle.bmatch.proofs.Steps.{holds_after_jump, holds_by_call, holds_by_either, holds_not, others}
use Rattle.bmatch.proofs.holds.+holds.Goals as goal

pub holds-returns-in-Jump : goal.holds-returns-in-Jump
holds-returns-in-Jump t c =
    let s = c.args.site.now in
    let hold = λ (cs : List Claim). holds_in s 0 cs c.args.binds in
    subst (λ (bs : List Binds). IfOk c.holds-in-Jump.result (λ done. c.holds-in-Jump.new.found.items ≡ c.args.found.now.items ++ bs))
    (ap hold c.claims_from-in-Jump.ensures ∙ holds_after_jump s c.args.claims.now _ c.in-Jump.count c.args.binds c.in-len1-up.len_at_least c.in-Jump.is)
    c.holds-in-Jump.ensures

pub holds-returns-in_ok-holds-in-Either : goal.holds-returns-in_ok-holds-in-Either
holds-returns-in_ok-holds-in-Either t c =
    let s = c.args.site.now in
    let found = c.args.found.now.items in
    let hold = λ (cs : List Claim). holds_in s 0 cs c.args.binds in
    let one = hold (others c.args.claims.now) in
    subst (λ (bs : List Binds). IfOk c.holds-in-Either-2.result (λ done. c.holds-in-Either-2.new.found.items ≡ bs))
    (ap (λ bs. bs ++ hold c.claims_from.result.now) c.in_ok-holds-in-Either.ensures ∙ (append_assoc found one (hold c.claims_from.result.now)
    ∙ ap (λ bs. found ++ bs) (ap (λ cs. one ++ hold cs) c.claims_from.ensures ∙ holds_by_either s c.args.claims.now _ c.in-Either.count c.args.binds
    c.in-len1-up.len_at_least c.in-Either.is))) c.holds-in-Either-2.ensures

pub holds-returns-in_ok-holds-in-Not : goal.holds-returns-in_ok-holds-in-Not
holds-returns-in_ok-holds-in-Not t c =
    let s = c.args.site.now in
    let hold = λ (cs : List Claim). holds_in s 0 cs c.args.binds in
    subst (λ (bs : List Binds). IfOk c.if_none_hold.result (λ done. c.if_none_hold.new.found.items ≡ c.args.found.now.items ++ bs))
    (ap (λ ways. if_none ways (hold c.claims_from-claims.result.now)) (c.as_slice.ensures.value ∙ (c.in_ok-holds-in-Not.ensures ∙ ap (λ bs. bs ++ hold (others c.args.claims.now)) c.new-ways.ensures.items)) ∙ (ap (λ cs. if_none (hold (others c.args.claims.now)) (hold cs)) c.claims_from-claims.ensures
    ∙ holds_not s c.args.claims.now _ c.in-Not.count c.args.binds c.in-len1-up.len_at_least c.in-Not.is)) c.if_none_hold.ensures

pub holds-returns-in_ok-holds-in-Call : goal.holds-returns-in_ok-holds-in-Call
holds-returns-in_ok-holds-in-Call t c =
    let s = c.args.site.now in
    let given = c.given-given.result in
    let next = others c.args.claims.now in
    let rest = holds_in s 0 next c.args.binds in
    subst (λ (bs : List Binds). IfOk c.if_some_hold.result (λ done. c.if_some_hold.new.found.items ≡ c.args.found.now.items ++ bs))
    (ap (λ (ways : List Binds). if_some ways rest) (c.as_slice-in-Call.ensures.value ∙ (c.in_ok-holds-in-Call.ensures ∙ (ap (λ (bs : List Binds). bs ++ holds_in s 0 c.claims_from-in-Call.result.now given) c.new-ways-in-Call.ensures.items
    ∙ (ap (λ (cs : List Claim). holds_in s 0 cs given) c.claims_from-in-Call.ensures ∙ ap (λ (b : Binds). holds_in s 0 (drop c.in-Call.count next) b) c.given-given.ensures))))
    ∙ holds_by_call s c.args.claims.now _ c.in-Call.count c.in-Call.first c.in-Call.second c.in-Call.third c.in-Call.fourth c.args.binds c.in-len1-up.len_at_least c.in-Call.is) c.if_some_hold.ensures
