use Rattle.std.proofs.Common.{◌≡◌, ◌∙◌, ℕ, Bool, Option, None, Some, false, refl, subst, sym, take, get_or}
use Rattle.std.specs.Prelude.{is_some}
use Rattle.std.specs.List.{All}
use Rattle.std.proofs.lemmas.List.{take_all, take_more}
use Rattle.std.proofs.lemmas.List.Elements.{All-push}
use Rattle.bfix.specs.Due.{IsDue}
use Rattle.bfix.specs.Fixes.{setting_of}
use Rattle.bfix.proofs.due.due_at_one.Goals as goal

none_of : {A : Type 0} (x : Option A) → is_some x ≡ false → x ≡ None
none_of None e = refl
none_of (Some a) e = cc

pub loop-place-preserved : goal.loop-place-preserved
loop-place-preserved c =
    let places = c.args.places.now in
    let i = c.loop-place.place-index in
    let P : ℕ → Type 0 = λ n. IsDue (setting_of c.args.frame.now) c.args.old.now n → ⊥ in
    let none = c.in_ok-found.ensures.none (none_of c.in_ok-found.found (sym c.is_some.ensures ∙ c.if-is_some.false)) in
    subst (All P) (sym (take_more places i 0 c.loop-place-test.true))
    (All-push P (take i places) (get_or places i 0) c.loop-place.invariant none)

pub returns-clause-none : goal.returns-clause-none
returns-clause-none c e =
    subst (All (λ n. IsDue (setting_of c.args.frame.now) c.args.old.now n → ⊥))
    (take_all c.loop-place.place-index c.args.places.now c.loop-place-test.false) c.loop-place.invariant
