use Rattle.std.proofs.Common.{◌≡◌, ◌∙◌, ◌-◌, ◌<◌, ◌≤◌, None, Some, ap, arith, get_or, length, subst}
use Rattle.std.specs.Prelude.{option_map, slice_get}
use Rattle.bmach.specs.Stepping.{Paused}
use Rattle.bmach.specs.Stops.{active_of}
use Rattle.bmach.proofs.Below.{no_caller, one_caller}
use Rattle.bmach.proofs.stepper.Stepper.caller.Goals as goal

pub returns-then-number-len : goal.returns-then-number-len
returns-then-number-len g c =
    let calls = c.self.inside.calls in
    let past : length calls.below.items ≤ c.args.number = omega (arith, c.if-number-len.true, c.len.ensures, calls.below.ok.0) in
    subst (λ (p : Paused). None ≡ option_map active_of (slice_get p.below c.args.number)) c.self.view_is (no_caller calls c.args.number past)

pub returns : goal.returns
returns g c =
    let calls = c.self.inside.calls in
    let items = calls.below.items in
    let caller = c.index-call.result.now in
    let within : c.args.number < length items = omega (arith, c.if-number-len.false, c.len.ensures, calls.below.ok.0) in
    let index : c.len-nearest.result - 1 - c.args.number ≡ length items - 1 - c.args.number = ap (λ n. n - 1 - c.args.number) (c.len-nearest.ensures ∙ calls.below.ok.0) in
    let is : caller ≡ get_or items (length items - 1 - c.args.number) caller = c.index-call.ensures ∙ ap (λ n. get_or items n caller) index in
    subst (λ (p : Paused). Some c.new.result ≡ option_map active_of (slice_get p.below c.args.number)) c.self.view_is
    (ap Some c.new.ensures ∙ one_caller calls c.args.number caller within is)
