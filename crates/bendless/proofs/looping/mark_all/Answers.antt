use Rattle.std.proofs.Common.{◌≡◌, ◌∙◌, ◌-◌, ◌<◌, ◌≤◌, ⊎_elim, ap, arith, refl, sym}
use Rattle.std.specs.List.{range_with_len}
use Rattle.std.proofs.lemmas.Bool.{cases_lt}
use Rattle.bendless.specs.Loops.{mark, marked}
use Rattle.bendless.proofs.LoopSteps.{marked_more}
use Rattle.bendless.proofs.looping.mark_all.Goals as goal

pub loop-address-init : goal.loop-address-init
loop-address-init c =
    let start = c.args.addresses.now.start in
    let none : 0 ≡ start - start = omega arith in
    (ap (λ n. marked c.args.marks.now.items (range_with_len start n)) none, λ h. refl)

pub loop-address-preserved : goal.loop-address-preserved
loop-address-preserved c =
    let marks = c.args.marks.now.items in
    let start = c.args.addresses.now.start in
    let address = c.loop-address.address in
    let from : start ≤ address = c.loop-address.auto.address in (
      c.mark.ensures ∙ ap (λ ms. mark ms address) c.loop-address.invariant.0 ∙ sym (marked_more marks start address from),
      λ h. absurd (omega (arith, h, from, c.loop-address-test.true)),
    )

pub returns : goal.returns
returns c =
    let start = c.args.addresses.now.start in
    let end = c.args.addresses.now.end in
    let address = c.loop-address.address in
    let all : address - start ≡ end - start =
    ⊎_elim
    (λ (lt : start < end).
    let within : address ≤ end = c.loop-address.auto.address-end (omega (arith, lt)) in
    let same : address ≡ end = omega (arith, within, c.loop-address-test.false) in
    ap (λ n. n - start) same)
    (λ (le : end ≤ start).
    let same : address ≡ start = c.loop-address.invariant.1 le in
    omega (arith, same, le))
    (cases_lt start end) in
    c.loop-address.invariant.0 ∙ ap (λ n. marked c.args.marks.now.items (range_with_len start n)) all
