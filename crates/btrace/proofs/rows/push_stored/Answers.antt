use Rattle.std.proofs.Common.{◌≡◌, ◌∙◌, ◌-◌, ◌%◌, ◌<◌, ◌≤◌, ◌++◌, ⊎_elim, ap, append-nil, arith, refl, sym}
use Rattle.std.specs.List.{range_with_len}
use Rattle.std.proofs.lemmas.Bool.{cases_lt}
use Rattle.btrace.specs.RowTexts.{stored_text, word_row}
use Rattle.btools.proofs.Ranges.{one_further}
use Rattle.btrace.proofs.RowParts.{one_stored}
use Rattle.btrace.proofs.rows.push_stored.Goals as goal

pub loop-address-init : goal.loop-address-init
loop-address-init g c =
    let start = c.args.stored.now.start in
    let none : 0 ≡ start - start = omega arith in
    (λ within. sym (append-nil c.args.text.now) ∙ ap (λ n. c.args.text.now ++ stored_text c.args.stepper.now.store (range_with_len start n)) none, λ h. refl)

pub loop-address-preserved : goal.loop-address-preserved
loop-address-preserved g c =
    let start = c.args.stored.now.start in
    let address = c.loop-address.address in
    let from : start ≤ address = c.loop-address.auto.address in
    let store = c.args.stepper.now.store in (
      λ within.
          let small : address % 65536 ≡ address = omega (arith, within, c.loop-address-test.true) in
          one_stored store c.args.text.now c.loop-address.text c.push_word.new.text (range_with_len start (address - start)) address (c.loop-address.invariant.0 within)
          (c.in_ok-push_word.ensures ∙ ap (λ a. c.loop-address.text ++ word_row store a) small)
          ∙ ap (λ addresses. c.args.text.now ++ stored_text store addresses) (sym (one_further start address from)),
      λ h. absurd (omega (arith, h, from, c.loop-address-test.true)),
    )

pub returns : goal.returns
returns g c within =
    let start = c.args.stored.now.start in
    let end = c.args.stored.now.end in
    let address = c.loop-address.address in
    let all : address - start ≡ end - start =
    ⊎_elim
    (λ (lt : start < end).
    let within : address ≤ end = c.loop-address.auto.address-end (omega (arith, lt)) in
    let same : address ≡ end = omega (arith, within, c.loop-address-test.false) in
    ap (λ n. n - start) same)
    (λ (le : end ≤ start).
    let same : address ≡ start = c.loop-address.invariant.1 le in
    omega (arith, same, le))
    (cases_lt start end) in
    c.loop-address.invariant.0 within ∙ ap (λ n. c.args.text.now ++ stored_text c.args.stepper.now.store (range_with_len start n)) all
