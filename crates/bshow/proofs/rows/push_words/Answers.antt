use Rattle.std.proofs.Common.{◌≡◌, ◌∙◌, ◌-◌, ◌%◌, ◌<◌, ◌≤◌, ◌∷◌, ◌++◌, [], ⊎_elim, ap, append-nil, append_assoc, arith, refl, sym}
use Rattle.std.specs.Prelude.{slice_index}
use Rattle.std.specs.List.{range_with_len}
use Rattle.std.proofs.lemmas.Bool.{cases_lt}
use Rattle.std.proofs.lemmas.List.{map-append}
use Rattle.bshow.specs.Rows.{words_in}
use Rattle.btools.proofs.Ranges.{one_further}
use Rattle.bshow.proofs.rows.push_words.Goals as goal

pub loop-address-init : goal.loop-address-init
loop-address-init g c =
    let start = c.args.addresses.now.start in
    let none : 0 ≡ start - start = omega arith in
    (λ within. sym (append-nil c.args.words.now.items) ∙ ap (λ n. c.args.words.now.items ++ words_in c.args.stepper.now.store (range_with_len start n)) none, λ h. refl)

pub loop-address-preserved : goal.loop-address-preserved
loop-address-preserved g c =
    let start = c.args.addresses.now.start in
    let address = c.loop-address.address in
    let from : start ≤ address = c.loop-address.auto.address in
    let store = c.args.stepper.now.store in (
      λ within.
          let small : address % 65536 ≡ address = omega (arith, within, c.loop-address-test.true) in
          c.in_ok-push.ensures.items ∙ (λ j. c.loop-address.invariant.0 within j ++ (c.word.ensures ∙ ap (slice_index store) small) j ∷ [])
          ∙ append_assoc c.args.words.now.items (words_in store (range_with_len start (address - start))) (slice_index store address ∷ [])
          ∙ ap (λ ws. c.args.words.now.items ++ ws)
          (sym (map-append (slice_index store) (range_with_len start (address - start)) (address ∷ [])) ∙ ap (words_in store) (sym (one_further start address from))),
      λ h. absurd (omega (arith, h, from, c.loop-address-test.true)),
    )

pub returns : goal.returns
returns g c within =
    let start = c.args.addresses.now.start in
    let end = c.args.addresses.now.end in
    let address = c.loop-address.address in
    let all : address - start ≡ end - start =
    ⊎_elim
    (λ (lt : start < end).
    let within : address ≤ end = c.loop-address.auto.address-end (omega (arith, lt)) in
    let same : address ≡ end = omega (arith, within, c.loop-address-test.false) in
    ap (λ n. n - start) same)
    (λ (le : end ≤ start).
    let same : address ≡ start = c.loop-address.invariant.1 le in
    omega (arith, same, le))
    (cases_lt start end) in
    c.loop-address.invariant.0 within ∙ ap (λ n. c.args.words.now.items ++ words_in c.args.stepper.now.store (range_with_len start n)) all
