use Rattle.std.proofs.Common.{◌≡◌, ◌+◌, ◌<◌, ◌≤◌, length, drop, get_or, arith, sym, ap, ◌∙◌, length-append}
use Rattle.bemit.specs.Drafts.{tests}
use Rattle.blang.specs.declared.limits.TheConstants.{MAX_INSTRUCTIONS}
use Rattle.bemit.specs.Buffers.{Buffer}
use Rattle.bemit.specs.Switches.{cases_of}
use Rattle.bemit.specs.declared.parts.Case.{Case}
use Rattle.bemit.proofs.SwitchLemmas.{tests-from}
use Rattle.bemit.proofs.DraftLemmas.{on_err}
use Rattle.bemit.proofs.draft.push_tests.Goals as goal

pub returns-in_err-emit-clause-full : goal.returns-in_err-emit-clause-full
returns-in_err-emit-clause-full c =
    let none : Case = record { switch = 0; value = 0; target = 0 } in
    let all = c.args.buffer.now.cases in
    let same = c.cases.ensures.cases ∙ ap (λ (b : Buffer). b.cases) c.loop-place.invariant.others in
    let here : (get_or all c.loop-place.place none).switch ≡ c.args.switch = ap (λ l. (get_or l c.loop-place.place none).switch) (sym same) ∙ c.if-case-switch.true in
    let within : c.loop-place.place < length all = omega (arith, c.loop-place-test.true, ap length c.cases-place-end.ensures.cases) in
    let some = tests-from c.args.switch c.loop-place.place all none within here in
    let long : length c.loop-place.buffer.code + length (tests (cases_of c.args.switch (drop c.loop-place.place all))) ≡ length c.args.buffer.now.code + length (tests (cases_of c.args.switch all)) =
    sym (length-append c.loop-place.buffer.code _) ∙ ap length c.loop-place.invariant.to_do ∙ length-append c.args.buffer.now.code _ in
    let full : MAX_INSTRUCTIONS ≤ length c.loop-place.buffer.code = let room = c.in_err-emit.ensures.room.1 in grind arith in
    on_err c.from_residual.result (omega (arith, some, long, full))
