use Rattle.std.proofs.Common.{◌≡◌, ◌∙◌, ◌<◌, ap, arith, length, map, sym, take}
use Rattle.std.specs.Prelude.{slice_index}
use Rattle.std.specs.List.{range_with_len}
use Rattle.std.proofs.lemmas.List.{get_or_default, take_all}
use Rattle.bendless.proofs.Words.{one_same}
use Rattle.bendless.proofs.kept.Kept.other_word.Goals as goal

pub loop-address-preserved : goal.loop-address-preserved
loop-address-preserved g c =
    let words = c.args.self.now.words.items in
    let address = c.loop-address.address in
    let within : address < length words = omega (arith, c.requires, c.loop-address-test.true) in
    one_same c.args.stepper.now.store words address c.word.result within c.loop-address.invariant c.word.ensures
    (c.if-word-index.false ∙ c.index.ensures ∙ get_or_default words address c.index.result.now 0 within)

pub returns : goal.returns
returns g c =
    let words = c.args.self.now.words.items in
    let all : c.loop-address.address ≡ 65536 = omega (arith, c.loop-address-test.false, c.loop-address.auto.address-end) in
    sym (take_all 65536 words (omega (arith, c.requires))) ∙ ap (λ n. take n words) (sym all) ∙ c.loop-address.invariant
    ∙ ap (λ n. map (slice_index c.args.stepper.now.store) (range_with_len 0 n)) all
