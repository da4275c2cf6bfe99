use Rattle.std.proofs.Common.{◌≡◌, ◌∙◌, ap, arith, map}
use Rattle.std.specs.Prelude.{slice_index}
use Rattle.std.specs.List.{range_with_len}
use Rattle.bendless.proofs.Words.{one_read}
use Rattle.bendless.proofs.kept.read_words.Goals as goal

pub loop-address-preserved : goal.loop-address-preserved
loop-address-preserved g c =
    one_read c.args.stepper.now.store c.loop-address.words.items c.push.new.self.items c.loop-address.address c.word.result c.loop-address.invariant c.word.ensures
    c.in_ok-push.ensures.items

pub returns : goal.returns
returns g c =
    let all : c.loop-address.address ≡ 65536 = omega (arith, c.loop-address-test.false, c.loop-address.auto.address-end) in
    c.loop-address.invariant ∙ ap (λ n. map (slice_index c.args.stepper.now.store) (range_with_len 0 n)) all
