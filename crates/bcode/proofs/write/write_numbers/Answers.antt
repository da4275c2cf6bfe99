use Rattle.std.proofs.Common.{◌∷◌, [], decimal, get_or, ◌∙◌}
use Rattle.std.proofs.lemmas.List.{get_or_default}
use Rattle.blang.specs.Text.{line}
use Rattle.bcode.proofs.Paging.{page_err, Passes-more, Refuses-more}
use Rattle.bcode.proofs.write.write_numbers.Goals as goal

pub returns-in_err-make_room-clause-gives : goal.returns-in_err-make_room-clause-gives
returns-in_err-make_room-clause-gives g c =
    page_err _ _ _ _ _ c.from_residual.ensures.1 (Refuses-more (λ n. line ((c.args.letter ∷ []) ∷ decimal n ∷ [])) c.args.numbers.now c.loop-number.number-index c.loop-number.invariant.0 c.in_err-make_room.ensures.gives)

pub loop-number-preserved : goal.loop-number-preserved
loop-number-preserved g c = (
  Passes-more (λ n. line ((c.args.letter ∷ []) ∷ decimal n ∷ [])) _ c.args.numbers.now c.loop-number.number-index (get_or c.args.numbers.now c.loop-number.number-index 0) c.loop-number-test.true (get_or_default _ _ _ _ c.loop-number-test.true) c.loop-number.invariant.0 c.in_ok-make_room.ensures.gives c.push_number_line.ensures,
  c.in_ok-make_room.ensures.same ∙ c.loop-number.invariant.1,
)
