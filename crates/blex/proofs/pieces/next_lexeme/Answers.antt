use Rattle.std.proofs.Common.{refl}
use Rattle.blex.proofs.Passing.{Breaks-after}
use Rattle.blex.proofs.ByteSteps.{on_err, byte_passed}
use Rattle.blex.proofs.BlockSteps.{run_falls}
use Rattle.blex.proofs.TokenSteps.{space_breaks, space_more, space_run, token_passed, end_passed, piece_falls}
use Rattle.blex.proofs.pieces.next_lexeme.Goals as goal

pub returns-in_err-first-clause-err : goal.returns-in_err-first-clause-err
returns-in_err-first-clause-err g c = on_err _ (Breaks-after c.loop-first.invariant.passes c.in_err-first.ensures.err)

pub returns-in_err-lexeme-clause-err : goal.returns-in_err-lexeme-clause-err
returns-in_err-lexeme-clause-err g c =
    on_err _ (space_breaks c.loop-first.invariant (byte_passed _ _ _ _ c.in-Some.is c.in_ok-first.ensures.ok) c.in_err-lexeme.ensures.err)

pub returns-in-Some-2-clause-ok : goal.returns-in-Some-2-clause-ok
returns-in-Some-2-clause-ok g c =
    token_passed _ _ c.loop-first.invariant (byte_passed _ _ _ _ c.in-Some.is c.in_ok-first.ensures.ok) (rw c.in-Some-2.is at c.in_ok-lexeme.ensures.ok) _ refl

pub loop-first-smaller : goal.loop-first-smaller
loop-first-smaller g c =
    run_falls c.loop-first.source (piece_falls (byte_passed _ _ _ _ c.in-Some.is c.in_ok-first.ensures.ok) c.in_ok-lexeme.ensures.ok) c.skip_indentation.ensures

pub loop-first-preserved : goal.loop-first-preserved
loop-first-preserved g c =
    let space = space_more _ _ _ c.loop-first.invariant (byte_passed _ _ _ _ c.in-Some.is c.in_ok-first.ensures.ok) (rw c.in_default-2.is at c.in_ok-lexeme.ensures.ok) refl refl in
    space_run space c.skip_indentation.ensures c.line-line-in-Some.ensures

pub returns-clause-ok : goal.returns-clause-ok
returns-clause-ok g c = end_passed _ c.in_default.is c.loop-first.invariant c.in_ok-first.ensures.ok
