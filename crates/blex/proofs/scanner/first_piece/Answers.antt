use Rattle.blex.proofs.ByteSteps.{byte_passed}
use Rattle.blex.proofs.Passing.{Breaks-after}
use Rattle.blex.proofs.PlaceSteps.{first_end, first_found, if_err, if_ok}
use Rattle.blex.proofs.scanner.first_piece.Goals as goal

pub returns-in_default-clause-ok : goal.returns-in_default-clause-ok
returns-in_default-clause-ok g c = first_end _ _ _ c.in_default.is c.in_ok-first.ensures.ok

pub returns-clause-ok : goal.returns-clause-ok
returns-clause-ok g c = if_ok _ c.piece.ensures.ok (λ found h. first_found _ _ _ c.in-Some.first _ found (byte_passed _ _ _ _ c.in-Some.is c.in_ok-first.ensures.ok) h)

pub returns-clause-err : goal.returns-clause-err
returns-clause-err g c = if_err _ c.piece.ensures.err (λ h. Breaks-after (byte_passed _ _ _ _ c.in-Some.is c.in_ok-first.ensures.ok) h)
