-- Closed facts: what is asked of the page of a careful run, and of which bytes it is.
use Rattle.std.specs.Prelude.{◌≡◌, false, [], ◌∷◌, Some, None, codes, refl}
use Rattle.bword.specs.ByteEnds.{Unread, incoming_of}
use Rattle.blang.specs.declared.run.Outcome.TheVariants as outcome
use Rattle.blang.specs.Reports.{RunEnds}
use Rattle.bmach.specs.declared.machine.Active.{Active}
use Rattle.bmach.specs.declared.machine.Stop.{Stop}
use Rattle.bsources.specs.Files.{file_of}
use Rattle.bwatch.specs.declared.trail.TraceRows.TheVariants as which
use Rattle.bshow.specs.CarefulPages.{asked_up_to, ends_over}
use Rattle.bshow.specs.Shows.{Asked}

-- the last two of nine steps
abbrev nine : Asked
nine = record {
  steps = 9;
  which = which.Last 2;
  files = record { first = file_of (codes "x.b") (codes "main() ;"); rest = [] };
  given = codes "q";
  finding = None;
}

-- after four of them
abbrev four : Active → Stop
four call = record { outcome = outcome.Limit; call = call; steps = 4 }

-- With a finding the page has the steps before it alone, and tells it.
page_up_to : (call : Active) → asked_up_to nine (four call) (Some (codes "x"))
    ≡ record { steps = 4; which = which.Last 2; files = nine.files; given = codes "q"; finding = Some (codes "x") }
page_up_to call = refl

-- Without one it is as it was asked for.
page_of_all : (call : Active) → asked_up_to nine (four call) None ≡ nine
page_of_all call = refl

-- The bytes that were read are its input, and the other streams are those of the program.
page_ends : (ends : RunEnds) (left : Unread) → ends_over (5 ∷ 6 ∷ []) left ends ≡ record {
  input = incoming_of (record { left = 5 ∷ 6 ∷ []; is_over = false });
  input_after = incoming_of left;
  out = ends.out;
  out_after = ends.out_after;
  line = ends.line;
  line_after = ends.line_after;
}
page_ends ends left = refl
