use Rattle.std.proofs.lemmas.Result.{IfOk-weaker}
use Rattle.bfind.proofs.checking.told_in.Goals as goal

pub returns : goal.returns
returns c =
    IfOk-weaker c.places_text.result _ _ (λ text e. record {
      found = c.in_ok-found.found;
      are = c.in_ok-found.ensures;
      is = rw (← c.as_slice.ensures.value) e;
    }) c.places_text.ensures
