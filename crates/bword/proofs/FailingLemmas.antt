-- What an end over memory answers, as it never fails.
use Rattle.std.proofs.Common.{◌≡◌, ℕ, Option, Some, None, Result, Ok, Err, sym, ap, ◌∙◌, arith}
use Rattle.std.specs.Prelude.{slice_get}
use Rattle.bword.specs.declared.ends.Device.{Device}
use Rattle.bword.specs.ByteEnds.{Unread, NextGives, incoming_of}

pub unfailing_answer : (old new : Unread) (r : Result (Option ℕ) Device) → NextGives (incoming_of old) r (incoming_of new) → r ≡ Ok (slice_get old.left 0)
unfailing_answer old new (Ok (Some b)) h = ap (λ l. Ok (slice_get l 0)) (sym h.bytes)
unfailing_answer old new (Ok None) h = ap (λ l. Ok (slice_get l 0)) (sym h.at_end ∙ h.bytes)
unfailing_answer old new (Err e) h = let c = h.counted in absurd (omega arith)
