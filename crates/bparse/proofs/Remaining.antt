-- What an end that tells its bytes has left after those that were taken.
use Rattle.std.proofs.Common.{◌≡◌, ℕ, List, [], Some, refl, sym, subst}
use Rattle.std.specs.Io.KnownBytes.{Appends}
use Rattle.std.proofs.KnownBytes.{Appends-nil}
use Rattle.bword.specs.ByteEnds.{Incoming, Outgoing, Took, Writes}
use Rattle.bword.proofs.Remaining.{Rest, rest_after}
use Rattle.blang.specs.Compiles.{Tells}

pub rest_of : (i j : Incoming) (taken bytes : List ℕ) → Took i taken j → Tells i bytes → Rest j taken bytes
rest_of i j taken bytes t told = rest_after i j taken bytes t told.left told.follow

-- all that an end has written since it had nothing
pub all_written : (o p : Outgoing) (bytes all : List ℕ) → o.written ≡ Some [] → p.written ≡ Some all → Appends o.written p.written bytes → all ≡ bytes
all_written o p bytes all e f a = subst (λ x. Appends (Some []) x bytes) f (subst (λ x. Appends x p.written bytes) e a)

-- an end that stays as it is has been written nothing
pub writes_nothing : (o p : Outgoing) → p ≡ o → Writes o [] p
writes_nothing o p e =
    subst (λ q. Writes o [] q) (sym e) (record { appended = Appends-nil o.written; failures = refl; refusals = refl })
