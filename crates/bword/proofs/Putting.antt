-- Several writes as one.
use Rattle.std.proofs.Common.{◌≡◌, ℕ, ◌+◌, List, [], ◌++◌, length, take, Result, Ok, Err, refl, ◌∙◌, arith, length-append, IsErrAnd}
use Rattle.std.proofs.KnownBytes.{Appends-nil, Appends-trans}
use Rattle.std.proofs.Math.Seq.{take-append-add}
use Rattle.std.proofs.lemmas.List.{take-append-le}
use Rattle.bword.specs.declared.ends.EndFault.{EndFault}
use Rattle.bword.specs.declared.ends.EndFault.TheVariants as fault
use Rattle.bword.specs.ByteEnds.{Outgoing, Writes, Refuses, CountsFault, PutGives}

pub Writes-none : (a : Outgoing) → Writes a [] a
Writes-none a = record { appended = Appends-nil a.written; failures = refl; refusals = refl }

pub Writes-append : {a b c : Outgoing} {xs ys : List ℕ} → Writes a xs b → Writes b ys c → Writes a (xs ++ ys) c
Writes-append {a} {b} {c} {xs} {ys} h k = record {
  appended = Appends-trans a.written b.written c.written xs ys h.appended k.appended;
  failures = k.failures ∙ h.failures;
  refusals = k.refusals ∙ h.refusals;
}

counts_after : (a b c : Outgoing) (xs : List ℕ) (e : EndFault) → Writes a xs b → CountsFault b e c → CountsFault a e c
counts_after a b c xs fault.Device h k = (rw h.failures at k.0, k.1 ∙ h.refusals)
counts_after a b c xs fault.Memory h k = (rw h.refusals at k.0, k.1 ∙ h.failures)

-- what is refused after something that was written
pub Refuses-following : {a b c : Outgoing} {xs ys : List ℕ} {e : EndFault} → Writes a xs b → Refuses b ys e c → Refuses a (xs ++ ys) e c
Refuses-following {a} {b} {c} {xs} {ys} {e} h k = record {
  count = length xs + k.count;
  within = let l = k.within in omega (arith, length-append xs ys);
  appended = rw (take-append-add xs ys k.count) (Appends-trans a.written b.written c.written xs (take k.count ys) h.appended k.appended);
  counted = counts_after a b c xs e h k.counted;
}

-- what is refused of a text is refused of a longer one
pub Refuses-short : {a b : Outgoing} {xs : List ℕ} {e : EndFault} (ys : List ℕ) → Refuses a xs e b → Refuses a (xs ++ ys) e b
Refuses-short {a} {b} {xs} {e} ys h = record {
  count = h.count;
  within = let l = h.within in omega (arith, length-append xs ys);
  appended = rw (take-append-le h.count xs ys h.within) h.appended;
  counted = h.counted;
}

-- the exit of a `?`
pub gives_err : {a b : Outgoing} {xs : List ℕ} (r : Result (Unit {0}) EndFault) (e : EndFault) → IsErrAnd r (λ y. y ≡ e) → Refuses a xs e b → PutGives a xs r b
gives_err (Ok u) e h k = absurd h
gives_err {a} {b} {xs} (Err f) e h k = rw h k

-- a last call whose answer is returned as it is
pub gives_last : {a b : Outgoing} {xs : List ℕ} (c : Outgoing) (ys : List ℕ) (r : Result (Unit {0}) EndFault) → Writes a xs b → PutGives b ys r c → PutGives a (xs ++ ys) r c
gives_last c ys (Ok u) h k = Writes-append h k
gives_last c ys (Err e) h k = Refuses-following h k

pub gives_same : (a b : Outgoing) (r : Result (Unit {0}) EndFault) (xs ys : List ℕ) → xs ≡ ys → PutGives a xs r b → PutGives a ys r b
gives_same a b r xs ys e h = rw e at h
