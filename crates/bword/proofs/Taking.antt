-- Several reads as one.
use Rattle.std.proofs.Common.{ap, ◌≡◌, ℕ, List, [], ◌++◌, Option, Some, None, Ok, refl, sym, ◌∙◌, arith, append-nil, length-append, ⊎_elim}
use Rattle.std.proofs.KnownBytes.{Consumes-nil, Consumes-trans, Consumes-kept}
use Rattle.std.specs.Io.KnownBytes.{Consumes, Keeps, IsAtEnd}
use Rattle.std.specs.Prelude.{option_to_list}
use Rattle.std.proofs.lemmas.Bool.{cases_Bool, both_ways}
use Rattle.bword.specs.ByteEnds.{Incoming, NextGives, Took}

Consumes-at-end : (a b : Option (List ℕ)) → Keeps a b → IsAtEnd b → Consumes a (Some []) []
Consumes-at-end None b h e = tt
Consumes-at-end (Some a) None h e = absurd h
Consumes-at-end (Some a) (Some b) h e = sym h ∙ e

Consumes-no-more : (a : Option (List ℕ)) (xs ys : List ℕ) → Consumes a (Some []) xs → ys ≡ [] → Consumes a (Some []) (xs ++ ys)
Consumes-no-more a xs ys h e = rw (e, append-nil xs) h

pub nil-append : (xs ys : List ℕ) → xs ≡ [] → ys ≡ [] → xs ++ ys ≡ []
nil-append xs ys h k = rw (h, k) refl

pub Took-none : (a : Incoming) → Took a [] a
Took-none a = record { bytes = Consumes-nil a.left; bound = omega arith; over = λ h. (refl, h); all = λ p q. absurd (both_ways _ p q) }

pub Took-append : {a b c : Incoming} {xs ys : List ℕ} → Took a xs b → Took b ys c → Took a (xs ++ ys) c
Took-append {a} {b} {c} {xs} {ys} h k = record {
  bytes = Consumes-trans a.left b.left c.left xs ys h.bytes k.bytes;
  bound = let p = h.bound in let q = k.bound in omega (arith, length-append xs ys);
  over = λ o. let p = h.over o in let q = k.over p.1 in (nil-append xs ys p.0 q.0, q.1);
  all = λ o p. ⊎_elim
      (λ m. Consumes-no-more a.left xs ys (h.all o m) (k.over m).0)
      (λ m. Consumes-trans a.left b.left (Some []) xs ys h.bytes (k.all m p))
      (cases_Bool b.is_over);
}

-- what one call took
pub Took-next : (old new : Incoming) (o : Option ℕ) → NextGives old (Ok o) new → Took old (option_to_list o) new
Took-next old new None h = record {
  bytes = Consumes-kept old.left old.left new.left [] (Consumes-nil old.left) h.bytes;
  bound = let b = h.bound in omega arith;
  over = λ _. (refl, h.over);
  all = λ o p. Consumes-at-end old.left new.left h.bytes h.at_end;
}
Took-next old new (Some b) h = record {
  bytes = h.bytes;
  bound = let f = h.falls in omega arith;
  over = λ o. absurd (both_ways _ h.not_over o);
  all = λ o p. absurd (both_ways _ h.still p);
}

-- what is left after a read that tells its bytes
pub consumed : (a b : Option (List ℕ)) (taken x y : List ℕ) → a ≡ Some x → b ≡ Some y → Consumes a b taken → x ≡ taken ++ y
consumed None b taken x y e f h = cc
consumed (Some a) None taken x y e f h = cc
consumed (Some a) (Some b) taken x y e f h = let p : a ≡ x = cc in let q : b ≡ y = cc in sym p ∙ h ∙ ap (λ l. taken ++ l) q
