-- What an end that tells its bytes has left after those that were taken.
use Rattle.std.proofs.Common.{◌≡◌, ◌≢◌, ℕ, List, [], ◌++◌, Bool, true, false, Option, Some, None, refl, sym, ◌∙◌, subst}
use Rattle.std.proofs.lemmas.List.{append_cancel_left}
use Rattle.std.specs.Io.KnownBytes.{Consumes}
use Rattle.bword.specs.ByteEnds.{Incoming, Took, CanFollow}

pub record Rest (end : Incoming) (taken bytes : List ℕ) : Type 0 where
  pub more : List ℕ
  pub follows : CanFollow end more
  pub whole : taken ++ more ≡ bytes
  pub left : end.left ≡ Some more

rest_of_bytes : (old new : Option (List ℕ)) (taken bytes : List ℕ) → old ≡ Some bytes → Consumes old new taken → (more : List ℕ) × (new ≡ Some more) × (taken ++ more ≡ bytes)
rest_of_bytes None new taken bytes e c = absurd (no e)
  where
    no : None ≢ Some bytes
    no e = cc
rest_of_bytes (Some xs) None taken bytes e c = elim c [ ]
rest_of_bytes (Some xs) (Some ys) taken bytes e c = let same : xs ≡ bytes = cc in (ys, refl, sym c ∙ same)

by_cases : {A : Type 0} (b : Bool) → (b ≡ true → A) → (b ≡ false → A) → A
by_cases true f g = f refl
by_cases false f g = g refl

pub rest_after : (i j : Incoming) (taken bytes : List ℕ) → Took i taken j → i.left ≡ Some bytes → CanFollow i bytes → Rest j taken bytes
rest_after i j taken bytes t left follow =
    let r = rest_of_bytes i.left j.left taken bytes left t.bytes in
    record { more = r.0; follows = follows r.0 r.2; whole = r.2; left = r.1 }
  where
    follows : (more : List ℕ) → taken ++ more ≡ bytes → CanFollow j more
    follows more whole over =
        by_cases i.is_over
        (λ was. let nothing : taken ≡ [] = (t.over was).0 in subst (λ xs. xs ++ more ≡ bytes) nothing whole ∙ follow was)
        (λ was_not.
        let all = subst (λ o. Consumes o (Some []) taken) left (t.all was_not over) in
        append_cancel_left taken more [] (whole ∙ all))
