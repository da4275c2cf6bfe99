-- What is kept of the bytes that are read is what was taken.
use Rattle.std.proofs.Common.{◌≡◌, ◌∙◌, ◌<◌, ℕ, zero, suc, true, List, [], ◌∷◌, ◌++◌, MutBor, Ok, Option, None, Some, ap, append-nil, arith, refl, subst, sym}
use Rattle.std.specs.Prelude.{if◌then◌else◌}
use Rattle.bword.specs.ByteEnds.{Fails, Incoming, NextGives, Took}
use Rattle.bword.proofs.Taking.{Took-append, Took-next}
use Rattle.bmach.proofs.Turning.{took_nothing}
use Rattle.std.specs.Prelude.{IfSome}
use Rattle.blang.specs.Machine.{States}
use Rattle.blang.specs.declared.run.Outcome.{Outcome}
use Rattle.blang.specs.declared.run.Outcome.TheVariants as outcome
use Rattle.bendless.specs.Recordings.{IsRecording, Recording, Records, coded, coded_list, coded_pair, is_whole, lender_recording}
use Rattle.bendless.specs.declared.recorder.Record.{Record}
use Rattle.bendless.specs.Repeats.{ComesBack, Repeats}
use Rattle.bendless.specs.declared.search.Repeat.{Repeat}
use Rattle.bendless.proofs.Searching.{flag}

pub one_kept : (first old new : Incoming) (bytes : List ℕ) (byte : ℕ) → Took first bytes old → NextGives old (Ok (Some byte)) new → Took first (bytes ++ byte ∷ []) new
one_kept first old new bytes byte took gives = Took-append took (Took-next old new (Some byte) gives)

pub end_kept : (first old new : Incoming) (bytes : List ℕ) → Took first bytes old → NextGives old (Ok None) new → Took first bytes new
end_kept first old new bytes took gives = subst (λ xs. Took first xs new) (append-nil bytes) (Took-append took (Took-next old new None gives))

pub failed_kept : (first old new : Incoming) (bytes : List ℕ) → Took first bytes old → Fails old new → Took first bytes new
failed_kept first old new bytes took fails = subst (λ xs. Took first xs new) (append-nil bytes) (Took-append took (took_nothing fails))

-- The numbers tell what they stand for.
some_pair : (x y : ℕ) → 0 < coded_pair x y
some_pair zero y = omega arith
some_pair (suc x) y = let some = some_pair x y in omega (arith, some)

same_pair : (x y x' y' : ℕ) → coded_pair x y ≡ coded_pair x' y' → (x ≡ x') × (y ≡ y')
same_pair zero y zero y' e = (refl, omega (arith, e))
same_pair zero y (suc x') y' e = absurd (omega (arith, e))
same_pair (suc x) y zero y' e = absurd (omega (arith, e))
same_pair (suc x) y (suc x') y' e = let same = same_pair x y x' y' (omega (arith, e)) in (ap suc same.0, same.1)

same_list : (xs ys : List ℕ) → coded_list xs ≡ coded_list ys → xs ≡ ys
same_list [] [] e = refl
same_list [] (y ∷ ys) e = let some = some_pair y (coded_list ys) in absurd (omega (arith, some, e))
same_list (x ∷ xs) [] e = let some = some_pair x (coded_list xs) in absurd (omega (arith, some, e))
same_list (x ∷ xs) (y ∷ ys) e =
    let same = same_pair x (coded_list xs) y (coded_list ys) e in
    let rest = same_list xs ys same.1 in
    rw (same.0, rest) refl

same_known : (a b : Option (List ℕ)) → coded a ≡ coded b → a ≡ b
same_known None None e = refl
same_known (Some x) None e = absurd (omega (arith, e))
same_known None (Some y) e = absurd (omega (arith, e))
same_known (Some x) (Some y) e = ap Some (same_list x y (omega (arith, e)))

-- which end it is tells what it was made of
pub made_same : (i j : Incoming) (xs ys : List ℕ) → lender_recording i xs ≡ lender_recording j ys → i ≡ j
made_same i j xs ys e =
    let over : (if i.is_over then 1 else 0) ≡ (if j.is_over then 1 else 0) = cc in
    let failures : i.failures ≡ j.failures = cc in
    let bound : i.bound ≡ j.bound = cc in
    let left : coded i.left ≡ coded j.left = cc in
    let is_over : i.is_over ≡ j.is_over = flag i.is_over j.is_over (ap (λ n. n ∷ []) over) in
    let bytes : i.left ≡ j.left = same_known i.left j.left left in
    rw (is_over, failures, bound, bytes) refl

pub names_same : (i j : Incoming) (x y : ℕ) (xs ys : List ℕ) → lender_recording i (x ∷ xs) ≡ lender_recording j (y ∷ ys) → (x ≡ y) × (xs ≡ ys)
names_same i j x y xs ys e = ((cc), (cc))

-- what was kept by the time that a stream was given back
pub recorded : {D : Type 0} (incoming : D → Incoming) (r : Recording (MutBor D)) (kept : Record) (first now : D) → incoming r.first.now ≡ incoming first → now ≡ r.input.now → kept.bytes.items ≡ r.bytes
    → is_whole kept.extent ≡ r.is_whole → kept.is_over ≡ r.is_over → IsRecording (λ (b : MutBor D). incoming b.now) r → Records kept (incoming first) (incoming now)
recorded incoming r kept first now begun back bytes whole over is = record {
  taken = λ all. subst (λ i. Took i kept.bytes.items (incoming now)) begun
      (subst (λ xs. Took (incoming r.first.now) xs (incoming now)) (sym bytes)
      (subst (λ x. Took (incoming r.first.now) r.bytes (incoming x)) (sym back) (is.taken (sym whole ∙ all))));
  over = λ o. subst (λ x. (incoming x).is_over ≡ true) (sym back) (is.over (sym over ∙ o));
}

-- what was found of a run on what was read
pub comes_back : (states : States) (i j : Incoming) (r : Record) (found : Option Repeat) → Records r i j → IfSome found (λ x. is_whole r.extent ≡ true)
    → IfSome found (λ x. (more : List ℕ) → (r.is_over ≡ true → more ≡ []) → Repeats (states (r.bytes.items ++ more)) x) → IfSome found (ComesBack states i j)
comes_back states i j r None records all repeats = tt
comes_back states i j r (Some x) records all repeats = record {
  taken = r.bytes.items;
  took = records.taken all;
  repeats = λ more can. repeats more (λ o. can (records.over o));
}

-- a state is found only at the limit
pub limit_found : (found : Option Repeat) (r : Outcome) → IfSome found (λ x. r ≡ outcome.Limit) → (found ≡ None → ⊥) → r ≡ outcome.Device → ⊥
limit_found None r limit some is = some refl
limit_found (Some x) r limit some is = let bad : outcome.Limit ≡ outcome.Device = sym limit ∙ is in cc
