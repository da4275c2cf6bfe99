-- What is said first of each token, one notice after another from the last one on.
use Rattle.std.proofs.Common.{◌≡◌, ◌∙◌, ℕ, zero, suc, ◌+◌, ◌<◌, ◌≤◌, ◌==◌, Bool, true, false, List, [], ◌∷◌, Option, Some, None, ap, arith, drop, drop-cons, get_or, length, refl, replicate, sym}
use Rattle.std.proofs.lemmas.Bool.Decides.{nat_tests}
use Rattle.std.specs.Prelude.{◌-◌, if◌then◌else◌, nat_lt, slice_set}
use Rattle.bmatch.specs.declared.noticing.Notice.{Notice}
use Rattle.blint.specs.Noticed.{first_notice, first_notices, notice_at, with_notice}

pub long : (ns : List Notice) (k count : ℕ) → length (first_notices ns k count) ≡ count
long ns k zero = refl
long ns k (suc count) = ap suc (long ns (k + 1) count)

pub none_said : (k count : ℕ) → first_notices [] k count ≡ replicate count None
none_said k zero = refl
none_said k (suc count) = ap (λ l. None ∷ l) (none_said (k + 1) count)

other : (m n : ℕ) → (m < n) → (m == n) ≡ false
other m n h = grind (arith, nat_tests)

other_way : (m n : ℕ) → (n < m) → (m == n) ≡ false
other_way m n h = grind (arith, nat_tests)

-- a notice of an earlier token, or of a later one, changes nothing
earlier : (n : Notice) (ns : List Notice) (k count : ℕ) → n.token < k → first_notices (n ∷ ns) k count ≡ first_notices ns k count
earlier n ns k zero h = refl
earlier n ns k (suc count) h =
    ap (λ (b : Bool). (if b then Some n else first_notice ns k) ∷ first_notices (n ∷ ns) (k + 1) count) (other n.token k h)
    ∙ ap (λ l. first_notice ns k ∷ l) (earlier n ns (k + 1) count (omega (arith, h)))

later : (n : Notice) (ns : List Notice) (k count : ℕ) → k + count ≤ n.token → first_notices (n ∷ ns) k count ≡ first_notices ns k count
later n ns k zero h = refl
later n ns k (suc count) h =
    ap (λ (b : Bool). (if b then Some n else first_notice ns k) ∷ first_notices (n ∷ ns) (k + 1) count) (other_way n.token k (omega (arith, h)))
    ∙ ap (λ l. first_notice ns k ∷ l) (later n ns (k + 1) count (omega (arith, h)))

here : (n : Notice) (ns : List Notice) (k i count : ℕ) → n.token ≡ k + i → i < count
    → first_notices (n ∷ ns) k count ≡ slice_set (first_notices ns k count) i (Some n)
here n ns k i zero e lt = absurd (omega (arith, lt))
here n ns k zero (suc count) e lt =
    let same : (n.token == k) ≡ true = grind (arith, nat_tests) in
    ap (λ (b : Bool). (if b then Some n else first_notice ns k) ∷ first_notices (n ∷ ns) (k + 1) count) same
    ∙ ap (λ l. Some n ∷ l) (earlier n ns (k + 1) count (omega (arith, e)))
here n ns k (suc i) (suc count) e lt =
    ap (λ (b : Bool). (if b then Some n else first_notice ns k) ∷ first_notices (n ∷ ns) (k + 1) count) (other_way n.token k (omega (arith, e)))
    ∙ ap (λ l. first_notice ns k ∷ l) (here n ns (k + 1) i count (omega (arith, e)) (omega (arith, lt)))

pub one_before : (n : Notice) (ns : List Notice) (count : ℕ) → first_notices (n ∷ ns) 0 count ≡ with_notice n (first_notices ns 0 count)
one_before n ns count = by (nat_lt n.token (length (first_notices ns 0 count))) refl
  where
    by : (b : Bool) → nat_lt n.token (length (first_notices ns 0 count)) ≡ b → first_notices (n ∷ ns) 0 count ≡ (if b then slice_set (first_notices ns 0 count) n.token (Some n) else first_notices ns 0 count)
    by true e = here n ns 0 n.token count (omega arith) (grind (arith, nat_tests, e, long ns 0 count))
    by false e = later n ns 0 count (grind (arith, nat_tests, e, long ns 0 count))

-- from the notice before on
pub put_before : (ns : List Notice) (left count : ℕ) (d : Notice) (old new : List (Option Notice)) → 0 < left → left ≤ length ns → old ≡ first_notices (drop left ns) 0 count
    → new ≡ with_notice (get_or ns (left - 1) d) old → (new ≡ first_notices (drop (left - 1) ns) 0 count) × (left - 1 ≤ length ns)
put_before ns left count d old new some within before is =
    let n = get_or ns (left - 1) d in
    let lt : left - 1 < length ns = omega (arith, some, within) in
    let after : suc (left - 1) ≡ left = omega (arith, some) in
    let one : drop (left - 1) ns ≡ n ∷ drop left ns = drop-cons ns (left - 1) d lt ∙ ap (λ k. n ∷ drop k ns) after in
    (is ∙ ap (with_notice n) before ∙ sym (one_before n (drop left ns) count) ∙ ap (λ l. first_notices l 0 count) (sym one), omega (arith, within))

said_from : (ns : List Notice) (k count token : ℕ) → token < count → notice_at (first_notices ns k count) token ≡ first_notice ns (k + token)
said_from ns k zero token lt = absurd (omega (arith, lt))
said_from ns k (suc count) zero lt = ap (first_notice ns) (omega arith)
said_from ns k (suc count) (suc token) lt = said_from ns (k + 1) count token (omega (arith, lt)) ∙ ap (first_notice ns) (omega arith)

-- what is said first of a token that is there
pub said_of : (ns : List Notice) (count token : ℕ) → token < count → notice_at (first_notices ns 0 count) token ≡ first_notice ns token
said_of ns count token lt = said_from ns 0 count token lt ∙ ap (first_notice ns) (omega arith)
