-- A row of patterns fits before one branch more that is left out; one number more of a range was passed.
use Rattle.std.proofs.Common.{◌≡◌, ◌∙◌, ℕ, suc, ◌+◌, ◌-◌, ◌<◌, ◌≤◌, List, [], ◌∷◌, ◌++◌, ap, append_assoc, append-nil, arith, nat_lt, refl, sym}
use Rattle.std.proofs.lemmas.Bool.{cond-false, cond-true, le-ltb, lt-ltb}
use Rattle.std.specs.List.{flat_map, range_with_len}
use Rattle.bmatch.specs.Fits.{ends_of, start_of}
use Rattle.bmatch.specs.declared.binds.Binds.{Binds}
use Rattle.bmatch.specs.declared.tree.Branch.{Branch}

ends_more : (rows : List Branch) (k begin end next : ℕ) → begin < end → next ≡ start_of rows end → ends_of rows (suc k) begin end ≡ end ∷ ends_of rows k begin next
unfolding ends_of
ends_more rows k begin end next h e = ap (λ l. end ∷ l) (cond-true (nat_lt begin end) _ _ (lt-ltb begin end h) ∙ ap (ends_of rows k begin) (sym e))

ends_last : (rows : List Branch) (k begin end : ℕ) → end ≤ begin → ends_of rows (suc k) begin end ≡ end ∷ []
unfolding ends_of
ends_last rows k begin end h = ap (λ l. end ∷ l) (cond-false (nat_lt begin end) _ _ (le-ltb begin end h))

ends_none : (rows : List Branch) (begin end : ℕ) → ends_of rows 0 begin end ≡ []
unfolding ends_of
ends_none rows begin end = refl

pub one_more : (f : ℕ → List Binds) (rows : List Branch) (most n begin end next : ℕ) (found new all : List Binds) → n < most → begin < end → next ≡ start_of rows end → new ≡ found ++ f end
    → found ++ flat_map f (ends_of rows (most - n) begin end) ≡ all → new ++ flat_map f (ends_of rows (most - (n + 1)) begin next) ≡ all
one_more f rows most n begin end next found new all l h en ew inv =
    let k = most - (n + 1) in
    let left : most - n ≡ suc k = omega arith in
    let ends : ends_of rows (most - n) begin end ≡ end ∷ ends_of rows k begin next = ap (λ m. ends_of rows m begin end) left ∙ ends_more rows k begin end next h en in
    ap (λ x. x ++ flat_map f (ends_of rows k begin next)) ew ∙ (append_assoc found (f end) (flat_map f (ends_of rows k begin next)) ∙ (ap (λ es. found ++ flat_map f es) (sym ends) ∙ inv))

pub last_one : (f : ℕ → List Binds) (rows : List Branch) (most n begin end : ℕ) (found new all : List Binds) → n < most → end ≤ begin → new ≡ found ++ f end
    → found ++ flat_map f (ends_of rows (most - n) begin end) ≡ all → new ≡ all
last_one f rows most n begin end found new all l h ew inv =
    let left : most - n ≡ suc (most - (n + 1)) = omega arith in
    let ends : ends_of rows (most - n) begin end ≡ end ∷ [] = ap (λ m. ends_of rows m begin end) left ∙ ends_last rows (most - (n + 1)) begin end h in
    ew ∙ (ap (λ x. found ++ x) (sym (append-nil (f end))) ∙ (ap (λ es. found ++ flat_map f es) (sym ends) ∙ inv))

pub none_more : (f : ℕ → List Binds) (rows : List Branch) (most n begin end : ℕ) (found all : List Binds) → most ≤ n → found ++ flat_map f (ends_of rows (most - n) begin end) ≡ all → found ≡ all
none_more f rows most n begin end found all l inv =
    let left : most - n ≡ 0 = omega arith in
    let ends : ends_of rows (most - n) begin end ≡ [] = ap (λ m. ends_of rows m begin end) left ∙ ends_none rows begin end in
    sym (append-nil found) ∙ (ap (λ es. found ++ flat_map f es) (sym ends) ∙ inv)

pub range_turn : {A : Type 0} (f : ℕ → List A) (end i : ℕ) (found new all : List A) → i < end → new ≡ found ++ f i → found ++ flat_map f (range_with_len i (end - i)) ≡ all
    → new ++ flat_map f (range_with_len (i + 1) (end - (i + 1))) ≡ all
range_turn f end i found new all l ew inv =
    let k = end - (i + 1) in
    let left : end - i ≡ suc k = omega arith in
    let more : range_with_len i (end - i) ≡ i ∷ range_with_len (i + 1) k = ap (range_with_len i) left in
    ap (λ x. x ++ flat_map f (range_with_len (i + 1) k)) ew ∙ (append_assoc found (f i) (flat_map f (range_with_len (i + 1) k)) ∙ (ap (λ es. found ++ flat_map f es) (sym more) ∙ inv))
