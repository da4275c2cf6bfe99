-- The rows that are kept, all or the last ones.
use Rattle.std.proofs.Common.{Bool, true, false, ◌≡◌, ◌∙◌, ℕ, ◌+◌, ◌-◌, ◌<◌, ◌≤◌, ◌⊎◌, inl, inr, ⊎_elim, List, [], ◌∷◌, ◌++◌, ap, append-nil, arith, drop, length, map, nat_lt, refl, sym, if◌then◌else◌}
use Rattle.std.specs.List.{flat_map}
use Rattle.std.proofs.lemmas.Bool.{cases_order, cond-false, cond-true, le-ltb, lt-ltb}
use Rattle.std.proofs.lemmas.List.{drop_all, drop-append-le, drop-drop, drop-map, flat_map_more, length-append, length-drop, length-map}
use Rattle.bwatch.specs.Trails.{IsKept, Keeps, chosen, last_of, trail_text, without_first}
use Rattle.bwatch.specs.declared.trail.TraceRows.{TraceRows}
use Rattle.bwatch.specs.declared.trail.TraceRows.TheVariants as rows
use Rattle.bwatch.specs.declared.trail.Trail.{Trail}

pub map-chosen : {A B : Type 0} (f : A → B) (which : TraceRows) (xs : List A) → map f (chosen which xs) ≡ chosen which (map f xs)
map-chosen f (rows.From k) xs = refl
map-chosen f (rows.Last n) xs = sym (drop-map f (length xs - n) xs) ∙ ap (λ m. drop (m - n) (map f xs)) (sym (length-map xs f))

-- the last ones of a list that has one more
last_more : {A : Type 0} (n : ℕ) (xs : List A) (x : A) → last_of n (xs ++ x ∷ []) ≡ (if nat_lt n (length (last_of n xs ++ x ∷ [])) then drop 1 (last_of n xs ++ x ∷ []) else (last_of n xs ++ x ∷ []))
last_more n xs x =
    let d = length xs - n in
    let kept = drop d xs ++ x ∷ [] in
    let long : length kept ≡ (length xs - d) + 1 = length-append (drop d xs) (x ∷ []) ∙ ap (λ m. m + 1) (length-drop d xs) in
    let whole : length (xs ++ x ∷ []) ≡ length xs + 1 = length-append xs (x ∷ []) in
    let front : drop d (xs ++ x ∷ []) ≡ kept = drop-append-le d xs (x ∷ []) (omega arith) in
    ⊎_elim
    (λ few.
    let same : length (xs ++ x ∷ []) - n ≡ d = omega (arith, whole, few) in
    let short : length kept ≤ n = omega (arith, long, few) in
    ap (λ m. drop m (xs ++ x ∷ [])) same ∙ front ∙ sym (cond-false (nat_lt n (length kept)) (drop 1 kept) kept (le-ltb n (length kept) short)))
    (λ many.
    let same : length (xs ++ x ∷ []) - n ≡ d + 1 = omega (arith, whole, many) in
    let more : n < length kept = omega (arith, long, many) in
    ap (λ m. drop m (xs ++ x ∷ [])) same ∙ sym (drop-drop 1 d (xs ++ x ∷ [])) ∙ ap (drop 1) front ∙ sym (cond-true (nat_lt n (length kept)) (drop 1 kept) kept (lt-ltb n (length kept) more)))
    (compared (length xs) n)
  where
    compared : (a b : ℕ) → (a < b) ⊎ (b ≤ a)
    compared a b = ⊎_elim (λ e. inr (omega (arith, e))) (⊎_elim (λ l. inl l) (λ g. inr (omega (arith, g)))) (cases_order a b)

pub kept_none : (which : TraceRows) (t : Trail) → t.last.items ≡ [] → IsKept which t.text [] t
kept_none (rows.From k) t b = (sym (append-nil t.text), b)
kept_none (rows.Last n) t b = (refl, b ∙ sym (drop_all (0 - n) [] (omega arith)))

-- the row that is begun is none of them
pub kept_same : (which : TraceRows) (heading : List ℕ) (texts : List (List ℕ)) (t u : Trail) → u.text ≡ t.text → u.last.items ≡ t.last.items → IsKept which heading texts t → IsKept which heading texts u
kept_same (rows.From k) heading texts t u text last h = (text ∙ h.0, last ∙ h.1)
kept_same (rows.Last n) heading texts t u text last h = (text ∙ h.0, last ∙ h.1)

-- with a row more
pub kept_more : (which : TraceRows) (heading : List ℕ) (texts : List (List ℕ)) (t u : Trail) → IsKept which heading texts t → Keeps which t u → IsKept which heading (texts ++ t.row ∷ []) u × (u.row ≡ [])
kept_more (rows.From k) heading texts t u h keeps = ((keeps.0 ∙ ap (λ x. x ++ t.row) h.0 ∙ flat_map_more (λ (row : List ℕ). row) heading texts t.row, keeps.1 ∙ h.1), keeps.2)
kept_more (rows.Last n) heading texts t u h keeps = ((keeps.0 ∙ h.0, keeps.1 ∙ ap (λ xs. without_first n (xs ++ t.row ∷ [])) h.1 ∙ sym (last_more n texts t.row)), keeps.2)

-- the text of what is kept, and of what comes after it
pub kept_text : (which : TraceRows) (heading : List ℕ) (texts : List (List ℕ)) (t : Trail) → IsKept which heading texts t → trail_text t ≡ heading ++ flat_map (λ row. row) (chosen which texts) ++ t.row
kept_text (rows.From k) heading texts t h = ap (λ x. x ++ t.row) ((λ i. h.0 i ++ flat_map (λ row. row) (h.1 i)) ∙ append-nil (heading ++ flat_map (λ row. row) texts))
kept_text (rows.Last n) heading texts t h = λ i. h.0 i ++ flat_map (λ row. row) (h.1 i) ++ t.row

-- a row that is begun for a step that isn't shown, and for one that is
pub no_row : (b : Bool) (row : List ℕ) → b ≡ false → (if b then row else []) ≡ []
no_row false row e = refl
no_row true row e = cc

pub own_row : (b : Bool) (row : List ℕ) → b ≡ true → (if b then row else []) ≡ row
own_row true row e = refl
own_row false row e = cc
