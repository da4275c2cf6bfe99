-- The spots of definitions, one after another.
use Rattle.std.proofs.Common.{◌≡◌, ℕ, suc, ◌+◌, ◌%◌, ◌<◌, ◌≤◌, List, [], ◌∷◌, ◌++◌, length, map, refl, sym, ap, ◌∙◌, arith, append_assoc, append-nil}
use Rattle.std.specs.Prelude.{zip}
use Rattle.std.proofs.Math.Nat.{mod-eq_of_lt}
use Rattle.std.proofs.lemmas.List.{map-append, length-map}
use Rattle.std.proofs.lemmas.List.Sums.{sum_by-append}
use Rattle.blang.specs.declared.code.Ival.{Ival}
use Rattle.blang.specs.Layout.{DefinitionKind, Function, Simple, Vector, Shape, Spot, size_of, words_before_strings, data_end, spot_after, spots_after, spots, defined_names, Addresses}

pub spots_after-push : (before ds : List Shape) (d : Shape) → spots_after before (ds ++ d ∷ []) ≡ spots_after before ds ++ spot_after (before ++ ds) d ∷ []
spots_after-push before [] d = ap (λ b. spot_after b d ∷ []) (sym (append-nil before))
spots_after-push before (e ∷ ds) d =
    ap (λ ss. spot_after before e ∷ ss) (spots_after-push (before ++ e ∷ []) ds d ∙ ap (λ b. spots_after (before ++ e ∷ []) ds ++ spot_after b d ∷ []) (append_assoc before (e ∷ []) ds))

pub length-spots_after : (before ds : List Shape) → length (spots_after before ds) ≡ length ds
length-spots_after before [] = refl
length-spots_after before (d ∷ ds) = ap suc (length-spots_after (before ++ d ∷ []) ds)

pub zip-push : {A B : Type 0} (xs : List A) (ys : List B) (x : A) (y : B) → length xs ≡ length ys → zip (xs ++ x ∷ []) (ys ++ y ∷ []) ≡ zip xs ys ++ (x, y) ∷ []
zip-push [] [] x y e = refl
zip-push [] (w ∷ ys) x y e = absurd (omega arith)
zip-push (v ∷ xs) [] x y e = absurd (omega arith)
zip-push (v ∷ xs) (w ∷ ys) x y e = ap (λ r. (v, w) ∷ r) (zip-push xs ys x y (omega arith))

pub data_end-push : (ds : List Shape) (d : Shape) → data_end (ds ++ d ∷ []) ≡ data_end ds + size_of d
data_end-push ds d = omega (arith, sum_by-append size_of ds (d ∷ []))

-- names with their addresses as a word has them
abbrev pub wrapped : List Shape → Addresses
wrapped ds = zip (defined_names ds) (map (λ s. s.address % 65536) (spots ds))

pub length-wrapped : (ds : List Shape) → length (defined_names ds) ≡ length (map (λ (s : Spot). s.address % 65536) (spots ds))
length-wrapped ds =
    length-map ds (λ (e : Shape). e.name) ∙ sym (length-spots_after [] ds) ∙ sym (length-map (spots ds) (λ (s : Spot). s.address % 65536))

pub wrapped-push : (ds : List Shape) (d : Shape) → wrapped (ds ++ d ∷ []) ≡ wrapped ds ++ (d.name, data_end ds % 65536) ∷ []
wrapped-push ds d =
    let address : Spot → ℕ = λ s. s.address % 65536 in
    ap (λ ns. zip ns (map address (spots (ds ++ d ∷ [])))) (map-append (λ (e : Shape). e.name) ds (d ∷ []))
    ∙ ap (λ ss. zip (map (λ (e : Shape). e.name) ds ++ d.name ∷ []) (map address ss)) (spots_after-push [] ds d)
    ∙ ap (λ ps. zip (map (λ (e : Shape). e.name) ds ++ d.name ∷ []) ps) (map-append address (spots ds) (spot_after ds d ∷ []))
    ∙ zip-push (map (λ (e : Shape). e.name) ds) (map address (spots ds)) d.name (address (spot_after ds d)) (length-wrapped ds)

some_words : (k : DefinitionKind) (values : List Ival) → 1 ≤ words_before_strings k values
some_words (Function labels) values = omega arith
some_words Simple values = omega arith
some_words (Vector n) values = omega arith

-- Where the data end in the store, each address is a word.
pub addresses_fit : (before ds : List Shape) → data_end (before ++ ds) ≤ 65536 → map (λ s. s.address % 65536) (spots_after before ds) ≡ map (λ (s : Spot). s.address) (spots_after before ds)
addresses_fit before [] fits = refl
addresses_fit before (d ∷ ds) fits =
    let whole : before ++ (d ∷ ds) ≡ (before ++ d ∷ []) ++ ds = sym (append_assoc before (d ∷ []) ds) in
    let some : 1 ≤ words_before_strings d.kind d.values = some_words d.kind d.values in
    let below : data_end before < 65536 = omega (arith, sum_by-append size_of before (d ∷ ds), sum_by-append size_of (d ∷ []) ds) in
    ap (λ a. a ∷ map (λ s. s.address % 65536) (spots_after (before ++ d ∷ []) ds)) (mod-eq_of_lt below)
    ∙ ap (λ ps. data_end before ∷ ps) (addresses_fit (before ++ d ∷ []) ds (rw whole at fits))
