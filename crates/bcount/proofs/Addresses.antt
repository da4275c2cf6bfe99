-- The functions of a program, each where it lies: no two have the same address of their first string word.
use Rattle.std.proofs.Common.{◌≡◌, ℕ, zero, suc, ◌+◌, ◌<◌, ◌≤◌, List, [], ◌∷◌, ◌++◌, arith, get_or, length, map, refl}
use Rattle.std.specs.Prelude.{filter_map, zip}
use Rattle.std.specs.List.{All, AllPairs, Contains}
use Rattle.std.proofs.lemmas.List.Elements.{All-cons, All-contains, All-nil, All-weaker}
use Rattle.bmach.proofs.Spots.{data_end-push}
use Rattle.blang.specs.declared.code.Definition.{Definition}
use Rattle.blang.specs.declared.code.Definition.TheVariants as definition
use Rattle.blang.specs.Layout.{Shape, Spot, data_end, shape_of, size_of, spots, spots_after}
use Rattle.blang.specs.Machine.{Loaded, loaded_at}
use Rattle.btools.specs.Functions.{Placed, functions_of, placed_function}

-- the functions of definitions after others
abbrev functions_after : (before : List Shape) → List Definition → List Placed
functions_after before ds = filter_map placed_function (zip (spots_after before (map shape_of ds)) ds)

abbrev Ascend : List Placed → Type 0
Ascend fs = AllPairs (λ f g. f.strings < g.strings) fs

abbrev Above : ℕ → List Placed → Type 0
Above n fs = All (λ f. n < f.strings) fs

ends_grow : (before : List Shape) (d : Definition) → data_end before < data_end (before ++ shape_of d ∷ [])
ends_grow before (definition.Function f) = let e = data_end-push before (shape_of (definition.Function f)) in omega (arith, e)
ends_grow before (definition.Simple x) = let e = data_end-push before (shape_of (definition.Simple x)) in omega (arith, e)
ends_grow before (definition.Vector v) = let e = data_end-push before (shape_of (definition.Vector v)) in omega (arith, e)

higher : (m n : ℕ) (fs : List Placed) → m ≤ n → Above n fs → Above m fs
higher m n fs le h = All-weaker (λ (f : Placed). n < f.strings) (λ (f : Placed). m < f.strings) (λ f lt. omega (arith, le, lt)) fs h

above_after : (before : List Shape) (ds : List Definition) → Above (data_end before) (functions_after before ds)
above_after before [] = All-nil (λ (f : Placed). data_end before < f.strings)
above_after before (d ∷ ds) = by d (higher (data_end before) (data_end (before ++ shape_of d ∷ [])) _ (let lt = ends_grow before d in omega (arith, lt)) (above_after (before ++ shape_of d ∷ []) ds))
  where
    by : (e : Definition) → Above (data_end before) (functions_after (before ++ shape_of e ∷ []) ds) → Above (data_end before) (functions_after before (e ∷ ds))
    by (definition.Function f) h = All-cons (λ (f : Placed). data_end before < f.strings) _ _ (omega arith) h
    by (definition.Simple x) h = h
    by (definition.Vector v) h = h

ascend-cons : (f : Placed) (fs : List Placed) → Above f.strings fs → Ascend fs → Ascend (f ∷ fs)
ascend-cons f fs above h zero zero d lt within = absurd (omega (arith, lt))
ascend-cons f fs above h zero (suc l) d lt within = above l d (omega (arith, within))
ascend-cons f fs above h (suc k) zero d lt within = absurd (omega (arith, lt))
ascend-cons f fs above h (suc k) (suc l) d lt within = h k l d (omega (arith, lt)) (omega (arith, within))

ascend_after : (before : List Shape) (ds : List Definition) → Ascend (functions_after before ds)
ascend_after before [] = λ k l d lt within. absurd (omega (arith, within))
ascend_after before (d ∷ ds) = by d (ascend_after (before ++ shape_of d ∷ []) ds) (above_after (before ++ shape_of d ∷ []) ds) (data_end-push before (shape_of d))
  where
    by : (e : Definition) → Ascend (functions_after (before ++ shape_of e ∷ []) ds) → Above (data_end (before ++ shape_of e ∷ [])) (functions_after (before ++ shape_of e ∷ []) ds) → data_end (before ++ shape_of e ∷ []) ≡ data_end before + size_of (shape_of e) → Ascend (functions_after before (e ∷ ds))
    by (definition.Function f) h above end = ascend-cons _ _ (higher (data_end before + 1) (data_end (before ++ shape_of (definition.Function f) ∷ [])) _ (omega (arith, end)) above) h
    by (definition.Simple x) h above end = h
    by (definition.Vector v) h above end = h

pub ascend : (ds : List Definition) → Ascend (functions_of ds)
ascend ds = ascend_after [] ds

-- a function as it was loaded is one of these, with its code
abbrev pub IsPlaced : List Placed → Loaded → Type 0
IsPlaced fs g = (k : ℕ) × (k < length fs) × ((d : Placed) → ((get_or fs k d).strings ≡ g.strings) × ((get_or fs k d).function.code ≡ g.code))

placed_more : (f : Placed) (fs : List Placed) (g : Loaded) → IsPlaced fs g → IsPlaced (f ∷ fs) g
placed_more f fs g h = let lt = h.1 in (suc h.0, omega (arith, lt), h.2)

all_placed : (ps : List (Spot × Definition)) → All (IsPlaced (filter_map placed_function ps)) (filter_map loaded_at ps)
all_placed [] = All-nil (IsPlaced [])
all_placed ((s, definition.Function f) ∷ ps) =
    let fs = filter_map placed_function ps in
    let here : Placed = record { strings = s.strings; function = f } in
    All-cons (IsPlaced (here ∷ fs)) _ _ (0, omega arith, λ d. (refl, refl)) (All-weaker (IsPlaced fs) (IsPlaced (here ∷ fs)) (placed_more here fs) (filter_map loaded_at ps) (all_placed ps))
all_placed ((s, definition.Simple x) ∷ ps) = all_placed ps
all_placed ((s, definition.Vector v) ∷ ps) = all_placed ps

pub is_placed : (ds : List Definition) (g : Loaded) → Contains (filter_map loaded_at (zip (spots (map shape_of ds)) ds)) g → IsPlaced (functions_of ds) g
is_placed ds g c = let ps = zip (spots (map shape_of ds)) ds in All-contains (IsPlaced (filter_map placed_function ps)) (filter_map loaded_at ps) g (all_placed ps) c
