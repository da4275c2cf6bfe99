-- The functions of a program, one after another.
use Rattle.std.proofs.Common.{◌≡◌, ◌∙◌, ℕ, ◌+◌, ◌<◌, ◌≤◌, Bool, true, false, ◌||◌, List, [], ◌∷◌, ◌++◌, Option, Some, None, ap, append-nil, arith, get_or, length, map, refl, sym, take, nat_lt}
use Rattle.std.specs.Prelude.{filter_map, zip}
use Rattle.std.proofs.lemmas.List.{length-map, map-append, take-map, take_more}
use Rattle.std.proofs.lemmas.List.Elements.{filter_map-append}
use Rattle.std.proofs.lemmas.Bool.Decides.{nat_tests}
use Rattle.std.proofs.lemmas.List.Sums.{sum_by-take-le}
use Rattle.blang.specs.declared.code.Definition.{Definition}
use Rattle.blang.specs.CodeParts.{Function}
use Rattle.blang.specs.declared.code.Definition.TheVariants as definition
use Rattle.blang.specs.Layout.{Spot, data_end, label_count, load_fault, first_some, shape_of, size_of, some_if, spot_after, spots}
use Rattle.bmach.proofs.Spots.{data_end-push, length-spots_after, spots_after-push, zip-push}
use Rattle.btools.specs.Functions.{Placed, functions_of, placed_function}

pub one_more : (ds : List Definition) (d : Definition) → functions_of (ds ++ d ∷ []) ≡ functions_of ds ++ filter_map placed_function ((spot_after (map shape_of ds) (shape_of d), d) ∷ [])
one_more ds d =
    let shapes = map shape_of ds in
    let s = spot_after shapes (shape_of d) in
    ap (λ es. filter_map placed_function (zip (spots es) (ds ++ d ∷ []))) (map-append shape_of ds (d ∷ []))
    ∙ ap (λ ss. filter_map placed_function (zip ss (ds ++ d ∷ []))) (spots_after-push [] shapes (shape_of d))
    ∙ ap (filter_map placed_function) (zip-push (spots shapes) ds s d (length-spots_after [] shapes ∙ length-map ds shape_of))
    ∙ filter_map-append placed_function (zip (spots shapes) ds) ((s, d) ∷ [])

pub ends_after : (ds : List Definition) (d : Definition) → data_end (map shape_of (ds ++ d ∷ [])) ≡ data_end (map shape_of ds) + size_of (shape_of d)
ends_after ds d = ap data_end (map-append shape_of ds (d ∷ [])) ∙ data_end-push (map shape_of ds) (shape_of d)

-- the words of the first definitions
pub ends_within : (ds : List Definition) (i : ℕ) → data_end (map shape_of (take i ds)) ≤ data_end (map shape_of ds)
ends_within ds i = omega (arith, ap data_end (sym (take-map shape_of i ds)), sum_by-take-le size_of (map shape_of ds) i)

second_none : {A : Type 0} (a : Option A) (b : Bool) (x : A) (rest : List (Option A)) → first_some (a ∷ (some_if b x ∷ rest)) ≡ None → b ≡ false
second_none (Some y) b x rest h = cc
second_none None true x rest h = cc
second_none None false x rest h = refl

not_more : (end labels : ℕ) → (nat_lt 65536 end || nat_lt 65535 labels) ≡ false → end ≤ 65536
not_more end labels h = grind (arith, nat_tests)

-- the words of definitions that load
pub data_fit : (ds : List Definition) → load_fault ds ≡ None → data_end (map shape_of ds) ≤ 65536
data_fit ds h = not_more (data_end (map shape_of ds)) (label_count (map shape_of ds)) (second_none _ _ _ _ h)

module _ (ds : List Definition) (i : ℕ) (d : Definition) (lt : i < length ds) (is : d ≡ get_or ds i d) where
  pub taken : take (i + 1) ds ≡ take i ds ++ d ∷ []
  taken = take_more ds i d lt ∙ ap (λ x. take i ds ++ x ∷ []) (sym is)

  -- where the next definition lies
  pub next_end : (address size : ℕ) → address ≡ data_end (map shape_of (take i ds)) → size ≡ size_of (shape_of d) → address + size ≡ data_end (map shape_of (take (i + 1) ds))
  next_end address size here long =
      let e : data_end (map shape_of (take (i + 1) ds)) ≡ data_end (map shape_of (take i ds)) + size_of (shape_of d) = ap (λ xs. data_end (map shape_of xs)) taken ∙ ends_after (take i ds) d in
      omega (arith, e)

  -- with a function more, or with another definition
  pub with_function : (f : Function) (old new : List Placed) (address : ℕ) → d ≡ definition.Function f → address ≡ data_end (map shape_of (take i ds)) → old ≡ functions_of (take i ds)
      → new ≡ old ++ record { strings = address + 1; function = f } ∷ [] → new ≡ functions_of (take (i + 1) ds)
  with_function f old new address it here before more =
      more ∙ (λ j. before j ++ record { strings = here j + 1; function = f } ∷ [])
      ∙ ap (λ x. functions_of (take i ds) ++ filter_map placed_function ((spot_after (map shape_of (take i ds)) (shape_of x), x) ∷ [])) (sym it)
      ∙ sym (ap functions_of taken ∙ one_more (take i ds) d)

  others : (x : Definition) (s : Spot) → ((f : Function) → x ≡ definition.Function f → ⊥) → filter_map placed_function ((s, x) ∷ []) ≡ []
  others (definition.Function f) s other = absurd (other f refl)
  others (definition.Simple x) s other = refl
  others (definition.Vector x) s other = refl

  pub with_other : (old : List Placed) → ((f : Function) → d ≡ definition.Function f → ⊥) → old ≡ functions_of (take i ds) → old ≡ functions_of (take (i + 1) ds)
  with_other old other before =
      before ∙ sym (append-nil (functions_of (take i ds))) ∙ ap (λ x. functions_of (take i ds) ++ x) (sym (others d (spot_after (map shape_of (take i ds)) (shape_of d)) other))
      ∙ sym (ap functions_of taken ∙ one_more (take i ds) d)
