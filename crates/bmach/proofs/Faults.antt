-- Which fault a load has, and what is kept where it has none.
use Rattle.std.proofs.Common.{◌≡◌, ℕ, suc, ◌+◌, Bool, true, false, cond, List, [], ◌∷◌, ◌++◌, length, get_or, drop, add-one, ◌<◌, map, refl, sym, ap, ◌∙◌, arith, Option, Some, None}
use Rattle.std.specs.Prelude.{zip, find, option_and_then, slice_get, ◌||◌}
use Rattle.std.specs.List.{list_any}
use Rattle.std.proofs.Math.Seq.{drop-cons}
use Rattle.blang.specs.declared.code.Definition.{Definition}
use Rattle.blang.specs.declared.code.Definition.TheVariants as definition
use Rattle.blang.specs.declared.run.LoadFault.{LoadFault}
use Rattle.blang.specs.declared.run.LoadFault.TheVariants as fault
use Rattle.blang.specs.Layout.{Shape, shape_of, spot_after, spots_after, first_some, is_main, functions_in}
use Rattle.blang.specs.Machine.{loaded_at}
use Rattle.bmach.specs.Loading.{IsFault, main_from}
use Rattle.bmach.proofs.Whole.{functions_after}

-- a fault of the first kind, and of a later one where the first kind has none
pub first_fault : (f : LoadFault) (o : Option LoadFault) (later : List (Option LoadFault)) → IsFault f o → IsFault f (first_some (o ∷ later))
first_fault fault.Memory o later h = tt
first_fault f (Some g) later h = h
first_fault f None later h = cc

-- which of the functions is main
pub find_main : (known : List ℕ → Option ℕ) (before : List Shape) (ds : List Definition) (n k : ℕ) → main_from n ds ≡ Some k → (place : ℕ) × (k ≡ n + place) × (slice_get (functions_after known before ds) place ≡ option_and_then loaded_at (find (λ p. is_main p.1) (zip (spots_after before (map shape_of ds)) ds)))
find_main known before [] n k h = cc
find_main known before (definition.Function f ∷ ds) n k h =
    let d = definition.Function f in
    let s = spot_after before (shape_of d) in
    let later = find (λ p. is_main p.1) (zip (spots_after (before ++ shape_of d ∷ []) (map shape_of ds)) ds) in
    elim (is_main d) as (λ b. cond b (Some n) (main_from (n + 1) ds) ≡ Some k → (place : ℕ) × (k ≡ n + place) × (slice_get (functions_after known before (d ∷ ds)) place ≡ option_and_then loaded_at (cond b (Some (s, d)) later))) [
      | true ↦ λ e. let same : k ≡ n = cc in (0, omega (arith, same), refl)
      | false ↦ λ e. let r = find_main known (before ++ shape_of d ∷ []) ds (n + 1) k e in (suc r.0, omega (arith, r.1), r.2)
    ] h
find_main known before (definition.Simple x ∷ ds) n k h =
    let r = find_main known (before ++ shape_of (definition.Simple x) ∷ []) ds (n + 0) k h in
    (r.0, omega (arith, r.1), r.2)
find_main known before (definition.Vector v ∷ ds) n k h =
    let r = find_main known (before ++ shape_of (definition.Vector v) ∷ []) ds (n + 0) k h in
    (r.0, omega (arith, r.1), r.2)

pub main_step : (ds : List Definition) (i n : ℕ) (d : Definition) (b : Bool) → i < length ds → d ≡ get_or ds i d → is_main d ≡ b → main_from n (drop i ds) ≡ cond b (Some n) (main_from (n + functions_in (shape_of d).kind) (drop (i + 1) ds))
main_step ds i n d b lt is e =
    let first : drop i ds ≡ d ∷ drop (i + 1) ds =
    drop-cons ds i d lt ∙ ap (λ x. x ∷ drop (suc i) ds) (sym is) ∙ ap (λ j. d ∷ drop j ds) (sym (add-one i)) in
    ap (main_from n) first ∙ ap (λ c. cond c (Some n) (main_from (n + functions_in (shape_of d).kind) (drop (i + 1) ds))) e

pub no_main : (ds : List Definition) (n : ℕ) → main_from n ds ≡ None → list_any is_main ds ≡ false
no_main [] n h = refl
no_main (d ∷ ds) n h =
    elim (is_main d) as (λ b. cond b (Some n) (main_from (n + functions_in (shape_of d).kind) ds) ≡ None → (b || list_any is_main ds) ≡ false) [
      | true ↦ λ e. cc
      | false ↦ λ e. no_main ds (n + functions_in (shape_of d).kind) e
    ] h

pub some_main : (ds : List Definition) (n k : ℕ) → main_from n ds ≡ Some k → list_any is_main ds ≡ true
some_main [] n k h = cc
some_main (d ∷ ds) n k h =
    elim (is_main d) as (λ b. cond b (Some n) (main_from (n + functions_in (shape_of d).kind) ds) ≡ Some k → (b || list_any is_main ds) ≡ true) [
      | true ↦ λ e. refl
      | false ↦ λ e. some_main ds (n + functions_in (shape_of d).kind) k e
    ] h
