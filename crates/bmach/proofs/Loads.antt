-- What a load gives.
use Rattle.std.proofs.Common.{◌≡◌, ℕ, Bool, true, false, List, [], ◌∷◌, ◌++◌, length, map, sym, ap, ◌∙◌, subst, arith, Option, Some, None}
use Rattle.std.specs.Prelude.{flat_map, option_map, slice_get, not, ◌||◌, nat_lt, zip}
use Rattle.std.specs.List.{list_any}
use Rattle.std.proofs.lemmas.Option.{slice_get-map}
use Rattle.std.proofs.lemmas.Bool.{not-true, not-false}
use Rattle.blang.specs.declared.code.Definition.{Definition}
use Rattle.blang.specs.declared.run.LoadFault.{LoadFault}
use Rattle.blang.specs.declared.run.LoadFault.TheVariants as fault
use Rattle.blang.specs.Layout.{store_words, shape_of, defined_names, names_in, duplicate_after, data_end, label_count, first_undefined, addresses, address_in, Addresses, library_addresses, first_some, some_if, is_main, load_fault, spots, definition_words}
use Rattle.bmach.specs.Resolved.{resolved_function, IsLoadedFrom}
use Rattle.bmach.specs.Loading.{Part, IsFault, fits_store, first_part, main_from, undefined_fault}
use Rattle.bmach.proofs.Whole.{whole, functions_after, length-words}
use Rattle.bmach.proofs.Faults.{first_fault, find_main}

-- the fault of a load by what the four kinds look at
abbrev fault_of : Option (List ℕ) → (too_large : Bool) → Option (List ℕ) → (has_main : Bool) → Option LoadFault
fault_of duplicate too_large undefined has_main =
    first_some (option_map fault.Duplicate duplicate
    ∷ some_if too_large fault.TooLarge
    ∷ option_map fault.Undefined undefined
    ∷ some_if (not has_main) fault.NoMain
    ∷ [])

module _ (ds : List Definition) where
  pub duplicate_first : (f : LoadFault) → IsFault f (option_map fault.Duplicate (duplicate_after [] (defined_names (map shape_of ds)))) → IsFault f (load_fault ds)
  duplicate_first f h = first_fault f _ _ h

  module _ (unique : duplicate_after [] (defined_names (map shape_of ds)) ≡ None) where
    pub too_large_next : fits_store (map shape_of ds) ≡ false → load_fault ds ≡ Some fault.TooLarge
    too_large_next large =
        let e = not-false (nat_lt store_words (data_end (map shape_of ds)) || nat_lt 65535 (label_count (map shape_of ds))) large in
        λ i. fault_of (unique i) (e i) (first_undefined (address_in (addresses (map shape_of ds))) (flat_map names_in ds)) (list_any is_main ds)

    module _ (fit : fits_store (map shape_of ds) ≡ true) where
      small : (nat_lt store_words (data_end (map shape_of ds)) || nat_lt 65535 (label_count (map shape_of ds))) ≡ false
      small = not-true (nat_lt store_words (data_end (map shape_of ds)) || nat_lt 65535 (label_count (map shape_of ds))) fit

      pub undefined_next : (f : LoadFault) → IsFault f (undefined_fault (address_in (addresses (map shape_of ds))) (flat_map names_in ds)) → IsFault f (load_fault ds)
      undefined_next f h =
          let o = first_undefined (address_in (addresses (map shape_of ds))) (flat_map names_in ds) in
          let e : fault_of None false o (list_any is_main ds) ≡ load_fault ds = λ i. fault_of (sym unique i) (sym small i) o (list_any is_main ds) in
          subst (IsFault f) e (first_fault f (option_map fault.Undefined o) _ h)

      pub main_last : (has_main : Bool) → list_any is_main ds ≡ has_main → first_undefined (address_in (addresses (map shape_of ds))) (flat_map names_in ds) ≡ None → load_fault ds ≡ some_if (not has_main) fault.NoMain
      main_last true has_main defined = λ i. fault_of (unique i) (small i) (defined i) (has_main i)
      main_last false has_main defined = λ i. fault_of (unique i) (small i) (defined i) (has_main i)

-- what is kept of the definitions
pub is_loaded : (ds : List Definition) (entries : Addresses) (part : Part) (k : ℕ) → ((x : List ℕ) → address_in (entries ++ library_addresses) x ≡ address_in (addresses (map shape_of ds)) x) → part ≡ whole (address_in (entries ++ library_addresses)) ds → main_from 0 ds ≡ Some k → IsLoadedFrom ds (record { functions = part.functions; main = slice_get part.functions k; words = part.words; data_end = length part.words; addresses = entries ++ library_addresses })
is_loaded ds entries part k same is main =
    let look_up : List ℕ → Option ℕ = address_in (entries ++ library_addresses) in
    let names : look_up ≡ address_in (addresses (map shape_of ds)) = λ i x. same x i in
    let fs = functions_after look_up [] ds in
    let resolve = resolved_function (address_in (addresses (map shape_of ds))) in
    let functions : part.functions ≡ map resolve fs =
    ap (λ (p : Part). p.functions) is ∙ ap (λ a. map (resolved_function a) fs) names in
    let found = find_main look_up [] ds 0 k main in
    let place : found.0 ≡ k = omega (arith, found.1) in
    record {
      functions = functions;
      main = ap (λ gs. slice_get gs k) functions ∙ slice_get-map resolve fs k ∙ ap (λ j. option_map resolve (slice_get fs j)) (sym place) ∙ ap (option_map resolve) found.2;
      words = ap (λ (p : Part). p.words) is ∙ ap (λ a. first_part.words ++ flat_map (λ p. definition_words a p.0 p.1) (zip (spots (map shape_of ds)) (map shape_of ds))) names;
      data_end = ap (λ (p : Part). length p.words) is ∙ length-words look_up ds;
      addresses = same;
    }
