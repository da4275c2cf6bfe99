-- The code of a program lies as the program does.
use Rattle.std.proofs.Common.{◌≡◌, List, [], ◌∷◌, ◌++◌, Option, Some, None, Bool, true, false, cond, refl, ap, ◌∙◌, map}
use Rattle.std.specs.Prelude.{zip, find, filter_map, not, nat_lt, ◌||◌}
use Rattle.std.specs.List.{cons_option, flat_map, list_any}
use Rattle.std.specs.Option.{option_map, option_and_then}
use Rattle.blang.specs.declared.code.Definition as coded
use Rattle.blang.specs.Trees.{Definition}
use Rattle.blang.specs.Code.{code_of}
use Rattle.blang.specs.declared.run.LoadFault.{LoadFault}
use Rattle.blang.specs.declared.run.LoadFault.TheVariants as fault
use Rattle.blang.specs.Layout.{store_words, Shape, shape_of, is_main, defined_names, names_in, Spot, spot_after, spots_after, spots, data_end, first_words, addresses, first_some, some_if, duplicate_after, label_count, address_in, first_undefined, load_fault}
use Rattle.blang.specs.Machine.{Loaded, Image, loaded_at, image_of}
use Rattle.blang.specs.Value.{SourceFunction}
use Rattle.blang.specs.Meaning.{function_at, program_of}
use Rattle.bmean.proofs.Values.{loaded_code, image_code}

-- definitions lie as their code does
abbrev lies : Definition → Shape
lies d = shape_of (code_of d)

same_shapes : (ds : List Definition) → map shape_of (map code_of ds) ≡ map lies ds
same_shapes [] = refl
same_shapes (d ∷ ds) = ap (λ l. lies d ∷ l) (same_shapes ds)

loaded_at_is : (s : Spot) (d : Definition) → loaded_at (s, code_of d) ≡ option_map loaded_code (function_at (s, d))
loaded_at_is s (Definition.Simple w values) = refl
loaded_at_is s (Definition.Vector w size values) = refl
loaded_at_is s (Definition.Function w parameters body) = refl

cons_option-map : {A B : Type 0} (f : A → B) (o : Option A) (xs : List A) → cons_option (option_map f o) (map f xs) ≡ map f (cons_option o xs)
cons_option-map f None xs = refl
cons_option-map f (Some x) xs = refl

functions_same : (ss : List Spot) (ds : List Definition) → filter_map loaded_at (zip ss (map code_of ds)) ≡ map loaded_code (filter_map function_at (zip ss ds))
functions_same [] ds = refl
functions_same (s ∷ ss) [] = refl
functions_same (s ∷ ss) (d ∷ ds) =
    ap (λ o. cons_option o (filter_map loaded_at (zip ss (map code_of ds)))) (loaded_at_is s d)
    ∙ ap (cons_option (option_map loaded_code (function_at (s, d)))) (functions_same ss ds)
    ∙ cons_option-map loaded_code (function_at (s, d)) (filter_map function_at (zip ss ds))

abbrev CodeAt : Type 0
CodeAt = Spot × coded.Definition

abbrev TreeAt : Type 0
TreeAt = Spot × Definition

main_if : (b : Bool) (s : Spot) (d : Definition) (o : Option CodeAt) (o' : Option TreeAt) → option_and_then loaded_at o ≡ option_map loaded_code (option_and_then function_at o') → option_and_then loaded_at (cond b (Some (s, code_of d)) o) ≡ option_map loaded_code (option_and_then function_at (cond b (Some (s, d)) o'))
main_if true s d o o' e = loaded_at_is s d
main_if false s d o o' e = e

main_same : (ss : List Spot) (ds : List Definition) → option_and_then loaded_at (find (λ p. is_main p.1) (zip ss (map code_of ds))) ≡ option_map loaded_code (option_and_then function_at (find (λ p. is_main (code_of p.1)) (zip ss ds)))
main_same [] ds = refl
main_same (s ∷ ss) [] = refl
main_same (s ∷ ss) (d ∷ ds) =
    main_if (is_main (code_of d)) s d (find (λ p. is_main p.1) (zip ss (map code_of ds))) (find (λ p. is_main (code_of p.1)) (zip ss ds)) (main_same ss ds)

pub image_is : (ds : List Definition) → image_of (map code_of ds) ≡ image_code (program_of ds)
image_is ds =
    let shapes = map lies ds in
    let image : List Loaded → Option Loaded → Image = λ functions main. record { functions = functions; main = main; words = first_words shapes; data_end = data_end shapes; addresses = addresses shapes } in
    ap (λ (shapes : List Shape). record {
      functions = filter_map loaded_at (zip (spots shapes) (map code_of ds));
      main = option_and_then loaded_at (find (λ p. is_main p.1) (zip (spots shapes) (map code_of ds)));
      words = first_words shapes;
      data_end = data_end shapes;
      addresses = addresses shapes;
    }) (same_shapes ds)
    ∙ ap (λ functions. image functions (option_and_then loaded_at (find (λ p. is_main p.1) (zip (spots shapes) (map code_of ds))))) (functions_same (spots shapes) ds)
    ∙ ap (image (map loaded_code (filter_map function_at (zip (spots shapes) ds)))) (main_same (spots shapes) ds)

last_of_four : (a b c d : Option LoadFault) → first_some (a ∷ b ∷ c ∷ d ∷ []) ≡ None → first_some (d ∷ []) ≡ None
last_of_four (Some x) b c d e = cc
last_of_four None (Some x) c d e = cc
last_of_four None None (Some x) d e = cc
last_of_four None None None d e = e

passed_test : (b : Bool) → first_some (some_if (not b) fault.NoMain ∷ []) ≡ None → b ≡ true
passed_test true e = refl
passed_test false e = cc

some_main : (ds : List Definition) → load_fault (map code_of ds) ≡ None → list_any is_main (map code_of ds) ≡ true
some_main ds e =
    let codes = map code_of ds in
    let shapes = map shape_of codes in
    passed_test (list_any is_main codes) (last_of_four (option_map fault.Duplicate (duplicate_after [] (defined_names shapes))) (some_if (nat_lt store_words (data_end shapes) || nat_lt 65535 (label_count shapes)) fault.TooLarge) (option_map fault.Undefined (first_undefined (address_in (addresses shapes)) (flat_map names_in codes))) (some_if (not (list_any is_main codes)) fault.NoMain) e)

main_is_function : (s : Spot) (d : Definition) → is_main (code_of d) ≡ true → (f : SourceFunction) × (function_at (s, d) ≡ Some f)
main_is_function s (Definition.Simple w values) e = cc
main_is_function s (Definition.Vector w size values) e = cc
main_is_function s (Definition.Function w parameters body) e = (_, refl)

found_if : (b : Bool) (s : Spot) (d : Definition) (o : Option TreeAt) (c : Bool) → is_main (code_of d) ≡ b → (c ≡ true → (f : SourceFunction) × (option_and_then function_at o ≡ Some f)) → b || c ≡ true → (f : SourceFunction) × (option_and_then function_at (cond b (Some (s, d)) o) ≡ Some f)
found_if true s d o c m h e = main_is_function s d m
found_if false s d o c m h e = h e

main_found : (before : List Shape) (ds : List Definition) → list_any is_main (map code_of ds) ≡ true → (f : SourceFunction) × (option_and_then function_at (find (λ p. is_main (code_of p.1)) (zip (spots_after before (map lies ds)) ds)) ≡ Some f)
main_found before [] e = cc
main_found before (d ∷ ds) e =
    let following = before ++ lies d ∷ [] in
    found_if (is_main (code_of d)) (spot_after before (lies d)) d (find (λ p. is_main (code_of p.1)) (zip (spots_after following (map lies ds)) ds)) (list_any is_main (map code_of ds)) refl (main_found following ds) e

pub has_main : (ds : List Definition) → load_fault (map code_of ds) ≡ None → (f : SourceFunction) × ((program_of ds).main ≡ Some f)
has_main ds e = main_found [] ds (some_main ds e)
