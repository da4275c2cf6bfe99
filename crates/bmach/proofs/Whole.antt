-- Definitions added one after another are those of the whole list.
use Rattle.std.proofs.Common.{◌≡◌, ℕ, suc, ◌+◌, ◌-◌, ◌≤◌, List, [], ◌∷◌, ◌++◌, length, map, replicate, max, refl, sym, ap, ◌∙◌, arith, append_assoc, append-nil, length-append, Option, Some, None}
use Rattle.std.specs.Prelude.{zip, sum_by, flat_map, filter_map, fold}
use Rattle.std.specs.List.{cons_option}
use Rattle.std.proofs.lemmas.List.{map-append, length-map, length-replicate}
use Rattle.std.proofs.lemmas.List.Sums.{sum_by-append, sum_by-le-sum_by}
use Rattle.std.proofs.lemmas.List.Elements.{filter_map-append}
use Rattle.std.proofs.lemmas.Grind.{flat_map-append}
use Rattle.blang.specs.declared.code.Ival.{Ival}
use Rattle.blang.specs.declared.code.Definition.{Definition}
use Rattle.blang.specs.declared.code.Definition.TheVariants as definition
use Rattle.blang.specs.Layout.{DefinitionKind, Function, Simple, Vector, Shape, shape_of, Spot, size_of, words_before_strings, functions_in, labels_in, data_end, function_count, label_count, spot_after, spots_after, spots, definition_words, words_of_kind, value_word, padded}
use Rattle.blang.specs.Machine.{Loaded, loaded_at}
use Rattle.bmach.specs.Resolved.{resolved_function}
use Rattle.bmach.specs.Loading.{Part, first_part, next_spot, loaded_functions, with_definition}
use Rattle.bmach.proofs.Spots.{spots_after-push, length-spots_after, zip-push}

length-padded : (n : ℕ) (ws : List ℕ) → length (padded n ws) ≡ max n (length ws)
length-padded n ws = omega (arith, length-append ws (replicate (n - length ws) 0), length-replicate {A = ℕ} (n - length ws) 0)

length-words_of_kind : (k : DefinitionKind) (s : Spot) (values : List ℕ) (ivals : List Ival) → length values ≡ length ivals → length (words_of_kind k s values) ≡ words_before_strings k ivals
length-words_of_kind (Function labels) s values ivals e = refl
length-words_of_kind Simple s values ivals e = length-padded 1 values ∙ ap (max 1) e
length-words_of_kind (Vector n) s values ivals e = omega (arith, length-padded n values)

pub length-definition_words : (address_of : List ℕ → Option ℕ) (s : Spot) (d : Shape) → length (definition_words address_of s d) ≡ size_of d
length-definition_words address_of s d =
    length-append (words_of_kind d.kind s (map (value_word address_of s.strings) d.values)) d.strings
    ∙ ap (λ n. n + length d.strings) (length-words_of_kind d.kind s _ d.values (length-map d.values (value_word address_of s.strings)))

module _ (address_of : List ℕ → Option ℕ) where
  -- the words of definitions after others
  abbrev pub words_after : List Shape → List Shape → List ℕ
  words_after before ds = flat_map (λ p. definition_words address_of p.0 p.1) (zip (spots_after before ds) ds)

  pub length-words_after : (before ds : List Shape) → length (words_after before ds) ≡ sum_by size_of ds
  length-words_after before [] = refl
  length-words_after before (d ∷ ds) =
      omega (arith, length-append (definition_words address_of (spot_after before d) d) (words_after (before ++ d ∷ []) ds), length-definition_words address_of (spot_after before d) d, length-words_after (before ++ d ∷ []) ds, sum_by-append size_of (d ∷ []) ds)

  -- the functions of definitions after others
  abbrev pub functions_after : List Shape → List Definition → List Loaded
  functions_after before ds = filter_map loaded_at (zip (spots_after before (map shape_of ds)) ds)

  -- what was loaded with these definitions
  abbrev pub whole : List Definition → Part
  whole ds =
      let shapes = map shape_of ds in
      record {
        words = first_part.words ++ words_after [] shapes;
        functions = map (resolved_function address_of) (functions_after [] ds);
        first_label = 1 + label_count shapes;
      }

length-functions_after : (address_of : List ℕ → Option ℕ) (before : List Shape) (ds : List Definition) → length (functions_after address_of before ds) ≡ function_count (map shape_of ds)
length-functions_after address_of before [] = refl
length-functions_after address_of before (definition.Function f ∷ ds) =
    ap suc (length-functions_after address_of (before ++ shape_of (definition.Function f) ∷ []) ds)
    ∙ omega (arith, sum_by-append (λ (d : Shape). functions_in d.kind) (shape_of (definition.Function f) ∷ []) (map shape_of ds))
length-functions_after address_of before (definition.Simple x ∷ ds) =
    length-functions_after address_of (before ++ shape_of (definition.Simple x) ∷ []) ds
length-functions_after address_of before (definition.Vector v ∷ ds) =
    length-functions_after address_of (before ++ shape_of (definition.Vector v) ∷ []) ds

as_list : (address_of : List ℕ → Option ℕ) (o : Option Loaded) → map (resolved_function address_of) (cons_option o []) ≡ loaded_functions address_of o
as_list address_of (Some f) = refl
as_list address_of None = refl

module _ (address_of : List ℕ → Option ℕ) where
  pub length-words : (ds : List Definition) → length (whole address_of ds).words ≡ data_end (map shape_of ds)
  length-words ds =
      length-append first_part.words (words_after address_of [] (map shape_of ds))
      ∙ ap (λ n. 7 + n) (length-words_after address_of [] (map shape_of ds))

  pub length-functions : (ds : List Definition) → length (whole address_of ds).functions ≡ function_count (map shape_of ds)
  length-functions ds =
      length-map (functions_after address_of [] ds) (resolved_function address_of) ∙ length-functions_after address_of [] ds

  spot_is : (ds : List Definition) (d : Definition) → next_spot (whole address_of ds) (shape_of d) ≡ spot_after (map shape_of ds) (shape_of d)
  spot_is ds d = λ i. record {
    address = length-words ds i;
    strings = length-words ds i + words_before_strings (shape_of d).kind (shape_of d).values;
    value = 7 + length-functions ds i;
    first_label = 1 + label_count (map shape_of ds);
  }

  words_push : (ds : List Shape) (d : Shape) → words_after address_of [] (ds ++ d ∷ []) ≡ words_after address_of [] ds ++ definition_words address_of (spot_after ds d) d
  words_push ds d =
      let words : Spot × Shape → List ℕ = λ p. definition_words address_of p.0 p.1 in
      ap (λ ss. flat_map words (zip ss (ds ++ d ∷ []))) (spots_after-push [] ds d)
      ∙ ap (flat_map words) (zip-push (spots ds) ds (spot_after ds d) d (length-spots_after [] ds))
      ∙ flat_map-append words (zip (spots ds) ds) ((spot_after ds d, d) ∷ [])
      ∙ ap (λ ws. words_after address_of [] ds ++ ws) (append-nil (definition_words address_of (spot_after ds d) d))

  functions_push : (ds : List Definition) (d : Definition) → map (resolved_function address_of) (functions_after address_of [] (ds ++ d ∷ [])) ≡ map (resolved_function address_of) (functions_after address_of [] ds) ++ loaded_functions address_of (loaded_at (spot_after (map shape_of ds) (shape_of d), d))
  functions_push ds d =
      let shapes = map shape_of ds in
      let s = spot_after shapes (shape_of d) in
      let resolve = resolved_function address_of in
      ap (λ es. map resolve (filter_map loaded_at (zip (spots es) (ds ++ d ∷ [])))) (map-append shape_of ds (d ∷ []))
      ∙ ap (λ ss. map resolve (filter_map loaded_at (zip ss (ds ++ d ∷ [])))) (spots_after-push [] shapes (shape_of d))
      ∙ ap (λ ps. map resolve (filter_map loaded_at ps)) (zip-push (spots shapes) ds s d (length-spots_after [] shapes ∙ length-map ds shape_of))
      ∙ ap (map resolve) (filter_map-append loaded_at (zip (spots shapes) ds) ((s, d) ∷ []))
      ∙ map-append resolve (functions_after address_of [] ds) (filter_map loaded_at ((s, d) ∷ []))
      ∙ ap (λ fs. map resolve (functions_after address_of [] ds) ++ fs) (as_list address_of (loaded_at (s, d)))

  one_more : (ds : List Definition) (d : Definition) → with_definition address_of (whole address_of ds) d ≡ whole address_of (ds ++ d ∷ [])
  one_more ds d =
      let shapes = map shape_of ds in
      let words : (whole address_of ds).words ++ definition_words address_of (next_spot (whole address_of ds) (shape_of d)) (shape_of d) ≡ (whole address_of (ds ++ d ∷ [])).words =
      ap (λ s. (whole address_of ds).words ++ definition_words address_of s (shape_of d)) (spot_is ds d)
      ∙ append_assoc first_part.words (words_after address_of [] shapes) (definition_words address_of (spot_after shapes (shape_of d)) (shape_of d))
      ∙ ap (λ ws. first_part.words ++ ws) (sym (words_push shapes (shape_of d)))
      ∙ ap (λ es. first_part.words ++ words_after address_of [] es) (sym (map-append shape_of ds (d ∷ []))) in
      let functions : (whole address_of ds).functions ++ loaded_functions address_of (loaded_at (next_spot (whole address_of ds) (shape_of d), d)) ≡ (whole address_of (ds ++ d ∷ [])).functions =
      ap (λ s. (whole address_of ds).functions ++ loaded_functions address_of (loaded_at (s, d))) (spot_is ds d) ∙ sym (functions_push ds d) in
      let labels : 1 + label_count shapes + labels_in (shape_of d).kind ≡ 1 + label_count (map shape_of (ds ++ d ∷ [])) =
      let e : label_count (map shape_of (ds ++ d ∷ [])) ≡ label_count (shapes ++ shape_of d ∷ []) = ap label_count (map-append shape_of ds (d ∷ [])) in
      omega (arith, e, sum_by-append (λ (s : Shape). labels_in s.kind) shapes (shape_of d ∷ [])) in
      λ i. record { words = words i; functions = functions i; first_label = labels i }

  all_more : (before ds : List Definition) → fold (with_definition address_of) (whole address_of before) ds ≡ whole address_of (before ++ ds)
  all_more before [] = ap (whole address_of) (sym (append-nil before))
  all_more before (d ∷ ds) =
      ap (λ p. fold (with_definition address_of) p ds) (one_more before d)
      ∙ all_more (before ++ d ∷ []) ds
      ∙ ap (whole address_of) (append_assoc before (d ∷ []) ds)

  pub loaded_all : (ds : List Definition) → fold (with_definition address_of) first_part ds ≡ whole address_of ds
  loaded_all ds = all_more [] ds

-- each function has a word of its own
functions_small : (k : DefinitionKind) (values : List Ival) → functions_in k ≤ words_before_strings k values
functions_small (Function labels) values = omega arith
functions_small Simple values = omega arith
functions_small (Vector n) values = omega arith

pub functions_within : (ds : List Shape) → 7 + function_count ds ≤ data_end ds
functions_within ds =
    omega (arith, sum_by-le-sum_by (λ (d : Shape). functions_in d.kind) size_of ds (λ d. let h : functions_in d.kind ≤ words_before_strings d.kind d.values = functions_small d.kind d.values in omega arith))
