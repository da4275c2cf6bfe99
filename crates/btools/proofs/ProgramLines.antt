-- The lines of the functions of a program, one after another.
use Rattle.std.proofs.Common.{◌≡◌, ◌∙◌, ℕ, suc, ◌+◌, ◌<◌, List, [], ◌∷◌, ◌++◌, ap, append-nil, drop, get_or, length, map, refl, sym, take}
use Rattle.std.specs.Prelude.{filter_map, zip}
use Rattle.std.proofs.lemmas.List.{length-map, map-append}
use Rattle.std.proofs.lemmas.List.Elements.{filter_map-append}
use Rattle.blang.specs.CodeParts.{Function}
use Rattle.blang.specs.Layout.{Spot, data_end, shape_of, spot_after, spots}
use Rattle.blang.specs.Lines.{size_of}
use Rattle.blang.specs.declared.code.Definition.{Definition}
use Rattle.blang.specs.declared.code.Definition.TheVariants as definition
use Rattle.bmach.proofs.Spots.{length-spots_after, spots_after-push, zip-push}
use Rattle.btools.specs.ProgramLines.{FunctionLines, lined_function, lined_functions, with_lines}
use Rattle.btools.proofs.Functions.{taken}

-- the lines of what comes after definitions
abbrev pub lines_left : List Definition → List ℕ → List ℕ
lines_left [] lines = lines
lines_left (d ∷ ds) lines = lines_left ds (drop (size_of d) lines)

left_one_more : (ds : List Definition) (d : Definition) (lines : List ℕ) → lines_left (ds ++ d ∷ []) lines ≡ drop (size_of d) (lines_left ds lines)
left_one_more [] d lines = refl
left_one_more (x ∷ ds) d lines = left_one_more ds d (drop (size_of x) lines)

with_one_more : (ds : List Definition) (d : Definition) (lines : List ℕ) → with_lines (ds ++ d ∷ []) lines ≡ with_lines ds lines ++ (d, take (size_of d) (lines_left ds lines)) ∷ []
with_one_more [] d lines = refl
with_one_more (x ∷ ds) d lines = ap (λ l. (x, take (size_of x) lines) ∷ l) (with_one_more ds d (drop (size_of x) lines))

pub length-with_lines : (ds : List Definition) (lines : List ℕ) → length (with_lines ds lines) ≡ length ds
length-with_lines [] lines = refl
length-with_lines (d ∷ ds) lines = ap suc (length-with_lines ds (drop (size_of d) lines))

lined_one_more : (ds : List Definition) (d : Definition) (lines : List ℕ)
    → lined_functions (ds ++ d ∷ []) lines ≡ lined_functions ds lines ++ filter_map lined_function ((spot_after (map shape_of ds) (shape_of d), (d, take (size_of d) (lines_left ds lines))) ∷ [])
lined_one_more ds d lines =
    let shapes = map shape_of ds in
    let s = spot_after shapes (shape_of d) in
    let own : Definition × List ℕ = (d, take (size_of d) (lines_left ds lines)) in
    ap (λ es. filter_map lined_function (zip (spots es) (with_lines (ds ++ d ∷ []) lines))) (map-append shape_of ds (d ∷ []))
    ∙ ap (λ ss. filter_map lined_function (zip ss (with_lines (ds ++ d ∷ []) lines))) (spots_after-push [] shapes (shape_of d))
    ∙ ap (λ ws. filter_map lined_function (zip (spots shapes ++ s ∷ []) ws)) (with_one_more ds d lines)
    ∙ ap (filter_map lined_function) (zip-push (spots shapes) (with_lines ds lines) s own (length-spots_after [] shapes ∙ length-map ds shape_of ∙ sym (length-with_lines ds lines)))
    ∙ filter_map-append lined_function (zip (spots shapes) (with_lines ds lines)) ((s, own) ∷ [])

module _ (ds : List Definition) (lines : List ℕ) (i : ℕ) (d : Definition) (lt : i < length ds) (is : d ≡ get_or ds i d) where
  -- the lines that are left
  pub left_next : (left later : List ℕ) → left ≡ lines_left (take i ds) lines → later ≡ drop (size_of d) left → later ≡ lines_left (take (i + 1) ds) lines
  left_next left later before more =
      more ∙ ap (drop (size_of d)) before ∙ sym (ap (λ xs. lines_left xs lines) (taken ds i d lt is) ∙ left_one_more (take i ds) d lines)

  -- with a function more, or with another definition
  pub lined_function_more : (f : Function) (old new : List FunctionLines) (address : ℕ) (left : List ℕ) → d ≡ definition.Function f → address ≡ data_end (map shape_of (take i ds)) → left ≡ lines_left (take i ds) lines
      → old ≡ lined_functions (take i ds) lines → new ≡ old ++ record { strings = address + 1; lines = take (size_of d) left } ∷ [] → new ≡ lined_functions (take (i + 1) ds) lines
  lined_function_more f old new address left it here there before more =
      more ∙ (λ j. before j ++ record { strings = here j + 1; lines = take (size_of d) (there j) } ∷ [])
      ∙ ap (λ x. lined_functions (take i ds) lines ++ filter_map lined_function ((spot_after (map shape_of (take i ds)) (shape_of x), (x, take (size_of d) (lines_left (take i ds) lines))) ∷ [])) (sym it)
      ∙ sym (ap (λ xs. lined_functions xs lines) (taken ds i d lt is) ∙ lined_one_more (take i ds) d lines)

  others : (x : Definition) (s : Spot) (own : List ℕ) → ((f : Function) → x ≡ definition.Function f → ⊥) → filter_map lined_function ((s, (x, own)) ∷ []) ≡ []
  others (definition.Function f) s own other = absurd (other f refl)
  others (definition.Simple x) s own other = refl
  others (definition.Vector x) s own other = refl

  pub lined_other : (old : List FunctionLines) → ((f : Function) → d ≡ definition.Function f → ⊥) → old ≡ lined_functions (take i ds) lines → old ≡ lined_functions (take (i + 1) ds) lines
  lined_other old other before =
      before ∙ sym (append-nil (lined_functions (take i ds) lines))
      ∙ ap (λ x. lined_functions (take i ds) lines ++ x) (sym (others d (spot_after (map shape_of (take i ds)) (shape_of d)) (take (size_of d) (lines_left (take i ds) lines)) other))
      ∙ sym (ap (λ xs. lined_functions xs lines) (taken ds i d lt is) ∙ lined_one_more (take i ds) d lines)
