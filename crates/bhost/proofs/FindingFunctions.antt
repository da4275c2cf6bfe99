-- A function is found among those of the definitions so far, or is the next one.
use Rattle.std.proofs.Common.{◌≡◌, ◌∙◌, ℕ, ◌+◌, ◌<◌, Bool, List, ◌++◌, Option, Some, None, ap, append-nil, get_or, length, map, refl, sym, take}
use Rattle.std.specs.Prelude.{find, option_map}
use Rattle.std.specs.Option.{option_or}
use Rattle.std.proofs.lemmas.List.Folds.{find-append}
use Rattle.blang.specs.Layout.{data_end, shape_of}
use Rattle.blang.specs.Lines.{size_of}
use Rattle.blang.specs.declared.code.Definition.{Definition}
use Rattle.blang.specs.declared.code.Definition.TheVariants as definition
use Rattle.btools.specs.Functions.{functions_of}
use Rattle.btools.specs.ProgramLines.{lined_functions}
use Rattle.btools.proofs.Functions.{with_function, with_other}
use Rattle.btools.proofs.ProgramLines.{lined_function_more, lined_other, lines_left}
use Rattle.bhost.specs.FoundFunctions.{function_in, lines_in}

map_or : {A B : Type 0} (f : A → B) (old own : Option A) → option_map f (option_or old own) ≡ option_or (option_map f old) (option_map f own)
map_or f (Some x) own = refl
map_or f None own = refl

-- what is found among those before, or is the next one, is found among all of them
pub found_more : {A B : Type 0} (f : A → B) (p : B → Bool) (old own new : Option A) (before next all : List B)
    → option_map f old ≡ find p before → option_map f own ≡ find p next → new ≡ option_or old own → all ≡ before ++ next
    → option_map f new ≡ find p all
found_more f p old own new before next all first then is whole =
    ap (option_map f) is ∙ map_or f old own
    ∙ ap (λ o. option_or o (option_map f own)) first ∙ ap (option_or (find p before)) then
    ∙ sym (find-append p before next) ∙ ap (find p) (sym whole)

module _ (ds : List Definition) (i : ℕ) (d : Definition) (lt : i < length ds) (is : d ≡ get_or ds i d) (address : ℕ)
    (here : address ≡ data_end (map shape_of (take i ds))) where
  functions_with : (x : Definition) → d ≡ x → functions_of (take (i + 1) ds) ≡ functions_of (take i ds) ++ function_in x address
  functions_with (definition.Function f) e =
      sym (with_function ds i d lt is f (functions_of (take i ds)) _ address e here refl refl)
  functions_with (definition.Simple x) e =
      sym (with_other ds i d lt is (functions_of (take i ds)) (λ f h. let no : definition.Simple x ≡ definition.Function f = sym e ∙ h in cc) refl)
      ∙ sym (append-nil (functions_of (take i ds)))
  functions_with (definition.Vector x) e =
      sym (with_other ds i d lt is (functions_of (take i ds)) (λ f h. let no : definition.Vector x ≡ definition.Function f = sym e ∙ h in cc) refl)
      ∙ sym (append-nil (functions_of (take i ds)))

  pub functions_more : functions_of (take (i + 1) ds) ≡ functions_of (take i ds) ++ function_in d address
  functions_more = functions_with d refl

  module _ (lines left : List ℕ) (there : left ≡ lines_left (take i ds) lines) where
    lines_with_more : (x : Definition) → d ≡ x
        → lined_functions (take (i + 1) ds) lines ≡ lined_functions (take i ds) lines ++ lines_in x address (take (size_of d) left)
    lines_with_more (definition.Function f) e =
        sym (lined_function_more ds lines i d lt is f (lined_functions (take i ds) lines) _ address left e here there refl refl)
    lines_with_more (definition.Simple x) e =
        sym (lined_other ds lines i d lt is (lined_functions (take i ds) lines) (λ f h. let no : definition.Simple x ≡ definition.Function f = sym e ∙ h in cc) refl)
        ∙ sym (append-nil (lined_functions (take i ds) lines))
    lines_with_more (definition.Vector x) e =
        sym (lined_other ds lines i d lt is (lined_functions (take i ds) lines) (λ f h. let no : definition.Vector x ≡ definition.Function f = sym e ∙ h in cc) refl)
        ∙ sym (append-nil (lined_functions (take i ds) lines))

    pub lines_more : lined_functions (take (i + 1) ds) lines ≡ lined_functions (take i ds) lines ++ lines_in d address (take (size_of d) left)
    lines_more = lines_with_more d refl
