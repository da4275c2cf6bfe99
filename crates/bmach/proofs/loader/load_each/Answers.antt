use Rattle.std.proofs.Common.{◌≡◌, ◌≤◌, ◌+◌, ◌<◌, ℕ, suc, List, [], ◌∷◌, ◌++◌, map, take, drop, length, get_or, true, sym, ap, ◌∙◌, arith}
use Rattle.std.specs.Prelude.{flat_map, fold}
use Rattle.std.proofs.lemmas.List.{length-map, take_all, take_more}
use Rattle.std.proofs.lemmas.List.Sums.{fold-append}
use Rattle.std.proofs.lemmas.Result.{err_from_is_err_and}
use Rattle.blang.specs.declared.code.Definition.{Definition}
use Rattle.blang.specs.Layout.{data_end, label_count, labels_in, names_in, shape_of, size_of, first_undefined}
use Rattle.bmach.specs.Loading.{Part, first_part, fits_store, known_in, with_definition}
use Rattle.bmach.specs.Images.{loaded_of}
use Rattle.bmach.proofs.Fitting.{one_more_fits}
use Rattle.bmach.proofs.Naming.{shapes_split}
use Rattle.bmach.proofs.Undefined.{defined_more, undefined_at}
use Rattle.bmach.proofs.Whole.{loaded_all, length-words, length-functions, functions_within}
use Rattle.bmach.proofs.loader.load_each.Goals as goal

-- The definition at a place has room where all have.
room : (ds : List Definition) (i : ℕ) (d : Definition) → i < length ds → d ≡ get_or ds i d → fits_store (map shape_of ds) ≡ true
    → (data_end (map shape_of (take i ds)) + size_of (shape_of d) ≤ 65536)
    × (label_count (map shape_of (take i ds)) + labels_in (shape_of d).kind ≤ 65535)
room ds i d lt is h =
    one_more_fits (map shape_of (take i ds)) (shape_of d) (map shape_of (drop (suc i) ds)) (sym (ap fits_store (shapes_split ds i d lt is)) ∙ h)

pub loop-definition-preserved : goal.loop-definition-preserved
loop-definition-preserved c =
    let known = known_in c.args.addresses.now in
    let ds = c.args.definitions.now in
    let i = c.loop-definition.definition-index in
    let d = c.definition-item.result in
    record {
      part = c.in_ok-add.ensures.0
          ∙ ap (λ p. with_definition known p d) c.loop-definition.invariant.part
          ∙ sym (fold-append (with_definition known) first_part (take i ds) (d ∷ []))
          ∙ sym (ap (fold (with_definition known) first_part) (take_more ds i d (omega arith) ∙ ap (λ y. take i ds ++ y ∷ []) (sym c.definition-item.is)));
      defined = defined_more known names_in ds i d (omega arith) c.definition-item.is c.loop-definition.invariant.defined c.in_ok-add.ensures.1;
    }

pub add-requires-clause-words : goal.add-requires-clause-words
add-requires-clause-words c =
    let known = known_in c.args.addresses.now in
    let before = take c.loop-definition.definition-index c.args.definitions.now in
    let long : length c.loop-definition.part.words.items ≡ data_end (map shape_of before) =
    ap (λ (p : Part). length p.words) (c.loop-definition.invariant.part ∙ loaded_all known before) ∙ length-words known before in
    omega (arith, long, (room c.args.definitions.now c.loop-definition.definition-index c.definition-item.result (omega arith) c.definition-item.is c.requires).0)

pub add-requires-clause-functions : goal.add-requires-clause-functions
add-requires-clause-functions c =
    let known = known_in c.args.addresses.now in
    let before = take c.loop-definition.definition-index c.args.definitions.now in
    let is = c.loop-definition.invariant.part ∙ loaded_all known before in
    omega (arith, ap (λ (p : Part). length p.words) is ∙ length-words known before, ap (λ (p : Part). length p.functions) is ∙ length-functions known before, length-map c.loop-definition.part.functions.items loaded_of, functions_within (map shape_of before))

pub add-requires-clause-labels : goal.add-requires-clause-labels
add-requires-clause-labels c =
    let known = known_in c.args.addresses.now in
    let before = take c.loop-definition.definition-index c.args.definitions.now in
    let label : c.loop-definition.part.first_label ≡ 1 + label_count (map shape_of before) =
    ap (λ (p : Part). p.first_label) (c.loop-definition.invariant.part ∙ loaded_all known before) in
    omega (arith, label, (room c.args.definitions.now c.loop-definition.definition-index c.definition-item.result (omega arith) c.definition-item.is c.requires).1)

pub returns-in_err-add : goal.returns-in_err-add
returns-in_err-add c =
    let p = err_from_is_err_and c.from_residual-in_err-add.result c.from_residual-in_err-add.ensures.1 in
    rw (p.1, p.2) (undefined_at (known_in c.args.addresses.now) names_in c.args.definitions.now c.loop-definition.definition-index c.definition-item.result c.in_err-add.field-0.0 (omega arith) c.definition-item.is c.loop-definition.invariant.defined c.in_err-add.ensures)

pub returns : goal.returns
returns c =
    let known = known_in c.args.addresses.now in
    let all : take c.loop-definition.definition-index c.args.definitions.now ≡ c.args.definitions.now = take_all c.loop-definition.definition-index c.args.definitions.now c.loop-definition-test.false in
    (c.loop-definition.invariant.part ∙ ap (fold (with_definition known) first_part) all, sym (ap (λ ds. first_undefined known (flat_map names_in ds)) all) ∙ c.loop-definition.invariant.defined)
