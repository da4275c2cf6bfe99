use Rattle.std.proofs.Common.{◌≡◌, ◌≤◌, ◌+◌, ℕ, Option, None, List, [], ◌∷◌, ◌++◌, map, length, true, sym, ap, ◌∙◌, subst, arith}
use Rattle.std.specs.Prelude.{flat_map, fold}
use Rattle.std.proofs.lemmas.List.{length-map, map-append, append-nil, append_assoc, nil_from_length}
use Rattle.std.proofs.lemmas.List.Sums.{fold-append}
use Rattle.std.proofs.lemmas.Result.{err_from_is_err_and}
use Rattle.blang.specs.declared.code.Definition.{Definition}
use Rattle.blang.specs.Layout.{data_end, label_count, labels_in, names_in, shape_of, size_of, first_undefined}
use Rattle.bmach.specs.Loading.{Part, IsFault, first_part, fits_store, known_in, undefined_fault, with_definition}
use Rattle.bmach.specs.Images.{loaded_of}
use Rattle.bmach.specs.Parts.{part_of}
use Rattle.bmach.proofs.Fitting.{one_more_fits}
use Rattle.bmach.proofs.Undefined.{defined_after, undefined_after}
use Rattle.bmach.proofs.Whole.{loaded_all, length-words, length-functions, functions_within}
use Rattle.bmach.proofs.loader.load_all.Goals as goal

-- One definition more has room where all have.
room : (before : List Definition) (d : Definition) (left rest ds : List Definition) → left ≡ d ∷ rest → before ++ left ≡ ds
    → fits_store (map shape_of ds) ≡ true
    → (data_end (map shape_of before) + size_of (shape_of d) ≤ 65536)
    × (label_count (map shape_of before) + labels_in (shape_of d).kind ≤ 65535)
room before d left rest ds is all h = one_more_fits (map shape_of before) (shape_of d) (map shape_of rest)
    (sym (ap fits_store (map-append shape_of before (d ∷ rest)))
    ∙ ap (λ es. fits_store (map shape_of (before ++ es))) (sym is) ∙ ap (λ es. fits_store (map shape_of es)) all ∙ h)

-- One definition more was loaded.
one_more : (known : List ℕ → Option ℕ) (before : List Definition) (d : Definition) (left rest ds : List Definition) (old new : Part)
    → old ≡ fold (with_definition known) first_part before → first_undefined known (flat_map names_in before) ≡ None
    → new ≡ with_definition known old d → first_undefined known (names_in d) ≡ None → left ≡ d ∷ rest → before ++ left ≡ ds
    → (new ≡ fold (with_definition known) first_part (before ++ d ∷ []))
    × (first_undefined known (flat_map names_in (before ++ d ∷ [])) ≡ None)
    × ((before ++ d ∷ []) ++ rest ≡ ds)
one_more known before d left rest ds old new is none more d_none split all = (
  more ∙ ap (λ p. with_definition known p d) is ∙ sym (fold-append (with_definition known) first_part before (d ∷ [])),
  defined_after known names_in before d none d_none,
  append_assoc before (d ∷ []) rest ∙ ap (λ es. before ++ es) (sym split) ∙ all,
)

pub loop-definition-preserved : goal.loop-definition-preserved
loop-definition-preserved c =
    let i = c.loop-definition.invariant in
    let m = one_more (known_in c.args.addresses.now) c.loop-definition.yielded c.in-Some.definition c.loop-definition.definition-iterator.rest.items c.next.new.self.rest.items c.args.definitions.items (part_of c.loop-definition.part) (part_of c.add.new.self) i.part i.defined c.in_ok-add.ensures.0 c.in_ok-add.ensures.1 c.in-Some.ensures.steps.0 i.all in
    record { part = m.0; defined = m.1; all = m.2 }

pub add-requires-clause-words : goal.add-requires-clause-words
add-requires-clause-words c =
    let known = known_in c.args.addresses.now in
    let before = c.loop-definition.yielded in
    let long : length c.loop-definition.part.words.items ≡ data_end (map shape_of before) =
    ap (λ (p : Part). length p.words) (c.loop-definition.invariant.part ∙ loaded_all known before) ∙ length-words known before in
    omega (arith, long, (room before c.in-Some.definition c.loop-definition.definition-iterator.rest.items c.next.new.self.rest.items c.args.definitions.items c.in-Some.ensures.steps.0 c.loop-definition.invariant.all c.requires).0)

pub add-requires-clause-functions : goal.add-requires-clause-functions
add-requires-clause-functions c =
    let known = known_in c.args.addresses.now in
    let before = c.loop-definition.yielded in
    let is = c.loop-definition.invariant.part ∙ loaded_all known before in
    omega (arith, ap (λ (p : Part). length p.words) is ∙ length-words known before, ap (λ (p : Part). length p.functions) is ∙ length-functions known before, length-map c.loop-definition.part.functions.items loaded_of, functions_within (map shape_of before))

pub add-requires-clause-labels : goal.add-requires-clause-labels
add-requires-clause-labels c =
    let known = known_in c.args.addresses.now in
    let before = c.loop-definition.yielded in
    let label : c.loop-definition.part.first_label ≡ 1 + label_count (map shape_of before) =
    ap (λ (p : Part). p.first_label) (c.loop-definition.invariant.part ∙ loaded_all known before) in
    omega (arith, label, (room before c.in-Some.definition c.loop-definition.definition-iterator.rest.items c.next.new.self.rest.items c.args.definitions.items c.in-Some.ensures.steps.0 c.loop-definition.invariant.all c.requires).1)

pub returns-in_err-add : goal.returns-in_err-add
returns-in_err-add c =
    let known = known_in c.args.addresses.now in
    let before = c.loop-definition.yielded in
    let p = err_from_is_err_and c.from_residual-in_err-add.result c.from_residual-in_err-add.ensures.1 in
    let all = ap (λ es. before ++ es) (sym c.in-Some.ensures.steps.0) ∙ c.loop-definition.invariant.all in
    rw (p.1, p.2) (subst (λ (es : List Definition). IsFault c.in_err-add.field-0.0 (undefined_fault known (flat_map names_in es))) all
    (undefined_after known names_in before c.in-Some.definition c.next.new.self.rest.items c.in_err-add.field-0.0 c.loop-definition.invariant.defined c.in_err-add.ensures))

pub returns : goal.returns
returns c =
    let known = known_in c.args.addresses.now in
    let before = c.loop-definition.yielded in
    let left = c.loop-definition.definition-iterator.rest in
    let none : left.items ≡ [] = nil_from_length left.items (sym left.ok.0 ∙ c.in-None.ensures.steps.0) in
    let all : before ≡ c.args.definitions.items = sym (append-nil before) ∙ (ap (λ es. before ++ es) (sym none) ∙ c.loop-definition.invariant.all) in
    (c.loop-definition.invariant.part ∙ ap (fold (with_definition known) first_part) all, ap (λ ds. first_undefined known (flat_map names_in ds)) (sym all) ∙ c.loop-definition.invariant.defined)
