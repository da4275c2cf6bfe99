use Rattle.std.proofs.Common.{◌≡◌, ◌%◌, ◌+◌, suc, [], ◌∷◌, ◌++◌, map, take, drop, Option, None, Some, Bool, cond, true, false, refl, sym, ap, ◌∙◌, arith}
use Rattle.std.proofs.Math.Nat.{mod-add-mod}
use Rattle.std.proofs.lemmas.List.{take_all}
use Rattle.std.specs.Prelude.{is_none, is_some, option_map}
use Rattle.std.specs.Bool.{OnTrue}
use Rattle.blang.specs.declared.run.LoadFault.TheVariants as fault
use Rattle.bword.specs.Words.{same_name}
use Rattle.blang.specs.Layout.{shape_of, address_in, data_end, duplicate_after, defined_names}
use Rattle.bmach.proofs.Lookups.{address_in-push}
use Rattle.bmach.proofs.Spots.{wrapped, wrapped-push, data_end-push}
use Rattle.bmach.proofs.Naming.{shapes_more, shapes_split, new_name, old_name, all_known}
use Rattle.bmach.proofs.addresses.addresses_of.Goals as goal

none_at : {X : Type 0} (o : Option X) → is_none o ≡ true → o ≡ None
none_at None e = refl
none_at (Some x) e = cc

some_at : {X : Type 0} (o : Option X) → is_none o ≡ false → is_some o ≡ true
some_at None e = cc
some_at (Some x) e = refl

at_true : {P : Type 0} (b : Bool) → b ≡ true → OnTrue b P → P
at_true true e p = p
at_true false e p = cc

pub loop-definition-init : goal.loop-definition-init
loop-definition-init c =
    record { no_duplicate = refl; known = λ x. ap (λ known. address_in known x) c.new-addresses.ensures; address = refl }

pub loop-definition-preserved : goal.loop-definition-preserved
loop-definition-preserved c =
    let i = c.loop-definition.definition-index in
    let ds = c.args.definitions.now in
    let d = c.definition-item.result in
    let before = map shape_of (take i ds) in
    let named : c.name_of-name.result ≡ (shape_of d).name = c.name_of-name.ensures in
    let more = shapes_more ds i d (omega arith) c.definition-item.is in
    let known = c.loop-definition.invariant.known in
    let fresh : address_in (wrapped before) c.name_of-name.result ≡ None =
    sym (known c.name_of-name.result) ∙ none_at _ (sym c.in_ok-is_new.ensures.new ∙ c.if-not-is_new.false) in
    record {
      no_duplicate = ap (λ shapes. duplicate_after [] (defined_names shapes)) more
          ∙ new_name before (shape_of d) c.loop-definition.invariant.no_duplicate (ap (address_in (wrapped before)) (sym named) ∙ fresh);
      known = λ x.
          at_true c.in_ok-is_new.is_new c.if-not-is_new.false c.in_ok-is_new.ensures.known x
          ∙ ap (cond (same_name c.name_of-name.result x) (Some c.loop-definition.address)) (known x)
          ∙ address_in-push (wrapped before) c.name_of-name.result x c.loop-definition.address fresh
          ∙ ap (λ k. address_in (wrapped before ++ (k, c.loop-definition.address) ∷ []) x) named
          ∙ ap (λ a. address_in (wrapped before ++ ((shape_of d).name, a) ∷ []) x) c.loop-definition.invariant.address
          ∙ ap (λ known. address_in known x) (sym (wrapped-push before (shape_of d)))
          ∙ ap (λ shapes. address_in (wrapped shapes) x) (sym more);
      address = ap (λ a. (a + c.size_of-address.result) % 65536) c.loop-definition.invariant.address
          ∙ mod-add-mod (data_end before) 65536 c.size_of-address.result
          ∙ ap (λ n. (data_end before + n) % 65536) c.size_of-address.ensures.value
          ∙ ap (λ e. e % 65536) (sym (data_end-push before (shape_of d)))
          ∙ ap (λ shapes. data_end shapes % 65536) (sym more);
    }

pub returns-then-not-is_new : goal.returns-then-not-is_new
returns-then-not-is_new c =
    let i = c.loop-definition.definition-index in
    let ds = c.args.definitions.now in
    let d = c.definition-item.result in
    let before = map shape_of (take i ds) in
    let found : is_some (address_in (wrapped before) (shape_of d).name) ≡ true =
    ap (λ x. is_some (address_in (wrapped before) x)) (sym c.name_of-name.ensures)
    ∙ ap is_some (sym (c.loop-definition.invariant.known c.name_of-name.result))
    ∙ some_at _ (sym c.in_ok-is_new.ensures.new ∙ c.if-not-is_new.true) in
    ap (λ o. option_map fault.Duplicate o) (ap (λ shapes. duplicate_after [] (defined_names shapes)) (shapes_split ds i d (omega arith) c.definition-item.is) ∙ old_name before (shape_of d) (map shape_of (drop (suc i) ds)) c.loop-definition.invariant.no_duplicate found ∙ ap Some (sym c.name_of-name.ensures))

pub returns : goal.returns
returns c =
    let all : take c.loop-definition.definition-index c.args.definitions.now ≡ c.args.definitions.now = take_all _ _ c.loop-definition-test.false in
    (ap (λ ds. duplicate_after [] (defined_names (map shape_of ds))) (sym all) ∙ c.loop-definition.invariant.no_duplicate, λ fits x. all_known _ c.loop-definition.addresses x fits (c.loop-definition.invariant.known x ∙ ap (λ ds. address_in (wrapped (map shape_of ds)) x) all))
