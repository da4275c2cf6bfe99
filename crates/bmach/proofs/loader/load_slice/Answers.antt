use Rattle.std.proofs.Common.{◌≡◌, ℕ, List, length, map, true, false, Option, sym, ap, ◌∙◌, subst, arith}
use Rattle.std.specs.Prelude.{flat_map, fold}
use Rattle.std.proofs.lemmas.Result.{err_from_is_err_and}
use Rattle.blang.specs.Layout.{shape_of, addresses, address_in, names_in, data_end, first_undefined}
use Rattle.bmach.specs.Loading.{Part, IsFault, first_part, fits_store, known_in, undefined_fault, with_definition}
use Rattle.bmach.specs.Parts.{part_of}
use Rattle.bmach.proofs.Fitting.{bounds_if_fits}
use Rattle.bmach.proofs.Faults.{no_main, some_main}
use Rattle.bmach.proofs.Whole.{loaded_all, length-words}
use Rattle.bmach.proofs.Loads.{duplicate_first, too_large_next, undefined_next, main_last, is_loaded}
use Rattle.bmach.proofs.loader.load_slice.Goals as goal

pub returns-in_err-addresses-clause-err : goal.returns-in_err-addresses-clause-err
returns-in_err-addresses-clause-err c =
    let p = err_from_is_err_and c.from_residual.result c.from_residual.ensures.1 in
    rw (p.1, p.2) (duplicate_first c.args.definitions.now c.in_err-addresses.field-0.0 c.in_err-addresses.ensures)

pub returns-then-not-fits-clause-err : goal.returns-then-not-fits-clause-err
returns-then-not-fits-clause-err c =
    too_large_next c.args.definitions.now c.in_ok-addresses.ensures.0 (sym c.fits.ensures ∙ c.if-not-fits.true)

pub returns-in_err-part-clause-err : goal.returns-in_err-part-clause-err
returns-in_err-part-clause-err c =
    let ds = c.args.definitions.now in
    let fit : fits_store (map shape_of ds) ≡ true = sym c.fits.ensures ∙ c.if-not-fits.false in
    let known = known_in c.in_ok-addresses.addresses in
    let same : known ≡ address_in (addresses (map shape_of ds)) = λ i x. c.in_ok-addresses.ensures.1 (bounds_if_fits (map shape_of ds) fit).0 x i in
    let p = err_from_is_err_and c.from_residual-in_err-part.result c.from_residual-in_err-part.ensures.1 in
    let undefined : (List ℕ → Option ℕ) → Type 0 = λ a. IsFault c.in_err-part.field-0.0 (undefined_fault a (flat_map names_in ds)) in
    rw (p.1, p.2) (undefined_next ds c.in_ok-addresses.ensures.0 fit c.in_err-part.field-0.0 (subst undefined same c.in_err-part.ensures))

pub returns-in-None-clause-err : goal.returns-in-None-clause-err
returns-in-None-clause-err c =
    let ds = c.args.definitions.now in
    let fit : fits_store (map shape_of ds) ≡ true = sym c.fits.ensures ∙ c.if-not-fits.false in
    let known = known_in c.in_ok-addresses.addresses in
    let same : known ≡ address_in (addresses (map shape_of ds)) = λ i x. c.in_ok-addresses.ensures.1 (bounds_if_fits (map shape_of ds) fit).0 x i in
    let defined = ap (λ a. first_undefined a (flat_map names_in ds)) (sym same) ∙ c.in_ok-part.ensures.1 in
    let missing = no_main ds 0 (sym c.main_of-main.ensures ∙ c.in-None.is) in
    main_last ds c.in_ok-addresses.ensures.0 fit false missing defined

pub invariant_of-result : goal.invariant_of-result
invariant_of-result c =
    let ds = c.args.definitions.now in
    let made : part_of c.in_ok-part.part ≡ fold (with_definition (known_in c.in_ok-addresses.addresses)) first_part ds = c.in_ok-part.ensures.0 in
    let fit : fits_store (map shape_of ds) ≡ true = sym c.fits.ensures ∙ c.if-not-fits.false in
    let known = known_in c.in_ok-addresses.addresses in
    let long : length c.in_ok-part.part.words.items ≡ data_end (map shape_of ds) =
    ap (λ (p : Part). length p.words) (made ∙ loaded_all known ds) ∙ length-words known ds in
    omega (arith, long, (bounds_if_fits (map shape_of ds) fit).0)

pub returns-in-Some-clause-ok : goal.returns-in-Some-clause-ok
returns-in-Some-clause-ok c =
    let ds = c.args.definitions.now in
    let fit : fits_store (map shape_of ds) ≡ true = sym c.fits.ensures ∙ c.if-not-fits.false in
    let known = known_in c.in_ok-addresses.addresses in
    let made = c.in_ok-part.ensures.0 in
    is_loaded ds c.in_ok-addresses.addresses (part_of c.in_ok-part.part) c.in-Some.main (c.in_ok-addresses.ensures.1 (bounds_if_fits (map shape_of ds) fit).0) (made ∙ loaded_all known ds) (sym c.main_of-main.ensures ∙ c.in-Some.is)

pub returns-in-Some-clause-loads : goal.returns-in-Some-clause-loads
returns-in-Some-clause-loads c =
    let ds = c.args.definitions.now in
    let fit : fits_store (map shape_of ds) ≡ true = sym c.fits.ensures ∙ c.if-not-fits.false in
    let known = known_in c.in_ok-addresses.addresses in
    let same : known ≡ address_in (addresses (map shape_of ds)) = λ i x. c.in_ok-addresses.ensures.1 (bounds_if_fits (map shape_of ds) fit).0 x i in
    let defined = ap (λ a. first_undefined a (flat_map names_in ds)) (sym same) ∙ c.in_ok-part.ensures.1 in
    let there = some_main ds 0 c.in-Some.main (sym c.main_of-main.ensures ∙ c.in-Some.is) in
    main_last ds c.in_ok-addresses.ensures.0 fit true there defined
