-- Names, one definition after another.
use Rattle.std.proofs.Common.{◌≡◌, ℕ, suc, ◌+◌, ◌<◌, ◌≤◌, true, cond, List, [], ◌∷◌, ◌++◌, length, take, drop, get_or, map, sym, ap, ◌∙◌, Some, None}
use Rattle.std.specs.Prelude.{is_some, zip}
use Rattle.std.specs.List.{list_any}
use Rattle.std.specs.Option.{option_or}
use Rattle.std.proofs.lemmas.List.{map-append, take_more}
use Rattle.std.proofs.Math.Seq.{split_at}
use Rattle.blang.specs.declared.code.Definition.{Definition}
use Rattle.blang.specs.Layout.{Shape, shape_of, defined_names, Addresses, address_in, addresses, duplicate_after, data_end, spots, library_addresses}
use Rattle.bword.specs.Words.{same_name}
use Rattle.bmach.proofs.Lookups.{lookup-append, is_some-lookup-zip, duplicate_after-append}
use Rattle.bmach.proofs.Spots.{wrapped, length-wrapped, addresses_fit}

-- the shapes of one definition more, and of all
pub shapes_more : (ds : List Definition) (i : ℕ) (d : Definition) → i < length ds → d ≡ get_or ds i d → map shape_of (take (i + 1) ds) ≡ map shape_of (take i ds) ++ shape_of d ∷ []
shapes_more ds i d lt is =
    ap (map shape_of) (take_more ds i d lt) ∙ map-append shape_of (take i ds) (get_or ds i d ∷ []) ∙ ap (λ e. map shape_of (take i ds) ++ shape_of e ∷ []) (sym is)

pub shapes_split : (ds : List Definition) (i : ℕ) (d : Definition) → i < length ds → d ≡ get_or ds i d → map shape_of ds ≡ map shape_of (take i ds) ++ (shape_of d ∷ map shape_of (drop (suc i) ds))
shapes_split ds i d lt is =
    ap (map shape_of) (split_at ds i d lt) ∙ map-append shape_of (take i ds) (get_or ds i d ∷ drop (suc i) ds) ∙ ap (λ e. map shape_of (take i ds) ++ (shape_of e ∷ map shape_of (drop (suc i) ds))) (sym is)

-- a name that has an address stands among the names before
among : (before : List Shape) (x : List ℕ) → list_any (same_name x) (defined_names before) ≡ is_some (address_in (wrapped before) x)
among before x = sym (is_some-lookup-zip (same_name x) (defined_names before) _ (length-wrapped before))

following : (before : List Shape) (d : Shape) (rest : List Shape) → duplicate_after [] (defined_names before) ≡ None → duplicate_after [] (defined_names (before ++ (d ∷ rest))) ≡ cond (is_some (address_in (wrapped before) d.name)) (Some d.name) (duplicate_after (defined_names before ++ d.name ∷ []) (defined_names rest))
following before d rest none =
    ap (duplicate_after []) (map-append (λ (e : Shape). e.name) before (d ∷ rest))
    ∙ duplicate_after-append [] (defined_names before) (d.name ∷ defined_names rest) none
    ∙ ap (λ b. cond b (Some d.name) (duplicate_after (defined_names before ++ d.name ∷ []) (defined_names rest))) (among before d.name)

pub new_name : (before : List Shape) (d : Shape) → duplicate_after [] (defined_names before) ≡ None → address_in (wrapped before) d.name ≡ None → duplicate_after [] (defined_names (before ++ d ∷ [])) ≡ None
new_name before d none fresh = following before d [] none ∙ ap (λ o. cond (is_some o) (Some d.name) None) fresh

pub old_name : (before : List Shape) (d : Shape) (rest : List Shape) → duplicate_after [] (defined_names before) ≡ None → is_some (address_in (wrapped before) d.name) ≡ true → duplicate_after [] (defined_names (before ++ (d ∷ rest))) ≡ Some d.name
old_name before d rest none found =
    following before d rest none
    ∙ ap (λ b. cond b (Some d.name) (duplicate_after (defined_names before ++ d.name ∷ []) (defined_names rest))) found

-- all names with their addresses
pub all_known : (ds : List Shape) (known : Addresses) (x : List ℕ) → data_end ds ≤ 65536 → address_in known x ≡ address_in (wrapped ds) x → address_in (known ++ library_addresses) x ≡ address_in (addresses ds) x
all_known ds known x fits e =
    lookup-append (same_name x) known library_addresses
    ∙ ap (λ o. option_or o (address_in library_addresses x)) (e ∙ ap (λ ps. address_in (zip (defined_names ds) ps) x) (addresses_fit [] ds fits))
    ∙ sym (lookup-append (same_name x) (zip (defined_names ds) (map (λ s. s.address) (spots ds))) library_addresses)
