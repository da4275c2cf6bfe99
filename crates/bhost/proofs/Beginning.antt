-- A program that was loaded has a main function. So its run begins, unless memory is refused or its first frame has no
-- room.
use Rattle.std.proofs.Common.{◌≡◌, ◌∙◌, ◌||◌, ◌⊎◌, ℕ, ◌+◌, Bool, true, false, cond, List, [], ◌∷◌, ◌++◌, Option, Some, None, ap, inl, inr, map, nat_lt, refl, subst, sym, ⊎_elim}
use Rattle.std.specs.Prelude.{IsSome, find, flat_map, not, option_and_then, option_map, zip}
use Rattle.std.specs.List.{list_any}
use Rattle.blang.specs.declared.code.Definition.{Definition}
use Rattle.blang.specs.declared.code.Definition.TheVariants as definition
use Rattle.blang.specs.declared.limits.TheConstants.{MAX_PROGRAM_LABELS}
use Rattle.blang.specs.declared.run.LoadFault.{LoadFault}
use Rattle.blang.specs.declared.run.LoadFault.TheVariants as fault
use Rattle.blang.specs.declared.run.Outcome.{Outcome}
use Rattle.blang.specs.declared.run.Outcome.TheVariants as outcome
use Rattle.blang.specs.declared.run.Trap.TheVariants as trap
use Rattle.blang.specs.Layout.{Shape, World, address_in, addresses, data_end, defined_names, duplicate_after, first_some, first_undefined, first_world, is_main, label_count, load_fault, names_in, refusal, shape_of, some_if, spot_after, spots_after, store_words}
use Rattle.blang.specs.Machine.{Image, Loaded, image_of, loaded_at, machine_started, main_begun}
use Rattle.blang.specs.Reports.{Shows, state_outcome}
use Rattle.bmach.specs.Resolved.{IsLoadedFrom, resolved_function}
use Rattle.bmach.specs.Stepping.{BeginsNot, HasEnd, ShowsFirst}
use Rattle.bsession.specs.Sessions.{BeginsSession, SessionView}
use Rattle.bhost.specs.Deeds.{LacksRoom}

no_fault : (a b c : Option LoadFault) (m : Bool) → first_some (a ∷ b ∷ c ∷ some_if (not m) fault.NoMain ∷ []) ≡ None → m ≡ true
no_fault (Some a) b c m h = cc
no_fault None (Some b) c m h = cc
no_fault None None (Some c) m h = cc
no_fault None None None true h = refl
no_fault None None None false h = cc

has_main : (ds : List Definition) → load_fault ds ≡ None → list_any is_main ds ≡ true
has_main ds loads =
    let shapes = map shape_of ds in
    no_fault (option_map fault.Duplicate (duplicate_after [] (defined_names shapes)))
    (some_if (nat_lt store_words (data_end shapes) || nat_lt MAX_PROGRAM_LABELS (label_count shapes)) fault.TooLarge)
    (option_map fault.Undefined (first_undefined (address_in (addresses shapes)) (flat_map names_in ds)))
    (list_any is_main ds) loads

main_found : (before : List Shape) (ds : List Definition) → list_any is_main ds ≡ true
    → (f : Loaded) × (option_and_then loaded_at (find (λ p. is_main p.1) (zip (spots_after before (map shape_of ds)) ds)) ≡ Some f)
main_found before [] some = cc
main_found before (definition.Function f ∷ ds) some =
    let d = definition.Function f in
    let s = spot_after before (shape_of d) in
    let later = find (λ p. is_main p.1) (zip (spots_after (before ++ shape_of d ∷ []) (map shape_of ds)) ds) in
    elim (is_main d) as (λ b. (b || list_any is_main ds) ≡ true → (g : Loaded) × (option_and_then loaded_at (cond b (Some (s, d)) later) ≡ Some g)) [
      | true ↦ λ e. (_, refl)
      | false ↦ λ e. main_found (before ++ shape_of d ∷ []) ds e
    ] some
main_found before (definition.Simple x ∷ ds) some = main_found (before ++ shape_of (definition.Simple x) ∷ []) ds some
main_found before (definition.Vector v ∷ ds) some = main_found (before ++ shape_of (definition.Vector v) ∷ []) ds some

pub loaded_main : (ds : List Definition) (image : Image) → load_fault ds ≡ None → IsLoadedFrom ds image → IsSome image.main
loaded_main ds image loads loaded =
    let found = main_found [] ds (has_main ds loads) in
    let resolve = resolved_function (address_in (image_of ds).addresses) in
    let main : image.main ≡ Some (resolve found.0) = loaded.main ∙ ap (option_map resolve) found.1 in
    rw main refl

-- the first frame has room, or none
room_of : (end : ℕ) → (refusal 0 end ≡ None) ⊎ (refusal 0 end ≡ Some trap.NoRoom)
room_of end =
    elim (nat_lt store_words end) as (λ b. (cond b (Some trap.NoRoom) None ≡ None) ⊎ (cond b (Some trap.NoRoom) None ≡ Some trap.NoRoom)) [
      | true ↦ inr refl
      | false ↦ inl refl
    ]

over_for_room : (image : Image) (main : Option Loaded) (w : World) (why : Outcome) → IsSome main → HasEnd why
    → state_outcome (machine_started image main w) ≡ why → why ≡ outcome.Trap trap.NoRoom
over_for_room image None w why some end is = cc
over_for_room image (Some f) w why some end is = ⊎_elim
    (λ (room : refusal 0 (image.data_end + f.frame) ≡ None).
    let goes : outcome.Limit ≡ why = sym (ap (λ r. state_outcome (main_begun r f image.data_end w)) room) ∙ is in
    absurd (subst HasEnd (sym goes) end))
    (λ (none : refusal 0 (image.data_end + f.frame) ≡ Some trap.NoRoom).
    sym is ∙ ap (λ r. state_outcome (main_begun r f image.data_end w)) none)
    (room_of (image.data_end + f.frame))

-- why a run that has a main function doesn't begin
pub lacks_room : (image : Image) (why : Outcome) → IsSome image.main → BeginsNot image why → LacksRoom why
lacks_room image why some (inl refused) = inl refused.0
lacks_room image why some (inr over) =
    inr (over_for_room image image.main (first_world image []) why some over.0 (over.1 []).outcome)

-- a session that has begun has a first step
pub goes_first : (image : Image) (h : SessionView) → BeginsSession image h → ShowsFirst image outcome.Limit
goes_first image h begins input =
    subst (Shows outcome.Limit input []) (sym (begins.unstarted.first input)) (record { outcome = refl; left = refl; written = refl })
