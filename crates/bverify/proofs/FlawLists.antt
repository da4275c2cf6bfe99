-- What is told of a function is told rightly: without a flaw that can be stuck the depths fit, and where some fit there is none.
use Rattle.std.proofs.Common.{◌≡◌, ◌≢◌, ℕ, zero, suc, ◌+◌, ◌-◌, ◌≤◌, ◌<◌, ◌⊎◌, inl, inr, List, [], ◌∷◌, ◌++◌, length, get_or, map, drop, Option, Some, None, Bool, true, false, cond, refl, sym, ap, ◌∙◌, subst, arith, eq-eqb, add-one, append_assoc, drop-cons}
use Rattle.std.specs.Prelude.{slice_get, if◌then◌else◌, ◌||◌, ◌==◌, nat_lt, fold, unwrap_or, All}
use Rattle.std.specs.List.{Contains, list_any}
use Rattle.std.proofs.lemmas.List.{append-nil, get_or_past}
use Rattle.std.proofs.lemmas.List.Elements.{All-nil, All-cons, All-contains}
use Rattle.std.proofs.lemmas.List.Folds.{list_any-append}
use Rattle.std.proofs.lemmas.Bool.Decides.{eqb_tells}
use Rattle.std.proofs.lemmas.Option.{slice_get_cases, slice_get-get_or, slice_get_within, slice_get_past, get_or_from_slice_get}
use Rattle.blang.specs.declared.code.Instr.{Instr}
use Rattle.bverify.specs.Depths.{operands_taken, Way, way, ways, Reaches, begins, goes_on, Depths, depth_at, IsDepthOf, AreReached, HasDepth, AreClosed, GoesOn, Fits}
use Rattle.bverify.specs.Flaws.{can_be_stuck, some_can_be_stuck, comes_to_goto, is_depth, known_flaws, label_flaws}
use Rattle.bverify.specs.Flaws.{labels_from, way_flaws, left_flaws, placed, place_flaws, with_way_flaws}
use Rattle.bverify.specs.Flaws.{with_instr_flaws, unreached_flaws, with_place_flaws, flaws_from, flaws_of}
use Rattle.bverify.specs.declared.flaws.Flaw.{Flaw}
use Rattle.bverify.specs.declared.flaws.Flaw.TheVariants as flaw
use Rattle.bverify.specs.declared.flaws.PlacedFlaw.{PlacedFlaw}
use Rattle.blang.specs.declared.code.Instr.TheVariants as instr
use Rattle.bverify.proofs.Searching.{contains_cases, contains_none, contains_head, contains_tail}

pub agrees : (ds : Depths) (to depth : ℕ) (known : Option ℕ) (place : ℕ) (fs : List PlacedFlaw) → Some known ≡ slice_get ds to → true ≡ is_depth known depth → fs ≡ fs ++ placed place (way_flaws ds (way to depth))
agrees ds to depth known place fs at is =
    let none : way_flaws ds (way to depth) ≡ [] =
    ap (λ o. known_flaws o (way to depth)) (sym at) ∙ ap (λ b. cond b [] (flaw.Differs to depth (unwrap_or known 0) ∷ [])) (sym is) in
    sym (append-nil fs) ∙ ap (λ l. fs ++ placed place l) (sym none)

pub differs : (ds : Depths) (to depth : ℕ) (known : Option ℕ) (f : Flaw) → Some known ≡ slice_get ds to → false ≡ is_depth known depth → f ≡ flaw.Differs to depth (unwrap_or known 0) → f ∷ [] ≡ way_flaws ds (way to depth)
differs ds to depth known f at is same =
    ap (λ v. v ∷ []) same ∙ ap (λ b. cond b [] (flaw.Differs to depth (unwrap_or known 0) ∷ [])) is ∙ ap (λ o. known_flaws o (way to depth)) at

-- one instruction more
pub flaws_on : (targets : List ℕ) (ds : Depths) (code : List Instr) (p : ℕ) (i : Instr) (fs gs : List PlacedFlaw) → p < length code → i ≡ get_or code p i → gs ≡ with_place_flaws targets ds i p (depth_at ds p) fs → flaws_from targets ds (p + 1) (drop (p + 1) code) gs ≡ flaws_from targets ds p (drop p code) fs
flaws_on targets ds code p i fs gs lt is made =
    let first : drop p code ≡ i ∷ drop (p + 1) code =
    drop-cons code p i lt ∙ ap (λ x. x ∷ drop (suc p) code) (sym is) ∙ ap (λ j. i ∷ drop j code) (sym (add-one p)) in
    ap (flaws_from targets ds (p + 1) (drop (p + 1) code)) made ∙ sym (ap (λ l. flaws_from targets ds p l fs) first)

pub neither : (a b : Bool) → (a || b) ≡ false → (a ≡ false) × (b ≡ false)
neither true b h = cc
neither false b h = (refl, h)

-- a test that no element of two lists passes
no_any : (fs gs : List PlacedFlaw) → some_can_be_stuck (fs ++ gs) ≡ false → (some_can_be_stuck fs ≡ false) × (some_can_be_stuck gs ≡ false)
no_any fs gs none =
    neither (some_can_be_stuck fs) (some_can_be_stuck gs) (sym (list_any-append (λ f. can_be_stuck (PlacedFlaw.flaw f)) fs gs) ∙ none)

both : (fs gs : List PlacedFlaw) → some_can_be_stuck fs ≡ false → some_can_be_stuck gs ≡ false → some_can_be_stuck (fs ++ gs) ≡ false
both fs gs a b =
    list_any-append (λ f. can_be_stuck (PlacedFlaw.flaw f)) fs gs ∙ ap (λ x. x || some_can_be_stuck gs) a ∙ b

-- a way without such a flaw has the depth of its place
way_is : (p : ℕ) (w : Way) (o : Option (Option ℕ)) → some_can_be_stuck (placed p (known_flaws o w)) ≡ false → o ≡ Some (Some w.depth)
way_is p w None none = cc
way_is p w (Some None) none = cc
way_is p w (Some (Some e)) none =
    elim (eqb_tells e w.depth) [
      | inl same ↦ ap (λ d. Some (Some d)) same.1
      | inr other ↦
          let bad : some_can_be_stuck (placed p (cond (e == w.depth) [] (flaw.Differs w.place w.depth e ∷ []))) ≡ true =
          ap (λ b. some_can_be_stuck (placed p (cond b [] (flaw.Differs w.place w.depth e ∷ [])))) other.0 in
          let clash : true ≡ false = sym bad ∙ none in cc
    ]

way_fits : (ds : Depths) (p : ℕ) (w : Way) → some_can_be_stuck (placed p (way_flaws ds w)) ≡ false → depth_at ds w.place ≡ Some w.depth
way_fits ds p w none =
    get_or_from_slice_get ds w.place (Some w.depth) None (way_is p w (slice_get ds w.place) none)

ways_fit : (ds : Depths) (p : ℕ) (ws : List Way) (fs : List PlacedFlaw) → some_can_be_stuck (fold (with_way_flaws ds p) fs ws) ≡ false → (some_can_be_stuck fs ≡ false) × All (IsDepthOf ds) ws
ways_fit ds p [] fs none = (none, All-nil (IsDepthOf ds))
ways_fit ds p (w ∷ ws) fs none =
    let r = ways_fit ds p ws (with_way_flaws ds p fs w) none in
    let s = no_any fs (placed p (way_flaws ds w)) r.0 in
    (s.0, All-cons (IsDepthOf ds) w ws (way_fits ds p w s.1) r.1)

-- an instruction without such a flaw
abbrev Goes : (targets : List ℕ) → Depths → Instr → (p d : ℕ) → Type 0
Goes targets ds i p d = (operands_taken i ≤ d) × All (IsDepthOf ds) (ways targets i p d)

instr_fits : (targets : List ℕ) (ds : Depths) (i : Instr) (p d : ℕ) (fs : List PlacedFlaw) (lacks : Bool) → nat_lt d (operands_taken i) ≡ lacks → some_can_be_stuck (if lacks then fs ++ placed p (flaw.Lacks d (operands_taken i) ∷ []) else fold (with_way_flaws ds p) fs (ways targets i p d) ++ placed p (left_flaws i d)) ≡ false → (some_can_be_stuck fs ≡ false) × Goes targets ds i p d
instr_fits targets ds i p d fs true is none =
    let s = no_any fs (placed p (flaw.Lacks d (operands_taken i) ∷ [])) none in
    let clash : true ≡ false = s.1 in absurd cc
instr_fits targets ds i p d fs false is none =
    let s = no_any (fold (with_way_flaws ds p) fs (ways targets i p d)) (placed p (left_flaws i d)) none in
    let r = ways_fit ds p (ways targets i p d) fs s.0 in
    let has : operands_taken i ≤ d = grind (arith, is) in
    (r.0, (has, r.1))

abbrev GoesIf : (targets : List ℕ) → Depths → Instr → (p : ℕ) → Option ℕ → Type 0
GoesIf targets ds i p (Some d) = Goes targets ds i p d
GoesIf targets ds i p None = Unit {0}

place_fits : (targets : List ℕ) (ds : Depths) (i : Instr) (p : ℕ) (known : Option ℕ) (fs : List PlacedFlaw) → some_can_be_stuck (with_place_flaws targets ds i p known fs) ≡ false → (some_can_be_stuck fs ≡ false) × GoesIf targets ds i p known
place_fits targets ds i p (Some d) fs none = instr_fits targets ds i p d fs (nat_lt d (operands_taken i)) refl none
place_fits targets ds i p None fs none = ((no_any fs (placed p (unreached_flaws (depth_at ds (p - 1)))) none).0, tt)

at_each : (targets : List ℕ) (ds : Depths) (p : ℕ) (j : Instr) (is : List Instr) → GoesIf targets ds j p (depth_at ds p) → ((k : ℕ) (i : Instr) → slice_get is k ≡ Some i → GoesIf targets ds i (p + 1 + k) (depth_at ds (p + 1 + k))) → (k : ℕ) (i : Instr) → slice_get (j ∷ is) k ≡ Some i → GoesIf targets ds i (p + k) (depth_at ds (p + k))
at_each targets ds p j is here later zero i at =
    let same : j ≡ i = cc in
    let e : p ≡ p + 0 = omega arith in
    subst (λ n. GoesIf targets ds i n (depth_at ds n)) e (subst (λ v. GoesIf targets ds v p (depth_at ds p)) same here)
at_each targets ds p j is here later (suc k) i at =
    let e : p + 1 + k ≡ p + suc k = omega arith in
    subst (λ n. GoesIf targets ds i n (depth_at ds n)) e (later k i at)

all_fit : (targets : List ℕ) (ds : Depths) (p : ℕ) (is : List Instr) (fs : List PlacedFlaw) → some_can_be_stuck (flaws_from targets ds p is fs) ≡ false → (some_can_be_stuck fs ≡ false) × ((k : ℕ) (i : Instr) → slice_get is k ≡ Some i → GoesIf targets ds i (p + k) (depth_at ds (p + k)))
all_fit targets ds p [] fs none = (none, λ k i at. cc)
all_fit targets ds p (j ∷ is) fs none =
    let r = all_fit targets ds (p + 1) is (with_place_flaws targets ds j p (depth_at ds p) fs) none in
    let s = place_fits targets ds j p (depth_at ds p) fs r.0 in
    (s.0, at_each targets ds p j is s.1 r.1)

goes_at : (targets : List ℕ) (code : List Instr) (ds : Depths) (p d : ℕ) (known : Option ℕ) (i : Instr) → slice_get code p ≡ Some i → known ≡ Some d → GoesIf targets ds i p known → GoesOn targets code ds p d
goes_at targets code ds p d None i stands at goes = cc
goes_at targets code ds p d (Some e) i stands at goes =
    let same : e ≡ d = cc in
    let g = subst (Goes targets ds i p) same goes in
    record { instruction = i; stands = stands; has_operands = g.0; leads = g.1 }

-- No label can be stuck.
safe_each : (label : ℕ) (targets : List ℕ) → some_can_be_stuck (labels_from label targets) ≡ false
safe_each label [] = refl
safe_each label (t ∷ ts) = safe_each (label + 1) ts

safe_if : (b : Bool) (fs : List PlacedFlaw) → some_can_be_stuck fs ≡ false
    → some_can_be_stuck (if b then [] else fs) ≡ false
safe_if true fs none = refl
safe_if false fs none = none

safe_labels : (targets : List ℕ) (code : List Instr) (ds : Depths)
    → some_can_be_stuck (label_flaws targets code ds) ≡ false
safe_labels targets code ds = safe_if (comes_to_goto code ds) (labels_from 0 targets) (safe_each 0 targets)

-- one label more
pub labels_on : (targets : List ℕ) (k t : ℕ) (fs gs : List PlacedFlaw) → k < length targets → t ≡ get_or targets k t
    → gs ≡ fs ++ record { place = t; flaw = flaw.NoGoto k } ∷ []
    → gs ++ labels_from (k + 1) (drop (k + 1) targets) ≡ fs ++ labels_from k (drop k targets)
labels_on targets k t fs gs lt is made =
    let first : drop k targets ≡ t ∷ drop (k + 1) targets =
    drop-cons targets k t lt ∙ ap (λ x. x ∷ drop (suc k) targets) (sym is) ∙ ap (λ j. t ∷ drop j targets) (sym (add-one k)) in
    ap (λ l. l ++ labels_from (k + 1) (drop (k + 1) targets)) made
    ∙ append_assoc fs (record { place = t; flaw = flaw.NoGoto k } ∷ []) (labels_from (k + 1) (drop (k + 1) targets))
    ∙ sym (ap (λ l. fs ++ labels_from k l) first)

-- Without a flaw that can be stuck the depths fit.
pub fits : (targets : List ℕ) (code : List Instr) (ds : Depths) → length ds ≡ length code → some_can_be_stuck (flaws_of targets code ds) ≡ false → Fits targets code ds
fits targets code ds all none =
    let places = (no_any (place_flaws targets code ds) (label_flaws targets code ds) none).0 in
    let r = all_fit targets ds 0 code (with_way_flaws ds 0 [] (way 0 0)) places in
    record {
      begins = way_fits ds 0 (way 0 0) (no_any [] (placed 0 (way_flaws ds (way 0 0))) r.0).1;
      goes_on = λ p d at. elim (slice_get_cases code p).1 [
        | inl within ↦
            let e : 0 + p ≡ p = omega arith in
            goes_at targets code ds p d (depth_at ds p) within.0 within.2 at
            (subst (λ n. GoesIf targets ds within.0 n (depth_at ds n)) e (r.1 p within.0 within.2))
        | inr past ↦
            let beyond : None ≡ Some d = sym (get_or_past ds p None (omega (arith, all, past.0))) ∙ at in absurd cc
      ];
    }

module _ (targets : List ℕ) (code : List Instr) (other : Depths) (f : Fits targets code other) where
  -- Depths that fit are those of each call.
  agreed : (w : Way) → Reaches targets code w → depth_at other w.place ≡ Some w.depth
  agreed w begins = f.begins
  agreed w (goes_on p d i v r stands has c) =
      let g = f.goes_on p d (agreed (way p d) r) in
      let one : Some (GoesOn.instruction g) ≡ Some i = sym g.stands ∙ stands in
      let same : GoesOn.instruction g ≡ i = cc in
      All-contains (IsDepthOf other) (ways targets i p d) w (subst (λ j. All (IsDepthOf other) (ways targets j p d)) same g.leads) c

  module _ (ds : Depths) (all : length ds ≡ length code) (begun : 1 ≤ length code → depth_at ds 0 ≡ Some 0) (reached : AreReached targets code ds) (closed : AreClosed targets code ds) where
    place_within : (p d : ℕ) → depth_at other p ≡ Some d → p < length code
    place_within p d at = let g = f.goes_on p d at in slice_get_within code p (GoesOn.instruction g) g.stands

    -- a way that the other depths have, to a place that has a depth
    safe_way : (p : ℕ) (w : Way) → depth_at other w.place ≡ Some w.depth → HasDepth ds w.place → some_can_be_stuck (placed p (way_flaws ds w)) ≡ false
    safe_way p w at h =
        let two : Some h.0 ≡ Some w.depth = sym (agreed (way w.place h.0) (reached w.place h.0 h.1)) ∙ at in
        let same : h.0 ≡ w.depth = cc in
        let within : w.place < length ds = let there = place_within w.place w.depth at in omega (arith, all, there) in
        let known : slice_get ds w.place ≡ Some (Some h.0) = slice_get-get_or ds w.place None within ∙ ap Some h.1 in
        ap (λ o. some_can_be_stuck (placed p (known_flaws o w))) known
        ∙ ap (λ b. some_can_be_stuck (placed p (cond b [] (flaw.Differs w.place w.depth h.0 ∷ [])))) (eq-eqb h.0 w.depth same)

    safe_ways : (p : ℕ) (ws : List Way) (fs : List PlacedFlaw) → some_can_be_stuck fs ≡ false → ((w : Way) → Contains ws w → some_can_be_stuck (placed p (way_flaws ds w)) ≡ false) → some_can_be_stuck (fold (with_way_flaws ds p) fs ws) ≡ false
    safe_ways p [] fs none h = none
    safe_ways p (w ∷ ws) fs none h =
        safe_ways p ws (with_way_flaws ds p fs w) (both fs (placed p (way_flaws ds w)) none (h w (contains_head w ws))) (λ v c. h v (contains_tail w ws v c))

    left_safe : (p d : ℕ) (b : Bool) → some_can_be_stuck (placed p (if b then flaw.Left (d - 1) ∷ [] else [])) ≡ false
    left_safe p d true = refl
    left_safe p d false = refl

    safe_left : (p : ℕ) (i : Instr) (d : ℕ) → some_can_be_stuck (placed p (left_flaws i d)) ≡ false
    safe_left p instr.Return d = left_safe p d (nat_lt 1 d)
    safe_left p _ d = refl

    safe_unreached : (p : ℕ) (o : Option ℕ) → some_can_be_stuck (placed p (unreached_flaws o)) ≡ false
    safe_unreached p (Some d) = refl
    safe_unreached p None = refl

    met_instr : (i : Instr) (p d : ℕ) (fs : List PlacedFlaw) (lacks : Bool) → nat_lt d (operands_taken i) ≡ lacks → operands_taken i ≤ d → some_can_be_stuck fs ≡ false → ((w : Way) → Contains (ways targets i p d) w → some_can_be_stuck (placed p (way_flaws ds w)) ≡ false) → some_can_be_stuck (if lacks then fs ++ placed p (flaw.Lacks d (operands_taken i) ∷ []) else fold (with_way_flaws ds p) fs (ways targets i p d) ++ placed p (left_flaws i d)) ≡ false
    met_instr i p d fs true is has none h = absurd (grind (arith, is, has))
    met_instr i p d fs false is has none h =
        both (fold (with_way_flaws ds p) fs (ways targets i p d)) (placed p (left_flaws i d)) (safe_ways p (ways targets i p d) fs none h) (safe_left p i d)

    safe_instr : (i : Instr) (p d : ℕ) (fs : List PlacedFlaw) (lacks : Bool) → nat_lt d (operands_taken i) ≡ lacks → slice_get code p ≡ Some i → depth_at ds p ≡ Some d → some_can_be_stuck fs ≡ false → some_can_be_stuck (if lacks then fs ++ placed p (flaw.Lacks d (operands_taken i) ∷ []) else fold (with_way_flaws ds p) fs (ways targets i p d) ++ placed p (left_flaws i d)) ≡ false
    safe_instr i p d fs lacks is stands at none =
        let g = f.goes_on p d (agreed (way p d) (reached p d at)) in
        let one : Some (GoesOn.instruction g) ≡ Some i = sym g.stands ∙ stands in
        let same : GoesOn.instruction g ≡ i = cc in
        let has : operands_taken i ≤ d = subst (λ j. operands_taken j ≤ d) same g.has_operands in
        let leads = subst (λ j. All (IsDepthOf other) (ways targets j p d)) same g.leads in
        met_instr i p d fs lacks is has none (λ w c.
        let there = All-contains (IsDepthOf other) (ways targets i p d) w leads c in
        safe_way p w there (closed p d at i stands has w c (place_within w.place w.depth there)))

    safe_place : (i : Instr) (p : ℕ) (known : Option ℕ) (fs : List PlacedFlaw) → slice_get code p ≡ Some i → depth_at ds p ≡ known → some_can_be_stuck fs ≡ false → some_can_be_stuck (with_place_flaws targets ds i p known fs) ≡ false
    safe_place i p (Some d) fs stands at none = safe_instr i p d fs (nat_lt d (operands_taken i)) refl stands at none
    safe_place i p None fs stands at none = both fs (placed p (unreached_flaws (depth_at ds (p - 1)))) none (safe_unreached p (depth_at ds (p - 1)))

    safe_from : (p : ℕ) (is : List Instr) (fs : List PlacedFlaw) → ((k : ℕ) → slice_get is k ≡ slice_get code (p + k)) → some_can_be_stuck fs ≡ false → some_can_be_stuck (flaws_from targets ds p is fs) ≡ false
    safe_from p [] fs stand none = none
    safe_from p (i ∷ is) fs stand none =
        let e : p + 0 ≡ p = omega arith in
        let stands : slice_get code p ≡ Some i = sym (subst (λ n. Some i ≡ slice_get code n) e (stand 0)) in
        safe_from (p + 1) is (with_place_flaws targets ds i p (depth_at ds p) fs)
        (λ k. let e' : p + suc k ≡ p + 1 + k = omega arith in subst (λ n. slice_get is k ≡ slice_get code n) e' (stand (suc k)))
        (safe_place i p (depth_at ds p) fs stands refl none)

    safe_places : some_can_be_stuck (place_flaws targets code ds) ≡ false
    safe_places =
        let some : 1 ≤ length code = place_within 0 0 f.begins in
        safe_from 0 code (with_way_flaws ds 0 [] (way 0 0)) (λ k. let e : k ≡ 0 + k = omega arith in ap (slice_get code) e)
        (safe_way 0 (way 0 0) f.begins (0, begun some))

    pub never_idle : some_can_be_stuck (flaws_of targets code ds) ≡ false
    never_idle = both (place_flaws targets code ds) (label_flaws targets code ds) safe_places (safe_labels targets code ds)
