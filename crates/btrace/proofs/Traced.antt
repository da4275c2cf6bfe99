-- Steps that are seen and kept, one after another.
use Rattle.std.proofs.Common.{◌≡◌, ◌∙◌, ℕ, ◌+◌, ◌-◌, ◌≤◌, Bool, true, false, cond, List, [], ◌∷◌, ◌++◌, ap, append-nil, arith, map, Option, refl, subst, sym, if◌then◌else◌}
use Rattle.std.specs.List.{flat_map, range_with_len}
use Rattle.std.specs.Option.{option_map_or}
use Rattle.std.proofs.Math.Seq.{drop-append_seam, drop-length}
use Rattle.std.proofs.lemmas.List.{map-append, map-id}
use Rattle.std.proofs.lemmas.List.Folds.{flat_map-map}
use Rattle.std.proofs.lemmas.List.FromFn.{filter_of_map_range_with_len_more}
use Rattle.blang.specs.declared.run.Outcome.{Outcome}
use Rattle.blang.specs.declared.run.Outcome.TheVariants as outcome
use Rattle.blang.specs.declared.run.Trap.{Trap}
use Rattle.bmach.specs.Stepping.{Paused}
use Rattle.bmach.specs.Stops.{active_of}
use Rattle.bmach.specs.declared.machine.Stop.{Stop}
use Rattle.bwatch.specs.Sights.{Sight, Sights, end_sight, sight_at}
use Rattle.bwatch.specs.Watches.{Ending, IsLast, Leaves}
use Rattle.bendless.specs.declared.search.Repeat.{Repeat}
use Rattle.btrace.specs.Loops.{again_text}
use Rattle.btrace.specs.RowTexts.{Legend, legend_of, places_text, stored_text, written_row}
use Rattle.btrace.specs.Traces.{IsTrace, done_text, ending_text, is_shown, rows_text, sight_row, step_text, wanted_of, where_text}
use Rattle.btrace.specs.Tracers.{AwaitsStep, HasTold, HasTraced, texts_of}
use Rattle.bwatch.specs.Trails.{IsKept, Keeps, KeepsIf, chosen, trail_text}
use Rattle.btrace.specs.declared.tracer.Tracer.{Tracer}
use Rattle.btrace.specs.declared.tracer.Which.{Which}
use Rattle.bwatch.specs.declared.trail.Trail.{Trail}
use Rattle.btrace.specs.declared.tracing.TheConstants.{HEADING}
use Rattle.bwatch.proofs.Kept.{kept_more, kept_none, kept_same, kept_text, map-chosen, no_row, own_row}

-- the texts with one step more
wanted_more : (which : Which) (sights : Sights) (made : ℕ) → wanted_of which sights (made + 1) ≡ wanted_of which sights made ++ cond (is_shown which sights made) (made ∷ []) []
wanted_more which sights made = simp map-id at (filter_of_map_range_with_len_more (is_shown which sights) (λ (n : ℕ). n) 0 made made (omega arith))

texts_shown : (t : Tracer) (sights : Sights) (made : ℕ) → is_shown t.which sights made ≡ true → texts_of t sights (made + 1) ≡ texts_of t sights made ++ step_text (legend_of t.legend) sights made ∷ []
texts_shown t sights made seen =
    let f = step_text (legend_of t.legend) sights in
    let before = wanted_of t.which sights made in
    ap (map f) (wanted_more t.which sights made ∙ ap (λ b. before ++ cond b (made ∷ []) []) seen) ∙ map-append f before (made ∷ [])

texts_hidden : (t : Tracer) (sights : Sights) (made : ℕ) → is_shown t.which sights made ≡ false → texts_of t sights (made + 1) ≡ texts_of t sights made
texts_hidden t sights made hidden =
    let before = wanted_of t.which sights made in
    ap (map (step_text (legend_of t.legend) sights)) (wanted_more t.which sights made ∙ ap (λ b. before ++ cond b (made ∷ []) []) hidden ∙ append-nil before)

-- what is kept of so many steps, and what comes after it
rows_told : (first : Tracer) (t : Trail) (sights : Sights) (made : ℕ) → IsKept first.which.rows first.trail.text (texts_of first sights made) t
    → trail_text t ≡ first.trail.text ++ rows_text (legend_of first.legend) first.which sights made ++ t.row
rows_told first t sights made kept =
    let f = step_text (legend_of first.legend) sights in
    let rows = first.which.rows in
    let wanted = wanted_of first.which sights made in
    kept_text rows first.trail.text (texts_of first sights made) t kept
    ∙ ap (λ x. first.trail.text ++ x ++ t.row) (ap (flat_map (λ row. row)) (sym (map-chosen f rows wanted)) ∙ flat_map-map (λ (row : List ℕ). row) f (chosen rows wanted))

-- no step was made
pub none_traced : (t : Tracer) → t.trail.last.items ≡ [] → t.trail.row ≡ [] → (sights : Sights) → HasTraced t t sights 0
none_traced t last row sights = ((refl, refl, kept_none t.which.rows t.trail last), row)

-- after a step with which the run isn't over
pub hidden_traced : (first t : Tracer) (sights : Sights) (made : ℕ) → t.is_shown ≡ false → AwaitsStep first t sights made → HasTraced first t sights (made + 1)
hidden_traced first t sights made hidden a = (
  (
    a.keeps.0,
    a.keeps.1,
    subst (λ (texts : List (List ℕ)). IsKept first.which.rows first.trail.text texts t.trail) (sym (texts_hidden first sights made (sym a.shown ∙ hidden))) a.keeps.2,
  ),
  a.row ∙ no_row t.is_shown _ hidden,
)

-- a row was finished and kept
row_kept : (first t : Tracer) (v w : Trail) (sights : Sights) (made : ℕ) → v.text ≡ t.trail.text → v.last.items ≡ t.trail.last.items → v.row ≡ step_text (legend_of first.legend) sights made → Keeps t.which.rows v w
    → t.is_shown ≡ true → AwaitsStep first t sights made → IsKept first.which.rows first.trail.text (texts_of first sights (made + 1)) w × (w.row ≡ [])
row_kept first t v w sights made text last row keeps seen a =
    let rows = first.which.rows in
    let before = texts_of first sights made in
    let kept = kept_more rows first.trail.text before v w (kept_same rows first.trail.text before t.trail v text last a.keeps.2)
    (subst (λ (x : Which). Keeps x.rows v w) a.keeps.1 keeps) in (
      subst (λ (texts : List (List ℕ)). IsKept rows first.trail.text texts w)
          (ap (λ x. before ++ x ∷ []) row ∙ sym (texts_shown first sights made (sym a.shown ∙ seen))) kept.0,
      kept.1,
    )

pub shown_traced : (first t u : Tracer) (v : Trail) (p : Paused) (sights : Sights) (made : ℕ) (written : List ℕ) → u.legend ≡ t.legend → u.which ≡ t.which → v.text ≡ t.trail.text → v.last.items ≡ t.trail.last.items
    → (t.stored.end ≤ 65536 → v.row ≡ t.trail.row ++ (stored_text p.store (range_with_len t.stored.start (t.stored.end - t.stored.start)) ++ written_row written))
    → Keeps t.which.rows v u.trail → t.is_shown ≡ true → sights (made + 1) ≡ sight_at p ((sights made).output ++ written) → AwaitsStep first t sights made → HasTraced first u sights (made + 1)
shown_traced first t u v p sights made written legend which text last row keeps seen after a =
    let l = legend_of first.legend in
    let known = a.stored seen in
    let own = sight_row l (made + 1) (sights made) in
    let whole : v.row ≡ step_text l sights made =
    row known.1
    ∙ (λ i. (a.row ∙ own_row t.is_shown own seen) i ++ (stored_text p.store (known.0 i) ++ written_row (sym (drop-append_seam (sights made).output written) i)))
    ∙ ap (λ s. own ++ done_text (sights made) s) (sym after) in
    let kept = row_kept first t v u.trail sights made text last whole keeps seen a in
    ((legend ∙ a.keeps.0, which ∙ a.keeps.1, kept.0), kept.1)

-- a step with which the run is over has stored no word and written nothing
last_text : (legend : Legend) (sights : Sights) (last : ℕ) (store : List ℕ) → sights (last + 1) ≡ end_sight store (sights last).output → step_text legend sights last ≡ sight_row legend (last + 1) (sights last)
last_text legend sights last store over =
    let own = sight_row legend (last + 1) (sights last) in
    ap (λ s. own ++ done_text (sights last) s) over
    ∙ ap (λ bytes. own ++ written_row bytes) (drop-length (sights last).output) ∙ append-nil own

last_kept : (first t : Tracer) (v : Trail) (sights : Sights) (last : ℕ) (store : List ℕ) → (b : Bool) → t.is_shown ≡ b → KeepsIf b t.which.rows t.trail v → sights (last + 1) ≡ end_sight store (sights last).output → AwaitsStep first t sights last
    → IsKept first.which.rows first.trail.text (texts_of first sights (last + 1)) v × (v.row ≡ [])
last_kept first t v sights last store true seen keeps over a =
    let l = legend_of first.legend in
    row_kept first t t.trail v sights last refl refl (a.row ∙ own_row t.is_shown _ seen ∙ sym (last_text l sights last store over)) keeps seen a
last_kept first t v sights last store false hidden keeps over a = (
  subst (λ (texts : List (List ℕ)). IsKept first.which.rows first.trail.text texts v) (sym (texts_hidden first sights last (sym a.shown ∙ hidden)))
      (kept_same first.which.rows first.trail.text (texts_of first sights last) t.trail v keeps.0 keeps.1 a.keeps.2),
  keeps.2 ∙ a.row ∙ no_row t.is_shown _ hidden,
)

-- the rows of all steps, where the run is over by its last one, and then this
over_told : (first t : Tracer) (v w : Trail) (p : Paused) (sights : Sights) (stop : Stop) (ending : List ℕ) → KeepsIf t.is_shown t.which.rows t.trail v → w.text ≡ v.text → w.last.items ≡ v.last.items → w.row ≡ v.row ++ ending
    → IsLast p sights (AwaitsStep first t sights) stop → trail_text w ≡ first.trail.text ++ rows_text (legend_of first.legend) first.which sights stop.steps ++ ending
over_told first t v w p sights stop ending keeps text last row h =
    let over = ap sights (sym h.made) ∙ h.over in
    let kept = last_kept first t v sights h.last p.store t.is_shown refl keeps over h.awaited in
    let all = subst (λ (n : ℕ). IsKept first.which.rows first.trail.text (texts_of first sights n) v) (sym h.made) kept.0 in
    rows_told first w sights stop.steps (kept_same first.which.rows first.trail.text (texts_of first sights stop.steps) v w text last all)
    ∙ ap (λ r. first.trail.text ++ rows_text (legend_of first.legend) first.which sights stop.steps ++ r) (row ∙ ap (λ r. r ++ ending) kept.1)

-- by a halt, by a trap, and where all steps were made
pub halt_told : (first t u : Tracer) (p : Paused) (sights : Sights) (stop : Stop) (status : ℕ) → KeepsIf t.is_shown t.which.rows t.trail u.trail → IsLast p sights (AwaitsStep first t sights) stop → HasTold first u sights stop.steps (outcome.Exit status)
halt_told first t u p sights stop status keeps h = over_told first t u.trail u.trail p sights stop [] keeps refl refl (sym (append-nil u.trail.row)) h

pub trap_told : (first t u : Tracer) (v : Trail) (p : Paused) (sights : Sights) (stop : Stop) (kind : Trap) → KeepsIf t.is_shown t.which.rows t.trail v → u.trail.text ≡ v.text → u.trail.last.items ≡ v.last.items
    → u.trail.row ≡ v.row ++ places_text (legend_of t.legend) p.store stop.call (map active_of p.below)
    → Ending p sights (HasTraced first t sights) (AwaitsStep first t sights) (outcome.Trap kind) stop → HasTold first u sights stop.steps (outcome.Trap kind)
trap_told first t u v p sights stop kind keeps text last row h =
    let l = legend_of first.legend in
    let is = h.0 in
    let one : stop.steps - 1 ≡ is.last = omega (arith, is.made) in
    let store = ap (λ (s : Sight). s.store) is.over in
    let place : places_text (legend_of t.legend) p.store stop.call (map active_of p.below) ≡ ending_text l first.which sights stop.steps (outcome.Trap kind) =
    (λ i. places_text (legend_of (is.awaited.keeps.0 i)) (sym store i) stop.call (sym h.1 i))
    ∙ sym (ap (λ call. option_map_or (λ c. places_text l (sights stop.steps).store c (sights is.last).below) call []) is.ran)
    ∙ sym (ap (λ n. where_text l (sights n) (sights stop.steps).store) one) in
    over_told first t v u.trail p sights stop (ending_text l first.which sights stop.steps (outcome.Trap kind)) keeps text last (row ∙ ap (λ x. v.row ++ x) place) is

pub limit_told : (first t u : Tracer) (p : Paused) (sights : Sights) (stop : Stop) → u.trail.text ≡ t.trail.text → u.trail.last.items ≡ t.trail.last.items
    → u.trail.row ≡ t.trail.row ++ places_text (legend_of t.legend) p.store stop.call (map active_of p.below)
    → Ending p sights (HasTraced first t sights) (AwaitsStep first t sights) outcome.Limit stop → HasTold first u sights stop.steps outcome.Limit
limit_told first t u p sights stop text last row h =
    let l = legend_of first.legend in
    let has = h.0 in
    let place : places_text (legend_of t.legend) p.store stop.call (map active_of p.below) ≡ where_text l (sights stop.steps) (sights stop.steps).store =
    (λ i. places_text (legend_of (has.0.0 i)) p.store (h.2 i) (map active_of p.below)) ∙ sym (ap (λ (s : Sight). where_text l s s.store) h.1) in
    rows_told first u.trail sights stop.steps (kept_same first.which.rows first.trail.text (texts_of first sights stop.steps) t.trail u.trail text last has.0.2)
    ∙ ap (λ r. first.trail.text ++ rows_text l first.which sights stop.steps ++ r) (row ∙ (λ i. has.1 i ++ place i))

-- the row of a step that could not read comes after those of all before it
unread_told : (first t : Tracer) (sights : Sights) (made : ℕ) → AwaitsStep first t sights made → HasTold first t sights made outcome.Device
unread_told first t sights made a =
    let l = legend_of first.legend in
    rows_told first t.trail sights made a.keeps.2
    ∙ ap (λ r. first.trail.text ++ rows_text l first.which sights made ++ r)
    (a.row ∙ ap (λ (b : Bool). if b then sight_row l (made + 1) (sights made) else []) a.shown)

-- what is kept in the end, with what was added to it, is the trace
pub traced_so : (first t : Tracer) (legend : Legend) (which : Which) (again : Option Repeat) (text : List ℕ) → legend_of first.legend ≡ legend → first.which ≡ which → first.trail.text ≡ HEADING.now
    → text ≡ trail_text t.trail ++ again_text legend again → (r : Outcome) (made : ℕ) (sights : Sights) → Leaves (AwaitsStep first t) (HasTold first t) sights made r → IsTrace legend which again text sights made r
traced_so first t legend which again text same asked begun added r made sights h =
    added ∙ ap (λ x. x ++ again_text legend again)
    (told r h ∙ (λ i. begun i ++ rows_text (same i) (asked i) sights made ++ ending_text (same i) (asked i) sights made r))
  where
    told : (x : Outcome) → Leaves (AwaitsStep first t) (HasTold first t) sights made x → HasTold first t sights made x
    told (outcome.Exit status) has = has
    told (outcome.Trap kind) has = has
    told outcome.Limit has = has
    told outcome.Device has = unread_told first t sights made has
    told outcome.Memory has = has
