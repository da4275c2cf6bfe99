-- The steps of a loop that are noted, one after another.
use Rattle.std.proofs.Common.{◌≡◌, ◌∙◌, ℕ, ◌+◌, ◌-◌, ◌<◌, ◌≤◌, Bool, true, List, [], ◌∷◌, ◌++◌, Option, Some, None, ap, append_assoc, arith, fold, length, map, refl, subst, sym}
use Rattle.std.specs.Prelude.{IfSome, ◌==◌, if◌then◌else◌}
use Rattle.std.specs.List.{range_with_len}
use Rattle.std.proofs.lemmas.Grind.{fold-append}
use Rattle.std.proofs.lemmas.List.{length-map}
use Rattle.std.proofs.lemmas.List.FromFn.{map-range_with_len_more}
use Rattle.blang.specs.declared.code.Instr.{Instr}
use Rattle.bmach.specs.declared.machine.Active.{Active}
use Rattle.bmach.specs.Stepping.{Paused}
use Rattle.bmach.specs.Stops.{active_of}
use Rattle.bword.specs.ByteEnds.{CanFollow}
use Rattle.blang.specs.Machine.{Loaded, States}
use Rattle.btools.specs.Functions.{Placed, entries_of, function_with, instr_in}
use Rattle.btools.proofs.Ranges.{one_further}
use Rattle.bwatch.specs.Sights.{Sight, Sights, sight_at, sights_of}
use Rattle.bwatch.specs.Watches.{Ending, Leaves, Watches}
use Rattle.blang.specs.declared.run.Outcome.{Outcome}
use Rattle.blang.specs.declared.run.Outcome.TheVariants as outcome
use Rattle.bmach.specs.declared.machine.Stop.{Stop}
use Rattle.bendless.specs.declared.looping.LoopNotes.{LoopNotes}
use Rattle.bendless.specs.declared.looping.LoopWatcher.{LoopWatcher}
use Rattle.bendless.specs.Replays.{IsReplay, Replayed, lender_replay, replay_in, replay_new}
use Rattle.bendless.proofs.Searching.{end_known}
use Rattle.bendless.specs.Loops.{HasNoted, HasNotedAll, HasNotedNext, Noted, in_own, mark, marked, noted, noted_of, notes_in, notes_so_far, two_rounds, unnoted, with_asking, with_stored}
use Rattle.bendless.specs.declared.search.Repeat.{Repeat}

-- one address more
pub marked_more : (marks : List Bool) (start address : ℕ) → start ≤ address → marked marks (range_with_len start ((address + 1) - start)) ≡ mark (marked marks (range_with_len start (address - start))) address
marked_more marks start address from = ap (marked marks) (one_further start address from) ∙ fold-append mark marks (range_with_len start (address - start)) (address ∷ [])

module _ (fs : List Placed) (sights : Sights) (r : Repeat) (made : ℕ) where
  -- a step of the loop more
  pub notes_more : r.first ≤ made → notes_so_far fs sights r (made + 1) ≡ noted fs r.callers (notes_so_far fs sights r made) (sights made)
  notes_more begun =
      let n = made - r.first in
      let long : (made + 1) - r.first ≡ n + 1 = omega (arith, begun) in
      ap (λ k. fold (noted fs r.callers) unnoted (map sights (range_with_len r.first k))) long
      ∙ ap (fold (noted fs r.callers) unnoted) (map-range_with_len_more sights r.first n made (omega (arith, begun)))
      ∙ fold-append _ _ (map sights (range_with_len r.first n)) (sights made ∷ [])

  -- none before it
  pub notes_none : made < r.first → notes_so_far fs sights r (made + 1) ≡ notes_so_far fs sights r made
  notes_none early =
      let none : (made + 1) - r.first ≡ made - r.first = omega (arith, early) in
      ap (λ k. fold (noted fs r.callers) unnoted (map sights (range_with_len r.first k))) none

-- what is noted of a step, where its run was seen
pub noted_here : (fs : List Placed) (callers : ℕ) (before asked read after : Noted) (s : Sight) (p : Paused) (output : List ℕ) (i : Option Instr) (call : Active) (is_own : Bool) → s ≡ sight_at p output → call ≡ active_of p.call
    → i ≡ instr_in (function_with fs call.strings) call.place → asked ≡ with_asking call i p.call.operands before → is_own ≡ (length p.below == callers) → read ≡ in_own is_own i p.call.operands asked
    → after ≡ with_stored (sight_at p output).storing read → after ≡ noted fs callers before s
noted_here fs callers before asked read after s p output i call is_own is at code asks own reads stores = subst (λ (x : Sight). after ≡ noted fs callers before x) (sym is) (here)
  where
    below : length (map active_of p.below) ≡ length p.below
    below = length-map p.below active_of

    here : after ≡ noted fs callers before (sight_at p output)
    here = stores ∙ ap (with_stored (sight_at p output).storing) (reads
        ∙ (λ k. in_own ((own ∙ ap (λ n. n == callers) (sym below)) k) (whole k) p.call.operands ((asks ∙ (λ m. with_asking (at m) (whole m) p.call.operands before)) k)))
      where
        whole : i ≡ instr_in (function_with fs (active_of p.call).strings) (active_of p.call).place
        whole = code ∙ ap (λ (c : Active). instr_in (function_with fs c.strings) c.place) at

-- what is noted where a run ends
pub noted_all : (first now : LoopWatcher) (p : Paused) (sights : Sights) (stop : Stop) (r : Outcome) → Ending p sights (HasNoted first now sights) (HasNotedNext first now sights) r stop → HasNotedAll first now sights stop.steps r
noted_all first now p sights stop (outcome.Exit status) h = tt
noted_all first now p sights stop (outcome.Trap kind) h = tt
noted_all first now p sights stop outcome.Limit h = h.0
noted_all first now p sights stop outcome.Device h = tt
noted_all first now p sights stop outcome.Memory h = tt

-- what was noted of a run that made two rounds of its loop
pub looked : (fs : List Placed) (functions : List Loaded) (states : States) (bytes : List ℕ) (has_end : Bool) (n : ℕ) (start u : Replayed) (first now : LoopWatcher) (r : Repeat) (stop : Stop) (found : Option LoopNotes) → n ≡ two_rounds r → start ≡ replay_new bytes has_end → IsReplay u
    → lender_replay u ≡ lender_replay (replay_new bytes has_end) → entries_of first.tables.now ≡ fs → first.repeat ≡ r → IfSome found (λ notes. (notes ≡ now.notes) × (stop.outcome ≡ outcome.Limit))
    → Watches functions states n (replay_in start) (replay_in u) stop.outcome stop.steps (Leaves (HasNotedNext first now) (HasNotedAll first now))
    → IfSome found (λ notes. (more : List ℕ) → (has_end ≡ true → more ≡ []) → noted_of notes ≡ notes_in fs (sights_of functions states (bytes ++ more)) r)
looked fs functions states bytes has_end n start u first now r stop None rounds begun is_replay same tables asked is w = tt
looked fs functions states bytes has_end n start u first now r stop (Some notes) rounds begun is_replay same tables asked is w = λ more can.
    let w' = subst (λ o. Watches functions states n (replay_in (replay_new bytes has_end)) (replay_in u) o stop.steps (Leaves (HasNotedNext first now) (HasNotedAll first now))) is.1
    (subst (λ x. Watches functions states n (replay_in x) (replay_in u) stop.outcome stop.steps (Leaves (HasNotedNext first now) (HasNotedAll first now))) begun w) in
    let xs = u.left ++ more in
    let follows : CanFollow (replay_in u) xs = λ over. let none = (is_replay over).0 in let nothing = end_known u bytes more has_end is_replay same can over in rw (none, nothing) refl in
    let input : w'.taken ++ xs ≡ bytes ++ more = sym (append_assoc w'.taken u.left more) ∙ ap (λ l. l ++ more) (sym w'.took.bytes) in
    let has = w'.told xs follows in
    ap noted_of is.0 ∙ has.notes
    ∙ (λ i. notes_so_far (tables i) (sights_of functions states (input i)) (asked i) (((w'.ends xs follows).0 ∙ rounds) i))
