-- Steps of a run that goes on after its findings.
use Rattle.std.proofs.Common.{◌≡◌, ◌∙◌, ℕ, zero, suc, ◌+◌, ◌-◌, ◌<◌, ◌≤◌, List, [], ◌++◌, Err, None, Ok, ap, append_assoc, arith, inl, inr, refl, subst, sym}
use Rattle.bword.specs.ByteEnds.{CanFollow, Incoming, Outgoing, Took}
use Rattle.bword.proofs.Taking.{Took-append, Took-none}
use Rattle.blang.specs.declared.run.Outcome.{Outcome}
use Rattle.blang.specs.declared.run.Outcome.TheVariants as outcome
use Rattle.blang.specs.Machine.{Halted, Image, Loaded, Running, State, States, Stuck, step, steps}
use Rattle.bmach.specs.Stepping.{Paused, machine_at}
use Rattle.bmach.specs.Stops.{IsOverAt, active_of}
use Rattle.bmach.specs.Turns.{HasHalted, TurnGives}
use Rattle.bmach.specs.declared.machine.Active.{Active}
use Rattle.bmach.specs.declared.machine.Stop.{Stop}
use Rattle.bmach.proofs.Running.{IsOver, at_limit, one_more, over_stays, run_over, steps_add}
use Rattle.bmach.proofs.Stopping.{stands_after, stops_before}
use Rattle.bmach.proofs.Turning.{runs_on, took_broken}
use Rattle.btools.specs.Programs.{steps_from}
use Rattle.btrace.specs.RowTexts.{Legend}
use Rattle.bwatch.specs.Sights.{Sights, sight_at, sight_of}
use Rattle.bcareful.specs.Things.{Atlas}
use Rattle.bcareful.specs.Marks.{Marks}
use Rattle.bcareful.specs.Effects.{changed_in, effect_of, marks_at, next_step, step_in}
use Rattle.bcareful.specs.Findings.{finding_at, finding_of}
use Rattle.bcareful.specs.Warned.{IsAll, WarnGives, Warnings, kept_text, no_warnings, warned, warnings_at}
use Rattle.bcareful.proofs.Going as going
use Rattle.bcareful.proofs.Going.{IsOn, seen_from}
use Rattle.bcareful.proofs.Steps.{add_one, finding_next, main_marks, marks_next, over, stop_at}

module _ (a : Atlas) (legend : Legend) (source : List ℕ) where
  -- These are the marks after so many steps, and this is told of them.
  pub record IsToldSo (marks : Marks) (w : Warnings) (sights : Sights) (made : ℕ) : Type 0 where
    pub marked : marks_at a sights made ≡ marks
    pub told : warnings_at a legend source sights made ≡ w

  pub none_told : (first : Paused) (i : Incoming) (o : Outgoing) → IsOn (IsToldSo (main_marks a first) no_warnings) first 0 first i i o o
  none_told first i o = going.none_on (IsToldSo (main_marks a first) no_warnings) first i o (λ input. record { marked = refl; told = refl })

  -- what is told where the next step is looked at
  abbrev pub told_next : Paused → (made : ℕ) → Marks → Warnings → (output : List ℕ) → Warnings
  told_next now made marks w output = warned a legend source (sight_at now output) made (finding_of (next_step a now marks)) w

  -- where nothing more is found nothing more is told
  still_told : (sights : Sights) (m : ℕ) → ((k : ℕ) → m ≤ k → finding_at a sights k ≡ None) → (d : ℕ) → warnings_at a legend source sights (m + d) ≡ warnings_at a legend source sights m
  still_told sights m none zero = let e : m + zero ≡ m = omega arith in ap (warnings_at a legend source sights) e
  still_told sights m none (suc d) =
      let e : m + suc d ≡ suc (m + d) = omega arith in
      ap (warnings_at a legend source sights) e
      ∙ ap (λ f. warned a legend source (sights (m + d)) (m + d) f (warnings_at a legend source sights (m + d))) (none (m + d) (omega arith))
      ∙ still_told sights m none d

  none_over : (functions : List Loaded) (m : Marks) (s : State) → IsOver s → finding_of (step_in a (sight_of functions s) m) ≡ None
  none_over functions m (Running call below world) is = absurd is
  none_over functions m (Halted h world) is = refl
  none_over functions m (Stuck world) is = refl

  warned_next : (sights : Sights) (made : ℕ) (now : Paused) (marks : Marks) (w : Warnings) (before : List ℕ) → sights made ≡ sight_at now before → IsToldSo marks w sights made
      → warnings_at a legend source sights (made + 1) ≡ told_next now made marks w before
  warned_next sights made now marks w before here so =
      ap (warnings_at a legend source sights) (add_one made)
      ∙ (λ k. warned a legend source (here k) made (finding_next a sights made now marks before here so.marked k) (so.told k))

  module _ (first now : Paused) (made : ℕ) (marks : Marks) (w w' : Warnings) {i j : Incoming} {o p : Outgoing} (t : IsOn (IsToldSo marks w) first made now i j o p) (looked : (output : List ℕ) → w' ≡ told_next now made marks w output) where
    -- a step more
    pub one_told : (after : Paused) {m : Incoming} {q : Outgoing} → TurnGives now.image (machine_at now) (machine_at after) j m p q (Ok tt) → after.image ≡ now.image
        → (marks' : Marks) → marks' ≡ changed_in a (effect_of (next_step a now marks)) (active_of after.call) marks → IsOn (IsToldSo marks' w') first (made + 1) after i m o q
    one_told after g same marks' is = going.one_on (IsToldSo marks w) first now made t (IsToldSo marks' w') after g same (λ sights before later here there so. record {
      marked = marks_next a sights made now marks before here so.marked after later there ∙ sym is;
      told = warned_next sights made now marks w before here so ∙ sym (looked before);
    })

    -- all that is told after the next step
    told_here : (more : List ℕ) → CanFollow j more → warnings_at a legend source (seen_from first (t.goes.taken ++ more)) (made + 1) ≡ w'
    told_here more can =
        warned_next (seen_from first (t.goes.taken ++ more)) made now marks w t.goes.output (going.sight_here (IsToldSo marks w) first now made t more can) (t.has more can)
        ∙ sym (looked t.goes.output)

    module _ (after : Paused) (n : ℕ) (lt : made < n) (call : Active) (here_is : call ≡ active_of now.call) where
      abbrev fn : (m : Incoming) → (q : Outgoing) → Outcome → Type 0
      fn m q r = TurnGives now.image (machine_at now) (machine_at after) j m p q (Err r)

      turn : (m : Incoming) (q : Outgoing) (r : Outcome) → fn m q r → TurnGives first.image (machine_at now) (machine_at after) j m p q (Err r)
      turn m q r g = subst (λ (x : Image). TurnGives x (machine_at now) (machine_at after) j m p q (Err r)) t.image_is g

      -- after a step with which the run is over nothing more is found
      none_later : (m : Incoming) (q : Outgoing) (r : Outcome) → (outcome.Limit ≡ r → ⊥) → HasHalted (λ left before. step now.image (machine_at now left before)) j m p q r
          → (more : List ℕ) → CanFollow j more → (k : ℕ) → made + 1 ≤ k → finding_at a (seen_from first (t.goes.taken ++ more)) k ≡ None
      none_later m q r other g more can k le =
          let last = step now.image (machine_at now more t.goes.output) in
          let is_over = over r other last (g.shows more t.goes.output).outcome in
          let enough : made + 1 + (k - (made + 1)) ≡ k = omega (arith, le) in
          let there : steps_from first (t.goes.taken ++ more) (made + 1) ≡ last =
          one_more first.image made _ _ (going.here (IsToldSo marks w) first now made t more can) ∙ ap (λ (x : Image). step x (machine_at now more t.goes.output)) (sym t.image_is) in
          let same : steps_from first (t.goes.taken ++ more) k ≡ last =
          ap (steps_from first (t.goes.taken ++ more)) (sym enough) ∙ steps_add first.image (made + 1) (k - (made + 1)) (machine_at first (t.goes.taken ++ more) [])
          ∙ ap (steps first.image (k - (made + 1))) there ∙ over_stays first.image (k - (made + 1)) last is_over in
          ap (λ (s : State). finding_of (step_in a (sight_of first.image.functions s) (marks_at a (seen_from first (t.goes.taken ++ more)) k))) same
          ∙ none_over first.image.functions (marks_at a (seen_from first (t.goes.taken ++ more)) k) last is_over

      -- so this is all that is told of so many steps
      all_so : (m : Incoming) (q : Outgoing) (r : Outcome) → (outcome.Limit ≡ r → ⊥) → HasHalted (λ left before. step now.image (machine_at now left before)) j m p q r
          → (more : List ℕ) → CanFollow m more → warnings_at a legend source (seen_from first ((t.goes.taken ++ []) ++ more)) n ≡ w'
      all_so m q r other g more can =
          let can' = subst (λ (e : Incoming). CanFollow e more) g.input can in
          let enough : made + 1 + (n - (made + 1)) ≡ n = omega (arith, lt) in
          let whole = ap (warnings_at a legend source (seen_from first (t.goes.taken ++ more))) (sym enough)
          ∙ still_told (seen_from first (t.goes.taken ++ more)) (made + 1) (none_later m q r other g more can') (n - (made + 1))
          ∙ told_here more can' in
          subst (λ (input : List ℕ). warnings_at a legend source (seen_from first input) n ≡ w') (sym (append_assoc t.goes.taken [] more)) whole

      told_with : (m : Incoming) (q : Outgoing) (r : Outcome) → fn m q r → (taken : List ℕ) → Took j taken m
          → ((more : List ℕ) → CanFollow m more → IsAll a legend source r (seen_from first ((t.goes.taken ++ taken) ++ more)) n (kept_text r w'.text))
          → WarnGives a legend source first.image.functions (steps_from first) n i m o q (stop_at r call (made + 1)) (kept_text r w'.text)
      told_with m q r g taken took all = record {
        gives = run_over first.image made (machine_at first) (machine_at now) (machine_at after) n m q r (omega (arith, lt)) (runs_on now.call now.below now.store) t.goes (turn m q r g);
        stops = subst (λ (x : Active). IsOverAt (steps_from first) n i m r x (made + 1)) (sym here_is)
            (stops_before first.image made (machine_at first) now.call now.below now.store (machine_at after) n m q r lt t.goes (turn m q r g));
        taken = t.goes.taken ++ taken;
        took = Took-append t.goes.took took;
        told = all;
      }

      -- the run was over with the next step, or broken off in it
      pub over_told : (m : Incoming) (q : Outgoing) (r : Outcome) → fn m q r
          → WarnGives a legend source first.image.functions (steps_from first) n i m o q (stop_at r call (made + 1)) (kept_text r w'.text)
      over_told m q (outcome.Exit status) g = told_with m q (outcome.Exit status) g [] (subst (Took j []) (sym g.input) (Took-none j))
          (λ more can. ap (λ (x : Warnings). x.text) (sym (all_so m q (outcome.Exit status) (λ e. cc) g more can)))
      over_told m q (outcome.Trap kind) g = told_with m q (outcome.Trap kind) g [] (subst (Took j []) (sym g.input) (Took-none j))
          (λ more can. ap (λ (x : Warnings). x.text) (sym (all_so m q (outcome.Trap kind) (λ e. cc) g more can)))
      over_told m q outcome.Limit g = absurd g
      over_told m q outcome.Device g =
          let b = took_broken now.image (machine_at now) (machine_at after) j m p q outcome.Device (inl refl) g in
          told_with m q outcome.Device g b.0 b.1 (λ more can. tt)
      over_told m q outcome.Memory g =
          let b = took_broken now.image (machine_at now) (machine_at after) j m p q outcome.Memory (inr refl) g in
          told_with m q outcome.Memory g b.0 b.1 (λ more can. refl)

  -- the same, by equations
  pub as_told : (functions : List Loaded) (states : States) (n : ℕ) (i j : Incoming) (o p : Outgoing) (stop stop' : Stop) (text text' : List ℕ) → stop' ≡ stop → text' ≡ text
      → WarnGives a legend source functions states n i j o p stop text → WarnGives a legend source functions states n i j o p stop' text'
  as_told functions states n i j o p stop stop' text text' e d h =
      subst (λ (x : Stop). WarnGives a legend source functions states n i j o p x text') (sym e)
      (subst (λ (x : List ℕ). WarnGives a legend source functions states n i j o p stop x) (sym d) h)

  module _ (first now : Paused) (made : ℕ) (marks : Marks) (w : Warnings) {i j : Incoming} {o p : Outgoing} (t : IsOn (IsToldSo marks w) first made now i j o p) where
    -- memory was refused after these steps
    pub refused_told : (n : ℕ) → made ≤ n → (call : Active) (count : ℕ) → WarnGives a legend source first.image.functions (steps_from first) n i j o p (stop_at outcome.Memory call count) []
    refused_told n le call count = record {
      gives = inl (record {
        made = made;
        within = le;
        comes = at_limit first.image made (machine_at first) now.call now.below now.store t.goes;
      });
      stops = record { taken = t.goes.taken; took = t.goes.took; ends = λ more can. tt };
      taken = t.goes.taken;
      took = t.goes.took;
      told = λ more can. refl;
    }

    -- all steps were made
    pub all_told : (n : ℕ) → made ≡ n → (call : Active) → call ≡ active_of now.call → WarnGives a legend source first.image.functions (steps_from first) n i j o p (stop_at outcome.Limit call n) w.text
    all_told n is call here_is = subst (λ (k : ℕ). WarnGives a legend source first.image.functions (steps_from first) k i j o p (stop_at outcome.Limit call k) w.text) is (record {
      gives = at_limit first.image made (machine_at first) now.call now.below now.store t.goes;
      stops = subst (λ (x : Active). IsOverAt (steps_from first) made i j outcome.Limit x made) (sym here_is) (stands_after first.image made (machine_at first) now.call now.below now.store t.goes);
      taken = t.goes.taken;
      took = t.goes.took;
      told = λ more can. ap (λ (x : Warnings). x.text) (sym (t.has more can).told);
    })
