-- Steps that are made and seen, one after another.
use Rattle.std.proofs.Common.{◌≡◌, ◌∙◌, ℕ, ◌+◌, ◌<◌, List, [], ◌++◌, Err, Ok, Result, Some, ap, append-nil, append_assoc, arith, inl, map, refl, subst, sym, ⊎_elim}
use Rattle.std.specs.Result.{OnErr}
use Rattle.bword.specs.ByteEnds.{CanFollow, Incoming, Kept, Outgoing, Took, outgoing_of}
use Rattle.bword.proofs.Putting.{Writes-append}
use Rattle.bword.proofs.Taking.{Took-append}
use Rattle.blang.specs.declared.run.Outcome.{Outcome}
use Rattle.blang.specs.declared.run.Outcome.TheVariants as outcome
use Rattle.blang.specs.declared.run.Trap.{Trap}
use Rattle.blang.specs.Machine.{Halted, Image, Loaded, Running, State, States, Stuck, state_world, step, steps}
use Rattle.blang.specs.Reports.{AsksForByte, state_outcome}
use Rattle.bmach.specs.Readings.{ReadBySteps, ReadInStep}
use Rattle.bmach.specs.Stepping.{Paused, machine_at}
use Rattle.bmach.specs.Stops.{active_of}
use Rattle.bmach.specs.Turns.{FailsAtRead, HasHalted, KeepsBelow, LeavesWords, MovesOn, Shown, TurnGives}
use Rattle.bmach.specs.declared.machine.Active.{Active}
use Rattle.bmach.specs.declared.machine.Stop.{Stop}
use Rattle.bmach.proofs.Asking.{asks_if_taken}
use Rattle.bmach.proofs.MachineExcluded.{not_grown}
use Rattle.bmach.proofs.Readings.{read_more, run_read, turn_read}
use Rattle.bmach.proofs.Running.{at_limit, following, one_more, run_over}
use Rattle.bmach.proofs.Turning.{follows, goes_on, runs_on, took_nothing}
use Rattle.btools.specs.Programs.{nothing_written, steps_from}
use Rattle.bwatch.specs.Sights.{Sight, Sights, end_sight, sight_at, sight_of, sights_of}
use Rattle.bwatch.specs.Steps.{IsSeen, steps_at, stop_at}
use Rattle.bwatch.specs.Watches.{Ending, IsLast, Leaves, Stands, Watches}

-- what holds where memory was refused
pub where_refused : {T E : Type 0} (r : Result T E) (P : Type 0) → P → OnErr r P
where_refused (Ok x) P h = tt
where_refused (Err e) P h = h

pub if_refused : {T E : Type 0} (r : Result T E) (P Q : Type 0) → (P → Q) → OnErr r P → OnErr r Q
if_refused (Ok x) P Q so h = tt
if_refused (Err e) P Q so h = so h

-- a run as it is seen from a state on
abbrev pub seen_from : Paused → (input : List ℕ) → Sights
seen_from first input = sights_of first.image.functions (steps_from first) input

-- So many steps were made from a state on, and were seen.
pub record IsOn (seen : Sights → ℕ → Type 0) (first : Paused) (made : ℕ) (now : Paused) (i j : Incoming) : Type 0 where
  pub image_is : now.image ≡ first.image
  pub kept : Kept
  pub goes : MovesOn (λ left before. steps first.image made (machine_at first left before)) (machine_at now) i j nothing_written (outgoing_of kept)
  pub has : (more : List ℕ) → CanFollow j more → seen (seen_from first (goes.taken ++ more)) made

pub none_on : (seen : Sights → ℕ → Type 0) (first : Paused) (i : Incoming) → ((sights : Sights) → seen sights 0) → IsOn seen first 0 first i i
none_on seen first i start = record {
  image_is = refl;
  kept = record { bytes = []; refusals = 0 };
  goes = goes_on (following first.image 0 (machine_at first)) (machine_at first) i nothing_written (λ left before. refl);
  has = λ more can. start _;
}

-- what a step does to streams of its own it does to those of the run
rebased : (old new : Shown) {j m : Incoming} (w p : Kept) → (g : MovesOn old new j m nothing_written (outgoing_of w)) → MovesOn old new j m (outgoing_of p) (outgoing_of (record { bytes = p.bytes ++ g.output; refusals = p.refusals }))
rebased old new w p g = record {
  taken = g.taken;
  took = g.took;
  no_failure = g.no_failure;
  output = g.output;
  written = record { appended = refl; failures = refl; refusals = refl };
  comes = g.comes;
}

-- a run that is over, as it is seen
over_sight : (functions : List Loaded) (s : State) → (state_outcome s ≡ outcome.Limit → ⊥) → sight_of functions s ≡ end_sight (state_world s).store (state_world s).output
over_sight functions (Running call below w) over = absurd (over refl)
over_sight functions (Halted e w) over = refl
over_sight functions (Stuck w) over = refl

-- a sight with an output has it
own_output : (s : Sight) (p : Paused) (output : List ℕ) → s ≡ sight_at p output → s ≡ sight_at p s.output
own_output s p output is = is ∙ ap (sight_at p) (sym (ap (λ (x : Sight). x.output) is))

module _ (seen awaits sees : Sights → ℕ → Type 0) (first now after : Paused) (made : ℕ) (i j m : Incoming) (t : IsOn seen first made now i j) where
  abbrev states : List ℕ → ℕ → State
  states more = steps_from first (t.goes.taken ++ more)

  abbrev sights : List ℕ → Sights
  sights more = seen_from first (t.goes.taken ++ more)

  here : (more : List ℕ) → CanFollow j more → states more made ≡ machine_at now more t.goes.output
  here more can = t.goes.comes more [] can

  sight_here : (more : List ℕ) → CanFollow j more → sights more made ≡ sight_at now t.goes.output
  sight_here more can = ap (sight_of first.image.functions) (here more can) ∙ ap (λ (x : Image). sight_of x.functions (machine_at now more t.goes.output)) (sym t.image_is)

  -- a step more
  pub one_on : (w : Kept) → TurnGives now.image (machine_at now) (machine_at after) j m nothing_written (outgoing_of w) (Ok tt) → IsSeen seen awaits sees made now after w.bytes (Ok tt) → after.image ≡ now.image → IsOn sees first (made + 1) after i m
  unfolding rebased
  one_on w g looks same =
      let g' : MovesOn (λ left before. step first.image (machine_at now left before)) (machine_at after) j m nothing_written (outgoing_of w) =
      subst (λ (x : Image). MovesOn (λ left before. step x (machine_at now left before)) (machine_at after) j m nothing_written (outgoing_of w)) t.image_is g in
      let h = rebased (λ left before. step first.image (machine_at now left before)) (machine_at after) w t.kept g' in
      record {
        image_is = same ∙ t.image_is;
        kept = record { bytes = t.kept.bytes ++ g'.output; refusals = t.kept.refusals };
        goes = record {
          taken = t.goes.taken ++ h.taken;
          took = Took-append t.goes.took h.took;
          no_failure = h.no_failure ∙ t.goes.no_failure;
          output = t.goes.output ++ h.output;
          written = Writes-append t.goes.written h.written;
          comes = λ more before can.
              ap (λ left. steps first.image (made + 1) (machine_at first left before)) (append_assoc t.goes.taken h.taken more)
              ∙ one_more first.image made _ _ (t.goes.comes (h.taken ++ more) before (follows h.took can))
              ∙ h.comes more (before ++ t.goes.output) can
              ∙ ap (machine_at after more) (append_assoc before t.goes.output h.output);
        };
        has = λ more can.
            let xs = g'.taken ++ more in
            let can' = follows g'.took can in
            let went : states xs (made + 1) ≡ machine_at after more (t.goes.output ++ w.bytes) =
            one_more first.image made _ _ (here xs can') ∙ g'.comes more t.goes.output can ∙ ap (λ x. machine_at after more (t.goes.output ++ x)) (sym g'.written.appended) in
            let then : sights xs (made + 1) ≡ sight_at after (t.goes.output ++ w.bytes) =
            ap (sight_of first.image.functions) went ∙ ap (λ (x : Image). sight_of x.functions (machine_at after more (t.goes.output ++ w.bytes))) (sym (same ∙ t.image_is)) in
            let at = sight_here xs can' in
            subst (λ (input : List ℕ). sees (seen_from first input) (made + 1)) (sym (append_assoc t.goes.taken g'.taken more))
            (looks (sights xs) (own_output (sights xs made) now t.goes.output at) (then ∙ ap (λ x. sight_at after (x ++ w.bytes)) (sym (ap (λ (s : Sight). s.output) at))) (t.has xs can'));
      }

  -- the run was over by itself with the next step
  module _ (n : ℕ) (lt : made < n) (r : Outcome) (own : r ≡ outcome.Limit → ⊥) (g : HasHalted (λ left before. step now.image (machine_at now left before)) j m nothing_written nothing_written r) (words : (left before : List ℕ) → (state_world (step now.image (machine_at now left before))).store ≡ after.store) where
    can_before : (more : List ℕ) → CanFollow m more → CanFollow j more
    can_before more can = subst (λ (x : Incoming). CanFollow x more) g.input can

    last_state : (more : List ℕ) → CanFollow m more → states more (made + 1) ≡ step now.image (machine_at now more t.goes.output)
    last_state more can = one_more first.image made _ _ (here more (can_before more can)) ∙ ap (λ (x : Image). step x (machine_at now more t.goes.output)) (sym t.image_is)

    last_outcome : (more : List ℕ) → CanFollow m more → state_outcome (states more (made + 1)) ≡ r
    last_outcome more can = ap state_outcome (last_state more can) ∙ (g.shows more t.goes.output).outcome

    pub over_by : (more : List ℕ) → CanFollow m more → (last : ℕ) × (last + 1 ≡ made + 1) × (state_outcome (states more last) ≡ outcome.Limit) × (state_outcome (states more (made + 1)) ≡ r)
    over_by more can = (made, refl, ap state_outcome (here more (can_before more can)), last_outcome more can)

    pub last_sight : (more : List ℕ) → CanFollow m more → sights more (made + 1) ≡ end_sight after.store (sights more made).output
    last_sight more can =
        let s = step now.image (machine_at now more t.goes.output) in
        let shown = g.shows more t.goes.output in
        ap (sight_of first.image.functions) (last_state more can)
        ∙ over_sight first.image.functions s (λ e. own (sym shown.outcome ∙ e))
        ∙ (λ k. end_sight (words more t.goes.output k) (shown.written k))
        ∙ ap (end_sight after.store) (sym (ap (λ (x : Sight). x.output) (sight_here more (can_before more can))))

    -- the words where it is over and what was awaited
    pub was_last : (stop : Stop) → stop.steps ≡ made + 1 → stop.call ≡ active_of now.call → ((more : List ℕ) → CanFollow m more → awaits (sights more) made) → (more : List ℕ) → CanFollow m more → IsLast after (sights more) (awaits (sights more)) stop
    was_last stop steps call awaited more can = record {
      last = made;
      made = steps;
      awaited = awaited more can;
      ran = ap (λ (s : Sight). s.call) (sight_here more (can_before more can)) ∙ ap Some (sym call);
      over = ap (sights more) steps ∙ last_sight more can;
    }

  halted : (r : Outcome) → HasHalted (λ left before. step now.image (machine_at now left before)) j m nothing_written nothing_written r → HasHalted (λ left before. step first.image (machine_at now left before)) j m (outgoing_of t.kept) (outgoing_of t.kept) r
  halted r g =
      let h = subst (λ (x : Image). HasHalted (λ left before. step x (machine_at now left before)) j m nothing_written nothing_written r) t.image_is g in
      record { input = h.input; output = refl; shows = h.shows }

  -- its own stream has nothing of a step by which the run was over
  quiet : {p q : Outgoing} (r : Outcome) → HasHalted (λ left before. step now.image (machine_at now left before)) j m p q r → HasHalted (λ left before. step now.image (machine_at now left before)) j m nothing_written nothing_written r
  quiet r g = record { input = g.input; output = refl; shows = g.shows }

  -- what was awaited where the step was broken off or over
  awaited_here : ((sights : Sights) → sights made ≡ sight_at now (sights made).output → seen sights made → awaits sights made) → (more : List ℕ) → CanFollow j more → awaits (sights more) made
  awaited_here looks more can = looks (sights more) (own_output (sights more made) now t.goes.output (sight_here more can)) (t.has more can)

  module _ (n : ℕ) (lt : made < n) (w : Kept) where
    pub exit_on : (stop : Stop) (status : ℕ) → stop.steps ≡ made + 1 → stop.call ≡ active_of now.call → TurnGives now.image (machine_at now) (machine_at after) j m nothing_written (outgoing_of w) (Err (outcome.Exit status))
        → ((sights : Sights) → sights made ≡ sight_at now (sights made).output → seen sights made → awaits sights made) → LeavesWords (λ left before. step now.image (machine_at now left before)) (Err (outcome.Exit status)) after.store
        → Watches first.image.functions (steps_from first) n i m (outcome.Exit status) (made + 1) (Stands after sees awaits stop)
    exit_on stop status steps call g' looks words =
        let r = outcome.Exit status in
        let g = quiet r g' in record {
          output = t.kept;
          gives = run_over first.image made (machine_at first) (machine_at now) (machine_at after) n m (outgoing_of t.kept) r (omega (arith, lt)) (runs_on now.call now.below now.store) t.goes (halted r g);
          within = omega (arith, lt);
          taken = t.goes.taken;
          took = subst (Took i t.goes.taken) (sym g.input) t.goes.took;
          ends = over_by n lt r (λ e. cc) g words;
          told = was_last n lt r (λ e. cc) g words stop steps call (λ more can. awaited_here looks more (can_before n lt r (λ e. cc) g words more can));
        }

    pub trap_on : (stop : Stop) (kind : Trap) → stop.steps ≡ made + 1 → stop.call ≡ active_of now.call → TurnGives now.image (machine_at now) (machine_at after) j m nothing_written (outgoing_of w) (Err (outcome.Trap kind))
        → ((sights : Sights) → sights made ≡ sight_at now (sights made).output → seen sights made → awaits sights made) → LeavesWords (λ left before. step now.image (machine_at now left before)) (Err (outcome.Trap kind)) after.store → after.below ≡ now.below
        → Watches first.image.functions (steps_from first) n i m (outcome.Trap kind) (made + 1) (Stands after sees awaits stop)
    unfolding was_last
    trap_on stop kind steps call g' looks words kept =
        let r = outcome.Trap kind in
        let g = quiet r g' in record {
          output = t.kept;
          gives = run_over first.image made (machine_at first) (machine_at now) (machine_at after) n m (outgoing_of t.kept) r (omega (arith, lt)) (runs_on now.call now.below now.store) t.goes (halted r g);
          within = omega (arith, lt);
          taken = t.goes.taken;
          took = subst (Took i t.goes.taken) (sym g.input) t.goes.took;
          ends = over_by n lt r (λ e. cc) g words;
          told = λ more can.
              let before = can_before n lt r (λ e. cc) g words in (
                was_last n lt r (λ e. cc) g words stop steps call (λ xs follow. awaited_here looks xs (before xs follow)) more can,
                ap (λ (s : Sight). s.below) (sight_here more (before more can)) ∙ ap (map active_of) (sym kept),
              );
        }

    -- the read of the next step failed
    read_on : (stop : Stop) → stop.steps ≡ made → FailsAtRead (λ left before. step first.image (machine_at now left before)) j m nothing_written (outgoing_of w)
        → ((sights : Sights) → sights made ≡ sight_at now (sights made).output → seen sights made → awaits sights made)
        → Watches first.image.functions (steps_from first) n i m outcome.Device made (Stands after sees awaits stop)
    read_on stop steps f looks =
        let come : (more : List ℕ) → CanFollow m more → CanFollow j more = λ more can. follows (took_nothing f.fails) can in record {
          output = t.kept;
          gives = run_over first.image made (machine_at first) (machine_at now) (machine_at after) n m (outgoing_of t.kept) outcome.Device (omega (arith, lt)) (runs_on now.call now.below now.store) t.goes
              (inl (record { fails = f.fails; silent = refl; reads = f.reads }));
          within = omega (arith, lt);
          taken = t.goes.taken;
          took = subst (λ (xs : List ℕ). Took i xs m) (append-nil t.goes.taken) (Took-append t.goes.took (took_nothing f.fails));
          ends = λ more can. (
            subst AsksForByte (sym (here more (come more can))) (asks_if_taken first.image (machine_at now) (runs_on now.call now.below now.store) f.reads more t.goes.output),
            ap (λ s. (state_world s).input) (here more (come more can)),
          );
          told = λ more can. subst (awaits (sights more)) (sym steps) (awaited_here looks more (come more can));
        }

    pub device_on : (stop : Stop) → stop.steps ≡ made → TurnGives now.image (machine_at now) (machine_at after) j m nothing_written (outgoing_of w) (Err outcome.Device)
        → ((sights : Sights) → sights made ≡ sight_at now (sights made).output → seen sights made → awaits sights made)
        → Watches first.image.functions (steps_from first) n i m outcome.Device made (Stands after sees awaits stop)
    device_on stop steps g looks =
        ⊎_elim (λ f. read_on stop steps (subst (λ (x : Image). FailsAtRead (λ left before. step x (machine_at now left before)) j m nothing_written (outgoing_of w)) t.image_is f) looks)
        (λ x. absurd (not_grown nothing_written.failures (outgoing_of w).failures refl refl x.refuses.counted.0)) g

    -- what these steps and the next one have read
    pub read_with : ReadInStep now.image (machine_at now) j m → ReadBySteps (steps_from first) n i m
    read_with r =
        read_more first.image made n (machine_at first) (machine_at now) i j m nothing_written (outgoing_of t.kept) (omega (arith, lt)) t.goes
        (subst (λ (x : Image). ReadInStep x (machine_at now) j m) t.image_is r)

    pub memory_on : TurnGives now.image (machine_at now) (machine_at after) j m nothing_written (outgoing_of w) (Err outcome.Memory) → ReadBySteps (steps_from first) n i m
    memory_on g = read_with (turn_read now j m nothing_written (outgoing_of w) after (Err outcome.Memory) (λ e. cc) g)

    -- the run was over with the next step, or broken off in it
    over_by_step : (r : Outcome) → (r ≡ outcome.Memory → ⊥) → TurnGives now.image (machine_at now) (machine_at after) j m nothing_written (outgoing_of w) (Err r)
        → ((sights : Sights) → sights made ≡ sight_at now (sights made).output → seen sights made → awaits sights made) → LeavesWords (λ left before. step now.image (machine_at now left before)) (Err r) after.store → KeepsBelow (Err r) now.below after.below
        → Watches first.image.functions (steps_from first) n i m r (steps_at r made) (Stands after sees awaits (stop_at r (active_of now.call) made))
    over_by_step (outcome.Exit status) own g looks words kept = exit_on (stop_at (outcome.Exit status) (active_of now.call) made) status refl refl g looks words
    over_by_step (outcome.Trap kind) own g looks words kept = trap_on (stop_at (outcome.Trap kind) (active_of now.call) made) kind refl refl g looks words kept
    over_by_step outcome.Limit own g looks words kept = absurd g
    over_by_step outcome.Device own g looks words kept = device_on (stop_at outcome.Device (active_of now.call) made) refl g looks
    over_by_step outcome.Memory own g looks words kept = absurd (own refl)

    pub over_on : (r : Outcome) (call : Active) → call ≡ active_of now.call → TurnGives now.image (machine_at now) (machine_at after) j m nothing_written (outgoing_of w) (Err r)
        → ((sights : Sights) → sights made ≡ sight_at now (sights made).output → seen sights made → awaits sights made) → LeavesWords (λ left before. step now.image (machine_at now left before)) (Err r) after.store → KeepsBelow (Err r) now.below after.below
        → (stop : Stop) → (stop ≡ stop_at r call made) × (r ≡ outcome.Memory → ⊥) → Watches first.image.functions (steps_from first) n i m stop.outcome stop.steps (Stands after sees awaits stop)
    over_on r call is g looks words kept stop h =
        subst (λ (x : Stop). Watches first.image.functions (steps_from first) n i m x.outcome x.steps (Stands after sees awaits x)) (sym (h.0 ∙ ap (λ (a : Active). stop_at r a made) is)) (over_by_step r h.1 g looks words kept)

    pub refused_on : (r : Outcome) → r ≡ outcome.Memory → TurnGives now.image (machine_at now) (machine_at after) j m nothing_written (outgoing_of w) (Err r) → ReadBySteps (steps_from first) n i m
    refused_on r is g = memory_on (rw is at g)

  -- all steps were made
  all_made : (stop : Stop) → stop.steps ≡ made → stop.call ≡ active_of now.call → Watches first.image.functions (steps_from first) made i j outcome.Limit made (Stands now seen awaits stop)
  all_made stop steps call = record {
    output = t.kept;
    gives = at_limit first.image made (machine_at first) now.call now.below now.store t.goes;
    within = omega arith;
    taken = t.goes.taken;
    took = t.goes.took;
    ends = λ more can. (refl, ap state_outcome (here more can));
    told = λ more can. (
      subst (seen (sights more)) (sym steps) (t.has more can),
      ap (sights more) steps ∙ own_output (sights more made) now t.goes.output (sight_here more can) ∙ ap (λ k. sight_at now (sights more k).output) (sym steps),
      call,
    );
  }

  pub all_on : (n : ℕ) → made ≡ n → (stop : Stop) → stop.steps ≡ n → stop.call ≡ active_of now.call → Watches first.image.functions (steps_from first) n i j outcome.Limit n (Stands now seen awaits stop)
  all_on n is stop steps call = subst (λ (k : ℕ). Watches first.image.functions (steps_from first) k i j outcome.Limit k (Stands now seen awaits stop)) is (all_made stop (steps ∙ sym is) call)

-- what is told, as it follows from what was told
pub told_so : (functions : List Loaded) (states : States) (n : ℕ) (i j : Incoming) (r : Outcome) (made : ℕ) (tells others : Sights → ℕ → Outcome → Type 0) → ((sights : Sights) → tells sights made r → others sights made r) → Watches functions states n i j r made tells → Watches functions states n i j r made others
told_so functions states n i j r made tells others so w = record {
  output = w.output;
  gives = w.gives;
  within = w.within;
  taken = w.taken;
  took = w.took;
  ends = w.ends;
  told = λ more can. so (sights_of functions states (w.taken ++ more)) (w.told more can);
}

-- what was read where memory was refused in the end
pub read_watched : (functions : List Loaded) (states : States) (n : ℕ) (i j : Incoming) (r : Outcome) (made : ℕ) (tells : Sights → ℕ → Outcome → Type 0) → (r ≡ outcome.Device → ⊥) → Watches functions states n i j r made tells → ReadBySteps states n i j
read_watched functions states n i j r made tells other w = run_read states n i j nothing_written (outgoing_of w.output) r other w.gives

-- what is left in the end
module _ (p : Paused) (seen awaits : Sights → ℕ → Type 0) (told : Sights → ℕ → Outcome → Type 0) (stop : Stop) where
  left_so : (r : Outcome) → (r ≡ outcome.Device → ⊥) → (sights : Sights) → (Ending p sights (seen sights) (awaits sights) r stop → told sights stop.steps r) → (awaits' : Sights → ℕ → Type 0) → Stands p seen awaits stop sights stop.steps r → Leaves awaits' told sights stop.steps r
  left_so outcome.Device own sights so awaits' h = absurd (own refl)
  left_so _ own sights so awaits' h = so h

  pub left_on : (first : Paused) (n : ℕ) (i j : Incoming) → (stop.outcome ≡ outcome.Device → ⊥) → ((sights : Sights) → Ending p sights (seen sights) (awaits sights) stop.outcome stop → told sights stop.steps stop.outcome) → (awaits' : Sights → ℕ → Type 0)
      → Watches first.image.functions (steps_from first) n i j stop.outcome stop.steps (Stands p seen awaits stop) → Watches first.image.functions (steps_from first) n i j stop.outcome stop.steps (Leaves awaits' told)
  left_on first n i j own so awaits' =
      told_so first.image.functions (steps_from first) n i j stop.outcome stop.steps (Stands p seen awaits stop) (Leaves awaits' told) (λ sights. left_so stop.outcome own sights (so sights) awaits')

  unread_so : (r : Outcome) → r ≡ outcome.Device → (sights : Sights) → Stands p seen awaits stop sights stop.steps r → Leaves awaits told sights stop.steps r
  unread_so outcome.Device is sights h = h
  unread_so _ is sights h = cc

  -- where the next step could not read
  pub unread_on : (first : Paused) (n : ℕ) (i j : Incoming) → stop.outcome ≡ outcome.Device
      → Watches first.image.functions (steps_from first) n i j stop.outcome stop.steps (Stands p seen awaits stop) → Watches first.image.functions (steps_from first) n i j stop.outcome stop.steps (Leaves awaits told)
  unread_on first n i j is =
      told_so first.image.functions (steps_from first) n i j stop.outcome stop.steps (Stands p seen awaits stop) (Leaves awaits told) (unread_so stop.outcome is)
