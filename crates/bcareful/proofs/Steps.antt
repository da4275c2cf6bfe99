-- Steps of a careful run, one after another.
use Rattle.std.proofs.Common.{◌≡◌, ◌∙◌, ℕ, zero, suc, ◌+◌, ◌-◌, ◌<◌, ◌≤◌, List, [], ◌++◌, Err, None, Ok, Some, ap, append_assoc, arith, inl, inr, refl, subst, sym, ⊎_elim}
use Rattle.std.specs.Prelude.{true, false, is_some, if◌then◌else◌}
use Rattle.bword.specs.ByteEnds.{CanFollow, Incoming, Outgoing, Took, Writes}
use Rattle.bword.proofs.Putting.{Writes-append}
use Rattle.bword.proofs.Taking.{Took-append}
use Rattle.bword.specs.declared.ends.EndFault.{EndFault}
use Rattle.bword.specs.declared.ends.EndFault.TheVariants as end_fault
use Rattle.blang.specs.declared.run.Outcome.{Outcome}
use Rattle.blang.specs.declared.run.Outcome.TheVariants as outcome
use Rattle.blang.specs.Machine.{Halted, Image, Running, State, States, Stuck, state_world, step, steps}
use Rattle.blang.specs.Reports.{AsksForByte, ComesTo, Shows, StopsAtRead, StopsAtWrite, StopsForMemory, state_outcome}
use Rattle.bmach.specs.Readings.{ReadBySteps, ReadInStep}
use Rattle.bmach.specs.Stepping.{Paused, machine_at}
use Rattle.bmach.specs.Stops.{IsOverAt, active_of}
use Rattle.bmach.specs.declared.machine.Active.{Active}
use Rattle.bmach.specs.declared.machine.Stop.{Stop}
use Rattle.bmach.proofs.Stopping.{stands_after, stops_before}
use Rattle.bmach.specs.Turns.{FailsAtRead, FailsAtWrite, FailsForMemory, HasHalted, TurnGives}
use Rattle.bmach.proofs.Asking.{asks_if_taken}
use Rattle.bmach.proofs.Readings.{read_more, turn_read}
use Rattle.bmach.proofs.Running.{IsOver, one_more, over_stays, steps_add}
use Rattle.bmach.proofs.Turning.{follows, runs_on}
use Rattle.btools.specs.Programs.{steps_from}
use Rattle.bwatch.specs.Sights.{Sight, Sights, sight_at, sights_of}
use Rattle.bcareful.proofs.Going as going
use Rattle.bcareful.proofs.Going.{IsOn, seen_from}
use Rattle.bcareful.specs.Things.{Atlas}
use Rattle.bcareful.specs.Marks.{Marks, unbegun}
use Rattle.bcareful.specs.Effects.{changed_in, changed_to, effect_of, marks_at, next_step, step_in}
use Rattle.bcareful.specs.Findings.{careful, finding_at, finding_of, made_by}
use Rattle.bcareful.specs.Stays.{StaysAtFirst}
use Rattle.bcareful.specs.Carefuls.{CarefulGives, IsClean}
use Rattle.bcareful.specs.declared.effect.Effect.TheVariants.{Begins}
use Rattle.bcareful.specs.declared.finding.Finding.{Finding}
use Rattle.bcareful.specs.declared.watching.Ended.TheVariants as ended
use Rattle.bcareful.specs.declared.watching.Found.{Found}

-- what a run came to, and where
abbrev pub stop_at : Outcome → Active → (steps : ℕ) → Stop
stop_at result call steps = record { outcome = result; call = call; steps = steps }

pub add_one : (n : ℕ) → n + 1 ≡ suc n
add_one n = omega arith

-- the marks where a call of the main function begins
abbrev pub main_marks : Atlas → Paused → Marks
main_marks a p = changed_in a (Begins 0) (active_of p.call) (unbegun a)

-- what is found at the next step, and the marks after it
module _ (a : Atlas) (sights : Sights) (made : ℕ) (now : Paused) (marks : Marks) (before : List ℕ) (here : sights made ≡ sight_at now before) (is : marks_at a sights made ≡ marks) where
  pub finding_next : finding_at a sights made ≡ finding_of (next_step a now marks)
  finding_next = λ k. finding_of (step_in a (here k) (is k))

  pub marks_next : (after : Paused) (later : List ℕ) → sights (made + 1) ≡ sight_at after later
      → marks_at a sights (made + 1) ≡ changed_in a (effect_of (next_step a now marks)) (active_of after.call) marks
  marks_next after later there =
      ap (marks_at a sights) (add_one made) ∙ (λ k. changed_to a (effect_of (step_in a (here k) (is k))) (there k) (is k))

-- a run that stays at a finding
stays : (a : Atlas) (sights : Sights) (k : ℕ) (f : Finding) → made_by a sights k ≡ k → finding_at a sights k ≡ Some f → (d : ℕ) → made_by a sights (k + d) ≡ k
stays a sights k f here found zero = let e : k + zero ≡ k = omega arith in ap (made_by a sights) e ∙ here
stays a sights k f here found (suc d) =
    let e : k + suc d ≡ suc (k + d) = omega arith in
    let before : made_by a sights (k + d) ≡ k = stays a sights k f here found d in
    ap (made_by a sights) e ∙ rw before (rw found refl)

-- one without a finding so far
unstayed : (a : Atlas) (sights : Sights) (k : ℕ) → ((m : ℕ) → m < k → finding_at a sights m ≡ None) → made_by a sights k ≡ k
unstayed a sights zero none = refl
unstayed a sights (suc k) none =
    let before : made_by a sights k ≡ k = unstayed a sights k (λ m lt. none m (omega (arith, lt))) in
    let here : finding_at a sights k ≡ None = none k (omega arith) in
    let more : k + 1 ≡ suc k = omega arith in
    rw before (rw here more)

pub stays_at_first : StaysAtFirst
stays_at_first a functions states input k none =
    let sights = sights_of functions states input in
    let all = unstayed a sights k none in
    (ap (states input) all, λ f d found. ap (states input) (stays a sights k f all found d))

-- a run makes no fewer steps where it may make more
grows : (a : Atlas) (sights : Sights) (k d : ℕ) → made_by a sights k ≤ made_by a sights (k + d)
grows a sights k zero = let e : k + zero ≡ k = omega arith in rw e (omega arith)
grows a sights k (suc d) =
    let e : k + suc d ≡ suc (k + d) = omega arith in
    let before = grows a sights k d in
    rw e (one_further a sights (k + d) (made_by a sights k) before)
  where
    one_further : (a : Atlas) (sights : Sights) (n least : ℕ) → least ≤ made_by a sights n → least ≤ made_by a sights (suc n)
    one_further a sights n least le = elim (is_some (finding_at a sights (made_by a sights n))) as (λ b. least ≤ (if b then made_by a sights n else made_by a sights n + 1)) [ true ↦ le | false ↦ omega (arith, le) ]

pub over : (r : Outcome) → (outcome.Limit ≡ r → ⊥) → (s : State) → state_outcome s ≡ r → IsOver s
over r other (Running call below w) e = absurd (other e)
over r other (Halted h w) e = tt
over r other (Stuck w) e = tt

-- one more, where the next step has no finding
goes_further : (a : Atlas) (sights : Sights) (made : ℕ) → made_by a sights made ≡ made → finding_at a sights made ≡ None → made_by a sights (made + 1) ≡ made + 1
goes_further a sights made so none = ap (made_by a sights) (add_one made) ∙ rw so (rw none refl)

-- a sight with an output has it
own_output : (s : Sight) (p : Paused) (output : List ℕ) → s ≡ sight_at p output → s ≡ sight_at p s.output
own_output s p output is = is ∙ ap (sight_at p) (sym (ap (λ (x : Sight). x.output) is))

-- No step so far had a finding, and these are the marks.
pub record IsCleanSo (a : Atlas) (marks : Marks) (sights : Sights) (made : ℕ) : Type 0 where
  pub clean : made_by a sights made ≡ made
  pub marked : marks_at a sights made ≡ marks

pub none_on : (a : Atlas) (first : Paused) (i : Incoming) (o : Outgoing) → IsOn (IsCleanSo a (main_marks a first)) first 0 first i i o o
none_on a first i o = going.none_on (IsCleanSo a (main_marks a first)) first i o (λ input. record { clean = refl; marked = refl })

module _ (a : Atlas) (first now after : Paused) (made : ℕ) (marks : Marks) {i j : Incoming} {o p : Outgoing} (t : IsOn (IsCleanSo a marks) first made now i j o p) where
  abbrev states : List ℕ → ℕ → State
  states more = steps_from first (t.goes.taken ++ more)

  abbrev sights : List ℕ → Sights
  sights more = seen_from first (t.goes.taken ++ more)

  here : (more : List ℕ) → CanFollow j more → states more made ≡ machine_at now more t.goes.output
  here = going.here (IsCleanSo a marks) first now made t

  sight_here : (more : List ℕ) → CanFollow j more → sights more made ≡ sight_at now t.goes.output
  sight_here = going.sight_here (IsCleanSo a marks) first now made t

  -- what is found at the next step
  found_here : (more : List ℕ) → CanFollow j more → finding_at a (sights more) made ≡ finding_of (next_step a now marks)
  found_here more can = finding_next a (sights more) made now marks t.goes.output (sight_here more can) (t.has more can).marked

  -- how many steps are made where the next one has no finding
  made_next : finding_of (next_step a now marks) ≡ None → (more : List ℕ) → CanFollow j more → made_by a (sights more) (made + 1) ≡ made + 1
  made_next none more can = goes_further a (sights more) made (t.has more can).clean (found_here more can ∙ none)

  -- a step more
  pub one_on : {m : Incoming} {q : Outgoing} → TurnGives now.image (machine_at now) (machine_at after) j m p q (Ok tt) → after.image ≡ now.image → finding_of (next_step a now marks) ≡ None
      → (marks' : Marks) → marks' ≡ changed_in a (effect_of (next_step a now marks)) (active_of after.call) marks → IsOn (IsCleanSo a marks') first (made + 1) after i m o q
  one_on g same none marks' is = going.one_on (IsCleanSo a marks) first now made t (IsCleanSo a marks') after g same (λ sights before later here there so. record {
    clean = goes_further a sights made so.clean (finding_next a sights made now marks before here so.marked ∙ none);
    marked = marks_next a sights made now marks before here so.marked after later there ∙ sym is;
  })

  -- a careful machine is at the same state
  careful_here : (more : List ℕ) → CanFollow j more → careful a first.image.functions (steps_from first) (t.goes.taken ++ more) made ≡ machine_at now more t.goes.output
  careful_here more can = ap (states more) ((t.has more can).clean) ∙ here more can

  careful_next : finding_of (next_step a now marks) ≡ None → (more : List ℕ) → CanFollow j more
      → careful a first.image.functions (steps_from first) (t.goes.taken ++ more) (made + 1) ≡ step now.image (machine_at now more t.goes.output)
  careful_next none more can =
      ap (states more) (made_next none more can) ∙ one_more first.image made _ _ (here more can)
      ∙ ap (λ (x : Image). step x (machine_at now more t.goes.output)) (sym t.image_is)

  abbrev machine : States
  machine = careful a first.image.functions (steps_from first)

  comes_here : ComesTo machine made i j o p outcome.Limit
  comes_here = record {
    taken = t.goes.taken;
    took = t.goes.took;
    no_failure = t.goes.no_failure;
    output = t.goes.output;
    written = t.goes.written;
    shows = λ more can. subst (Shows outcome.Limit more t.goes.output) (sym (careful_here more can)) (record { outcome = refl; left = refl; written = refl });
  }

  -- what these steps have read
  read_here : (n : ℕ) → made ≤ n → ReadBySteps (steps_from first) n i j
  read_here n le = record {
    made = made;
    within = le;
    taken = t.goes.taken;
    took = t.goes.took;
    no_failure = t.goes.no_failure;
    left = λ more can. ap (λ s. (state_world s).input) (here more can);
  }

  -- all steps were made
  pub all_on : (n : ℕ) → made ≡ n → (call : Active) → call ≡ active_of now.call → IsClean a first.image.functions (steps_from first) n i j o p (stop_at outcome.Limit call n)
  unfolding comes_here
  all_on n is call here_is = record {
    gives = subst (λ (k : ℕ). ComesTo machine k i j o p outcome.Limit) is comes_here;
    unfound = λ limit. record {
      taken = t.goes.taken;
      took = t.goes.took;
      all = λ more can. subst (λ (k : ℕ). made_by a (sights more) k ≡ k) is ((t.has more can).clean);
    };
    stops = subst (λ (k : ℕ). IsOverAt (steps_from first) k i j outcome.Limit call k) is
        (subst (λ (x : Active). IsOverAt (steps_from first) made i j outcome.Limit x made) (sym here_is) (stands_after first.image made (machine_at first) now.call now.below now.store t.goes));
    read = λ other. read_here n (omega (arith, is));
  }

  module _ (n : ℕ) (lt : made < n) where
    further : made + (n - made) ≡ n
    further = omega (arith, lt)

    -- the next step has a finding
    pub found_on : (f : Found) → finding_of (next_step a now marks) ≡ Some f.finding → f.made ≡ made → f.call ≡ active_of now.call
        → CarefulGives a first.image.functions (steps_from first) n i j o p now (ended.Found f)
    unfolding comes_here
    found_on f found at call =
        let stay : (more : List ℕ) → CanFollow j more → made_by a (sights more) n ≡ made =
        λ more can. ap (made_by a (sights more)) (sym further) ∙ stays a (sights more) made f.finding ((t.has more can).clean) (found_here more can ∙ found) (n - made) in (
          record {
            taken = t.goes.taken;
            took = t.goes.took;
            no_failure = t.goes.no_failure;
            output = t.goes.output;
            written = t.goes.written;
            shows = λ more can.
                subst (Shows outcome.Limit more t.goes.output) (sym (ap (states more) (stay more can) ∙ here more can))
                (record { outcome = refl; left = refl; written = refl });
          },
          record {
            read = read_here n (omega (arith, lt));
            taken = t.goes.taken;
            took = t.goes.took;
            stays = λ more can. record {
              within = rw at lt;
              made = stay more can ∙ sym at;
              finding = ap (finding_at a (sights more)) at ∙ found_here more can ∙ found;
              seen = ap (sights more) at ∙ own_output (sights more made) now t.goes.output (sight_here more can) ∙ ap (λ k. sight_at now (sights more k).output) (sym at);
              call = call;
            };
          },
        )

    module _ (none : finding_of (next_step a now marks) ≡ None) where
      least : (more : List ℕ) → CanFollow j more → made + 1 ≤ made_by a (sights more) n
      least more can =
          let so = made_next none more can in
          let all : made + 1 + (n - (made + 1)) ≡ n = omega (arith, lt) in
          let le = grows a (sights more) (made + 1) (n - (made + 1)) in
          subst (λ (k : ℕ). made + 1 ≤ made_by a (sights more) k) all (subst (λ (k : ℕ). k ≤ made_by a (sights more) (made + 1 + (n - (made + 1)))) so le)

      -- the run was over by itself with the next step
      halted_on : {m : Incoming} {q : Outgoing} (r : Outcome) → (outcome.Limit ≡ r → ⊥) → HasHalted (λ left before. step now.image (machine_at now left before)) j m p q r → ComesTo machine n i m o q r
      halted_on {m} {q} r other s = record {
        taken = t.goes.taken;
        took = subst (Took i t.goes.taken) (sym s.input) t.goes.took;
        no_failure = ap (λ (e : Incoming). e.failures) s.input ∙ t.goes.no_failure;
        output = t.goes.output;
        written = subst (Writes o t.goes.output) (sym s.output) t.goes.written;
        shows = λ more can. at_end more (subst (λ (e : Incoming). CanFollow e more) s.input can);
      }
        where
          at_end : (more : List ℕ) → CanFollow j more → Shows r more t.goes.output (machine (t.goes.taken ++ more) n)
          at_end more can =
              let last = step now.image (machine_at now more t.goes.output) in
              let shown = s.shows more t.goes.output in
              let count = made_by a (sights more) n in
              let enough : made + 1 + (count - (made + 1)) ≡ count = omega (arith, least more can) in
              let there : states more (made + 1) ≡ last =
              one_more first.image made _ _ (here more can) ∙ ap (λ (x : Image). step x (machine_at now more t.goes.output)) (sym t.image_is) in
              let same : states more count ≡ last =
              ap (states more) (sym enough) ∙ steps_add first.image (made + 1) (count - (made + 1)) (machine_at first (t.goes.taken ++ more) [])
              ∙ ap (steps first.image (count - (made + 1))) there ∙ over_stays first.image (count - (made + 1)) last (over r other last shown.outcome) in
              subst (Shows r more t.goes.output) (sym same) shown

      -- the read of the next step failed
      read_on : {m : Incoming} {q : Outgoing} → FailsAtRead (λ left before. step now.image (machine_at now left before)) j m p q → StopsAtRead machine n i m o q
      unfolding comes_here
      read_on {m} {q} f = subst (λ (e : Outgoing). StopsAtRead machine n i m o e) (sym f.silent) (record {
        made = made;
        within = lt;
        before = j;
        comes = comes_here;
        fails = f.fails;
        asks = λ more can. subst AsksForByte (sym (careful_here more can)) (asks_if_taken now.image (machine_at now) (runs_on now.call now.below now.store) f.reads more t.goes.output);
      })

      -- the write of the next step was refused
      write_on : {m : Incoming} {q : Outgoing} (why : EndFault) → FailsAtWrite (λ left before. step now.image (machine_at now left before)) j m p q why → StopsAtWrite machine n i m o q why
      unfolding comes_here
      write_on {m} {q} why f = subst (λ (e : Incoming). StopsAtWrite machine n i e o q why) (sym f.unread) (record {
        made = made;
        within = lt;
        before = p;
        comes = comes_here;
        text = f.text;
        some = f.some;
        refuses = f.refuses;
        writes = λ more can. ap (λ s. (state_world s).output) (careful_next none more can) ∙ f.writes more t.goes.output;
      })

      careful_at : (k : ℕ) → k ≤ 1 → (more : List ℕ) → CanFollow j more → machine (t.goes.taken ++ more) (made + k) ≡ steps now.image k (machine_at now more t.goes.output)
      careful_at zero one more can = let e : made + zero ≡ made = omega arith in ap (machine (t.goes.taken ++ more)) e ∙ careful_here more can
      careful_at (suc zero) one more can = careful_next none more can
      careful_at (suc (suc k)) one more can = absurd (omega (arith, one))

      -- memory was refused in the next step
      memory_on : {m : Incoming} {q : Outgoing} (k : ℕ) → k ≤ 1 → FailsForMemory (λ left before. steps now.image k (machine_at now left before)) j m p q → StopsForMemory machine n i m o q
      memory_on k one f = record {
        made = made + k;
        within = omega (arith, lt, one);
        comes = record {
          taken = t.goes.taken ++ f.moves.taken;
          took = Took-append t.goes.took f.moves.took;
          no_failure = f.moves.no_failure ∙ t.goes.no_failure;
          output = t.goes.output ++ f.moves.output;
          written = Writes-append t.goes.written f.moves.written;
          shows = λ more can.
              let can' = follows f.moves.took can in
              subst (Shows outcome.Limit more (t.goes.output ++ f.moves.output))
              (sym (ap (λ (input : List ℕ). machine input (made + k)) (append_assoc t.goes.taken f.moves.taken more) ∙ careful_at k one (f.moves.taken ++ more) can' ∙ f.moves.comes more t.goes.output can))
              (f.runs more (t.goes.output ++ f.moves.output));
        };
      }

      -- the run was over with the next step, or broken off in it
      module _ (call : Active) (here_is : call ≡ active_of now.call) (m : Incoming) (q : Outgoing) where
        stops_here : (r : Outcome) → TurnGives now.image (machine_at now) (machine_at after) j m p q (Err r) → IsOverAt (steps_from first) n i m r call (made + 1)
        stops_here r g =
            subst (λ (x : Active). IsOverAt (steps_from first) n i m r x (made + 1)) (sym here_is)
            (stops_before first.image made (machine_at first) now.call now.below now.store (machine_at after) n m q r lt t.goes
            (subst (λ (x : Image). TurnGives x (machine_at now) (machine_at after) j m p q (Err r)) t.image_is g))

        -- what these steps and the next one have read
        read_over : (r : Outcome) → TurnGives now.image (machine_at now) (machine_at after) j m p q (Err r) → (r ≡ outcome.Device → ⊥) → ReadBySteps (steps_from first) n i m
        read_over r g other =
            read_more first.image made n (machine_at first) (machine_at now) i j m o p (omega (arith, lt)) t.goes
            (subst (λ (x : Image). ReadInStep x (machine_at now) j m) t.image_is (turn_read now j m p q after (Err r) (λ e. let same : r ≡ outcome.Device = cc in other same) g))

        pub over_on : (r : Outcome) → TurnGives now.image (machine_at now) (machine_at after) j m p q (Err r) → IsClean a first.image.functions (steps_from first) n i m o q (stop_at r call (made + 1))
        over_on (outcome.Exit status) g = record { gives = halted_on (outcome.Exit status) (λ e. cc) g; unfound = λ limit. cc; stops = stops_here (outcome.Exit status) g; read = read_over (outcome.Exit status) g }
        over_on (outcome.Trap kind) g = record { gives = halted_on (outcome.Trap kind) (λ e. cc) g; unfound = λ limit. cc; stops = stops_here (outcome.Trap kind) g; read = read_over (outcome.Trap kind) g }
        over_on outcome.Limit g = absurd g
        over_on outcome.Device g = record { gives = ⊎_elim (λ f. inl (read_on f)) (λ f. inr (write_on end_fault.Device f)) g; unfound = λ limit. cc; stops = stops_here outcome.Device g; read = read_over outcome.Device g }
        over_on outcome.Memory g =
            record { gives = ⊎_elim (λ f. inl (memory_on f.0 f.1 f.2)) (λ f. inr (write_on end_fault.Memory f)) g; unfound = λ limit. cc; stops = stops_here outcome.Memory g; read = read_over outcome.Memory g }

  -- memory was refused after these steps
  pub refused_on : (n : ℕ) → made ≤ n → (call : Active) (count : ℕ) → IsClean a first.image.functions (steps_from first) n i j o p (stop_at outcome.Memory call count)
  refused_on n le call count = record {
    gives = inl (record { made = made; within = le; comes = comes_here });
    unfound = λ limit. cc;
    stops = record { taken = t.goes.taken; took = t.goes.took; ends = λ more can. tt };
    read = λ other. read_here n le;
  }
