-- The steps of all lines together are those that were made.
use Rattle.std.proofs.Common.{◌≡◌, ◌≢◌, ◌∙◌, ◌⊎◌, inl, inr, ⊎_elim, ℕ, zero, suc, ◌+◌, ◌-◌, ◌<◌, ◌≤◌, List, [], ◌++◌, ap, arith, length, map, refl, subst, sym}
use Rattle.std.specs.List.{flat_map, sum_by}
use Rattle.std.proofs.lemmas.Bool.{cases_order}
use Rattle.std.proofs.lemmas.Option.{slice_get_cases}
use Rattle.bword.specs.declared.edition.Edition.{Edition}
use Rattle.blang.specs.Code.{code_of}
use Rattle.blang.specs.Layout.{Ending, Exited, Trapped, World, first_world, load_fault}
use Rattle.blang.specs.Machine.{Call, Halted, Image, Loaded, Running, State, Stuck, act_if, image_of, machine, machine_started, steps}
use Rattle.blang.specs.Reports.{state_outcome}
use Rattle.blang.specs.Trees as trees
use Rattle.blang.specs.declared.code.Definition.{Definition}
use Rattle.blang.specs.declared.run.Outcome.{Outcome}
use Rattle.blang.specs.declared.run.Outcome.TheVariants as outcome
use Rattle.blang.specs.declared.run.Trap.TheVariants as trap
use Rattle.bgrammar.proofs.GoesLaws.{each_source_comes}
use Rattle.bmach.proofs.Running.{one_more, steps_add}
use Rattle.bmean.proofs.LawProofs.{code_agrees}
use Rattle.brun.proofs.MeantSteps.{halted_later}
use Rattle.btools.specs.Functions.{functions_of}
use Rattle.btools.specs.Origins.{Code, Origin, ProgramOf, Source}
use Rattle.btools.specs.Programs.{HasProgram}
use Rattle.bmach.specs.Stops.{active_of}
use Rattle.bwatch.specs.Sights.{Sights, sight_of, sights_of}
use Rattle.bwatch.specs.Watches.{EndsAfter}
use Rattle.bcount.proofs.Counted.{counts_are, not_unread}
use Rattle.bcount.specs.Counts.{counted_of, counts_by_line, rows_of}
use Rattle.bcount.specs.Tallies.{counts_of}
use Rattle.bcount.specs.Together.{AddUp, StepsAddUp, all_steps}
use Rattle.bcount.specs.declared.lines.Counted.{Counted}
use Rattle.bcount.proofs.Addresses.{ascend, is_placed}
use Rattle.bcount.proofs.AllLines.{lines_together}
use Rattle.bcount.proofs.OnLines.{all_on, counts_kept, two_rows}
use Rattle.bcount.proofs.OwnCalls.{AreOurs, ours_at}
use Rattle.bcount.proofs.Totals.{all_hits, counts_together, no_hit, one_hit, sum_of_map, totals, totals_more}

compared : (a b : ℕ) → (a < b) ⊎ (b ≤ a)
compared a b = ⊎_elim (λ e. inr (omega (arith, e))) (⊎_elim (λ l. inl l) (λ g. inr (omega (arith, g)))) (cases_order a b)

not_at_limit : (e : Ending) (w : World) → state_outcome (Halted e w) ≡ outcome.Limit → ⊥
not_at_limit (Exited status) w e = cc
not_at_limit (Trapped kind) w e = cc

-- The machine of a source that has a program is never stuck.
module _ (edition : Edition) (source : List ℕ) (ds : List Definition) (image : Image) (is : HasProgram edition source ds image) where
  -- its code is that of definitions of the language
  record HasTrees : Type 0 where
    definitions : List trees.Definition
    code_is : map code_of definitions ≡ ds

  compiled : HasTrees
  compiled =
      let some = each_source_comes [] edition 1 source in
      record { definitions = some.1.definitions; code_is = (is.code some.0 some.1).1 }

  pub never_stuck : (input : List ℕ) (n : ℕ) (w : World) → machine ds input n ≢ Stuck w
  never_stuck input n w e =
      let loads = ap load_fault compiled.code_is ∙ is.loads in
      (code_agrees compiled.definitions loads input).never_stuck n w (ap (λ cs. machine cs input n) compiled.code_is ∙ e)

-- A machine that is stuck stays so.
steps-Stuck : (image : Image) (n : ℕ) (w : World) → steps image n (Stuck w) ≡ Stuck w
steps-Stuck image zero w = refl
steps-Stuck image (suc n) w = steps-Stuck image n w

stuck_later : (ds : List Definition) (input : List ℕ) (n m : ℕ) (w : World) → n ≤ m → machine ds input n ≡ Stuck w → machine ds input m ≡ Stuck w
stuck_later ds input n m w le stuck =
    let image = image_of ds in
    let start = machine_started image image.main (first_world image input) in
    let k : n + (m - n) ≡ m = omega (arith, le) in
    ap (λ j. steps image j start) (sym k) ∙ steps_add image n (m - n) start ∙ ap (steps image (m - n)) stuck ∙ steps-Stuck image (m - n) w

-- One whose run isn't over for want of an instruction or an operand was not stuck before.
ends_stuck : (states : ℕ → State) (made steps : ℕ) (result : Outcome) (left : List ℕ) (w : World) → EndsAfter states made steps result left → (result ≡ outcome.Device → ⊥) → states made ≡ Stuck w → result ≡ outcome.Trap trap.Stuck
ends_stuck states made steps (outcome.Exit status) left w h read stuck = sym h.3 ∙ ap state_outcome stuck
ends_stuck states made steps (outcome.Trap kind) left w h read stuck = sym h.3 ∙ ap state_outcome stuck
ends_stuck states made steps outcome.Limit left w h read stuck = sym h.1 ∙ ap state_outcome stuck
ends_stuck states made steps outcome.Device left w h read stuck = absurd (read refl)
ends_stuck states made steps outcome.Memory left w h read stuck = absurd h

not_stuck : (ds : List Definition) (input : List ℕ) (made steps : ℕ) (result : Outcome) (left : List ℕ) → EndsAfter (machine ds input) made steps result left → (result ≡ outcome.Device → ⊥) → (result ≡ outcome.Trap trap.Stuck → ⊥)
    → (n : ℕ) → n ≤ made → (w : World) → machine ds input n ≢ Stuck w
not_stuck ds input made steps result left h read other n le w stuck = other (ends_stuck (machine ds input) made steps result left w h read (stuck_later ds input n made w le stuck))

is_stuck : (r : Outcome) → (r ≡ outcome.Trap trap.Stuck) ⊎ (r ≡ outcome.Trap trap.Stuck → ⊥)
is_stuck (outcome.Exit status) = inr (λ e. cc)
is_stuck (outcome.Trap trap.ZeroDivisor) = inr (λ e. cc)
is_stuck (outcome.Trap trap.NotAFunction) = inr (λ e. cc)
is_stuck (outcome.Trap trap.NotALabel) = inr (λ e. cc)
is_stuck (outcome.Trap trap.NoRoom) = inr (λ e. cc)
is_stuck (outcome.Trap trap.TooDeep) = inr (λ e. cc)
is_stuck (outcome.Trap trap.BadBase) = inr (λ e. cc)
is_stuck (outcome.Trap trap.Stuck) = inl refl
is_stuck outcome.Limit = inr (λ e. cc)
is_stuck outcome.Device = inr (λ e. cc)
is_stuck outcome.Memory = inr (λ e. cc)

-- all counts of so many steps
abbrev counted_in : (ds : List Definition) (input : List ℕ) (made : ℕ) → ℕ
counted_in ds input made =
    sum_by (λ x. x) (flat_map (λ xs. xs) (map (counts_of (sights_of (image_of ds).functions (machine ds) input) made) (functions_of ds)))

-- A machine that isn't stuck after so many steps is at an instruction of the program before each of them.
module _ (ds : List Definition) (input : List ℕ) (made : ℕ) (unstuck : (n : ℕ) → n ≤ made → (w : World) → machine ds input n ≢ Stuck w) where
  abbrev states : ℕ → State
  states n = machine ds input n

  abbrev fns : List Loaded
  fns = (image_of ds).functions

  abbrev sights : Sights
  sights = sights_of fns (machine ds) input

  runs_before : (m n : ℕ) → n ≤ m → m ≤ made → state_outcome (states m) ≡ outcome.Limit → state_outcome (states n) ≡ outcome.Limit
  runs_before m n le within limit = by (states n) refl
    where
      by : (s : State) → states n ≡ s → state_outcome s ≡ outcome.Limit
      by (Running call below w) e = refl
      by (Halted ending w) e = absurd (not_at_limit ending w (sym (ap state_outcome (halted_later (image_of ds) input n m ending w le e)) ∙ limit))
      by (Stuck w) e = absurd (unstuck n (omega (arith, le, within)) w e)

  within_code : (n : ℕ) → n < made → (call : Call) (below : List Call) (w : World) → states n ≡ Running call below w → call.place < length call.function.code
  within_code n lt call below w e =
      let image = image_of ds in
      let next = one_more image n (machine_started image image.main (first_world image input)) (Running call below w) e in
      ⊎_elim (λ some. some.1) (λ past. absurd (unstuck (n + 1) (omega (arith, lt)) w (next ∙ ap (act_if image call below w) past.1))) (slice_get_cases call.function.code call.place).1

  one_place : (n : ℕ) → n < made → state_outcome (states n) ≡ outcome.Limit → all_hits (sights n).call (functions_of ds) ≡ 1
  one_place n lt limit = by (states n) refl
    where
      by : (s : State) → states n ≡ s → all_hits (sight_of fns (states n)).call (functions_of ds) ≡ 1
      by (Running call below w) e =
          let ours = subst (AreOurs (image_of ds).functions) e (ours_at ds input n) in
          let placed = is_placed ds call.function ours.0 in
          let within = within_code n lt call below w e in
          ap (λ s. all_hits (sight_of fns s).call (functions_of ds)) e
          ∙ one_hit (active_of call) (functions_of ds) (ascend ds) placed.0 placed.1 (λ d. ((placed.2 d).0, subst (λ code. call.place < length code) (sym (placed.2 d).1) within))
      by (Halted ending w) e = absurd (not_at_limit ending w (sym (ap state_outcome e) ∙ limit))
      by (Stuck w) e = absurd (unstuck n (omega (arith, lt)) w e)

  runs_until : (steps : ℕ) (result : Outcome) (left : List ℕ) → EndsAfter states made steps result left → (result ≡ outcome.Device → ⊥) → (n : ℕ) → n < made → state_outcome (states n) ≡ outcome.Limit
  runs_until steps (outcome.Exit status) left h read n lt = let last = h.1 in runs_before h.0 n (omega (arith, last, lt)) (omega (arith, last)) h.2
  runs_until steps (outcome.Trap kind) left h read n lt = let last = h.1 in runs_before h.0 n (omega (arith, last, lt)) (omega (arith, last)) h.2
  runs_until steps outcome.Limit left h read n lt = runs_before made n (omega (arith, lt)) (omega arith) h.1
  runs_until steps outcome.Device left h read n lt = absurd (read refl)
  runs_until steps outcome.Memory left h read n lt = absurd h

  pub all_counted : (steps : ℕ) (result : Outcome) (left : List ℕ) → EndsAfter states made steps result left → (result ≡ outcome.Device → ⊥) → counted_in ds input made ≡ made
  all_counted steps result left h read =
      counts_together sights (functions_of ds) made ∙ totals sights (functions_of ds) made (λ n lt. one_place n lt (runs_until steps result left h read n lt))

  -- the step after them may be at no instruction
  next_place : state_outcome (states made) ≡ outcome.Limit → (all_hits (sights made).call (functions_of ds) ≡ 1) ⊎ (all_hits (sights made).call (functions_of ds) ≡ 0)
  next_place limit = by (states made) refl
    where
      by : (s : State) → states made ≡ s → (all_hits (sight_of fns (states made)).call (functions_of ds) ≡ 1) ⊎ (all_hits (sight_of fns (states made)).call (functions_of ds) ≡ 0)
      by (Running call below w) e =
          let ours = subst (AreOurs (image_of ds).functions) e (ours_at ds input made) in
          let placed = is_placed ds call.function ours.0 in
          let here = ap (λ s. all_hits (sight_of fns s).call (functions_of ds)) e in
          ⊎_elim
          (λ within. inl (here ∙ one_hit (active_of call) (functions_of ds) (ascend ds) placed.0 placed.1 (λ d. ((placed.2 d).0, subst (λ code. call.place < length code) (sym (placed.2 d).1) within))))
          (λ past. inr (here ∙ no_hit (active_of call) (functions_of ds) (ascend ds) placed.0 placed.1 (λ d. ((placed.2 d).0, subst (λ code. length code ≤ call.place) (sym (placed.2 d).1) past))))
          (compared call.place (length call.function.code))
      by (Halted ending w) e = absurd (not_at_limit ending w (sym (ap state_outcome e) ∙ limit))
      by (Stuck w) e = absurd (unstuck made (omega arith) w e)

  pub next_counted : state_outcome (states made) ≡ outcome.Limit → (counted_in ds input (made + 1) ≡ made + 1) ⊎ (counted_in ds input (made + 1) ≡ made)
  next_counted limit =
      let fs = functions_of ds in
      let before = totals sights fs made (λ n lt. one_place n lt (runs_before made n (omega (arith, lt)) (omega arith) limit)) in
      let more = totals_more sights made fs in
      let all = counts_together sights fs (made + 1) in
      ⊎_elim (λ one. inl (omega (arith, all, more, before, one))) (λ none. inr (omega (arith, all, more, before, none))) (next_place limit)

add_up : (origin : Origin) (source : List ℕ) (ds : List Definition) (image : Image) → ProgramOf origin source ds image → (input : List ℕ) (made steps : ℕ) (result : Outcome) (left : List ℕ) → EndsAfter (machine ds input) made steps result left
    → (result ≡ outcome.Device → ⊥) → (all : ℕ) → ((n : ℕ) → n ≤ made → counted_in ds input made ≡ n → all ≡ n) → AddUp origin result all made
add_up (Source edition) source ds image is input made steps result left h read all lines =
    lines made (omega arith) (all_counted ds input made (λ n le w. never_stuck edition source ds image is input n w) steps result left h read)
add_up (Code c) source ds image is input made steps result left h read all lines = ⊎_elim
    (λ stuck.
    let over = subst (λ r. EndsAfter (machine ds input) made steps r left) stuck h in
    let last = over.0 in
    let unstuck : (n : ℕ) → n ≤ last → (w : World) → machine ds input n ≢ Stuck w =
    λ n le w e. not_stuck_at_limit (sym over.2 ∙ ap state_outcome (stuck_later ds input n last w le e)) in
    ⊎_elim
    (λ one. inl (lines made (omega arith) (subst (λ m. counted_in ds input m ≡ m) over.1 one)))
    (λ none.
    let fewer = lines last (omega (arith, over.1)) (subst (λ m. counted_in ds input m ≡ last) over.1 none) in
    inr (stuck, (omega (arith, fewer, over.1))))
    (next_counted ds input last unstuck over.2))
    (λ other. inl (lines made (omega arith) (all_counted ds input made (not_stuck ds input made steps result left h read other) steps result left h read)))
    (is_stuck result)
  where
    not_stuck_at_limit : outcome.Limit ≡ outcome.Trap trap.Stuck → ⊥
    not_stuck_at_limit e = cc

pub steps_add_up : StepsAddUp
steps_add_up asked source tallies made h fs =
    let input = h.counts.taken ++ [] in
    let told = h.counts.told [] (λ e. refl) in
    let sights = sights_of (image_of h.ds).functions (machine h.ds) input in
    let read = not_unread (functions_of h.ds) tallies sights made h.result told in
    let rows = rows_of source in
    let counted = counted_of rows fs tallies in
    let within = h.counts.within in
    let fits = h.fits in
    let sum = sym (sum_of_map (λ x. x) (λ (c : Counted). c.count) counted)
    ∙ ap (sum_by (λ x. x)) (counts_kept rows fs tallies ∙ ap (flat_map (λ xs. xs)) (counts_are (functions_of h.ds) tallies sights made h.result told)) in
    add_up asked.origin source h.ds h.image h.program input made asked.steps h.result [] (h.counts.ends [] (λ e. refl)) read (all_steps (counts_by_line source fs tallies))
    (λ n le is. lines_together rows n counted (all_on rows fs tallies (two_rows source)) (sum ∙ is) (omega (arith, within, fits, le)))
