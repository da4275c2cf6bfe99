-- A run does what its program means.
use Rattle.std.proofs.Common.{◌≡◌, ◌≢◌, ℕ, zero, suc, ◌+◌, ◌-◌, ◌≤◌, List, [], ◌++◌, map, refl, ap, ◌∙◌, arith}
use Rattle.bword.specs.ByteEnds.{Incoming, Outgoing}
use Rattle.blang.specs.Code.{code_of}
use Rattle.blang.specs.Trees.{Definition}
use Rattle.blang.specs.Machine.{Image, State, Running, Halted, Stuck, step, steps, machine_started, image_of, run, machine}
use Rattle.blang.specs.Reports.{ComesTo, RunGives, IsOwnStatus, state_outcome}
use Rattle.blang.specs.Layout.{World, Ending, first_world}
use Rattle.blang.specs.declared.run.Outcome.{Outcome}
use Rattle.blang.specs.declared.run.Outcome.TheVariants as outcome
use Rattle.blang.specs.declared.run.Trap.TheVariants as trap
use Rattle.blang.specs.Meaning.{Loads, meant}
use Rattle.bmean.proofs.LawProofs.{code_agrees}
use Rattle.blang.specs.Headline.{Agrees, RunsAsMeant, DoesAsMeant}
use Rattle.brun.proofs.Endings.{run_proper, no_stuck_outcome}

-- what halted stays so
steps-Halted : (image : Image) (n : ℕ) (e : Ending) (w : World) → steps image n (Halted e w) ≡ Halted e w
steps-Halted image zero e w = refl
steps-Halted image (suc n) e w = steps-Halted image n e w

steps-following : (image : Image) (n m k : ℕ) (s : State) → m ≡ n + k → steps image m s ≡ steps image k (steps image n s)
steps-following image zero m k s e = let h : m ≡ k = omega (arith, e) in ap (λ x. steps image x s) h
steps-following image (suc n) zero k s e = absurd (omega (arith, e))
steps-following image (suc n) (suc m) k s e = steps-following image n m k (step image s) (omega (arith, e))

pub halted_later : (image : Image) (input : List ℕ) (m n : ℕ) (e : Ending) (w : World) → m ≤ n → run image input m ≡ Halted e w → run image input n ≡ Halted e w
halted_later image input m n e w le h =
    let k : n ≡ m + (n - m) = omega (arith, le) in
    steps-following image m n (n - m) (machine_started image image.main (first_world image input)) k
    ∙ ap (steps image (n - m)) h
    ∙ steps-Halted image (n - m) e w

module _ (ds : List Definition) (loads : Loads ds) where
  agrees_at : (input : List ℕ) (n : ℕ) (s : State) → machine (map code_of ds) input n ≡ s → Agrees s (meant ds input (n + 1))
  agrees_at input n (Running call below w) e = (code_agrees ds loads input).writes_as_meant n call below w e
  agrees_at input n (Halted ending w) e = (code_agrees ds loads input).halts_as_meant n ending w e
  agrees_at input n (Stuck w) e = (code_agrees ds loads input).never_stuck n w e

  pub runs_as_meant : RunsAsMeant ds
  runs_as_meant input = record {
    agrees = λ n. agrees_at input n (machine (map code_of ds) input n) refl;
    keeps_up = (code_agrees ds loads input).wants_as_it_runs;
    done = (code_agrees ds loads input).meant_is_done;
  }

  module _ (n : ℕ) (i j : Incoming) (o p : Outgoing) where
    abbrev Comes : Outcome → Type 0
    Comes result = ComesTo (machine (map code_of ds)) n i j o p result

    abbrev Gives : Outcome → Type 0
    Gives result = RunGives (machine (map code_of ds)) n i j o p result

    -- the state of a run over its ends, on some input
    state_of : (result : Outcome) → Comes result → (input : List ℕ) × (state_outcome (machine (map code_of ds) input n) ≡ result)
    state_of result h = (h.taken ++ [], (h.shows [] (λ over. refl)).outcome)

    not_stuck_at : (result : Outcome) → Comes result → result ≢ outcome.Trap trap.Stuck
    not_stuck_at result h e =
        let at = state_of result h in
        no_stuck_outcome (machine (map code_of ds) at.0 n) (run_proper (image_of (map code_of ds)) at.0 n)
        (λ w. (code_agrees ds loads at.0).never_stuck n w) (at.1 ∙ e)

    not_stuck : (result : Outcome) → Gives result → result ≢ outcome.Trap trap.Stuck
    not_stuck (outcome.Trap kind) h = not_stuck_at (outcome.Trap kind) h
    not_stuck _ h = λ e. cc

    pub does_as_meant : (result : Outcome) → Gives result → IsOwnStatus result → DoesAsMeant ds n i j o p result
    does_as_meant result h own = record { made = h; meant = runs_as_meant; not_stuck = not_stuck result h; own_status = own }
