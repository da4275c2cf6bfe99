-- Steps of a run, one after another, and what is known of its sights.
use Rattle.std.proofs.Common.{◌≡◌, ◌∙◌, ℕ, ◌+◌, List, [], ◌++◌, Ok, ap, append_assoc, refl, subst, sym}
use Rattle.bword.specs.ByteEnds.{CanFollow, Incoming, Outgoing}
use Rattle.bword.proofs.Putting.{Writes-append}
use Rattle.bword.proofs.Taking.{Took-append}
use Rattle.blang.specs.Machine.{Image, step, steps}
use Rattle.bmach.specs.Stepping.{Paused, machine_at}
use Rattle.bmach.specs.Turns.{MovesOn, TurnGives}
use Rattle.bmach.proofs.Running.{following, one_more}
use Rattle.bmach.proofs.Turning.{follows, goes_on}
use Rattle.btools.specs.Programs.{steps_from}
use Rattle.bwatch.specs.Sights.{Sights, sight_at, sight_of, sights_of}

-- a run as it is seen from a state on
abbrev pub seen_from : Paused → (input : List ℕ) → Sights
seen_from first input = sights_of first.image.functions (steps_from first) input

-- So many steps were made from a state on, and this is known of them.
pub record IsOn (known : Sights → ℕ → Type 0) (first : Paused) (made : ℕ) (now : Paused) (i j : Incoming) (o p : Outgoing) : Type 0 where
  pub image_is : now.image ≡ first.image
  pub goes : MovesOn (following first.image made (machine_at first)) (machine_at now) i j o p
  pub has : (more : List ℕ) → CanFollow j more → known (seen_from first (goes.taken ++ more)) made

pub none_on : (known : Sights → ℕ → Type 0) (first : Paused) (i : Incoming) (o : Outgoing) → ((input : List ℕ) → known (seen_from first input) 0) → IsOn known first 0 first i i o o
none_on known first i o start = record {
  image_is = refl;
  goes = goes_on (following first.image 0 (machine_at first)) (machine_at first) i o (λ left before. refl);
  has = λ more can. start _;
}

module _ (known : Sights → ℕ → Type 0) (first now : Paused) (made : ℕ) {i j : Incoming} {o p : Outgoing} (t : IsOn known first made now i j o p) where
  -- the state and the sight before the next step
  pub here : (more : List ℕ) → CanFollow j more → steps_from first (t.goes.taken ++ more) made ≡ machine_at now more t.goes.output
  here more can = t.goes.comes more [] can

  pub sight_here : (more : List ℕ) → CanFollow j more → seen_from first (t.goes.taken ++ more) made ≡ sight_at now t.goes.output
  sight_here more can = ap (sight_of first.image.functions) (here more can) ∙ ap (λ (x : Image). sight_of x.functions (machine_at now more t.goes.output)) (sym t.image_is)

  -- a step more
  pub one_on : (knows : Sights → ℕ → Type 0) (after : Paused) {m : Incoming} {q : Outgoing} → TurnGives now.image (machine_at now) (machine_at after) j m p q (Ok tt) → after.image ≡ now.image
      → ((sights : Sights) (before later : List ℕ) → sights made ≡ sight_at now before → sights (made + 1) ≡ sight_at after later → known sights made → knows sights (made + 1)) → IsOn knows first (made + 1) after i m o q
  one_on knows after {m} {q} g same so =
      let g' : MovesOn (λ left before. step first.image (machine_at now left before)) (machine_at after) j m p q =
      subst (λ (x : Image). MovesOn (λ left before. step x (machine_at now left before)) (machine_at after) j m p q) t.image_is g in
      record {
        image_is = same ∙ t.image_is;
        goes = record {
          taken = t.goes.taken ++ g'.taken;
          took = Took-append t.goes.took g'.took;
          no_failure = g'.no_failure ∙ t.goes.no_failure;
          output = t.goes.output ++ g'.output;
          written = Writes-append t.goes.written g'.written;
          comes = λ more before can.
              ap (λ left. steps first.image (made + 1) (machine_at first left before)) (append_assoc t.goes.taken g'.taken more)
              ∙ one_more first.image made _ _ (t.goes.comes (g'.taken ++ more) before (follows g'.took can))
              ∙ g'.comes more (before ++ t.goes.output) can
              ∙ ap (machine_at after more) (append_assoc before t.goes.output g'.output);
        };
        has = λ more can.
            let xs = g'.taken ++ more in
            let can' = follows g'.took can in
            let came : steps_from first (t.goes.taken ++ xs) (made + 1) ≡ machine_at after more (t.goes.output ++ g'.output) =
            one_more first.image made _ _ (here xs can') ∙ g'.comes more t.goes.output can in
            let seen : seen_from first (t.goes.taken ++ xs) (made + 1) ≡ sight_at after (t.goes.output ++ g'.output) =
            ap (sight_of first.image.functions) came ∙ ap (λ (x : Image). sight_of x.functions (machine_at after more (t.goes.output ++ g'.output))) (sym (same ∙ t.image_is)) in
            subst (λ (input : List ℕ). knows (seen_from first input) (made + 1)) (sym (append_assoc t.goes.taken g'.taken more))
            (so (seen_from first (t.goes.taken ++ xs)) t.goes.output (t.goes.output ++ g'.output) (sight_here xs can') seen (t.has xs can'));
      }
