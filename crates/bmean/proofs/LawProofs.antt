-- The laws of a program, from those of its image.
use Rattle.std.proofs.Common.{◌≡◌, ℕ, List, sym, ap, ◌∙◌, subst, map}
use Rattle.blang.specs.Trees.{Definition}
use Rattle.blang.specs.Code.{code_of}
use Rattle.blang.specs.Machine.{Image, State, image_of, run}
use Rattle.bmach.specs.Resolved.{state_resolved, IsLoadedFrom}
use Rattle.blang.specs.Value.{Answer}
use Rattle.blang.specs.Meaning.{program_of, Loads, meant}
use Rattle.bmean.proofs.Whole.{Agree, agree}
use Rattle.bmean.proofs.Loads.{image_is, has_main}
use Rattle.bmean.proofs.LoadedImages.{Resolves, loaded_run, halted_before, stuck_before, running_before, running_after}

pub code_agrees : (ds : List Definition) → Loads ds → (input : List ℕ) → Agree (run (image_of (map code_of ds)) input) (meant ds input)
code_agrees ds loads input =
    subst (λ (image : Image). Agree (run image input) (meant ds input)) (sym (image_is ds)) (agree (program_of ds) (has_main ds loads) input)

-- the same of states that are resolved
resolved_agrees : (image : Image) (state state' : ℕ → State) (answer : ℕ → Answer ⊥) → ((n : ℕ) → state' n ≡ state_resolved image (state n)) → Agree state answer → Agree state' answer
resolved_agrees image state state' answer same laws = record {
  halts_as_meant = λ n e w h. laws.halts_as_meant n e w (halted_before image (state n) e w (sym (same n) ∙ h));
  meant_is_done = λ n e w h.
      let done = laws.meant_is_done n e w h in
      (done.0, same done.0 ∙ ap (state_resolved image) done.1);
  never_stuck = λ n w h. laws.never_stuck n w (stuck_before image (state n) w (sym (same n) ∙ h));
  writes_as_meant = λ n call below w h.
      let before = running_before image (state n) call below w (sym (same n) ∙ h) in
      laws.writes_as_meant n before.0 before.1 w before.2;
  wants_as_it_runs = λ n w h.
      let runs = laws.wants_as_it_runs n w h in
      (runs.0, _, _, runs.3, same runs.0 ∙ running_after image (state runs.0) runs.1 runs.2 w runs.4);
  runs_without_end = λ wants n e w h. laws.runs_without_end wants n e w (halted_before image (state n) e w (sym (same n) ∙ h));
}

pub image_agrees : Resolves → (ds : List Definition) (image : Image) → Loads ds → IsLoadedFrom (map code_of ds) image → (input : List ℕ) → Agree (run image input) (meant ds input)
image_agrees resolves ds image loads loaded input =
    let codes = map code_of ds in
    resolved_agrees (image_of codes) (run (image_of codes) input) (run image input) (meant ds input) (loaded_run resolves codes image loaded input) (code_agrees ds loads input)
