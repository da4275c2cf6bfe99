-- A machine with an image that was loaded from code runs as the one with that code.
use Rattle.std.proofs.Common.{◌≡◌, ℕ, List, ap, ◌∙◌, map}
use Rattle.blang.specs.declared.code.Definition.{Definition}
use Rattle.blang.specs.Layout.{World, Ending}
use Rattle.blang.specs.Machine.{Image, Call, State, Running, Halted, Stuck, image_of, run}
use Rattle.bmach.specs.Resolved.{call_resolved, resolved, state_resolved, IsLoadedFrom}
use Rattle.bmach.proofs.LoadedRuns.{run_loaded}

-- resolving changes no run
abbrev pub Resolves : Type 0
Resolves =
    (image : Image) (input : List ℕ) (n : ℕ) → run (resolved image) input n ≡ state_resolved image (run image input n)

pub loaded_run : Resolves → (ds : List Definition) (image : Image) → IsLoadedFrom ds image → (input : List ℕ) (n : ℕ) → run image input n ≡ state_resolved (image_of ds) (run (image_of ds) input n)
loaded_run resolves ds image loaded input n = run_loaded ds image loaded input n ∙ resolves (image_of ds) input n

pub halted_before : (image : Image) (s : State) (e : Ending) (w : World) → state_resolved image s ≡ Halted e w → s ≡ Halted e w
halted_before image (Running c below w') e w h = cc
halted_before image (Halted e' w') e w h = h
halted_before image (Stuck w') e w h = cc

pub stuck_before : (image : Image) (s : State) (w : World) → state_resolved image s ≡ Stuck w → s ≡ Stuck w
stuck_before image (Running c below w') w h = cc
stuck_before image (Halted e' w') w h = cc
stuck_before image (Stuck w') w h = h

world_of_running : State → World → World
world_of_running (Running c below w) w' = w
world_of_running (Halted e w) w' = w'
world_of_running (Stuck w) w' = w'

pub running_before : (image : Image) (s : State) (call : Call) (below : List Call) (w : World) → state_resolved image s ≡ Running call below w → (call' : Call) × (below' : List Call) × (s ≡ Running call' below' w)
unfolding world_of_running
running_before image (Running c b w') call below w h = (c, b, ap (Running c b) (ap (λ s. world_of_running s w') h))
running_before image (Halted e' w') call below w h = cc
running_before image (Stuck w') call below w h = cc

pub running_after : (image : Image) (s : State) (call : Call) (below : List Call) (w : World) → s ≡ Running call below w → state_resolved image s ≡ Running (call_resolved image call) (map (call_resolved image) below) w
running_after image s call below w h = ap (state_resolved image) h
