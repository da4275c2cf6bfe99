-- Promise: what can be seen of a run before each of its steps.
use Rattle.std.specs.Prelude.{ℕ, List, [], map, Option, Some, None}
use Rattle.std.specs.Option.{option_map_or}
use Rattle.blang.specs.Machine.{Halted, Loaded, Running, State, States, Stuck}
use Rattle.bmach.specs.Stepping.{Paused}
use Rattle.bmach.specs.Stops.{active_of}
use Rattle.bmach.specs.Stored.{stored_next}
use Rattle.bmach.specs.declared.machine.Active.{Active}

-- The running call, with its operands, the topmost first, and the calls below it, the nearest first; the addresses at
-- which the next step stores words, if the run goes on after it; the words of memory; and all that was written before.
pub record Sight : Type 0 where
  pub call : Option Active
  pub operands : List ℕ
  pub below : List Active
  pub storing : List ℕ
  pub store : List ℕ
  pub output : List ℕ

-- of a run that is over
abbrev pub end_sight : (store output : List ℕ) → Sight
end_sight store output =
    record { call = None; operands = []; below = []; storing = []; store = store; output = output }

-- of a machine with these functions
abbrev pub sight_of : List Loaded → State → Sight
sight_of functions (Running call below w) = record {
  call = Some (active_of call);
  operands = call.operands;
  below = map active_of below;
  storing = stored_next functions call below;
  store = w.store;
  output = w.output;
}
sight_of functions (Halted e w) = end_sight w.store w.output
sight_of functions (Stuck w) = end_sight w.store w.output

-- of a run between two of its steps
abbrev pub sight_at : Paused → (output : List ℕ) → Sight
sight_at p output = record {
  call = Some (active_of p.call);
  operands = p.call.operands;
  below = map active_of p.below;
  storing = stored_next p.image.functions p.call p.below;
  store = p.store;
  output = output;
}

-- A run as it is seen, by the number of the steps that were made.
abbrev pub Sights : Type 0
Sights = ℕ → Sight

abbrev pub sights_of : List Loaded → States → (input : List ℕ) → Sights
sights_of functions states input made = sight_of functions (states input made)

-- the addresses at which a step has stored words; one that ends the run stores none
abbrev pub stored_between : (before after : Sight) → List ℕ
stored_between before after = option_map_or (λ call. before.storing) after.call []
