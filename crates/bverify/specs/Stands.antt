-- Promise: code whose functions have depths that fit is never stuck.
use Rattle.std.specs.Prelude.{◌≡◌, ◌≢◌, ℕ, List, All, None}
use Rattle.blang.specs.declared.code.Definition.{Definition}
use Rattle.blang.specs.declared.code.Definition.TheVariants as definition
use Rattle.blang.specs.Layout.{World, load_fault}
use Rattle.blang.specs.Machine.{Stuck, machine}
use Rattle.bverify.specs.Depths.{Depths, Fits}

-- A function has depths that fit its code.
abbrev pub HasDepths : Definition → Type 0
HasDepths (definition.Function f) = (depths : Depths) × Fits f.targets f.code depths
HasDepths d = Unit {0}

-- No run of the code lacks an operand or an instruction, on any input and after any number of steps.
abbrev pub IsNeverStuck : List Definition → Type 0
IsNeverStuck ds = (input : List ℕ) (n : ℕ) (w : World) → machine ds input n ≢ Stuck w

-- If definitions load and each of their functions has depths that fit, their code is never stuck.
abbrev pub FittingCodeIsNeverStuck : Type 0
FittingCodeIsNeverStuck = (ds : List Definition) → load_fault ds ≡ None → All HasDepths ds → IsNeverStuck ds
