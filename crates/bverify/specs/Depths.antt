-- Promise: how many operands a call has at each place of its function.
use Rattle.std.specs.Prelude.{◌≡◌, ℕ, ◌+◌, ◌-◌, ◌<◌, ◌≤◌, length, List, [], ◌∷◌, map, All, Option, Some, None}
use Rattle.std.specs.Prelude.{slice_get, slice_index_or}
use Rattle.std.specs.List.{Contains}
use Rattle.blang.specs.declared.code.Instr.{Instr}
use Rattle.blang.specs.declared.code.Instr.TheVariants as instr

-- how many operands an instruction takes
abbrev pub operands_taken : Instr → ℕ
operands_taken instr.Load = 1
operands_taken instr.Store = 2
operands_taken (instr.Binary op) = 2
operands_taken (instr.Modify op) = 2
operands_taken instr.Negate = 1
operands_taken instr.Not = 1
operands_taken (instr.Increment which) = 1
operands_taken (instr.JumpIfZero t) = 1
operands_taken instr.Goto = 1
operands_taken (instr.JumpIfCase value t) = 1
operands_taken (instr.Call n) = n + 1
operands_taken instr.Return = 1
operands_taken instr.Pop = 1
operands_taken _ = 0

-- how many it has put when the call goes on at the next place
abbrev pub operands_put : Instr → ℕ
operands_put (instr.Jump t) = 0
operands_put (instr.JumpIfZero t) = 0
operands_put instr.Goto = 0
operands_put instr.Return = 0
operands_put instr.Pop = 0
operands_put _ = 1

-- a place to which an instruction leads, and how many operands the call has there
pub record Way : Type 0 where
  pub place : ℕ
  pub depth : ℕ

abbrev pub way : (place depth : ℕ) → Way
way place depth = record { place = place; depth = depth }

-- where an instruction leads from a place with so many operands, in a function with these targets of its labels
abbrev pub ways : (targets : List ℕ) → Instr → (place depth : ℕ) → List Way
ways targets (instr.Jump t) place depth = way t depth ∷ []
ways targets (instr.JumpIfZero t) place depth = way t (depth - 1) ∷ way (place + 1) (depth - 1) ∷ []
ways targets (instr.JumpIfCase value t) place depth = way t (depth - 1) ∷ way (place + 1) depth ∷ []
ways targets instr.Goto place depth = map (λ t. way t (depth - 1)) targets
ways targets instr.Return place depth = []
ways targets i place depth = way (place + 1) (depth - operands_taken i + operands_put i) ∷ []

-- A call can be at a place with so many operands: it begins without any, and goes on by an instruction that has its
-- own.
pub data Reaches (targets : List ℕ) (code : List Instr) : Way → Type 0 where
  begins : Reaches targets code (way 0 0)
  goes_on : (place depth : ℕ) (i : Instr) (w : Way) → Reaches targets code (way place depth)
      → slice_get code place ≡ Some i → operands_taken i ≤ depth → Contains (ways targets i place depth) w
      → Reaches targets code w

-- how many operands there are at each place, if some way leads there
abbrev pub Depths : Type 0
Depths = List (Option ℕ)

abbrev pub depth_at : Depths → (place : ℕ) → Option ℕ
depth_at depths place = slice_index_or depths place None

abbrev pub IsDepthOf : Depths → Way → Type 0
IsDepthOf depths w = depth_at depths w.place ≡ Some w.depth

-- Each depth is one with which a call can be at its place.
abbrev pub AreReached : (targets : List ℕ) (code : List Instr) → Depths → Type 0
AreReached targets code depths =
    (place depth : ℕ) → depth_at depths place ≡ Some depth → Reaches targets code (way place depth)

abbrev pub HasDepth : Depths → (place : ℕ) → Type 0
HasDepth depths place = (depth : ℕ) × (depth_at depths place ≡ Some depth)

-- Each way from a place with a depth leads to one, or past the code.
abbrev pub AreClosed : (targets : List ℕ) (code : List Instr) → Depths → Type 0
AreClosed targets code depths =
    (place depth : ℕ) → depth_at depths place ≡ Some depth → (i : Instr) → slice_get code place ≡ Some i
    → operands_taken i ≤ depth → (w : Way) → Contains (ways targets i place depth) w → w.place < length code
    → HasDepth depths w.place

-- The instruction at a place has its operands there, and each of its ways comes to the depth of its place.
pub record GoesOn (targets : List ℕ) (code : List Instr) (depths : Depths) (place depth : ℕ) : Type 0 where
  pub instruction : Instr
  pub stands : slice_get code place ≡ Some instruction
  pub has_operands : operands_taken instruction ≤ depth
  pub leads : All (IsDepthOf depths) (ways targets instruction place depth)

-- The depths are those of this code: a call begins without operands, and goes on from each place with a depth.
pub record Fits (targets : List ℕ) (code : List Instr) (depths : Depths) : Type 0 where
  pub begins : depth_at depths 0 ≡ Some 0
  pub goes_on : (place depth : ℕ) → depth_at depths place ≡ Some depth → GoesOn targets code depths place depth
