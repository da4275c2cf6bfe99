-- Promise: what the loop of a run does whose state comes again, between the two states that are the same.
use Rattle.std.specs.Prelude.{◌≡◌, ℕ, ◌+◌, ◌-◌, ◌==◌, ◌&&◌, Bool, true, false, List, [], ◌∷◌, ◌++◌, Option, Some, None}
use Rattle.std.specs.Prelude.{fold, length, map, min, not, refl, replicate, slice_index, slice_index_or, slice_set}
use Rattle.std.specs.Prelude.{if◌then◌else◌}
use Rattle.std.specs.List.{range_with_len}
use Rattle.std.specs.Option.{option_map_or}
use Rattle.bword.specs.ByteEnds.{most}
use Rattle.blang.specs.Layout.{store_words}
use Rattle.blang.specs.declared.code.Instr.{Instr}
use Rattle.blang.specs.declared.code.Instr.TheVariants as instr
use Rattle.blang.specs.declared.run.Outcome.{Outcome}
use Rattle.blang.specs.declared.run.Outcome.TheVariants as outcome
use Rattle.bmach.specs.declared.machine.Active.{Active}
use Rattle.btools.specs.Functions.{Placed, entries_of, function_with, instr_in}
use Rattle.bwatch.specs.Sights.{Sight, Sights}
use Rattle.bendless.specs.declared.looping.LoopNotes.{LoopNotes}
use Rattle.bendless.specs.declared.looping.LoopWatcher.{LoopWatcher}
use Rattle.bendless.specs.declared.looping.TheConstants.{GETCHAR}
use Rattle.bendless.specs.declared.search.Repeat.{Repeat}

getchar_value : GETCHAR ≡ 3
getchar_value = refl

-- What is noted of steps: the call that first asked for input; the addresses of the words that the loop's own call has
-- read since it had no operand; and at which addresses its conditions have read words, and a step stores some.
pub record Noted : Type 0 where
  pub asks : Option Active
  pub reads : List ℕ
  pub tested : List Bool
  pub stored : List Bool

abbrev pub noted_of : LoopNotes → Noted
noted_of n = record { asks = n.asks; reads = n.reads.items; tested = n.tested.items; stored = n.stored.items }

abbrev pub unmarked : List Bool
unmarked = replicate store_words false

abbrev pub unnoted : Noted
unnoted = record { asks = None; reads = []; tested = unmarked; stored = unmarked }

abbrev pub mark : List Bool → (address : ℕ) → List Bool
mark marks address = slice_set marks address true

abbrev pub marked : List Bool → (addresses : List ℕ) → List Bool
marked marks addresses = fold mark marks addresses

-- whether an instruction with these operands, the topmost first, calls `getchar`
abbrev pub asks_with : (operands : List ℕ) → Option Instr → Bool
asks_with operands (Some (instr.Call n)) = slice_index operands n == GETCHAR
asks_with operands i = false

abbrev pub first_asking : Option Active → (asks : Bool) → Active → Option Active
first_asking (Some first) asks call = Some first
first_asking None asks call = if asks then Some call else None

abbrev pub with_asking : Active → Option Instr → (operands : List ℕ) → Noted → Noted
with_asking call i operands n = record n { asks = first_asking n.asks (asks_with operands i) call }

-- Without an operand an expression begins.
abbrev pub begun : (operands : List ℕ) → Noted → Noted
begun operands n = record n { reads = if length operands == 0 then [] else n.reads }

-- A load reads a word. A jump that takes the only operand ends a condition, which has read these words.
abbrev pub read_on : Option Instr → (operands : List ℕ) → Noted → Noted
read_on (Some instr.Load) operands n = record n { reads = n.reads ++ slice_index operands 0 ∷ [] }
read_on (Some (instr.JumpIfZero t)) operands n =
    record n { tested = if length operands == 1 then marked n.tested n.reads else n.tested }
read_on i operands n = n

-- a step of the loop's own call
abbrev pub in_loop : Option Instr → (operands : List ℕ) → Noted → Noted
in_loop i operands n = read_on i operands (begun operands n)

abbrev pub in_own : (is_own : Bool) → Option Instr → (operands : List ℕ) → Noted → Noted
in_own is_own i operands n = if is_own then in_loop i operands n else n

abbrev pub with_stored : (addresses : List ℕ) → Noted → Noted
with_stored addresses n = record n { stored = marked n.stored addresses }

-- a step with this instruction of a call; the loop's own one has so many below it
abbrev pub noted_step : Option Instr → Active → (callers : ℕ) → Sight → Noted → Noted
noted_step i call callers s n =
    with_stored s.storing (in_own (length s.below == callers) i s.operands (with_asking call i s.operands n))

abbrev pub noted : List Placed → (callers : ℕ) → Noted → Sight → Noted
noted fs callers n s =
    option_map_or (λ call. noted_step (instr_in (function_with fs call.strings) call.place) call callers s n) s.call n

-- what is noted of the steps from the first state on, if so many were made
abbrev pub notes_so_far : List Placed → Sights → Repeat → (made : ℕ) → Noted
notes_so_far fs sights r made =
    fold (noted fs r.callers) unnoted (map sights (range_with_len r.first (made - r.first)))

-- The loop is looked at for two rounds, so that a condition is seen whole that is begun at the end of a round.
abbrev pub two_rounds : Repeat → ℕ
two_rounds r = min (r.again + (r.again - r.first)) most

abbrev pub notes_in : List Placed → Sights → Repeat → Noted
notes_in fs sights r = notes_so_far fs sights r (two_rounds r)

-- the conditions have read the word there, and no step stores it
abbrev pub is_idle : Noted → (address : ℕ) → Bool
is_idle n address = slice_index_or n.tested address false && not (slice_index_or n.stored address false)

-- so many steps are noted
pub record HasNoted (first now : LoopWatcher) (sights : Sights) (made : ℕ) : Type 0 where
  pub tables : now.tables ≡ first.tables
  pub repeat : now.repeat ≡ first.repeat
  pub notes : noted_of now.notes ≡ notes_so_far (entries_of first.tables.now) sights first.repeat made

-- and the next one is, too
abbrev pub HasNotedNext : (first now : LoopWatcher) → Sights → (made : ℕ) → Type 0
HasNotedNext first now sights made = HasNoted first now sights (made + 1)

abbrev pub HasNotedAll : (first now : LoopWatcher) → Sights → (made : ℕ) → Outcome → Type 0
HasNotedAll first now sights made outcome.Limit = HasNoted first now sights made
HasNotedAll first now sights made result = Unit {0}
