-- Inner words: what is kept of a run by somebody who looks on.
use Rattle.std.specs.Prelude.{◌≡◌, ℕ, ◌+◌, ◌-◌, ◌≤◌, true, List, [], ◌++◌, map, if◌then◌else◌}
use Rattle.std.specs.List.{range_with_len}
use Rattle.blang.specs.declared.run.Outcome.{Outcome}
use Rattle.bwatch.specs.Sights.{Sights}
use Rattle.btrace.specs.RowTexts.{legend_of}
use Rattle.btrace.specs.Traces.{ending_text, is_shown, rows_text, sight_row, step_text, wanted_of}
use Rattle.bwatch.specs.Trails.{IsKept, trail_text}
use Rattle.btrace.specs.declared.tracer.Tracer.{Tracer}

-- the texts of the steps that may be shown
abbrev pub texts_of : Tracer → Sights → (made : ℕ) → List (List ℕ)
texts_of t sights made = map (step_text (legend_of t.legend) sights) (wanted_of t.which sights made)

-- so many steps are kept, of the same program
abbrev pub KeepsSteps : (first now : Tracer) → Sights → (made : ℕ) → Type 0
KeepsSteps first now sights made =
    (now.legend ≡ first.legend) × (now.which ≡ first.which)
    × IsKept first.which.rows first.trail.text (texts_of first sights made) now.trail

abbrev pub HasTraced : (first now : Tracer) → Sights → (made : ℕ) → Type 0
HasTraced first now sights made = KeepsSteps first now sights made × (now.trail.row ≡ [])

-- the addresses of the words that the next step stores are known
abbrev pub KnowsStored : Tracer → Sights → (made : ℕ) → Type 0
KnowsStored now sights made =
    (range_with_len now.stored.start (now.stored.end - now.stored.start) ≡ (sights made).storing)
    × (now.stored.end ≤ 65536)

-- the next step has its row, as far as it is known, if it is to be shown
pub record AwaitsStep (first now : Tracer) (sights : Sights) (made : ℕ) : Type 0 where
  pub keeps : KeepsSteps first now sights made
  pub shown : now.is_shown ≡ is_shown first.which sights made
  pub row : now.trail.row ≡ (if now.is_shown then sight_row (legend_of first.legend) (made + 1) (sights made) else [])
  pub stored : now.is_shown ≡ true → KnowsStored now sights made

-- all rows are kept, and what comes after them
abbrev pub HasTold : (first now : Tracer) → Sights → (made : ℕ) → Outcome → Type 0
HasTold first now sights made result =
    trail_text now.trail ≡ first.trail.text ++ rows_text (legend_of first.legend) first.which sights made
    ++ ending_text (legend_of first.legend) first.which sights made result
