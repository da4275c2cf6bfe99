-- Inner words: what is kept of a run for its page.
use Rattle.std.specs.Prelude.{◌≡◌, ◌⊎◌, ℕ, ◌+◌, ◌-◌, ◌≤◌, Bool, true, false, List, [], ◌∷◌, ◌++◌, None, codes, length}
use Rattle.std.specs.Prelude.{map, nat_le, reverse, slice_index}
use Rattle.std.specs.List.{flat_map, range_with_len}
use Rattle.bword.specs.ByteEnds.{Outgoing}
use Rattle.blang.specs.declared.code.Definition.{Definition}
use Rattle.blang.specs.declared.run.Outcome.{Outcome}
use Rattle.blang.specs.declared.run.Outcome.TheVariants as outcome
use Rattle.blang.specs.declared.run.Trap.{Trap}
use Rattle.blang.specs.declared.status.TheConstants.{DONE, MEMORY}
use Rattle.blang.specs.Machine.{Call}
use Rattle.blang.specs.Reports.{Reported}
use Rattle.bmach.specs.Stepping.{Paused}
use Rattle.bmach.specs.Stops.{active_of}
use Rattle.bmach.specs.declared.machine.Active.{Active}
use Rattle.btools.specs.declared.names.Frame.{Frame}
use Rattle.bwatch.specs.Trails.{first_of, last_of}
use Rattle.bwatch.specs.declared.trail.TraceRows.{TraceRows}
use Rattle.bwatch.specs.declared.trail.TraceRows.TheVariants as rows
use Rattle.bwatch.specs.Sights.{Sight, Sights, sight_at}
use Rattle.bshow.specs.Facts.{program_text}
use Rattle.bshow.specs.Rows.{LinedCode, call_cells, done_cells, hears_next, row_text, sight_cells, table_code, words_in}
use Rattle.bshow.specs.Shows.{Asked, head, heard_text, open_page, unbegun_page, wanted_of}
use Rattle.bshow.specs.declared.recorder.Recorder.{Recorder}
use Rattle.bshow.specs.declared.seen.KeptRows.{KeptRows}
use Rattle.bshow.specs.declared.seen.SeenStep.{SeenStep}

-- A step went on in its call, or began one, or returned: so the calls below the running one became others.
abbrev pub Moves : (old new : List Active) → Type 0
Moves old new =
    (new ≡ old) ⊎ ((caller : Active) × (new ≡ caller ∷ old)) ⊎ ((caller : Active) × (old ≡ caller ∷ new))

-- What holds of each run as it is seen: nothing is written and no call is below before its first step, and each step
-- moves the calls, unless the run is over with it.
pub record IsRun (sights : Sights) : Type 0 where
  pub silent : (sights 0).output ≡ []
  pub alone : (sights 0).below ≡ []
  pub moves : (made : ℕ) → ((sights (made + 1)).call ≡ None → ⊥) → Moves (sights made).below (sights (made + 1)).below

-- how the row of a step that was seen begins, where it stores words, and its whole row
abbrev pub begun_cells : LinedCode → SeenStep → List ℕ
begun_cells code step = call_cells code (step.made + 1) step.call (reverse step.operands.items) step.below

abbrev pub stored_by : SeenStep → List ℕ
stored_by step = range_with_len step.addresses.start (step.addresses.end - step.addresses.start)

abbrev pub seen_cells : LinedCode → SeenStep → List ℕ
seen_cells code step =
    begun_cells code step ++ done_cells (slice_index (stored_by step) 0) step.before.items step.stored.items
    step.read.items step.written.items

-- that of the step by which a run is over: it has stored, read and written nothing
abbrev pub idle_cells : LinedCode → SeenStep → List ℕ
idle_cells code step = begun_cells code step ++ done_cells 0 [] [] [] []

-- what is kept of these rows: all after the head of the page, or the steps of the last ones
abbrev pub IsSpelled : LinedCode → TraceRows → (texts : List (List ℕ)) → KeptRows → Type 0
IsSpelled code (rows.From number) texts kept =
    (kept.page ≡ head ++ flat_map (λ row. row) texts) × (kept.last.items ≡ [])
IsSpelled code (rows.Last count) texts kept =
    (kept.page ≡ head) × (map (seen_cells code) kept.last.items ≡ last_of count texts)

-- a row was kept after the others
abbrev pub KeepsRow : LinedCode → TraceRows → (row : List ℕ) → (old new : KeptRows) → Type 0
KeepsRow code (rows.From number) row old new =
    (new.page ≡ old.page ++ row) × (new.last.items ≡ old.last.items)
KeepsRow code (rows.Last count) row old new =
    (new.page ≡ old.page)
    × (length old.last.items ≤ count
    → map (seen_cells code) new.last.items ≡ last_of count (map (seen_cells code) old.last.items ++ row ∷ []))

-- and one of a step that has none was not
abbrev pub KeepsIf : LinedCode → Bool → TraceRows → (row : List ℕ) → (old new : KeptRows) → Type 0
KeepsIf code true which row old new = KeepsRow code which row old new
KeepsIf code false which row old new = new ≡ old

-- the page with all rows that are kept
abbrev pub whole_rows : LinedCode → KeptRows → List ℕ
whole_rows code kept = kept.page ++ flat_map (seen_cells code) kept.last.items

-- so many steps are kept, of the same program, and the calls below are those before the next one
pub record KeepsSteps (first now : Recorder) (sights : Sights) (made : ℕ) : Type 0 where
  pub tables : now.tables ≡ first.tables
  pub which : now.which ≡ first.which
  pub program : now.program ≡ first.program
  pub rows : IsSpelled (table_code first.tables.now) first.which
      (map (row_text (table_code first.tables.now) sights) (wanted_of first.which made)) now.rows
  pub calls : reverse now.calls.items ≡ (sights made).below
  pub calls_at : now.calls_at ≡ made
  pub heard : now.heard ≡ heard_text (table_code first.tables.now) sights made
  pub output : now.output ≡ (sights made).output

abbrev pub HasSeen : (first now : Recorder) → Sights → (made : ℕ) → Type 0
HasSeen first now sights made = IsRun sights → KeepsSteps first now sights made

-- whether the step after so many may have a row
abbrev pub may_show : TraceRows → (made : ℕ) → Bool
may_show which made = nat_le (first_of which) (made + 1)

-- The next step is known: how its row begins, where it stores words, and the words there.
pub record KnowsStep (step : SeenStep) (number : ℕ) (s : Sight) : Type 0 where
  pub cells : (code : LinedCode) → begun_cells code step ≡ sight_cells code number s
  pub within : step.addresses.end ≤ 65536
  pub storing : stored_by step ≡ s.storing
  pub words : step.before.items ≡ words_in s.store s.storing

-- what a step did was told after it
abbrev pub DidSo : (old : SeenStep) → (store read written : List ℕ) → (new : SeenStep) → Type 0
DidSo old store read written new =
    old.addresses.end ≤ 65536 → (code : LinedCode) → seen_cells code new
    ≡ begun_cells code old
    ++ done_cells (slice_index (stored_by old) 0) old.before.items (words_in store (stored_by old)) read written

-- The next step was seen, if it is to have a row.
pub record AwaitsStep (first now : Recorder) (sights : Sights) (made : ℕ) : Type 0 where
  pub keeps : KeepsSteps first now sights made
  pub shows : now.shows ≡ may_show first.which made
  pub hears : now.hears ≡ hears_next (table_code first.tables.now) (sights made)
  pub step : may_show first.which made ≡ true → KnowsStep now.rows.step (made + 1) (sights made)

abbrev pub Awaits : (first now : Recorder) → Sights → (made : ℕ) → Type 0
Awaits first now sights made = IsRun sights → AwaitsStep first now sights made

-- These were the calls below before a step, and these are those after it.
abbrev pub FollowsCalls : (below : List Call) → (old new : List Active) → Type 0
FollowsCalls below old new = Moves old (map active_of below) → new ≡ map active_of below

-- the row that tells the call before the next step
abbrev pub next_row : LinedCode → (number : ℕ) → Sight → List ℕ
next_row code number s = sight_cells code number s ++ codes "</tr>\n"

abbrev pub EndsRows : LinedCode → TraceRows → (shows : Bool) → Paused → Outcome → (made : ℕ) → (old new : KeptRows)
    → Type 0
EndsRows code which shows p outcome.Limit made old new =
    new.page ≡ whole_rows code old ++ next_row code (made + 1) (sight_at p [])
EndsRows code which shows p result made old new =
    (kept : KeptRows) × KeepsIf code shows which (idle_cells code old.step) old kept
    × (new.page ≡ whole_rows code kept)

-- the page is there, up to the last of its facts
abbrev pub HasTold : (first now : Recorder) → Sights → (made : ℕ) → Outcome → Type 0
HasTold first now sights made result =
    IsRun sights → now.rows.page
    ≡ open_page (table_code first.tables.now) first.which first.program sights made result

-- the page of a run without a step was written, or memory was refused for it
abbrev pub ShowsUnbegun : Asked → (source : List ℕ) → List Definition → List Frame → Trap → (out out_after : Outgoing)
    → (status : ℕ) → Type 0
ShowsUnbegun asked source ds frames kind out out_after status =
    Reported (unbegun_page (program_text asked.files source asked.given ds frames) kind) DONE out out_after status
    ⊎ ((status ≡ MEMORY) × (out_after ≡ out))
