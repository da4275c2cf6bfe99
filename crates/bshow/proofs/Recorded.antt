-- Steps that are seen and kept for a page, one after another.
use Rattle.std.proofs.Common.{◌≡◌, ◌∙◌, ℕ, ◌+◌, ◌-◌, ◌≤◌, Bool, true, false, cond, List, [], ◌∷◌, ◌++◌, Some, None, ap, append-nil, append_assoc, arith, drop, length, map, refl, reverse, subst, sym}
use Rattle.std.specs.Prelude.{slice_index}
use Rattle.std.specs.List.{flat_map}
use Rattle.std.proofs.Math.Seq.{drop-append_seam, drop-length}
use Rattle.std.proofs.lemmas.List.{drop_all, drop-append-le, drop-drop, flat_map_more, length-append, length-drop, length-map, map-append, map-id}
use Rattle.std.proofs.lemmas.List.Folds.{flat_map-map}
use Rattle.std.proofs.lemmas.List.FromFn.{filter_of_map_range_with_len_more}
use Rattle.bword.specs.ByteEnds.{Incoming}
use Rattle.blang.specs.declared.code.Definition.{Definition}
use Rattle.blang.specs.declared.run.Outcome.{Outcome}
use Rattle.blang.specs.declared.run.Outcome.TheVariants as outcome
use Rattle.blang.specs.Machine.{image_of, machine}
use Rattle.bmach.specs.Stepping.{Paused}
use Rattle.bmach.specs.Stops.{active_of}
use Rattle.bmach.specs.declared.machine.Stop.{Stop}
use Rattle.bwatch.specs.Trails.{chosen, last_of}
use Rattle.bwatch.specs.declared.trail.TraceRows.{TraceRows}
use Rattle.bwatch.specs.declared.trail.TraceRows.TheVariants as rows
use Rattle.bwatch.specs.Sights.{Sight, Sights, end_sight, sight_at, sights_of}
use Rattle.bwatch.specs.Watches.{Ending, Leaves as EndLeaves, Watches}
use Rattle.bshow.specs.Facts.{run_text, sentence}
use Rattle.bshow.specs.Rows.{LinedCode, call_cells, done_cells, heard_between, heard_byte, hears_next, instr_of, is_getchar, row_text, sight_cells, step_cells, table_code, words_in}
use Rattle.bshow.specs.Shows.{IsPageOf, calls_at, head, heard_text, next_text, open_page, rows_text, run_page, said_text, tail, wanted_of}
use Rattle.bshow.specs.Steps.{Awaits, AwaitsStep, DidSo, EndsRows, FollowsCalls, HasSeen, HasTold, IsRun, IsSpelled, KeepsIf, KeepsRow, KeepsSteps, KnowsStep, Moves, idle_cells, may_show, next_row, seen_cells, stored_by, whole_rows}
use Rattle.bshow.specs.declared.recorder.Recorder.{Recorder}
use Rattle.bshow.specs.declared.seen.KeptRows.{KeptRows}
use Rattle.bshow.specs.declared.seen.SeenStep.{SeenStep}
use Rattle.bwatch.proofs.Kept.{map-chosen}
use Rattle.bshow.proofs.Calls.{is_run}
use Rattle.btools.proofs.Ranges as ranges

-- the steps that may be shown, with one more
wanted_more : (which : TraceRows) (made : ℕ) → wanted_of which (made + 1) ≡ wanted_of which made ++ cond (may_show which made) (made ∷ []) []
wanted_more which made = simp map-id at (filter_of_map_range_with_len_more (may_show which) (λ (n : ℕ). n) 0 made made (omega arith))

-- the last ones of the last ones with one more
last_last : {A : Type 0} (n : ℕ) (xs : List A) (x : A) → last_of n (last_of n xs ++ x ∷ []) ≡ last_of n (xs ++ x ∷ [])
last_last n xs x =
    let d = length xs - n in
    let front : drop d (xs ++ x ∷ []) ≡ drop d xs ++ x ∷ [] = drop-append-le d xs (x ∷ []) (omega arith) in
    let long : length (drop d xs ++ x ∷ []) ≡ (length xs - d) + 1 = length-append (drop d xs) (x ∷ []) ∙ ap (λ m. m + 1) (length-drop d xs) in
    let whole : length (xs ++ x ∷ []) ≡ length xs + 1 = length-append xs (x ∷ []) in
    let off = length (drop d xs ++ x ∷ []) - n in
    ap (drop off) (sym front) ∙ drop-drop off d (xs ++ x ∷ [])
    ∙ ap (λ m. drop m (xs ++ x ∷ [])) (omega (arith, long, whole))

-- what is kept with a row more
spelled_more : (code : LinedCode) (which : TraceRows) (texts : List (List ℕ)) (row : List ℕ) (old new : KeptRows) → IsSpelled code which texts old → KeepsRow code which row old new → IsSpelled code which (texts ++ row ∷ []) new
spelled_more code (rows.From k) texts row old new h keeps = (keeps.0 ∙ ap (λ x. x ++ row) h.0 ∙ flat_map_more (λ (row : List ℕ). row) head texts row, keeps.1 ∙ h.1)
spelled_more code (rows.Last n) texts row old new h keeps =
    let few : length old.last.items ≤ n =
    omega (arith, length-map old.last.items (seen_cells code), ap length h.1, length-drop (length texts - n) texts) in
    (keeps.0 ∙ h.0, keeps.1 few ∙ ap (λ xs. last_of n (xs ++ row ∷ [])) h.1 ∙ last_last n texts row)

module _ (code : LinedCode) (which : TraceRows) (f : ℕ → List ℕ) (made : ℕ) (row : List ℕ) (old new : KeptRows) where
  abbrev texts : ℕ → List (List ℕ)
  texts n = map f (wanted_of which n)

  -- what is kept with the row of a step more, if it has one
  pub rows_more : (b : Bool) → may_show which made ≡ b → (b ≡ true → f made ≡ row) → KeepsIf code b which row old new → IsSpelled code which (texts made) old → IsSpelled code which (texts (made + 1)) new
  rows_more true may is added kept =
      let all : texts made ++ row ∷ [] ≡ texts (made + 1) =
      ap (λ r. texts made ++ r ∷ []) (sym (is refl))
      ∙ sym (ap (map f) (wanted_more which made ∙ ap (λ b. wanted_of which made ++ cond b (made ∷ []) []) may) ∙ map-append f (wanted_of which made) (made ∷ [])) in
      subst (λ rs. IsSpelled code which rs new) all (spelled_more code which (texts made) row old new kept added)
  rows_more false may is added kept =
      let all : texts (made + 1) ≡ texts made = ap (map f) (wanted_more which made ∙ ap (λ b. wanted_of which made ++ cond b (made ∷ []) []) may ∙ append-nil (wanted_of which made)) in
      subst (λ (t : KeptRows). IsSpelled code which (texts (made + 1)) t) (sym added) (subst (λ rs. IsSpelled code which rs old) (sym all) kept)

-- the text of what is kept
spelled_text : (code : LinedCode) (which : TraceRows) (texts : List (List ℕ)) (t : KeptRows) → IsSpelled code which texts t → whole_rows code t ≡ head ++ flat_map (λ row. row) (chosen which texts)
spelled_text code (rows.From k) texts t h = (λ i. h.0 i ++ flat_map (seen_cells code) (h.1 i)) ∙ append-nil (head ++ flat_map (λ row. row) texts)
spelled_text code (rows.Last n) texts t h =
    ap (λ x. t.page ++ x) (sym (flat_map-map (λ (row : List ℕ). row) (seen_cells code) t.last.items)) ∙ (λ i. h.0 i ++ flat_map (λ row. row) (h.1 i))

rows_told : (code : LinedCode) (which : TraceRows) (sights : Sights) (made : ℕ) (t : KeptRows) → IsSpelled code which (map (row_text code sights) (wanted_of which made)) t
    → whole_rows code t ≡ head ++ rows_text code which sights made
rows_told code which sights made t kept =
    let f = row_text code sights in
    let wanted = wanted_of which made in
    spelled_text code which (map f wanted) t kept
    ∙ ap (λ x. head ++ x) (ap (flat_map (λ row. row)) (sym (map-chosen f which wanted)) ∙ flat_map-map (λ (row : List ℕ). row) f (chosen which wanted))

-- no row was made
spelled_none : (code : LinedCode) (which : TraceRows) (t : KeptRows) → t.page ≡ head → t.last.items ≡ [] → IsSpelled code which [] t
spelled_none code (rows.From k) t page last = (page ∙ sym (append-nil head), last)
spelled_none code (rows.Last n) t page last = (page, ap (map (seen_cells code)) last ∙ sym (drop_all (0 - n) [] (omega arith)))

-- what is kept does not tell of the step that is being made
spelled_same : (code : LinedCode) (which : TraceRows) (texts : List (List ℕ)) (t u : KeptRows) → u.page ≡ t.page → u.last.items ≡ t.last.items → IsSpelled code which texts t → IsSpelled code which texts u
spelled_same code (rows.From k) texts t u page last h = (page ∙ h.0, last ∙ h.1)
spelled_same code (rows.Last n) texts t u page last h = (page ∙ h.0, ap (map (seen_cells code)) last ∙ h.1)

-- no step was made
pub none_seen : (r : Recorder) → (r.rows.page ≡ head) × (r.rows.last.items ≡ []) → (r.calls.items ≡ []) × (r.calls_at ≡ 0) → r.heard ≡ [] → r.output ≡ [] → (sights : Sights) → HasSeen r r sights 0
none_seen r kept calls heard output sights run = record {
  tables = refl;
  which = refl;
  program = refl;
  rows = spelled_none (table_code r.tables.now) r.which r.rows kept.0 kept.1;
  calls = ap reverse calls.0 ∙ sym run.alone;
  calls_at = calls.1;
  heard = heard;
  output = output ∙ sym run.silent;
}

-- what is heard, with a step more
heard_more : (code : LinedCode) (sights : Sights) (made : ℕ) (old new heard : List ℕ) → old ≡ heard_text code sights made → new ≡ old ++ heard → heard ≡ heard_between code (sights made) (sights (made + 1)) → new ≡ heard_text code sights (made + 1)
heard_more code sights made old new heard before one is =
    ranges.text_more (λ n. heard_between code (sights n) (sights (n + 1))) [] old new made before (one ∙ ap (λ x. old ++ x) is)

-- what the beginning of a step leaves as it was
pub record Leaves (old new : Recorder) : Type 0 where
  pub tables : new.tables ≡ old.tables
  pub which : new.which ≡ old.which
  pub program : new.program ≡ old.program
  pub page : new.rows.page ≡ old.rows.page
  pub last : new.rows.last.items ≡ old.rows.last.items
  pub calls : new.calls.items ≡ old.calls.items
  pub calls_at : new.calls_at ≡ old.calls_at
  pub heard : new.heard ≡ old.heard
  pub output : new.output ≡ old.output

keeps_left : (first old new : Recorder) (sights : Sights) (made : ℕ) → Leaves old new → KeepsSteps first old sights made → KeepsSteps first new sights made
keeps_left first old new sights made l k = record {
  tables = l.tables ∙ k.tables;
  which = l.which ∙ k.which;
  program = l.program ∙ k.program;
  rows = spelled_same (table_code first.tables.now) first.which (map (row_text (table_code first.tables.now) sights) (wanted_of first.which made)) old.rows new.rows l.page l.last k.rows;
  calls = ap reverse l.calls ∙ k.calls;
  calls_at = l.calls_at ∙ k.calls_at;
  heard = l.heard ∙ k.heard;
  output = l.output ∙ k.output;
}

-- the call before a step, as it is seen
pub cells_seen : (code : LinedCode) (number : ℕ) (p : Paused) (output : List ℕ) → call_cells code number (active_of p.call) p.call.operands (length p.below) ≡ sight_cells code number (sight_at p output)
cells_seen code number p output = ap (call_cells code number (active_of p.call) p.call.operands) (sym (length-map p.below active_of))

-- before a step
pub awaited : (first old new : Recorder) (p : Paused) (sights : Sights) (made : ℕ) → Leaves old new → new.shows ≡ may_show old.which made
    → new.hears ≡ is_getchar p.call.operands (instr_of (table_code old.tables.now) (active_of p.call))
    → (may_show old.which made ≡ true → KnowsStep new.rows.step (made + 1) (sight_at p []))
    → sights made ≡ sight_at p (sights made).output → HasSeen first old sights made → Awaits first new sights made
awaited first old new p sights made l shows hears step at has run =
    let k = has run in
    let code = table_code first.tables.now in
    let tables : table_code old.tables.now ≡ code = ap (λ tables. table_code tables.now) k.tables in
    let may : may_show old.which made ≡ may_show first.which made = ap (λ (w : TraceRows). may_show w made) k.which in
    record {
      keeps = keeps_left first old new sights made l k;
      shows = shows ∙ may;
      hears = hears ∙ ap (λ c. hears_next c (sight_at p [])) tables ∙ ap (hears_next code) (sym at);
      step = λ shown.
          let s = step (may ∙ shown) in record {
            cells = λ c. s.cells c ∙ ap (sight_cells c (made + 1)) (sym at);
            within = s.within;
            storing = s.storing ∙ ap (λ (x : Sight). x.storing) (sym at);
            words = s.words ∙ ap (λ (x : Sight). words_in x.store x.storing) (sym at);
          };
    }

-- after a step
module _ (first old new : Recorder) (p : Paused) (sights : Sights) (made : ℕ) (written read : List ℕ)
    (tables : new.tables ≡ old.tables) (which : new.which ≡ old.which) (program : new.program ≡ old.program)
    (follows : FollowsCalls p.below (reverse old.calls.items) (reverse new.calls.items)) (calls_at : new.calls_at ≡ made + 1)
    (output : new.output ≡ old.output ++ written) (heard : new.heard ≡ old.heard ++ read) (reads : read ≡ heard_byte old.hears p.call.operands)
    (at : sights (made + 1) ≡ sight_at p ((sights made).output ++ written)) (run : IsRun sights) (a : AwaitsStep first old sights made) where
  abbrev code : LinedCode
  code = table_code first.tables.now

  goes_on : (sights (made + 1)).call ≡ None → ⊥
  goes_on none = let bad : Some (active_of p.call) ≡ None = sym (ap (λ (s : Sight). s.call) at) ∙ none in cc

  heard_here : read ≡ heard_between code (sights made) (sights (made + 1))
  heard_here = reads ∙ ap (λ b. heard_byte b p.call.operands) a.hears ∙ ap (heard_between code (sights made)) (sym at)

  pub seen_after : IsSpelled code first.which (map (row_text code sights) (wanted_of first.which (made + 1))) new.rows → KeepsSteps first new sights (made + 1)
  seen_after kept =
      let moves = run.moves made goes_on in
      let there : Moves (reverse old.calls.items) (map active_of p.below) =
      subst (λ below. Moves (reverse old.calls.items) below) (ap (λ (s : Sight). s.below) at) (subst (λ below. Moves below (sights (made + 1)).below) (sym a.keeps.calls) moves) in
      record {
        tables = tables ∙ a.keeps.tables;
        which = which ∙ a.keeps.which;
        program = program ∙ a.keeps.program;
        rows = kept;
        calls = follows there ∙ ap (λ (s : Sight). s.below) (sym at);
        calls_at = calls_at;
        heard = heard_more code sights made old.heard new.heard read a.keeps.heard heard heard_here;
        output = output ∙ ap (λ x. x ++ written) a.keeps.output ∙ ap (λ (s : Sight). s.output) (sym at);
      }

  -- the row of a step that was seen and has told what it did
  pub row_after : may_show first.which made ≡ true → (step : SeenStep) → DidSo old.rows.step p.store read written step → row_text code sights made ≡ seen_cells code step
  row_after shown step did =
      let k = a.step shown in
      let s = sights made in
      let out : drop (length s.output) (s.output ++ written) ≡ written = drop-append_seam s.output written in
      ap (λ cells. sight_cells code (made + 1) s ++ cells)
      (ap (step_cells code s) at
      ∙ sym (λ i. done_cells (slice_index (k.storing i) 0) (k.words i) (words_in p.store (k.storing i)) ((heard_here ∙ ap (heard_between code s) at) i) (sym out i)))
      ∙ sym (did k.within code ∙ ap (λ cells. cells ++ done_cells (slice_index (stored_by old.rows.step) 0) old.rows.step.before.items (words_in p.store (stored_by old.rows.step)) read written) (k.cells code))

  -- a step that has no row, and one that has
  pub hidden_seen : old.shows ≡ false → new.rows ≡ old.rows → KeepsSteps first new sights (made + 1)
  hidden_seen hidden same =
      seen_after (rows_more code first.which (row_text code sights) made [] old.rows new.rows false (sym a.shows ∙ hidden) (λ e. cc) same a.keeps.rows)

  pub shown_seen : old.shows ≡ true → (step : SeenStep) → DidSo old.rows.step p.store read written step
      → KeepsRow (table_code old.tables.now) old.which (seen_cells (table_code old.tables.now) step) (record old.rows { step = step }) new.rows → KeepsSteps first new sights (made + 1)
  shown_seen has step did keeps =
      let may : may_show first.which made ≡ true = sym a.shows ∙ has in
      let same = record old.rows { step = step } in
      seen_after (rows_more code first.which (row_text code sights) made (seen_cells code step) same new.rows true may (λ e. row_after may step did)
      (subst (λ (w : TraceRows). KeepsRow code w (seen_cells code step) same new.rows) a.keeps.which (subst (λ t. KeepsRow (table_code t) old.which (seen_cells (table_code t) step) same new.rows) (ap (λ tables. tables.now) a.keeps.tables) keeps))
      (spelled_same code first.which (map (row_text code sights) (wanted_of first.which made)) old.rows same refl refl a.keeps.rows))

-- where a run ends
module _ (first old new : Recorder) (p : Paused) (sights : Sights) (t : KeptRows) where
  abbrev end_code : LinedCode
  end_code = table_code first.tables.now

  -- what is told of a run, by what is kept of it
  whole : (made : ℕ) (r : Outcome) (next : List ℕ) → t.page ≡ head ++ rows_text end_code first.which sights made ++ next → new.rows.page ≡ t.page ++ said_text (sentence r made) old.program ++ run_text (reverse old.calls.items) old.calls_at p.store old.heard old.output
      → old.program ≡ first.program → next ≡ next_text end_code sights made r → reverse old.calls.items ≡ (sights (calls_at made r)).below → old.calls_at ≡ calls_at made r
      → p.store ≡ (sights made).store → old.heard ≡ heard_text end_code sights made → old.output ≡ (sights made).output → new.rows.page ≡ open_page end_code first.which first.program sights made r
  whole made r next kept text program next_is calls at store heard output =
      let rows = rows_text end_code first.which sights made in
      text ∙ ap (λ x. x ++ said_text (sentence r made) old.program ++ run_text (reverse old.calls.items) old.calls_at p.store old.heard old.output) (kept ∙ append_assoc head rows next)
      ∙ (λ i. head ++ (rows ++ next_is i) ++ said_text (sentence r made) (program i) ++ run_text (calls i) (at i) (store i) (heard i) (output i))

  -- all steps were made
  pub limit_told : (made : ℕ) → KeepsSteps first old sights made → sights made ≡ sight_at p (sights made).output → t.page ≡ whole_rows (table_code old.tables.now) old.rows ++ next_row (table_code old.tables.now) (made + 1) (sight_at p [])
      → new.rows.page ≡ t.page ++ said_text (sentence outcome.Limit made) old.program ++ run_text (reverse old.calls.items) old.calls_at p.store old.heard old.output
      → new.rows.page ≡ open_page end_code first.which first.program sights made outcome.Limit
  limit_told made k at ends text =
      let next : next_row end_code (made + 1) (sight_at p []) ≡ next_text end_code sights made outcome.Limit = ap (next_row end_code (made + 1)) (sym at) in
      whole made outcome.Limit (next_row end_code (made + 1) (sight_at p []))
      (ends ∙ (λ i. whole_rows (table_code (k.tables i).now) old.rows ++ next_row (table_code (k.tables i).now) (made + 1) (sight_at p []))
      ∙ ap (λ x. x ++ next_row end_code (made + 1) (sight_at p [])) (rows_told end_code first.which sights made old.rows k.rows)) text
      k.program next k.calls k.calls_at (ap (λ (s : Sight). s.store) (sym at)) k.heard k.output

  -- the run is over
  pub over_told : (made : ℕ) (r : Outcome) → calls_at made r ≡ made - 1 → next_text end_code sights made r ≡ [] → (last : ℕ) → made ≡ last + 1 → AwaitsStep first old sights last → sights made ≡ end_sight p.store (sights last).output
      → (kept : KeptRows) × KeepsIf (table_code old.tables.now) old.shows old.which (idle_cells (table_code old.tables.now) old.rows.step) old.rows kept × (t.page ≡ whole_rows (table_code old.tables.now) kept)
      → new.rows.page ≡ t.page ++ said_text (sentence r made) old.program ++ run_text (reverse old.calls.items) old.calls_at p.store old.heard old.output
      → new.rows.page ≡ open_page end_code first.which first.program sights made r
  over_told made r before none last is a over ends text =
      let k = a.keeps in
      let f = row_text end_code sights in
      let here : calls_at made r ≡ last = before ∙ omega (arith, is) in
      let last_over : sights (last + 1) ≡ end_sight p.store (sights last).output = ap sights (sym is) ∙ over in
      let row = idle_cells end_code old.rows.step in
      let cells : may_show first.which last ≡ true → f last ≡ row =
      λ shown. ap (λ s. sight_cells end_code (last + 1) (sights last) ++ step_cells end_code (sights last) s) last_over
      ∙ ap (λ out. sight_cells end_code (last + 1) (sights last) ++ done_cells 0 [] [] [] out) (drop-length (sights last).output)
      ∙ ap (λ x. x ++ done_cells 0 [] [] [] []) (sym ((a.step shown).cells end_code)) in
      let idle : KeepsIf end_code old.shows first.which row old.rows ends.0 =
      subst (λ (w : TraceRows). KeepsIf end_code old.shows w row old.rows ends.0) k.which (subst (λ c. KeepsIf (table_code c) old.shows old.which (idle_cells (table_code c) old.rows.step) old.rows ends.0) (ap (λ tables. tables.now) k.tables) ends.1) in
      let kept = rows_more end_code first.which f last row old.rows ends.0 old.shows (sym a.shows) (λ shown. cells (sym a.shows ∙ shown)) idle k.rows in
      let told = rows_told end_code first.which sights (last + 1) ends.0 kept in
      let quiet : heard_text end_code sights (last + 1) ≡ heard_text end_code sights last =
      sym (heard_more end_code sights last (heard_text end_code sights last) (heard_text end_code sights last) [] refl (sym (append-nil _)) (ap (heard_between end_code (sights last)) (sym last_over))) in
      whole made r []
      (ends.2 ∙ ap (λ tables. whole_rows (table_code tables.now) ends.0) k.tables ∙ told ∙ ap (λ m. head ++ rows_text end_code first.which sights m) (sym is) ∙ sym (append-nil (head ++ rows_text end_code first.which sights made))) text
      k.program (sym none) (k.calls ∙ ap (λ m. (sights m).below) (sym here)) (k.calls_at ∙ sym here) (ap (λ (s : Sight). s.store) (sym over))
      (k.heard ∙ sym quiet ∙ ap (heard_text end_code sights) (sym is)) (k.output ∙ ap (λ (s : Sight). s.output) (sym over))

  pub told_at : (r : Outcome) (stop : Stop) → Ending p sights (HasSeen first old sights) (Awaits first old sights) r stop → EndsRows (table_code old.tables.now) old.which old.shows p r stop.steps old.rows t
      → new.rows.page ≡ t.page ++ said_text (sentence r stop.steps) old.program ++ run_text (reverse old.calls.items) old.calls_at p.store old.heard old.output
      → HasTold first new sights stop.steps r
  told_at (outcome.Exit status) stop h ends text run = over_told stop.steps (outcome.Exit status) refl refl h.last h.made (h.awaited run) h.over ends text
  told_at (outcome.Trap kind) stop h ends text run = over_told stop.steps (outcome.Trap kind) refl refl h.0.last h.0.made (h.0.awaited run) h.0.over ends text
  told_at outcome.Limit stop h ends text run = limit_told stop.steps (h.0 run) h.1 ends text
  told_at outcome.Device stop h ends text run = absurd h
  told_at outcome.Memory stop h ends text run = absurd h

-- what was told of a run without a failed read is its page, with what was added to it
pub page_so : (first now : Recorder) (code : LinedCode) (end : List ℕ) (text : List ℕ) → table_code first.tables.now ≡ code → text ≡ now.rows.page ++ end ++ tail → (awaits : Sights → ℕ → Type 0) (r : Outcome) → (r ≡ outcome.Device → ⊥)
    → (made : ℕ) (sights : Sights) → IsRun sights → EndLeaves awaits (λ s m x. HasTold first now s m x) sights made r → IsPageOf code first.which end first.program text sights made r
page_so first now code end text same added awaits r own made sights run told = by r own told
  where
    page : (x : Outcome) → HasTold first now sights made x → text ≡ run_page code first.which end first.program sights made x
    page x h = added ∙ ap (λ t. t ++ end ++ tail) (h run ∙ ap (λ c. open_page c first.which first.program sights made x) same)

    by : (x : Outcome) → (x ≡ outcome.Device → ⊥) → EndLeaves awaits (λ s m y. HasTold first now s m y) sights made x → IsPageOf code first.which end first.program text sights made x
    by (outcome.Exit status) other h = page (outcome.Exit status) h
    by (outcome.Trap kind) other h = page (outcome.Trap kind) h
    by outcome.Limit other h = page outcome.Limit h
    by outcome.Device other h = absurd (other refl)
    by outcome.Memory other h = page outcome.Memory h

pub paged : (ds : List Definition) (n : ℕ) (i j : Incoming) (r : Outcome) → (r ≡ outcome.Device → ⊥) → (made : ℕ) (first now : Recorder) (code : LinedCode) (which : TraceRows) (program : List ℕ) (end : List ℕ) (page : List ℕ) → table_code first.tables.now ≡ code → first.which ≡ which → first.program ≡ program → page ≡ now.rows.page ++ end ++ tail
    → Watches (image_of ds).functions (machine ds) n i j r made (EndLeaves (Awaits first now) (HasTold first now)) → Watches (image_of ds).functions (machine ds) n i j r made (IsPageOf code which end program page)
paged ds n i j r own made first now code which program end page same rows text added w = record {
  output = w.output;
  gives = w.gives;
  within = w.within;
  taken = w.taken;
  took = w.took;
  ends = w.ends;
  told = λ more can.
      let sights = sights_of (image_of ds).functions (machine ds) (w.taken ++ more) in
      let is = page_so first now code end page same added (Awaits first now) r own made sights (is_run ds (w.taken ++ more)) (w.told more can) in
      subst (λ (x : TraceRows). IsPageOf code x end program page sights made r) rows (subst (λ x. IsPageOf code first.which end x page sights made r) text is);
}
