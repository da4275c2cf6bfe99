-- What no careful run is.
use Rattle.std.proofs.Common.{◌≡◌, ◌∙◌, ◌⊎◌, ◌+◌, ◌<◌, ◌≤◌, ℕ, zero, suc, List, [], ◌++◌, Bool, Option, Some, None, true, false}
use Rattle.std.proofs.Common.{ap, arith, inl, inr, refl, subst, sym, ⊎_elim}
use Rattle.std.proofs.lemmas.Bool.{both_ways, cases_Bool, ne_eqb, or_from}
use Rattle.std.proofs.lemmas.List.{append_cancel_right}
use Rattle.std.specs.Prelude.{IfSome, if◌then◌else◌, is_some}
use Rattle.bword.specs.ByteEnds.{CanFollow, Grew, Incoming, Outgoing, Took, Writes, outgoing_of}
use Rattle.bword.proofs.Putting.{Writes-none}
use Rattle.bword.proofs.Remaining.{rest_after}
use Rattle.bword.proofs.Taking.{consumed}
use Rattle.bword.specs.declared.ends.EndFault.{EndFault}
use Rattle.bword.specs.declared.ends.EndFault.TheVariants as end_fault
use Rattle.blang.specs.declared.code.Definition.{Definition}
use Rattle.blang.specs.declared.run.Outcome.{Outcome}
use Rattle.blang.specs.declared.run.Outcome.TheVariants as outcome
use Rattle.blang.specs.Compiles.{Compilation, CompilesTo, Tells, status_of}
use Rattle.blang.specs.Cut.{tokens_from}
use Rattle.blang.specs.Text.{IsCodeText}
use Rattle.bword.specs.declared.edition.Edition.{Edition}
use Rattle.blang.specs.Machine.{Halted, Image, Loaded, Running, State, States, Stuck, image_of, machine}
use Rattle.blang.specs.Reports.{ComesTo, Finishes, Reported, RunEnds, RunGives, Shows, state_outcome}
use Rattle.bmach.specs.Readings.{LeftBySteps}
use Rattle.bmach.specs.Stepping.{BeginsNot, HasEnd}
use Rattle.bmach.specs.Stops.{IsOverAt}
use Rattle.bmach.specs.declared.machine.Stop.{Stop}
use Rattle.bmach.proofs.MachineExcluded.{not_grown}
use Rattle.bmach.proofs.Readings.{left_by, none_at_first, run_left}
use Rattle.bmach.proofs.Running.{device_failed}
use Rattle.bendless.specs.Repeats.{IsEndless}
use Rattle.bendless.specs.declared.endless.Endless.{Endless}
use Rattle.btools.specs.Functions.{functions_of}
use Rattle.btools.specs.ProgramsExcluded.{code_in}
use Rattle.btools.specs.Origins.{Code, Origin, ProgramOf, Source}
use Rattle.btools.specs.PlaceLines.{CodeText}
use Rattle.btools.specs.Programs.{located_status, nothing_written}
use Rattle.btools.proofs.Unasked.{left_by_code, program_left, untaken, untaken_by_code}
use Rattle.btrace.specs.Locates as locates
use Rattle.btrace.specs.Locates.{Locates}
use Rattle.btrace.specs.RowTexts.{Legend}
use Rattle.bwatch.specs.Sights.{Sights, sight_of, sights_of}
use Rattle.bcareful.specs.Things.{Atlas, atlas_in}
use Rattle.bcareful.specs.Effects.{marks_at, step_in}
use Rattle.bcareful.specs.Findings.{careful, finding_at, finding_of, made_by}
use Rattle.bcareful.specs.Carefuls.{IsClean, IsUnfound, StaysAt}
use Rattle.bcareful.specs.CareExcluded.{DidNotRun, IsToldClean, IsToldFound, IsToldOn, NoCarefulRuns, OfOrigin, own_atlas, own_legend, own_sights}
use Rattle.bcareful.specs.First.{FindsFirst, FindsNothing, IsFirst}
use Rattle.bcareful.specs.Runs as runs
use Rattle.bcareful.specs.Runs.{CarefulAsked, Runs, StaysThere, finds_wraps, stays}
use Rattle.bcareful.specs.Tellings.{TellsOver, careful_text}
use Rattle.bcareful.specs.Warned.{IsAll, WarnGives, Warnings, told_after, warnings_at}
use Rattle.bcareful.specs.declared.watching.Found.{Found}
use Rattle.bcareful.specs.Tellings as tellings

-- what two have taken that leave the same of the bytes that an input tells
one_taken : (i j : Incoming) (bytes xs ys : List ℕ) → Tells i bytes → Took i xs j → Took i ys j → xs ≡ ys
one_taken i j bytes xs ys tells first second =
    let a = rest_after i j xs bytes first tells.left tells.follow in
    let b = rest_after i j ys bytes second tells.left tells.follow in
    let same : a.more ≡ b.more = some_same a.more b.more (sym a.left ∙ b.left) in
    append_cancel_right xs ys b.more (ap (λ m. xs ++ m) (sym same) ∙ a.whole ∙ sym b.whole)
  where
    some_same : (x y : List ℕ) → Some x ≡ Some y → x ≡ y
    some_same x y e = cc

last_or_before : (m k : ℕ) → m < k + 1 → (m < k) ⊎ (m ≡ k)
last_or_before zero zero lt = inr refl
last_or_before zero (suc k) lt = inl (omega arith)
last_or_before (suc m) zero lt = absurd (omega (arith, lt))
last_or_before (suc m) (suc k) lt =
    ⊎_elim (λ l. inl (omega (arith, l))) (λ e. inr (omega (arith, e))) (last_or_before m k (omega (arith, lt)))

module _ (a : Atlas) (sights : Sights) where
  abbrev found_at : ℕ → Bool
  found_at m = is_some (finding_at a sights m)

  stayed : (n : ℕ) → found_at (made_by a sights n) ≡ true → made_by a sights (suc n) ≡ made_by a sights n
  stayed n is = ap (λ (b : Bool). if b then made_by a sights n else made_by a sights n + 1) is

  went_on : (n : ℕ) → found_at (made_by a sights n) ≡ false → made_by a sights (suc n) ≡ made_by a sights n + 1
  went_on n is = ap (λ (b : Bool). if b then made_by a sights n else made_by a sights n + 1) is

  -- a careful run makes all steps, or stays at a finding
  abbrev AllOrFound : ℕ → Type 0
  AllOrFound n = (made_by a sights n ≡ n) ⊎ ((made_by a sights n < n) × (found_at (made_by a sights n) ≡ true))

  no_more : (n : ℕ) → AllOrFound n → made_by a sights n ≤ n
  no_more n (inl all) = omega (arith, all)
  no_more n (inr found) = let lt = found.0 in omega (arith, lt)

  one_more : (n : ℕ) → AllOrFound n → (found_at (made_by a sights n) ≡ true) ⊎ (found_at (made_by a sights n) ≡ false) → AllOrFound (suc n)
  one_more n before (inl is) =
      let same = stayed n is in
      let le = no_more n before in
      inr (omega (arith, same, le), ap found_at same ∙ is)
  one_more n (inl all) (inr is_not) = let one = went_on n is_not in inl (omega (arith, one, all))
  one_more n (inr found) (inr is_not) = absurd (both_ways _ is_not found.1)

  all_or_found : (n : ℕ) → AllOrFound n
  all_or_found zero = inl refl
  all_or_found (suc n) = one_more n (all_or_found n) (cases_Bool (found_at (made_by a sights n)))

  none_is : (m : ℕ) → found_at m ≡ false → finding_at a sights m ≡ None
  none_is m is = of (finding_at a sights m) is
    where
      of : {A : Type 0} (o : Option A) → is_some o ≡ false → o ≡ None
      of None e = refl
      of (Some x) e = cc

  -- no step has a finding that it makes
  abbrev NoneBefore : ℕ → Type 0
  NoneBefore n = (m : ℕ) → m < made_by a sights n → finding_at a sights m ≡ None

  one_before : (n : ℕ) → NoneBefore n → (found_at (made_by a sights n) ≡ true) ⊎ (found_at (made_by a sights n) ≡ false) → NoneBefore (suc n)
  one_before n before (inl is) m lt = before m (subst (λ (k : ℕ). m < k) (stayed n is) lt)
  one_before n before (inr is_not) m lt =
      ⊎_elim (λ less. before m less) (λ same. ap (finding_at a sights) same ∙ none_is (made_by a sights n) is_not)
      (last_or_before m (made_by a sights n) (subst (λ (k : ℕ). m < k) (went_on n is_not) lt))

  none_before : (n : ℕ) → NoneBefore n
  none_before zero = λ m lt. absurd (omega (arith, lt))
  none_before (suc n) = one_before n (none_before n) (cases_Bool (found_at (made_by a sights n)))

module _ (a : Atlas) (functions : List Loaded) (states : States) (n : ℕ) (i j : Incoming) (o p : Outgoing) where
  abbrev sights : List ℕ → Sights
  sights input = sights_of functions states input

  -- a run that is over has no next step
  none_over : (input : List ℕ) (k : ℕ) (r : Outcome) → (outcome.Limit ≡ r → ⊥) → state_outcome (states input k) ≡ r
      → finding_at a (sights input) k ≡ None
  none_over input k r other is = of (states input k) is
    where
      of : (s : State) → state_outcome s ≡ r → finding_of (step_in a (sight_of functions s) (marks_at a (sights input) k)) ≡ None
      of (Running call below w) e = absurd (other e)
      of (Halted h w) e = refl
      of (Stuck w) e = refl

  -- so a careful one that is over has made all steps
  all_over : (input : List ℕ) (r : Outcome) → (outcome.Limit ≡ r → ⊥)
      → state_outcome (careful a functions states input n) ≡ r → made_by a (sights input) n ≡ n
  all_over input r other is = ⊎_elim (λ all. all) (λ found. absurd (staying found.1)) (all_or_found a (sights input) n)
    where
      staying : is_some (finding_at a (sights input) (made_by a (sights input) n)) ≡ true → ⊥
      staying some = both_ways _ (ap is_some (none_over input (made_by a (sights input) n) r other is)) some

  machine_shows : (r : Outcome) (c : ComesTo (careful a functions states) n i j o p r)
      → ((more : List ℕ) → CanFollow j more → made_by a (sights (c.taken ++ more)) n ≡ n) → ComesTo states n i j o p r
  machine_shows r c all = record {
    taken = c.taken;
    took = c.took;
    no_failure = c.no_failure;
    output = c.output;
    written = c.written;
    shows = λ more can.
        subst (λ (k : ℕ). Shows r more c.output (states (c.taken ++ more) k)) (all more can) (c.shows more can);
  }

  over_shows : (r : Outcome) → (outcome.Limit ≡ r → ⊥) → ComesTo (careful a functions states) n i j o p r → ComesTo states n i j o p r
  over_shows r other c = machine_shows r c (λ more can. all_over (c.taken ++ more) r other (c.shows more can).outcome)

  -- of known bytes a careful run leaves what the machine has left after some of its steps
  careful_left : (r : Outcome) → RunGives (careful a functions states) n i j o p r → LeftBySteps states n i j
  careful_left r gives bytes tells =
      let left = run_left (careful a functions states) n i j o p r gives bytes tells in
      let made = made_by a (sights bytes) left.0 in
      let le = no_more a (sights bytes) left.0 (all_or_found a (sights bytes) left.0) in
      let within = left.1 in
      (made, omega (arith, le, within), left.2)

  module _ (bytes : List ℕ) (tells : Tells i bytes) where
    all_made : IsUnfound a functions states n i j → (taken : List ℕ) → Took i taken j → (more : List ℕ) → CanFollow j more
        → made_by a (sights (taken ++ more)) n ≡ n
    all_made u taken took more can =
        subst (λ (xs : List ℕ). made_by a (sights (xs ++ more)) n ≡ n) (one_taken i j bytes u.taken taken tells u.took took)
        (u.all more can)

    -- a run without a finding is the machine's
    machine_gives : (r : Outcome) → (r ≡ outcome.Device → ⊥) → (r ≡ outcome.Memory → ⊥)
        → RunGives (careful a functions states) n i j o p r → (r ≡ outcome.Limit → IsUnfound a functions states n i j)
        → RunGives states n i j o p r
    machine_gives (outcome.Exit status) no_device no_memory gives unfound = over_shows (outcome.Exit status) (λ e. cc) gives
    machine_gives (outcome.Trap kind) no_device no_memory gives unfound = over_shows (outcome.Trap kind) (λ e. cc) gives
    machine_gives outcome.Limit no_device no_memory gives unfound =
        machine_shows outcome.Limit gives (λ more can. all_made (unfound refl) gives.taken gives.took more can)
    machine_gives outcome.Device no_device no_memory gives unfound = absurd (no_device refl)
    machine_gives outcome.Memory no_device no_memory gives unfound = absurd (no_memory refl)

    at_end : (r : Outcome) → (outcome.Limit ≡ r → ⊥) → ComesTo (careful a functions states) n i j o p r → made_by a (sights bytes) n ≡ n
    at_end r other c =
        let rest = rest_after i j c.taken bytes c.took tells.left tells.follow in
        all_over bytes r other (subst (λ (xs : List ℕ). state_outcome (careful a functions states xs n) ≡ r) rest.whole (c.shows rest.more rest.follows).outcome)

    -- all steps of a run without a finding were made
    whole_run : (r : Outcome) → (r ≡ outcome.Device → ⊥) → (r ≡ outcome.Memory → ⊥)
        → RunGives (careful a functions states) n i j o p r → (r ≡ outcome.Limit → IsUnfound a functions states n i j)
        → made_by a (sights bytes) n ≡ n
    whole_run (outcome.Exit status) no_device no_memory gives unfound = at_end (outcome.Exit status) (λ e. cc) gives
    whole_run (outcome.Trap kind) no_device no_memory gives unfound = at_end (outcome.Trap kind) (λ e. cc) gives
    whole_run outcome.Limit no_device no_memory gives unfound =
        let u = unfound refl in
        let rest = rest_after i j u.taken bytes u.took tells.left tells.follow in
        subst (λ (xs : List ℕ). made_by a (sights xs) n ≡ n) rest.whole (u.all rest.more rest.follows)
    whole_run outcome.Device no_device no_memory gives unfound = absurd (no_device refl)
    whole_run outcome.Memory no_device no_memory gives unfound = absurd (no_memory refl)

-- a status below those of failures is that of what was told
told_whole : (text : List ℕ) (answer : ℕ) (old new : Outgoing) (status : ℕ) → status < 132 → Reported text answer old new status
    → Writes old text new × (status ≡ answer)
told_whole text answer old new status less (inl told) = told
told_whole text answer old new status less (inr refused) = absurd (by_kind refused.fault refused.status)
  where
    by_kind : (fault : EndFault) → status ≡ status_of fault → ⊥
    by_kind end_fault.Device e = omega (arith, less, e)
    by_kind end_fault.Memory e = omega (arith, less, e)

-- nor are failures told where a place is, or another status
ends_placed : (r : Outcome) (answer : ℕ) → located_status r ≡ Some answer → (r ≡ outcome.Device → ⊥) × (r ≡ outcome.Memory → ⊥)
ends_placed r answer located = (λ e. none (sym (ap located_status e) ∙ located), λ e. none (sym (ap located_status e) ∙ located))
  where
    none : None ≡ Some answer → ⊥
    none e = cc

ends_told : (r : Outcome) (old new : Outgoing) (status : ℕ) → status < 132 → Finishes r old new status
    → (r ≡ outcome.Device → ⊥) × (r ≡ outcome.Memory → ⊥)
ends_told r old new status less finishes = (λ e. device (told e), λ e. memory (told e))
  where
    told : {x : Outcome} → r ≡ x → Finishes x old new status
    told e = subst (λ (x : Outcome). Finishes x old new status) e finishes

    device : Finishes outcome.Device old new status → ⊥
    device f = let is = f.1 in omega (arith, less, is)

    memory : Finishes outcome.Memory old new status → ⊥
    memory f = let is = f.1 in omega (arith, less, is)

-- texts of findings are told after it
kept_told : (answer : ℕ) (text : List ℕ) → answer < 132 → told_after answer text ≡ text
kept_told answer text less =
    ap (λ (b : Bool). if b then [] else text)
    (or_from _ _ (ne_eqb answer 133 (λ e. omega (arith, less, e))) (ne_eqb answer 134 (λ e. omega (arith, less, e))))

module _ (asked : CarefulAsked) (source : List ℕ) (ends : RunEnds) (bytes : List ℕ) (tells : Tells ends.input bytes) where
  -- the first finding of a program
  module _ (p : OfOrigin asked source ends) (found : Found) (text : List ℕ) where
    abbrev first_atlas : Atlas
    first_atlas = own_atlas asked source ends p

    abbrev first_seen : List ℕ → Sights
    first_seen xs = own_sights asked source ends p xs

    abbrev own_text : List ℕ → List ℕ
    own_text xs = careful_text first_atlas (own_legend asked source ends p) source (first_seen xs found.made) found

    found_told : (status : ℕ) → status < 132 → StaysThere p.ds p.frames (finds_wraps asked.care) (own_legend asked source ends p) source asked.steps ends found text
        → tellings.Tells text ends.line ends.line_after status → IsToldFound asked source ends bytes status
    found_told status less there (inl reported) =
        let rest = rest_after ends.input ends.input_after there.is.taken bytes there.is.took tells.left tells.follow in
        let at : StaysAt first_atlas (first_seen bytes) asked.steps there.now found =
        subst (λ (xs : List ℕ). StaysAt first_atlas (first_seen xs) asked.steps there.now found) rest.whole (there.is.stays rest.more rest.follows) in
        let is : text ≡ own_text bytes =
        subst (λ (xs : List ℕ). text ≡ own_text xs) rest.whole (there.tells rest.more rest.follows) in
        let told = told_whole text 130 ends.line ends.line_after status less reported in
        record {
          of = p;
          found = found;
          within = at.within;
          before = λ m lt. none_before first_atlas (first_seen bytes) asked.steps m (subst (λ (k : ℕ). m < k) (sym at.made) lt);
          is = at.finding;
          written = subst (λ (t : List ℕ). Writes ends.line t ends.line_after) is told.0;
          status_is = told.1;
        }
    found_told status less there (inr refused) = let at = refused.1 in absurd (omega (arith, less, at))

  all_is : (a : Atlas) (legend : Legend) (s : Sights) (n : ℕ) (text : List ℕ) (r : Outcome) → (r ≡ outcome.Device → ⊥) × (r ≡ outcome.Memory → ⊥)
      → IsAll a legend source r s n text → text ≡ Warnings.text (warnings_at a legend source s n)
  all_is a legend s n text (outcome.Exit status) ended h = h
  all_is a legend s n text (outcome.Trap kind) ended h = h
  all_is a legend s n text outcome.Limit ended h = h
  all_is a legend s n text outcome.Device ended h = absurd (ended.0 refl)
  all_is a legend s n text outcome.Memory ended h = absurd (ended.1 refl)

  -- a program of the source
  module _ (p : OfOrigin asked source ends) (stop : Stop) (again : Option Endless) (back : IfSome again (IsEndless p.ds p.image (functions_of p.ds) p.frames ends.input ends.input_after)) where
    abbrev own : Atlas
    own = own_atlas asked source ends p

    abbrev told_by : Legend
    told_by = own_legend asked source ends p

    abbrev own_run : Sights
    own_run = own_sights asked source ends p bytes

    abbrev Ended : Type 0
    Ended = (stop.outcome ≡ outcome.Device → ⊥) × (stop.outcome ≡ outcome.Memory → ⊥)

    -- what its line and its place were told with
    at_place : (line : Outgoing) (status : ℕ) → status < 132 → (Ended → RunGives (machine p.ds) asked.steps ends.input ends.input_after ends.out ends.out_after stop.outcome)
        → IsOverAt (machine p.ds) asked.steps ends.input ends.input_after stop.outcome stop.call stop.steps
        → TellsOver told_by source stop again ends.line line status → Ended × Locates asked.origin source asked.files asked.steps (record ends { line_after = line }) status
    at_place line status less gives over (tellings.placed first answer finishes located site) =
        let ended = ends_placed stop.outcome answer located in (
          ended,
          locates.located first p.ds p.image p.frames p.places stop.outcome answer stop.call stop.steps again p.program p.named p.lined
              (gives ended) finishes located over back site,
        )
    at_place line status less gives over (tellings.unplaced finishes none_is) =
        let ended = ends_told stop.outcome ends.line line status less finishes in
        (ended, locates.unlocated p.ds p.image stop.outcome p.program ((p.places.lines, p.lined.0), (p.frames, p.named)) (gives ended) finishes none_is)

    -- a run without a finding
    clean_told : IsClean own (image_of p.ds).functions (machine p.ds) asked.steps ends.input ends.input_after ends.out ends.out_after stop
        → (status : ℕ) → status < 132 → TellsOver told_by source stop again ends.line ends.line_after status → IsToldClean asked source ends bytes status
    clean_told clean status less told =
        let gives : Ended → RunGives (machine p.ds) asked.steps ends.input ends.input_after ends.out ends.out_after stop.outcome =
        λ ended. machine_gives own (image_of p.ds).functions (machine p.ds) asked.steps ends.input ends.input_after ends.out ends.out_after bytes tells stop.outcome ended.0 ended.1 clean.gives clean.unfound in
        let it = at_place ends.line_after status less gives clean.stops told in
        let all = whole_run own (image_of p.ds).functions (machine p.ds) asked.steps ends.input ends.input_after ends.out ends.out_after bytes tells stop.outcome it.0.0 it.0.1 clean.gives clean.unfound in
        record {
          locates = it.1;
          clean = inr (p, λ m lt. none_before own own_run asked.steps m (subst (λ (k : ℕ). m < k) (sym all) lt));
        }

    -- one that goes on
    warned_told : (text : List ℕ) (line : Outgoing) (answer status : ℕ) → status < 132
        → WarnGives own told_by source (image_of p.ds).functions (machine p.ds) asked.steps ends.input ends.input_after ends.out ends.out_after stop text
        → TellsOver told_by source stop again ends.line line answer → Writes line (told_after answer text) ends.line_after × (status ≡ answer)
        → IsToldOn asked source ends bytes status
    warned_told text line answer status less gives told written =
        let same = written.1 in
        let below : answer < 132 = omega (arith, less, same) in
        let it = at_place line answer below (λ ended. gives.gives) gives.stops told in
        let rest = rest_after ends.input ends.input_after gives.taken bytes gives.took tells.left tells.follow in
        let all : IsAll own told_by source stop.outcome own_run asked.steps text =
        subst (λ (xs : List ℕ). IsAll own told_by source stop.outcome (own_sights asked source ends p xs) asked.steps text) rest.whole (gives.told rest.more rest.follows) in
        record {
          line = line;
          locates = subst (λ n. Locates asked.origin source asked.files asked.steps (record ends { line_after = line }) n) (sym same) it.1;
          text = text;
          written = subst (λ (t : List ℕ). Writes line t ends.line_after) (kept_told answer text below) written.0;
          told = inr (p, all_is own told_by own_run asked.steps text stop.outcome it.0 all);
        }

  staying : stays asked.care ≡ true → (status : ℕ) → status < 132 → Runs asked source ends status → IsToldFound asked source ends bytes status ⊎ IsToldClean asked source ends bytes status
  staying is status less (runs.found ds image frames places found text has named lined still there told) =
      inl (found_told (record { ds = ds; image = image; frames = frames; places = places; program = has; named = named; lined = lined }) found text status less there told)
  staying is status less (runs.unfound ds image frames places stop again has named lined still clean back told) =
      inr (clean_told (record { ds = ds; image = image; frames = frames; places = places; program = has; named = named; lined = lined }) stop again back clean status less told)
  staying is status less (runs.warned ds image frames places stop again text line answer has named lined going gives back told reported) =
      absurd (both_ways _ going is)
  staying is status less (runs.not_begun ds image result has suits never finishes quiet) =
      inr (record {
        locates = locates.not_begun ds image result has suits never finishes quiet;
        clean = inl (inr (ds, image, result, has, never, finishes));
      })
  staying is status less (runs.stopped why quiet) = inr (record { locates = locates.stopped why quiet; clean = inl (inl why) })

  -- without more after its line
  nothing_more : (status : ℕ) → Locates asked.origin source asked.files asked.steps ends status
      → DidNotRun asked source ends status → IsToldOn asked source ends bytes status
  nothing_more status it quiet =
      record { line = ends.line_after; locates = it; text = []; written = Writes-none ends.line_after; told = inl (quiet, refl) }

  going_on : stays asked.care ≡ false → (status : ℕ) → status < 132 → Runs asked source ends status → IsToldOn asked source ends bytes status
  going_on is status less (runs.found ds image frames places found text has named lined still there told) = absurd (both_ways _ is still)
  going_on is status less (runs.unfound ds image frames places stop again has named lined still clean back told) = absurd (both_ways _ is still)
  going_on is status less (runs.warned ds image frames places stop again text line answer has named lined going gives back told reported) =
      warned_told (record { ds = ds; image = image; frames = frames; places = places; program = has; named = named; lined = lined }) stop again back text line answer status less gives told
      (told_whole (told_after answer text) answer line ends.line_after status less reported)
  going_on is status less (runs.not_begun ds image result has suits never finishes quiet) =
      nothing_more status (locates.not_begun ds image result has suits never finishes quiet) (inr (ds, image, result, has, never, finishes))
  going_on is status less (runs.stopped why quiet) = nothing_more status (locates.stopped why quiet) (inl why)

module _ (asked : CarefulAsked) (source : List ℕ) (ends : RunEnds) where
  abbrev Left : (ds : List Definition) → Type 0
  Left ds = LeftBySteps (machine ds) asked.steps ends.input ends.input_after

  -- the machine of a program has left what was read of it, if that of each program does of which the origin is
  left_in : (origin : Origin) (ds : List Definition) → ((other : List Definition) (image : Image) → ProgramOf origin source other image → Left other → Left ds)
      → (ends.input_after ≡ ends.input → Left ds) → (status : ℕ) → Runs (record asked { origin = origin }) source ends status → Left ds
  left_in origin ds same none status (runs.found other image frames places found text has named lined staying_too there told) =
      same other image has (left_by (machine other) asked.steps ends.input ends.input_after there.is.read)
  left_in origin ds same none status (runs.unfound other image frames places stop again has named lined staying_too clean back told) =
      same other image has
      (careful_left (atlas_in other frames (finds_wraps asked.care)) (image_of other).functions (machine other) asked.steps
      ends.input ends.input_after ends.out ends.out_after stop.outcome clean.gives)
  left_in origin ds same none status (runs.warned other image frames places stop again text line answer has named lined going gives back told reported) =
      same other image has
      (run_left (machine other) asked.steps ends.input ends.input_after ends.out ends.out_after stop.outcome gives.gives)
  left_in origin ds same none status (runs.not_begun other image result has suits never finishes quiet) = none quiet.unread
  left_in origin ds same none status (runs.stopped why quiet) = none quiet.unread

  unasked : (edition : Edition) (r : Compilation) (g : CompilesTo [] (tokens_from edition 1 source) r) (status : ℕ)
      → Runs (record asked { origin = Source edition }) source ends status → Left (code_in edition source r g)
  unasked edition r g status =
      left_in (Source edition) (code_in edition source r g) (program_left edition source r g asked.steps ends.input ends.input_after)
      (untaken edition source r g asked.steps ends.input ends.input_after) status

  unasked_by_code : (c : CodeText) (ds : List Definition) → IsCodeText c.code ds → (status : ℕ)
      → Runs (record asked { origin = Code c }) source ends status → Left ds
  unasked_by_code c ds is status =
      left_in (Code c) ds (λ other image has. left_by_code c.code ds is asked.steps ends.input ends.input_after other has.text)
      (untaken_by_code c.code ds is asked.steps ends.input ends.input_after) status

module _ (ds : List Definition) (image : Image) (steps : ℕ) (i j : Incoming) where
  abbrev functions : List Loaded
  functions = (image_of ds).functions

  abbrev silent_run : List ℕ → Sights
  silent_run bytes = sights_of functions (machine ds) bytes

  passed : (a : Atlas) (stop : Stop) (bytes : List ℕ) → Tells i bytes → (stop.outcome ≡ outcome.Device → ⊥)
      → (stop.outcome ≡ outcome.Memory → ⊥) → FindsFirst a functions (machine ds) steps i j stop None
      → (m : ℕ) → m < steps → finding_at a (silent_run bytes) m ≡ None
  passed a stop bytes tells no_device no_memory finds m lt =
      let all = whole_run a functions (machine ds) steps i j nothing_written (outgoing_of finds.0) bytes tells stop.outcome
      no_device no_memory finds.1.gives finds.1.unfound in
      none_before a (silent_run bytes) steps m (subst (λ (k : ℕ). m < k) (sym all) lt)

  first : (a : Atlas) (stop : Stop) (text bytes : List ℕ) → Tells i bytes
      → FindsFirst a functions (machine ds) steps i j stop (Some text)
      → ((m : ℕ) → m < stop.steps → finding_at a (silent_run bytes) m ≡ None)
      × (is_some (finding_at a (silent_run bytes) stop.steps) ≡ true)
  first a stop text bytes tells finds =
      let rest = rest_after i j finds.taken bytes finds.took tells.left tells.follow in
      let is = subst (λ (xs : List ℕ). IsFirst a (silent_run xs) steps stop.steps text) rest.whole (finds.first rest.more rest.follows) in
      (λ m lt. none_before a (silent_run bytes) steps m (subst (λ (k : ℕ). m < k) (sym is.stays) lt), ap is_some is.found)

  device : (a : Atlas) (stop : Stop) → stop.outcome ≡ outcome.Device
      → FindsFirst a functions (machine ds) steps i j stop None → Grew i.failures j.failures
  device a stop is finds =
      let gives = subst (λ (r : Outcome). RunGives (careful a functions (machine ds)) steps i j nothing_written (outgoing_of finds.0) r) is finds.1.gives in
      ⊎_elim (λ read. read) (λ written. absurd (not_grown 0 0 refl refl written))
      (device_failed (careful a functions (machine ds)) steps i j nothing_written (outgoing_of finds.0) gives)

  ended : (r : Outcome) → (r ≡ outcome.Memory → ⊥) → BeginsNot image r → HasEnd r
  ended r other begins = ⊎_elim (λ refused. absurd (other refused.0)) (λ over. over.0) begins

  unbegun : (result : Outcome) → (result ≡ outcome.Memory → ⊥) → FindsNothing ds image steps i j result → HasEnd result × (j ≡ i)
  unbegun outcome.Memory other nothing = absurd (other refl)
  unbegun (outcome.Exit status) other nothing = (tt, nothing.1)
  unbegun (outcome.Trap kind) other nothing = (tt, nothing.1)
  unbegun outcome.Limit other nothing = (ended outcome.Limit other nothing.0, nothing.1)
  unbegun outcome.Device other nothing = (ended outcome.Device other nothing.0, nothing.1)

  nothing_asked : (result : Outcome) → FindsNothing ds image steps i j result → LeftBySteps (machine ds) steps i j
  nothing_asked outcome.Memory nothing = left_by (machine ds) steps i j nothing
  nothing_asked (outcome.Exit status) nothing = left_by (machine ds) steps i j (none_at_first (image_of ds) steps i j nothing.1)
  nothing_asked (outcome.Trap kind) nothing = left_by (machine ds) steps i j (none_at_first (image_of ds) steps i j nothing.1)
  nothing_asked outcome.Limit nothing = left_by (machine ds) steps i j (none_at_first (image_of ds) steps i j nothing.1)
  nothing_asked outcome.Device nothing = left_by (machine ds) steps i j (none_at_first (image_of ds) steps i j nothing.1)

pub no_careful_runs : NoCarefulRuns
no_careful_runs = (
  λ asked source ends. record {
    staying = λ bytes tells is status less. staying asked source ends bytes tells is status less;
    going_on = λ bytes tells is status less. going_on asked source ends bytes tells is status less;
    unasked = unasked asked source ends;
    unasked_by_code = unasked_by_code asked source ends;
  },
  λ ds image steps i j. record {
    passed = passed ds image steps i j;
    first = first ds image steps i j;
    device = device ds image steps i j;
    lost = λ read bytes left all before after records. consumed i.left j.left read.bytes.items bytes left before after (records.taken all).bytes;
    unbegun = unbegun ds image steps i j;
    unasked = nothing_asked ds image steps i j;
  },
)
