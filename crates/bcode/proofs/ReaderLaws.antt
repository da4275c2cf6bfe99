-- What reading the next definition does to the reader of a code text.
use Rattle.std.proofs.Common.{subst, ◌≡◌, ℕ, suc, ◌+◌, ◌≤◌, Bool, true, false, List, [], ◌∷◌, ◌++◌, length, Option, Some, None, Result, Ok, Err, IsErrAnd, refl, sym, ap, ◌∙◌, arith, append_assoc, inl, inr}
use Rattle.std.specs.List.{flat_map}
use Rattle.std.proofs.lemmas.List.Elements.{All-nil, All-push}
use Rattle.bword.specs.ByteEnds.{Incoming, CanFollow}
use Rattle.bword.specs.declared.edition.Edition.{Edition}
use Rattle.bword.specs.declared.edition.Edition.TheVariants as editions
use Rattle.bcode.specs.Ahead.{Ahead, TakesText, RefusesLine, ReadsDefinition, StopsInside, HasNext, BreaksInside, DefinitionGives, OpeningRead, OpeningGives, opening_line, BreaksNext, ReadsLast, NextDefinitionGives, EndingGives}
use Rattle.bcode.specs.Faults.{IsFaultLineIn}
use Rattle.bcode.specs.Readers.{ReaderStart, CodeReader, all_ahead, reader_of, opening_read, HasTaken, to_open, MoreCanBeRead, Gave, TextEnded, NoneWhole, StoppedAtLine, MemoryRefused, code_step, is_last_step, StepGives, reader_start}
use Rattle.bcode.specs.Stopping.{expects, IsStuckAfter}
use Rattle.blang.specs.Text.{edition_line, opening, opening_lines, lines_of, definition_text, end_text, IsTextOf, IsWithinRanges}
use Rattle.bcode.specs.declared.code_step.CodeStep.{CodeStep}
use Rattle.blang.specs.declared.code.Definition.{Definition}
use Rattle.bcode.specs.declared.fault.CodeFault.TheVariants as fault
use Rattle.bcode.specs.declared.code_stop.CodeStop.{CodeStop}
use Rattle.bcode.specs.declared.code_stop.CodeStop.TheVariants as stop
use Rattle.bcode.proofs.AheadLaws.{Reads-append, Passes-none, Passes-append, Breaks-after}
use Rattle.bcode.proofs.FaultLaws.{definition_shorter, definitions_go, fault_line_in, no_code_in, no_opening_line, no_opening_code, passes_more, same_rest, code_spelled, end_stops, end_breaks}
use Rattle.bcode.proofs.StoppingLaws.{same_after}
use Rattle.bcode.proofs.StreamLaws.{EndsInLine-after, ends_first}

pub taken_none : (start : ReaderStart) → HasTaken (reader_of start (all_ahead start) false false) []
taken_none start = record { within = All-nil IsWithinRanges; unbegun = λ _. refl; passes = Passes-none (all_ahead start); is_open = refl }

pub is_open_new : (start : ReaderStart) → MoreCanBeRead (reader_of start (all_ahead start) false false)
is_open_new start = record { before = []; since = taken_none start }

-- what a text begins with, and definitions, were read
abbrev After : ReaderStart → List Definition → Ahead → Type 0
After start ds at =
    TakesText (all_ahead start) (opening start.edition ++ flat_map definition_text ds) (length (opening_lines start.edition) + length (flat_map lines_of ds)) at

after_opening : (edition : Edition) (source : Incoming) (lender : List ℕ) (b : Bool) (at mid : Ahead) (ds : List Definition) → HasTaken (reader_of (reader_start edition source lender) at b false) ds
    → OpeningRead (to_open b edition) at mid → After (reader_start edition source lender) ds mid
after_opening editions.One source lender true at mid ds s e = rw e s.passes
after_opening editions.Two source lender true at mid ds s e = rw e s.passes
after_opening editions.One source lender false at mid ds s e = rw e s.passes
after_opening editions.Two source lender false at mid ds s p =
    let start = reader_start editions.Two source lender in
    let none = s.unbegun refl in
    let first : TakesText (all_ahead start) [] (0 + 0) at = subst (λ (es : List Definition). TakesText (all_ahead start) ([] ++ flat_map definition_text es) (0 + length (flat_map lines_of es)) at) none s.passes in
    let all = Passes-append first p in
    let count : 0 + 0 + 1 ≡ 1 + 0 = omega arith in
    subst (λ (es : List Definition). After start es mid) (sym none) (subst (λ (n : ℕ). TakesText (all_ahead start) edition_line n mid) count all)

-- bytes were taken after those that were read before
split_there : (edition : Edition) (source : Incoming) (lender : List ℕ) (b : Bool) (at : Ahead) (ds : List Definition) → HasTaken (reader_of (reader_start edition source lender) at b false) ds → (taken : List ℕ)
    → (following : List ℕ) × (opening edition ++ flat_map definition_text ds ++ taken ≡ opening_read (reader_of (reader_start edition source lender) at b false) ++ flat_map definition_text ds ++ following)
split_there edition source lender true at ds s taken = (taken, refl)
split_there edition source lender false at ds s taken =
    (opening edition ++ flat_map definition_text ds ++ taken, ap (λ es. flat_map definition_text es ++ (opening edition ++ flat_map definition_text ds ++ taken)) (sym (s.unbegun refl)))

opens_bound : (opens : Bool) (old mid : Ahead) → OpeningRead opens old mid → mid.end.bound ≤ old.end.bound
opens_bound true old mid h = let l = h.reads.took.bound in omega arith
opens_bound false old mid h = rw h (omega arith)

module _ (edition : Edition) (source : Incoming) (lender : List ℕ) (b : Bool) (at : Ahead) (ds : List Definition) (s : HasTaken (reader_of (reader_start edition source lender) at b false) ds) where
  abbrev start : ReaderStart
  start = reader_start edition source lender

  abbrev before : CodeReader
  before = reader_of start at b false

  abbrev texts : List ℕ
  texts = opening edition ++ flat_map definition_text ds

  abbrev after : Ahead → Bool → CodeReader
  after new closed = reader_of start new true closed

  gave : (mid new : Ahead) (d : Definition) → OpeningRead (to_open b edition) at mid → ReadsDefinition mid d new → Gave ds before d (after new false)
  gave mid new d o read = record {
    now = record {
      within = All-push IsWithinRanges ds d s.within read.inside;
      unbegun = λ e. absurd (cc);
      passes = passes_more (opening edition) (length (opening_lines edition)) ds d (after_opening edition source lender b at mid ds s o) read;
      is_open = refl;
    };
    falls = (let l = definition_shorter mid new d read in let k = opens_bound (to_open b edition) at mid o in omega arith);
  }

  ended : (mid new : Ahead) → OpeningRead (to_open b edition) at mid → ReadsLast mid new → TextEnded ds before (after new true)
  ended mid new o last = record {
    taken = texts ++ end_text;
    reads = Reads-append (after_opening edition source lender b at mid ds s o).reads last.reads;
    whole = record { within = s.within; spelled = sym (code_spelled edition ds) };
    over = last.over;
    closed = refl;
  }

  stopped_inside : (mid new : Ahead) (n : ℕ) → OpeningRead (to_open b edition) at mid → StopsInside mid n new → StoppedAtLine ds before n (after new true)
  stopped_inside mid new n o h = record {
    taken = texts ++ h.stopped.taken;
    near = EndsInLine-after following.lines h.stopped.near (let x = following.counted in let y = h.stopped.there in omega arith);
    reads = Reads-append following.reads h.stopped.reads;
    following = rest.0;
    split = rest.1;
    fault = λ more can. subst (IsFaultLineIn edition (texts ++ h.stopped.taken ++ more)) line
        (subst (λ (t : List ℕ). IsFaultLineIn edition t (suc good)) (sym (all more)) (fault_line_in edition (later more) known (stops more can)));
    no_text = λ more can es code. no_code_in edition (later more) known (stops more can) es (subst (λ (t : List ℕ). IsTextOf edition t es) (all more) code);
    none = λ more can d r inside same.
        h.none more can d r inside (same_rest texts (h.stopped.taken ++ more) (definition_text d ++ r) (sym (append_assoc texts h.stopped.taken more) ∙ same));
    closed = refl;
  }
    where
      following : After start ds mid
      following = after_opening edition source lender b at mid ds s o

      rest : (following : List ℕ) × (texts ++ h.stopped.taken ≡ opening_read before ++ flat_map definition_text ds ++ following)
      rest = split_there edition source lender b at ds s h.stopped.taken

      known : ℕ
      known = length (flat_map lines_of ds) + h.stopped.good

      good : ℕ
      good = length (opening_lines edition) + known

      later : List ℕ → List ℕ
      later more = flat_map definition_text ds ++ (h.stopped.taken ++ more)

      all : (more : List ℕ) → texts ++ h.stopped.taken ++ more ≡ opening edition ++ later more
      all more = append_assoc texts h.stopped.taken more ∙ append_assoc (opening edition) (flat_map definition_text ds) (h.stopped.taken ++ more)

      stops : (more : List ℕ) → CanFollow new.end more → IsStuckAfter known (expects []) (later more)
      stops more can = definitions_go ds s.within h.stopped.good (h.stopped.taken ++ more) (h.stopped.stops more can)

      line : suc good ≡ n
      line = let x = following.counted in let y = h.stopped.there in omega arith

  refused : (mid new : Ahead) → OpeningRead (to_open b edition) at mid → HasNext mid new → MemoryRefused ds before (after new true)
  refused mid new o h = record {
    taken = texts ++ h.taken;
    reads = Reads-append (after_opening edition source lender b at mid ds s o).reads h.reads;
    next = h.next;
    inside = h.inside;
    rest = h.rest;
    spelled = ap (λ l. texts ++ l) h.spelled;
    more = h.more;
    whole = h.whole ∙ ap (λ l. l ++ h.more) h.spelled;
    closed = refl;
  }

-- none comes whole after what was read before, where none does in what was taken then
none_whole : (edition : Edition) (source : Incoming) (lender : List ℕ) (b : Bool) (at : Ahead) (ds : List Definition) → HasTaken (reader_of (reader_start edition source lender) at b false) ds → (taken : List ℕ)
    → ((d : Definition) (rest : List ℕ) → IsWithinRanges d → taken ≡ opening_line (to_open b edition) ++ (definition_text d ++ rest) → ⊥)
    → NoneWhole edition (opening_read (reader_of (reader_start edition source lender) at b false) ++ flat_map definition_text ds ++ taken) ds
none_whole editions.One source lender true at ds s taken none d rest inside same = none d rest inside (same_rest (opening editions.One ++ flat_map definition_text ds) taken (definition_text d ++ rest) same)
none_whole editions.Two source lender true at ds s taken none d rest inside same = none d rest inside (same_rest (opening editions.Two ++ flat_map definition_text ds) taken (definition_text d ++ rest) same)
none_whole editions.One source lender false at ds s taken none d rest inside same = none d rest inside (same_rest (flat_map definition_text ds) taken (definition_text d ++ rest) same)
none_whole editions.Two source lender false at ds s taken none d rest inside same =
    let nothing : flat_map definition_text ds ≡ [] = ap (flat_map definition_text) (s.unbegun refl) in
    none d rest inside (ap (λ t. t ++ taken) (sym nothing) ∙ same ∙ ap (λ t. opening editions.Two ++ t ++ (definition_text d ++ rest)) nothing)

-- the line that the text begins with was refused
stopped_opening : (edition : Edition) (source : Incoming) (lender : List ℕ) (b : Bool) (at new : Ahead) (ds : List Definition) (n : ℕ) → HasTaken (reader_of (reader_start edition source lender) at b false) ds
    → to_open b edition ≡ true → RefusesLine {X = Unit {0}} (λ _. edition_line) (λ _. Unit {0}) at n new
    → StoppedAtLine ds (reader_of (reader_start edition source lender) at b false) n (reader_of (reader_start edition source lender) new true true)
stopped_opening editions.One source lender true at new ds n s e r = absurd (cc)
stopped_opening editions.Two source lender true at new ds n s e r = absurd (cc)
stopped_opening editions.One source lender false at new ds n s e r = absurd (cc)
stopped_opening editions.Two source lender false at new ds n s e r = record {
  taken = flat_map definition_text ds ++ r.taken;
  near = EndsInLine-after s.passes.lines (ends_first r.taken r.part) (let x = r.here in let y = s.passes.counted in omega arith);
  reads = Reads-append s.passes.reads r.reads;
  following = r.taken;
  split = refl;
  fault = λ more can. subst (IsFaultLineIn editions.Two (flat_map definition_text ds ++ r.taken ++ more)) line (no_opening_line (flat_map definition_text ds ++ r.taken ++ more) (none more can));
  no_text = λ more can es code. no_opening_code (flat_map definition_text ds ++ r.taken ++ more) (none more can) es code;
  none = λ more can d t inside same. none more can (flat_map definition_text ds ++ (definition_text d ++ t)) (same ∙ append_assoc edition_line (flat_map definition_text ds) (definition_text d ++ t));
  closed = refl;
}
  where
    nothing : flat_map definition_text ds ≡ []
    nothing = ap (flat_map definition_text) (s.unbegun refl)

    line : 1 ≡ n
    line = let x = r.here in let y = s.passes.counted in let z = ap (λ es. length (flat_map lines_of es)) (s.unbegun refl) in omega (arith, x, y, z)

    none : (more : List ℕ) → CanFollow new.end more → (rest : List ℕ) → flat_map definition_text ds ++ r.taken ++ more ≡ edition_line ++ rest → ⊥
    none more can rest same = r.none more can tt rest tt (ap (λ t. t ++ r.taken ++ more) (sym nothing) ∙ same)

-- what a call answers and does
pub next_gives : (edition : Edition) (source : Incoming) (lender : List ℕ) (b : Bool) (at new : Ahead) → MoreCanBeRead (reader_of (reader_start edition source lender) at b false) → (r : Result (Option Definition) CodeStop)
    → NextDefinitionGives (to_open b edition) at r new
    → let old = reader_of (reader_start edition source lender) at b false in let now = reader_of (reader_start edition source lender) new true (is_last_step (code_step r)) in
    StepGives old (code_step r) now × (is_last_step (code_step r) ≡ false → MoreCanBeRead now)
next_gives edition source lender b at new is_open (Ok (Some d)) gives =
    let given = λ (ds : List Definition) (s : HasTaken (reader_of (reader_start edition source lender) at b false) ds). gave edition source lender b at ds s gives.0 new d gives.1 gives.2 in
    ((is_open, given), λ _. record { before = is_open.before ++ d ∷ []; since = (given is_open.before is_open.since).now })
next_gives edition source lender b at new is_open (Ok None) gives =
    ((is_open, λ ds s. ended edition source lender b at ds s gives.0 new gives.1 gives.2), λ e. absurd (cc))
next_gives edition source lender b at new is_open (Err (stop.Fault (fault.Line n))) (inl gives) =
    ((is_open, λ ds s. stopped_opening edition source lender b at new ds n s gives.0 gives.1), λ e. absurd (cc))
next_gives edition source lender b at new is_open (Err (stop.Fault (fault.Line n))) (inr gives) =
    ((is_open, λ ds s. stopped_inside edition source lender b at ds s gives.0 new n gives.1 gives.2), λ e. absurd (cc))
next_gives edition source lender b at new is_open (Err (stop.Fault fault.Memory)) gives =
    ((is_open, λ ds s. refused edition source lender b at ds s gives.0 new gives.1 gives.2), λ e. absurd (cc))
next_gives edition source lender b at new is_open (Err stop.Device) gives =
    ((is_open, λ ds s. record { breaks = gives.breaks; none = none_whole edition source lender b at ds s gives.breaks.taken gives.none; closed = refl }), λ e. absurd (cc))

pub call_gives : (edition : Edition) (source : Incoming) (lender : List ℕ) (b closed : Bool) (at new : Ahead) → closed ≡ false → (closed ≡ false → MoreCanBeRead (reader_of (reader_start edition source lender) at b closed))
    → (opens : Bool) → opens ≡ to_open b edition → (r : Result (Option Definition) CodeStop) → NextDefinitionGives opens at r new
    → (answer : CodeStep) → answer ≡ code_step r → (last : Bool) → last ≡ is_last_step answer
    → StepGives (reader_of (reader_start edition source lender) at b closed) answer (reader_of (reader_start edition source lender) new true last)
    × (last ≡ false → MoreCanBeRead (reader_of (reader_start edition source lender) new true last))
call_gives edition source lender b closed at new closed_is is_open opens opens_is r gives answer answer_is last last_is =
    let start = reader_start edition source lender in
    let can_come = subst (λ (z : Bool). MoreCanBeRead (reader_of start at b z)) closed_is (is_open closed_is) in
    let base = next_gives edition source lender b at new can_come r (subst (λ (z : Bool). NextDefinitionGives z at r new) opens_is gives) in
    let P = λ (z : Bool) (s : CodeStep) (l : Bool). StepGives (reader_of start at b z) s (reader_of start new true l) × (l ≡ false → MoreCanBeRead (reader_of start new true l)) in
    subst (λ (z : Bool). P z answer last) (sym closed_is)
    (subst (λ (s : CodeStep). P false s last) (sym answer_is)
    (subst (λ (l : Bool). P false (code_step r) l) (sym (last_is ∙ ap is_last_step answer_is)) base))

-- the exits of the parts of a call

breaks_next : (opens : Bool) (old mid now : Ahead) → OpeningRead opens old mid → BreaksInside mid now → BreaksNext opens old now
unfolding Breaks-after
breaks_next true old mid now h broke = record {
  breaks = Breaks-after h.reads broke.breaks;
  none = λ d rest inside same. broke.none d rest inside (same_after broke.breaks.taken (definition_text d ++ rest) same);
}
breaks_next false old mid now h broke =
    subst (λ (a : Ahead). BreaksNext false a now) h record { breaks = broke.breaks; none = broke.none }

pub opening_exit : (opens : Bool) (old now : Ahead) (r : Result (Option Definition) CodeStop) (e : CodeStop) → IsErrAnd r (λ f. f ≡ e) → OpeningGives opens old (Err e) now → NextDefinitionGives opens old r now
opening_exit opens old now (Ok o) e same gives = absurd same
opening_exit opens old now (Err f) e same gives = subst (λ (s : CodeStop). NextDefinitionGives opens old (Err s) now) (sym same) (exit e gives)
  where
    exit : (e : CodeStop) → OpeningGives opens old (Err e) now → NextDefinitionGives opens old (Err e) now
    exit (stop.Fault (fault.Line n)) gives = inl gives
    exit (stop.Fault fault.Memory) gives = absurd gives
    exit stop.Device gives = record {
      breaks = gives.1.breaks;
      none = λ d rest inside same. gives.1.none tt (definition_text d ++ rest) tt (same ∙ ap (λ o. opening_line o ++ (definition_text d ++ rest)) gives.0);
    }

pub definition_exit : (opens : Bool) (old mid now : Ahead) (r : Result (Option Definition) CodeStop) (e : CodeStop) → OpeningRead opens old mid → IsErrAnd r (λ f. f ≡ e) → DefinitionGives mid (Err e) now → NextDefinitionGives opens old r now
definition_exit opens old mid now (Ok o) e h same gives = absurd same
definition_exit opens old mid now (Err f) e h same gives = subst (λ (s : CodeStop). NextDefinitionGives opens old (Err s) now) (sym same) (exit e gives)
  where
    exit : (e : CodeStop) → DefinitionGives mid (Err e) now → NextDefinitionGives opens old (Err e) now
    exit (stop.Fault (fault.Line n)) gives = inr (mid, h, gives)
    exit (stop.Fault fault.Memory) gives = (mid, h, gives)
    exit stop.Device gives = breaks_next opens old mid now h gives

pub end_exit : (opens : Bool) (old mid end now : Ahead) (r : Result (Option Definition) CodeStop) (e : CodeStop) → OpeningRead opens old mid → TakesText mid end_text 1 end → IsErrAnd r (λ f. f ≡ e) → EndingGives end (Err e) now
    → NextDefinitionGives opens old r now
end_exit opens old mid end now (Ok o) e h last same gives = absurd same
end_exit opens old mid end now (Err f) e h last same gives = subst (λ (s : CodeStop). NextDefinitionGives opens old (Err s) now) (sym same) (exit e gives)
  where
    exit : (e : CodeStop) → EndingGives end (Err e) now → NextDefinitionGives opens old (Err e) now
    exit (stop.Fault (fault.Line n)) gives =
        inr (mid, h, subst (λ (k : ℕ). StopsInside mid k now) (sym gives.0) (end_stops gives.1.0 last gives.1.2 gives.1.3 gives.1.1))
    exit (stop.Fault fault.Memory) gives = absurd gives
    exit stop.Device gives = breaks_next opens old mid now h (end_breaks last gives)
