-- What the calls of the reader of a code text come to, with what was written after each.
use Rattle.std.proofs.Common.{subst, ◌≡◌, ℕ, Bool, true, false, List, [], ◌∷◌, ◌++◌, length, Result, Ok, Err, IsErrAnd, refl, sym, ap, ◌∙◌, arith, append_assoc, append-nil, length-append, inl, inr, if◌then◌else◌}
use Rattle.std.specs.List.{flat_map}
use Rattle.std.proofs.Math.Seq.{take-append_seam}
use Rattle.std.proofs.lemmas.List.Elements.{All-nil}
use Rattle.bword.specs.ByteEnds.{Incoming, Outgoing, Took, Writes, Refuses, Began, CanFollow}
use Rattle.bword.specs.declared.ends.EndFault.{EndFault}
use Rattle.bword.specs.declared.ends.EndFault.TheVariants as end_fault
use Rattle.bword.specs.declared.edition.Edition.{Edition}
use Rattle.bword.specs.declared.edition.Edition.TheVariants as editions
use Rattle.bword.proofs.Putting.{Writes-none, Writes-append, Refuses-following, Refuses-short}
use Rattle.bword.proofs.Taking.{Took-none}
use Rattle.bcode.specs.Ahead.{TakesBytes}
use Rattle.bcode.specs.Readers.{CodeReader, GivesAfter, all_ahead, opening_read, HasTaken, Gave, TextEnded, StoppedAtLine, MemoryRefused, ReadBroke, SameReader, StepGives, code_step, stop_of}
use Rattle.bcode.specs.declared.code_step.CodeStep.TheVariants as step
use Rattle.blang.specs.Text.{opening, header_line, definition_text, end_text, IsTextOf, IsWithinRanges}
use Rattle.bcode.specs.Faults.{IsFaultLineIn}
use Rattle.blang.specs.declared.code.Definition.{Definition}
use Rattle.bcode.specs.Streams.{FailsAfter}
use Rattle.bcode.proofs.StreamLaws.{FailsAfter-took, FailsAfter-append}
use Rattle.bcode.proofs.FaultLaws.{code_spelled, unique_code}
use Rattle.brun.specs.Migrates.{rewritten, Becomes, Rewriting, RewritingGives, Migrates, faulty, no_memory, first_line, definition, last_line, OutFailed}
use Rattle.brun.specs.Runs.{NotRead}
use Rattle.bcode.specs.declared.code_stop.CodeStop.{CodeStop}
use Rattle.bcode.specs.declared.code_stop.CodeStop.TheVariants as stop
use Rattle.bcode.specs.declared.fault.CodeFault.{CodeFault}
use Rattle.bcode.specs.declared.fault.CodeFault.TheVariants as code_fault
use Rattle.brun.proofs.AlikeLaws.{runs_as}
use Rattle.brun.proofs.TextLaws.{NoFirst, are_whole, texts_push, rewritten-push, becomes_after, becomes_whole}

began_written : {a b : Outgoing} {xs : List ℕ} (ys : List ℕ) → Writes a xs b → Began a (xs ++ ys) b
began_written {a} {b} {xs} ys h = record {
  count = length xs;
  within = omega (arith, length-append xs ys);
  appended = rw (take-append_seam xs ys) h.appended;
}

began_refused : {a b : Outgoing} {xs : List ℕ} {fault : EndFault} → Refuses a xs fault b → Began a xs b
began_refused h = record { count = h.count; within = h.within; appended = h.appended }

-- the texts of the definitions alone are what a reader of the first edition has taken
nothing_opened : (b : Bool) (e : Edition) → e ≡ editions.One → (if b then opening e else []) ≡ []
nothing_opened true e is = ap opening is
nothing_opened false e is = refl

opened_one : (r : CodeReader) → r.first.edition ≡ editions.One → opening_read r ≡ []
opened_one r one = nothing_opened r.is_begun r.first.edition one

reads_texts : (r : CodeReader) (ds : List Definition) → r.first.edition ≡ editions.One → HasTaken r ds → TakesBytes (all_ahead r.first) (flat_map definition_text ds) r.ahead
reads_texts r ds one s = subst (λ t. TakesBytes (all_ahead r.first) (t ++ flat_map definition_text ds) r.ahead) (opened_one r one) s.passes.reads

-- how far the definitions were written
pub record Passing (old : CodeReader) (opened : Outgoing) (r : CodeReader) (out : Outgoing) : Type 0 where
  pub definitions : List Definition
  pub since : HasTaken r definitions
  pub written : Writes opened (flat_map definition_text definitions) out
  pub keeps : SameReader old r

module _ (old r new : CodeReader) (opened now : Outgoing) (one : old.first.edition ≡ editions.One) (p : Passing old opened r now) (keeps : SameReader r new) where
  abbrev ds : List Definition
  ds = p.definitions

  first_one : r.first.edition ≡ editions.One
  first_one = ap (λ s. s.edition) p.keeps.first ∙ one

  pub keeps_all : SameReader old new
  keeps_all = record { first = keeps.first ∙ p.keeps.first; lender = keeps.lender ∙ p.keeps.lender }

  -- bytes were taken since the reader was made
  from_start : (taken : List ℕ) → TakesBytes (all_ahead r.first) taken new.ahead → TakesBytes (all_ahead old.first) taken new.ahead
  from_start taken h = subst (λ s. TakesBytes (all_ahead s) taken new.ahead) p.keeps.first h

  module _ (out : Outgoing) (begun : Writes out (opening editions.Two) opened) where
    abbrev at : Outgoing → Rewriting
    at following = record { input = old.first.source; input_after = new.ahead.end; out = out; out_after = following }

    written : Writes out (rewritten ds) now
    written = Writes-append begun p.written

    -- a beginning was written of what comes of texts that begin with the definitions
    begins : (taken rest : List ℕ) → taken ≡ flat_map definition_text ds ++ rest
        → (more bytes : List ℕ) → Becomes (taken ++ more) bytes → Began out bytes now
    begins taken rest comes more bytes becomes =
        let b = becomes_after (taken ++ more) bytes ds (rest ++ more) p.since.within (ap (λ l. l ++ more) comes ∙ append_assoc (flat_map definition_text ds) rest more) becomes in
        subst (λ t. Began out t now) (sym b.1) (began_written b.0 written)

    stopped : (n : ℕ) → StoppedAtLine ds r n new → RewritingGives (at now) (Err (stop.Fault (code_fault.Line n)))
    stopped n h = (
      h.taken,
      (from_start h.taken h.reads).took,
      record {
        read = (from_start h.taken h.reads).failures;
        definitions = ds;
        cut = λ more can.
            let fault = subst (λ e. IsFaultLineIn e (h.taken ++ more) n) first_one (h.fault more can) in
            record {
              no_text = λ es is. h.no_text more can es (subst (λ e. IsTextOf e (h.taken ++ more) es) (sym first_one) is);
              fault = fault;
              whole = are_whole (h.taken ++ more) n ds (h.following ++ more) fault p.since.within (spelled more) (none more can);
            };
        near = h.near;
        written = written;
      },
    )
      where
        comes : h.taken ≡ flat_map definition_text ds ++ h.following
        comes = h.split ∙ ap (λ t. t ++ flat_map definition_text ds ++ h.following) (opened_one r first_one)

        spelled : (more : List ℕ) → h.taken ++ more ≡ flat_map definition_text ds ++ (h.following ++ more)
        spelled more = ap (λ l. l ++ more) comes ∙ append_assoc (flat_map definition_text ds) h.following more

        none : (more : List ℕ) → CanFollow new.ahead.end more → NoFirst (h.following ++ more)
        none more can d rest inside same =
            h.none more can d rest inside
            (spelled more ∙ ap (λ l. flat_map definition_text ds ++ l) same ∙ ap (λ t. t ++ flat_map definition_text ds ++ (definition_text d ++ rest)) (sym (ap opening first_one)))

    broke : ReadBroke ds r new → RewritingGives (at now) (Err stop.Device)
    broke h =
        let before = reads_texts r ds first_one p.since in
        let same = p.keeps.first in
        let fails = FailsAfter-append before.took before.failures h.breaks.fails in (
          flat_map definition_text ds ++ h.breaks.taken,
          subst (λ s. Took (all_ahead s).end (flat_map definition_text ds ++ h.breaks.taken) new.ahead.end) same (FailsAfter-took fails),
          inl record {
            fails = subst (λ s. FailsAfter (all_ahead s).end (flat_map definition_text ds ++ h.breaks.taken) new.ahead.end) same fails;
            definitions = ds;
            within = p.since.within;
            rest = h.breaks.taken;
            comes = refl;
            none = none;
            written = written;
            begun = λ more can bytes becomes. begins (flat_map definition_text ds ++ h.breaks.taken) h.breaks.taken refl more bytes becomes;
          },
        )
      where
        none : NoFirst h.breaks.taken
        none d following inside same =
            h.none d following inside
            (ap (λ t. t ++ flat_map definition_text ds ++ h.breaks.taken) (opened_one r first_one) ∙ ap (λ l. flat_map definition_text ds ++ l) same
            ∙ ap (λ t. t ++ flat_map definition_text ds ++ (definition_text d ++ following)) (sym (ap opening first_one)))

    no_room : MemoryRefused ds r new → RewritingGives (at now) (Err (stop.Fault code_fault.Memory))
    no_room h = (
      h.taken,
      (from_start h.taken h.reads).took,
      inl record {
        read = (from_start h.taken h.reads).failures;
        before = ds;
        within = p.since.within;
        next = h.next;
        inside = h.inside;
        rest = h.rest;
        comes = comes;
        more = h.more;
        whole = h.whole;
        written = written;
        begun = λ more can bytes becomes. begins h.taken (header_line h.next ++ h.rest) comes more bytes becomes;
      },
    )
      where
        comes : h.taken ≡ flat_map definition_text ds ++ (header_line h.next ++ h.rest)
        comes = h.spelled ∙ ap (λ t. t ++ flat_map definition_text ds ++ (header_line h.next ++ h.rest)) (ap opening first_one)

    faulted : (why : CodeFault) → GivesAfter ds r (step.Fault why) new → RewritingGives (at now) (Err (stop.Fault why))
    faulted (code_fault.Line n) h = stopped n h
    faulted code_fault.Memory h = no_room h

    -- no definition was read, and not the end
    pub stopped_by : (why : CodeStop) → StepGives r (code_step (Err why)) new → RewritingGives (at now) (Err why)
    stopped_by (stop.Fault why) h = faulted why (h.1 ds p.since)
    stopped_by stop.Device h = broke (h.1 ds p.since)

    -- the last line was written
    pub ended : (last : Outgoing) → TextEnded ds r new → Writes now end_text last → RewritingGives (at last) (Ok tt)
    ended last h wrote = (
      h.taken,
      (from_start h.taken h.reads).took,
      record {
        read = (from_start h.taken h.reads).failures;
        definitions = ds;
        whole = whole;
        over = h.over;
        text = text;
        again = again;
        only = λ es is. unique_code text es ds is (editions.Two, again);
        runs = (runs_as editions.One editions.Two h.taken text ds whole again, runs_as editions.Two editions.One text h.taken ds again whole);
        written = Writes-append written wrote;
      },
    )
      where
        text : List ℕ
        text = rewritten ds ++ end_text

        whole : IsTextOf editions.One h.taken ds
        whole = subst (λ e. IsTextOf e h.taken ds) first_one h.whole

        again : IsTextOf editions.Two text ds
        again = record { within = p.since.within; spelled = sym (code_spelled editions.Two ds) }

    -- or it was refused
    end_failed : (last : Outgoing) (fault : EndFault) (h : TextEnded ds r new) → Refuses now end_text fault last → OutFailed (at last) h.taken fault
    end_failed last fault h refused = record {
      read = (from_start h.taken h.reads).failures;
      refused = last_line ds whole h.over record { mid = now; written = written; refused = refused };
      begun = λ more can bytes becomes.
          let same : h.taken ++ more ≡ h.taken = ap (λ l. h.taken ++ l) (can h.over) ∙ append-nil h.taken in
          subst (λ t. Began out t last) (sym (becomes_whole h.taken bytes ds whole (subst (λ t. Becomes t bytes) same becomes))) (began_refused (Refuses-following written refused));
    }
      where
        whole : IsTextOf editions.One h.taken ds
        whole = subst (λ e. IsTextOf e h.taken ds) first_one h.whole

    pub end_refused : (last : Outgoing) (fault : EndFault) → TextEnded ds r new → Refuses now end_text fault last → RewritingGives (at last) (Err (stop_of fault))
    end_refused last end_fault.Device h refused = (h.taken, (from_start h.taken h.reads).took, inr (end_failed last end_fault.Device h refused))
    end_refused last end_fault.Memory h refused = (h.taken, (from_start h.taken h.reads).took, inr (end_failed last end_fault.Memory h refused))

    -- a definition was refused
    module _ (d : Definition) (g : Gave ds r d new) where
      abbrev taken : List ℕ
      taken = flat_map definition_text (ds ++ d ∷ [])

      taken_all : TakesBytes (all_ahead old.first) taken new.ahead
      taken_all = from_start taken (subst (λ s. TakesBytes (all_ahead s) taken new.ahead) keeps.first (reads_texts new (ds ++ d ∷ []) (ap (λ s. s.edition) keeps.first ∙ first_one) g.now))

      definition_failed : (last : Outgoing) (fault : EndFault) → Refuses now (definition_text d) fault last → OutFailed (at last) taken fault
      definition_failed last fault refused = record {
        read = taken_all.failures;
        refused = definition ds d g.now.within refl record { mid = now; written = written; refused = refused };
        begun = λ more can bytes becomes.
            let b = becomes_after (taken ++ more) bytes (ds ++ d ∷ []) more g.now.within refl becomes in
            subst (λ t. Began out t last) (ap (λ l. l ++ b.0) (sym (rewritten-push ds d)) ∙ sym b.1) (began_refused (Refuses-short b.0 (Refuses-following written refused)));
      }

      pub definition_refused : (last : Outgoing) (fault : EndFault) → Refuses now (definition_text d) fault last → RewritingGives (at last) (Err (stop_of fault))
      definition_refused last end_fault.Device refused = (taken, taken_all.took, inr (definition_failed last end_fault.Device refused))
      definition_refused last end_fault.Memory refused = (taken, taken_all.took, inr (definition_failed last end_fault.Memory refused))

  -- a definition more was read and written
  pub passing_more : (d : Definition) (last : Outgoing) → Gave ds r d new → Writes now (definition_text d) last → Passing old opened new last
  passing_more d last g wrote = record {
    definitions = ds ++ d ∷ [];
    since = g.now;
    written = subst (λ t. Writes opened t last) (sym (texts_push ds d)) (Writes-append p.written wrote);
    keeps = keeps_all;
  }

pub passing_none : (r : CodeReader) (out : Outgoing) → HasTaken r [] → Passing r out r out
passing_none r out s = record { definitions = []; since = s; written = Writes-none out; keeps = record { first = refl; lender = refl } }

-- the exit of a `?`
pub stop_exit : (w : Rewriting) (r : Result (Unit {0}) CodeStop) (why : CodeStop) → IsErrAnd r (λ h. h ≡ why) → RewritingGives w (Err why) → RewritingGives w r
stop_exit w (Ok u) why same gives = absurd same
stop_exit w (Err h) why same gives = subst (λ (e : CodeStop). RewritingGives w (Err e)) (sym same) gives

-- the first line was refused, before anything was read
begin_failed : (input : Incoming) (out following : Outgoing) (fault : EndFault) → Refuses out (opening editions.Two) fault following
    → OutFailed (record { input = input; input_after = input; out = out; out_after = following }) [] fault
begin_failed input out following fault refused = record {
  read = refl;
  refused = first_line refl refl refused;
  begun = λ more can bytes becomes.
      let b = becomes_after more bytes [] more (All-nil IsWithinRanges) refl becomes in
      subst (λ t. Began out t following) (sym b.1) (began_refused (Refuses-short b.0 refused));
}

pub begin_refused : (input : Incoming) (out following : Outgoing) (fault : EndFault) → Refuses out (opening editions.Two) fault following
    → RewritingGives (record { input = input; input_after = input; out = out; out_after = following }) (Err (stop_of fault))
begin_refused input out following end_fault.Device refused = ([], Took-none input, inr (begin_failed input out following end_fault.Device refused))
begin_refused input out following end_fault.Memory refused = ([], Took-none input, inr (begin_failed input out following end_fault.Memory refused))

-- a text that was not written to its end
pub refused_text : (w : Rewriting) (why : CodeFault) {line following : Outgoing} {status : ℕ} → RewritingGives w (Err (stop.Fault why)) → NotRead why line following status → Migrates w line following status
refused_text w (code_fault.Line n) gives told = faulty n gives told
refused_text w code_fault.Memory gives told = no_memory gives told.0 told.1
