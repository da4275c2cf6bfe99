-- What no rewriting of a code text is.
use Rattle.std.proofs.Common.{◌≡◌, ◌≢◌, ℕ, List, [], ◌∷◌, ◌++◌, refl, sym, ap, ◌∙◌, subst, append-nil, append_assoc, arith, take, inl, inr, ⊎_elim}
use Rattle.std.specs.Prelude.{All}
use Rattle.std.proofs.KnownBytes.{Appends-trans}
use Rattle.std.specs.List.{flat_map}
use Rattle.std.proofs.lemmas.List.{append_cancel_left}
use Rattle.std.proofs.lemmas.List.Elements.{All-head, All-nil}
use Rattle.bword.specs.declared.edition.Edition.TheVariants as editions
use Rattle.bword.specs.ByteEnds.{Grew, Outgoing, Refuses, Writes}
use Rattle.bword.specs.declared.ends.EndFault.{EndFault}
use Rattle.bword.specs.declared.ends.EndFault.TheVariants as end_fault
use Rattle.blang.specs.Compiles.{Tells, status_of}
use Rattle.blang.specs.Reports.{Reported}
use Rattle.blang.specs.Text.{opening, code_lines, definition_text, end_text, ended_lines, header_line, joined, IsTextOf, IsWithinRanges}
use Rattle.blang.specs.declared.status.TheConstants.{DEVICE, MEMORY, REFUSED}
use Rattle.blang.specs.declared.code.Definition.{Definition}
use Rattle.blang.specs.declared.code.Definition.TheVariants as kinds
use Rattle.bcode.proofs.CodeExcluded.{none_after}
use Rattle.bcode.proofs.FaultLaws.{no_opening, unended_code}
use Rattle.bcode.proofs.StreamLaws.{FailsAfter-counted}
use Rattle.bparse.proofs.Remaining.{all_written, rest_of}
use Rattle.brun.specs.Migrates.{Rewriting, HasBadLine, IsMigrated, InputFailed, IsRefused, Migrates, NoRoom, RefusesNext, definition, done, failed, faulty, first_line, last_line, no_memory, rewritten}
use Rattle.brun.proofs.TextLaws.{no_first_at_end, same_first}
use Rattle.brun.specs.Unmigrated.{Unmigrated, HasWritten}

some_text : (d : Definition) (rest : List ℕ) → definition_text d ++ rest ≢ []
some_text (kinds.Function f) rest e = cc
some_text (kinds.Simple s) rest e = cc
some_text (kinds.Vector v) rest e = cc

left_out : (w : Rewriting) (taken : List ℕ) → HasWritten w (opening editions.Two ++ end_text) → IsMigrated w taken → taken ≡ end_text
left_out w taken h m =
    let text_is : opening editions.Two ++ end_text ≡ m.text = all_written w.out w.out_after m.text _ h.nothing h.all m.written.appended in
    let none : [] ≡ m.definitions = m.only [] (editions.Two, record { within = All-nil IsWithinRanges; spelled = sym text_is }) in
    subst (λ ds. taken ≡ joined (code_lines editions.One ds)) (sym none) m.whole.spelled

kept_back : (w : Rewriting) (taken : List ℕ) (d : Definition) → IsWithinRanges d → taken ≡ definition_text d → HasWritten w (opening editions.Two) → InputFailed w taken → ⊥
kept_back w taken d inside is h f = by_definitions f.definitions refl
  where
    wrote : opening editions.Two ≡ rewritten f.definitions
    wrote = all_written w.out w.out_after (rewritten f.definitions) _ h.nothing h.all f.written.appended

    by_definitions : (ds : List Definition) → f.definitions ≡ ds → ⊥
    by_definitions [] none =
        let rest : f.rest ≡ taken = sym (subst (λ ds. taken ≡ flat_map definition_text ds ++ f.rest) none f.comes) in
        f.none d [] inside (rest ∙ is ∙ sym (append-nil (definition_text d)))
    by_definitions (e ∷ es) some =
        some_text e (flat_map definition_text es) (sym (append_cancel_left (opening editions.Two) [] (definition_text e ++ flat_map definition_text es)
        (append-nil (opening editions.Two) ∙ wrote ∙ ap rewritten some)))

-- all that was written before a text was refused, and of it
refused_text : (w : Rewriting) (first next all : List ℕ) (fault : EndFault) → HasWritten w all → (r : RefusesNext w first next fault) → all ≡ first ++ take r.refused.count next
refused_text w first next all fault h r =
    all_written w.out w.out_after (first ++ take r.refused.count next) all h.nothing h.all
    (Appends-trans w.out.written r.mid.written w.out_after.written first (take r.refused.count next) r.written.appended r.refused.appended)

-- no definition was written
none_written : (ds : List Definition) (more : List ℕ) → opening editions.Two ≡ rewritten ds ++ more → ds ≡ []
none_written [] more e = refl
none_written (d ∷ ds) more e =
    absurd (some_text d (flat_map definition_text ds ++ more) (sym (append_cancel_left (opening editions.Two) [] (definition_text d ++ (flat_map definition_text ds ++ more))
    (append-nil (opening editions.Two) ∙ e ∙ append_assoc (opening editions.Two) (flat_map definition_text (d ∷ ds)) more
    ∙ ap (λ l. opening editions.Two ++ l) (append_assoc (definition_text d) (flat_map definition_text ds) more)))))

module _ (w : Rewriting) (taken : List ℕ) (fault : EndFault) (d : Definition) (more : List ℕ) (inside : IsWithinRanges d) (is : taken ≡ definition_text d ++ more) (h : HasWritten w (opening editions.Two)) where
  past_first : (before : List Definition) (e : Definition) → before ≡ [] → All IsWithinRanges (before ++ e ∷ []) → taken ≡ flat_map definition_text (before ++ e ∷ []) → more ≡ []
  past_first [] e none within comes = (same_first d e more [] inside (All-head IsWithinRanges e [] within) (sym is ∙ comes)).1
  past_first (f ∷ before) e none within comes = cc

  no_text_at_end : (ds : List Definition) → ds ≡ [] → IsTextOf editions.One taken ds → ⊥
  no_text_at_end [] none whole = no_first_at_end d more inside (sym whole.spelled ∙ is)
  no_text_at_end (e ∷ ds) none whole = cc

  past_refused : IsRefused w taken fault → more ≡ []
  past_refused (first_line same none r) = absurd (some_text d more (sym is ∙ none))
  past_refused (definition before e within comes r) =
      past_first before e (none_written before _ (refused_text w (rewritten before) (definition_text e) (opening editions.Two) fault h r)) within comes
  past_refused (last_line ds whole over r) =
      absurd (no_text_at_end ds (none_written ds _ (refused_text w (rewritten ds) end_text (opening editions.Two) fault h r)) whole)

some_written : (ds : List Definition) (more : List ℕ) → [] ≡ rewritten ds ++ more → ⊥
some_written ds more e = cc

module _ (w : Rewriting) (h : HasWritten w []) where
  early_out : (taken : List ℕ) (fault : EndFault) → IsRefused w taken fault → w.input_after ≡ w.input
  early_out taken fault (first_line same none r) = same
  early_out taken fault (definition before e within comes r) = absurd (some_written before _ (refused_text w (rewritten before) (definition_text e) [] fault h r))
  early_out taken fault (last_line ds whole over r) = absurd (some_written ds _ (refused_text w (rewritten ds) end_text [] fault h r))

  wrote_some : (ds : List Definition) → Writes w.out (rewritten ds) w.out_after → ⊥
  wrote_some ds e = some_written ds [] (all_written w.out w.out_after (rewritten ds) [] h.nothing h.all e.appended ∙ sym (append-nil (rewritten ds)))

  text_begins : (text : List ℕ) (ds : List Definition) → [] ≡ text → IsTextOf editions.Two text ds → ⊥
  text_begins text ds e t = let bad : [] ≡ joined (code_lines editions.Two ds) = e ∙ t.spelled in cc

  early : (line line_after : Outgoing) (status : ℕ) → Migrates w line line_after status → w.input_after ≡ w.input
  early line line_after status (done t same e) =
      absurd (text_begins t.2.text t.2.definitions (all_written w.out w.out_after t.2.text [] h.nothing h.all t.2.written.appended) t.2.again)
  early line line_after status (faulty n t r) = absurd (wrote_some t.2.definitions t.2.written)
  early line line_after status (failed t same e) = ⊎_elim (λ f. absurd (wrote_some f.definitions f.written)) (λ o. early_out t.0 end_fault.Device o.refused) t.2
  early line line_after status (no_memory t same e) = ⊎_elim (λ f. absurd (wrote_some f.before f.written)) (λ o. early_out t.0 end_fault.Memory o.refused) t.2

-- the count of an output that refused
module _ (w : Rewriting) (taken : List ℕ) where
  device_grew : IsRefused w taken end_fault.Device → Grew w.out.failures w.out_after.failures
  device_grew (first_line same none r) = r.counted.0
  device_grew (definition before e within comes r) = subst (λ n. Grew n w.out_after.failures) r.written.failures r.refused.counted.0
  device_grew (last_line ds whole over r) = subst (λ n. Grew n w.out_after.failures) r.written.failures r.refused.counted.0

  memory_grew : IsRefused w taken end_fault.Memory → Grew w.out.refusals w.out_after.refusals
  memory_grew (first_line same none r) = r.counted.0
  memory_grew (definition before e within comes r) = subst (λ n. Grew n w.out_after.refusals) r.written.refusals r.refused.counted.0
  memory_grew (last_line ds whole over r) = subst (λ n. Grew n w.out_after.refusals) r.written.refusals r.refused.counted.0

device_told : (text : List ℕ) (line line_after : Outgoing) → Reported text REFUSED line line_after DEVICE → Grew line.failures line_after.failures
device_told text line line_after (inl t) = let bad : 133 ≡ 132 = t.1 in absurd (omega (arith, bad))
device_told text line line_after (inr r) = by_kind r.fault r.refuses r.status
  where
    by_kind : (fault : EndFault) → Refuses line text fault line_after → DEVICE ≡ status_of fault → Grew line.failures line_after.failures
    by_kind end_fault.Device h e = h.counted.0
    by_kind end_fault.Memory h e = let bad : 133 ≡ 134 = e in absurd (omega (arith, bad))

memory_told : (text : List ℕ) (line line_after : Outgoing) → Reported text REFUSED line line_after MEMORY → Grew line.refusals line_after.refusals
memory_told text line line_after (inl t) = let bad : 134 ≡ 132 = t.1 in absurd (omega (arith, bad))
memory_told text line line_after (inr r) = by_kind r.fault r.refuses r.status
  where
    by_kind : (fault : EndFault) → Refuses line text fault line_after → MEMORY ≡ status_of fault → Grew line.refusals line_after.refusals
    by_kind end_fault.Device h e = let bad : 134 ≡ 133 = e in absurd (omega (arith, bad))
    by_kind end_fault.Memory h e = h.counted.0

failure_told : (w : Rewriting) (line line_after : Outgoing) → (Grew w.input.failures w.input_after.failures → ⊥) → (Grew w.out.failures w.out_after.failures → ⊥) → (Grew line.failures line_after.failures → ⊥)
    → Migrates w line line_after DEVICE → ⊥
failure_told w line line_after read written told (done t same e) = let bad : 133 ≡ 0 = e in omega (arith, bad)
failure_told w line line_after read written told (faulty n t r) = told (device_told _ line line_after r)
failure_told w line line_after read written told (failed t same e) = ⊎_elim (λ f. read (FailsAfter-counted f.fails)) (λ o. written (device_grew w t.0 o.refused)) t.2
failure_told w line line_after read written told (no_memory t same e) = let bad : 133 ≡ 134 = e in omega (arith, bad)

-- the last line is no beginning of a definition
no_header : (d : Definition) (rest more : List ℕ) → (header_line d ++ rest) ++ more ≡ end_text → ⊥
no_header (kinds.Function f) rest more e = cc
no_header (kinds.Simple s) rest more e = cc
no_header (kinds.Vector v) rest more e = cc

no_definition : (d : Definition) (rest more : List ℕ) → (definition_text d ++ rest) ++ more ≡ end_text → ⊥
no_definition (kinds.Function f) rest more e = cc
no_definition (kinds.Simple s) rest more e = cc
no_definition (kinds.Vector v) rest more e = cc

no_room_at_end : (before : List Definition) (next : Definition) (rest more : List ℕ) → (flat_map definition_text before ++ (header_line next ++ rest)) ++ more ≡ end_text → ⊥
no_room_at_end [] next rest more e = no_header next rest more e
no_room_at_end (d ∷ ds) next rest more e =
    no_definition d (flat_map definition_text ds ++ (header_line next ++ rest)) more
    (ap (λ l. l ++ more) (sym (append_assoc (definition_text d) (flat_map definition_text ds) (header_line next ++ rest))) ∙ e)

refusal_told : (w : Rewriting) (line line_after : Outgoing) → Tells w.input end_text → (Grew w.out.refusals w.out_after.refusals → ⊥) → (Grew line.refusals line_after.refusals → ⊥)
    → Migrates w line line_after MEMORY → ⊥
refusal_told w line line_after tells written told (done t same e) = let bad : 134 ≡ 0 = e in omega (arith, bad)
refusal_told w line line_after tells written told (faulty n t r) = told (memory_told _ line line_after r)
refusal_told w line line_after tells written told (failed t same e) = let bad : 134 ≡ 133 = e in omega (arith, bad)
refusal_told w line line_after tells written told (no_memory t same e) = ⊎_elim no_room (λ o. written (memory_grew w t.0 o.refused)) t.2
  where
    no_room : NoRoom w t.0 → ⊥
    no_room f =
        let rest = rest_of w.input w.input_after t.0 end_text t.1 tells in
        no_room_at_end f.before f.next f.rest rest.more (ap (λ l. l ++ rest.more) (sym f.comes) ∙ rest.whole)

ended : (w : Rewriting) (taken : List ℕ) (n : ℕ) (ds : List Definition) → All IsWithinRanges ds
    → HasWritten w (joined (code_lines editions.Two ds)) → HasBadLine w taken n → ⊥
ended w taken n ds inside h b =
    let wrote : joined (code_lines editions.Two ds) ≡ rewritten b.definitions =
    all_written w.out w.out_after (rewritten b.definitions) _ h.nothing h.all b.written.appended in
    let code : IsTextOf editions.Two (rewritten b.definitions) ds = record { within = inside; spelled = sym wrote } in
    unended_code editions.Two b.definitions ds (b.cut [] (λ over. refl)).whole.within (editions.Two, code)

other_line : (w : Rewriting) (taken : List ℕ) (n m : ℕ) → HasBadLine w taken n → HasBadLine w taken m → n ≡ m
other_line w taken n m b c =
    let f = (b.cut [] (λ over. refl)).fault in
    let g = (c.cut [] (λ over. refl)).fault in
    let p = f.greatest g.good g.begins in
    let q = g.greatest f.good f.begins in
    omega (arith, f.next, g.next, p, q)

not_rewritten : (w : Rewriting) (taken : List ℕ) (ds : List Definition)
    → HasWritten w (joined (code_lines editions.One ds)) → IsMigrated w taken → ⊥
not_rewritten w taken ds h m =
    let wrote : joined (code_lines editions.One ds) ≡ m.text =
    all_written w.out w.out_after m.text _ h.nothing h.all m.written.appended in
    no_opening ds (joined (ended_lines m.definitions)) (sym (wrote ∙ m.again.spelled))

pub unmigrated : Unmigrated
unmigrated = record {
  left_out = left_out;
  kept_back = kept_back;
  read_on = λ w taken n h. none_after h.near;
  read_past = λ w taken fault d more inside is h o. past_refused w taken fault d more inside is h o.refused;
  read_early = λ w line line_after status h m. early w h line line_after status m;
  failure_invented = failure_told;
  refusal_invented = refusal_told;
  ended = ended;
  other_line = other_line;
  not_rewritten = not_rewritten;
  failure_passed = λ w taken e f m. let same = m.read in omega (arith, e, f, same);
}
