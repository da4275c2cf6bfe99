-- Reading a text in memory from its beginning.
use Rattle.std.proofs.Common.{subst, ◌≡◌, ℕ, ◌≤◌, true, false, List, [], ◌∷◌, ◌++◌, Bool, Option, Some, None, Result, Ok, Err, IsErrAnd, refl, sym, ap, ◌∙◌, arith, append_assoc, append-nil, ◌⊎◌, inl, inr, ⊎_elim, if◌then◌else◌}
use Rattle.std.specs.Prelude.{IfErr}
use Rattle.std.specs.List.{flat_map}
use Rattle.std.specs.Io.KnownBytes.{Consumes}
use Rattle.std.proofs.lemmas.List.Concat.{flat_map-append}
use Rattle.std.proofs.lemmas.List.Elements.{All-pop}
use Rattle.bword.specs.ByteEnds.{Incoming, Took, CanFollow, incoming_of}
use Rattle.bword.specs.declared.edition.Edition.{Edition}
use Rattle.bword.specs.declared.edition.Edition.TheVariants as editions
use Rattle.bcode.specs.Ahead.{TakesBytes}
use Rattle.bcode.specs.Faults.{IsEditionOf, BeginsIn, IsFaultLine, IsFaultLineIn, HasHeader, IsFaultOf}
use Rattle.bcode.specs.Readers.{ReaderStart, CodeReader, reader_start, all_ahead, new, opening_read, HasTaken, StepGives, SameReader}
use Rattle.bcode.specs.Stopping.{expects, IsStuckAfter}
use Rattle.blang.specs.Text.{joined, opening, body_lines, header_line, definition_text, IsTextOf, IsCodeText, IsWithinRanges}
use Rattle.blang.specs.declared.code.Definition.{Definition}
use Rattle.bcode.specs.declared.code_step.CodeStep.TheVariants as step
use Rattle.bcode.specs.declared.fault.CodeFault.{CodeFault}
use Rattle.bcode.specs.declared.fault.CodeFault.TheVariants as fault
use Rattle.bcode.proofs.FaultLaws.{fault_line_in, no_opening_line, no_opening_code, no_opening, same_rest}
use Rattle.bcode.proofs.StoppingLaws.{no_header}

regroup : (a b c d e : List ℕ) → (a ++ (b ++ (c ++ d))) ++ e ≡ a ++ (b ++ (c ++ (d ++ e)))
regroup a b c d e = simp append_assoc

not_nil : (known : List Definition) (d : Definition) → known ++ d ∷ [] ≡ [] → ⊥
not_nil [] d e = cc
not_nil (x ∷ xs) d e = cc

-- a text of one edition is none of the other, of which it has no line

no_header_line : (text : List ℕ) → IsEditionOf text editions.Two → IsStuckAfter 0 (expects []) text
no_header_line text two = record {
  refused = λ l to rest leads same. no_header leads.0 two.0 rest (sym two.1 ∙ same ∙ ap (λ t. t ++ rest) leads.2);
  not_finished = λ e same. cc;
}

no_other_line : (edition other : Edition) (text : List ℕ) (m : ℕ) → IsEditionOf text edition → BeginsIn other text m → (other ≡ edition) ⊎ (m ≤ 0)
no_other_line editions.One editions.One text m is b = inl refl
no_other_line editions.One editions.Two text m is b =
    let line = no_opening_line text is in let next = line.next in let least = line.greatest m b in inr (omega arith)
no_other_line editions.Two editions.One text m is b =
    let line = fault_line_in editions.One text 0 (no_header_line text is) in let next = line.next in let least = line.greatest m b in inr (omega arith)
no_other_line editions.Two editions.Two text m is b = inl refl

fault_line_of : (edition : Edition) (text : List ℕ) (n : ℕ) → IsEditionOf text edition → IsFaultLineIn edition text n → IsFaultLine text n
fault_line_of edition text n is h = record {
  good = h.good;
  next = h.next;
  begins = (edition, h.begins);
  greatest = λ m b. ⊎_elim
      (λ same. h.greatest m (subst (λ (e : Edition). BeginsIn e text m) same b.1))
      (λ (none : m ≤ 0). omega arith)
      (no_other_line edition b.0 text m is b.1);
}

same_edition : (edition other : Edition) (text : List ℕ) (ds : List Definition) → IsEditionOf text edition → IsTextOf other text ds → other ≡ edition
same_edition editions.One editions.One text ds is code = refl
same_edition editions.One editions.Two text ds is code = absurd (no_opening_code text is ds code)
same_edition editions.Two editions.One text ds is code = absurd (no_opening ds is.0 (sym is.1 ∙ code.spelled))
same_edition editions.Two editions.Two text ds is code = refl

-- what is left of a text of which some bytes were taken
follow : (text taken : List ℕ) (new : Incoming) (left : Option (List ℕ)) → new.left ≡ left → Took (incoming_of (record { left = text; is_over = false })) taken new
    → (more : List ℕ) × (text ≡ taken ++ more) × CanFollow new more
follow text taken new None e h = absurd (subst (λ (o : Option (List ℕ)). Consumes (Some text) o taken) e h.bytes)
follow text taken new (Some more) e h =
    let whole : text ≡ taken ++ more = subst (λ (o : Option (List ℕ)). Consumes (Some text) o taken) e h.bytes in
    (more, whole, λ over. sym (same_rest taken [] more (sym (h.all refl over) ∙ whole)))

-- a reader of a text in memory
abbrev over_text : Edition → List ℕ → ReaderStart
over_text edition text = reader_start edition (incoming_of (record { left = text; is_over = false })) []

-- These definitions were read of the text.
pub record HasRead (text : List ℕ) (known : List Definition) (r : CodeReader) : Type 0 where
  pub edition : Edition
  pub is : IsEditionOf text edition
  pub since : HasTaken r known
  pub first : r.first ≡ over_text edition text

module _ {text : List ℕ} {known : List Definition} {old : CodeReader} (h : HasRead text known old) where
  left : (now : CodeReader) (taken : List ℕ) → TakesBytes (all_ahead old.first) taken now.ahead → (more : List ℕ) × (text ≡ taken ++ more) × CanFollow now.ahead.end more
  left now taken reads = follow text taken now.ahead.end now.ahead.end.left refl (subst (λ (s : ReaderStart). TakesBytes (all_ahead s) taken now.ahead) h.first reads).took

  edition_is : old.first.edition ≡ h.edition
  edition_is = ap (λ (s : ReaderStart). s.edition) h.first

  pub read_more : (now : CodeReader) (d : Definition) (more : List Definition) → StepGives old (step.Definition d) now → SameReader old now → more ≡ known ++ d ∷ [] → HasRead text more now
  read_more now d more gives same pushed = rw pushed record { edition = h.edition; is = h.is; since = (gives.1 known h.since).now; first = same.first ∙ h.first }

  pub read_whole : (now : CodeReader) → StepGives old step.End now → IsCodeText text known
  read_whole now gives =
      let ended = gives.1 known h.since in
      let rest = left now ended.taken ended.reads in
      let all : text ≡ ended.taken = rest.1 ∙ ap (λ t. ended.taken ++ t) (rest.2 ended.over) ∙ append-nil ended.taken in
      (old.first.edition, subst (λ (t : List ℕ). IsTextOf old.first.edition t known) (sym all) ended.whole)

  pub read_stops : (now : CodeReader) (n : ℕ) → StepGives old (step.Fault (fault.Line n)) now → IsFaultLine text n
  read_stops now n gives =
      let stopped = gives.1 known h.since in
      let rest = left now stopped.taken stopped.reads in
      fault_line_of h.edition text n h.is (subst (λ (e : Edition). IsFaultLineIn e text n) edition_is
      (subst (λ (t : List ℕ). IsFaultLineIn old.first.edition t n) (sym rest.1) (stopped.fault rest.0 rest.2)))

  read_no_code : (now : CodeReader) (n : ℕ) → StepGives old (step.Fault (fault.Line n)) now → (ds : List Definition) → IsCodeText text ds → ⊥
  read_no_code now n gives ds code =
      let stopped = gives.1 known h.since in
      let rest = left now stopped.taken stopped.reads in
      let edition : code.0 ≡ old.first.edition = same_edition h.edition code.0 text ds h.is code.1 ∙ sym edition_is in
      stopped.no_text rest.0 rest.2 ds (subst (λ (t : List ℕ). IsTextOf old.first.edition t ds) rest.1 (subst (λ (e : Edition). IsTextOf e text ds) edition code.1))

  -- a definition's first line was taken
  read_header : (now : CodeReader) → StepGives old (step.Fault fault.Memory) now → HasHeader text
  read_header now gives =
      let refused = gives.1 known h.since in
      let rest = left now refused.taken refused.reads in
      record {
        edition = old.first.edition;
        definitions = known;
        next = refused.next;
        within = h.since.within;
        next_within = refused.inside;
        rest = refused.rest ++ rest.0;
        same = rest.1 ∙ ap (λ t. t ++ rest.0) refused.spelled ∙ simp append_assoc;
      }

  pub read_only : (now : CodeReader) (e : CodeFault) → StepGives old (step.Fault e) now → (ds : List Definition) → IsCodeText text ds → e ≡ fault.Memory
  read_only now (fault.Line n) gives ds code = absurd (read_no_code now n gives ds code)
  read_only now fault.Memory gives ds code = refl

  pub read_fault : (now : CodeReader) (e : CodeFault) → StepGives old (step.Fault e) now → IsFaultOf text e
  read_fault now (fault.Line n) gives = read_stops now n gives
  read_fault now fault.Memory gives = read_header now gives

opening_begun : (b : Bool) (edition : Edition) → (b ≡ false → ⊥) → (if b then opening edition else []) ≡ opening edition
opening_begun true edition h = refl
opening_begun false edition h = absurd (h refl)

-- memory that was refused after a definition
pub read_last : {text : List ℕ} {r : CodeReader} (known : List Definition) (d : Definition) → HasRead text (known ++ d ∷ []) r → HasHeader text
read_last {text} {r} known d h =
    let o = opening r.first.edition in
    let texts : flat_map definition_text (known ++ d ∷ []) ≡ flat_map definition_text known ++ definition_text d =
    flat_map-append definition_text known (d ∷ []) ∙ ap (λ l. flat_map definition_text known ++ l) (append-nil (definition_text d)) in
    let begun : opening_read r ≡ o = opening_begun r.is_begun r.first.edition (λ e. not_nil known d (h.since.unbegun e)) in
    let rest = follow text (opening_read r ++ flat_map definition_text (known ++ d ∷ [])) r.ahead.end r.ahead.end.left refl
    (subst (λ (s : ReaderStart). TakesBytes (all_ahead s) (opening_read r ++ flat_map definition_text (known ++ d ∷ [])) r.ahead) h.first h.since.passes.reads).took in
    let within = All-pop IsWithinRanges (known ++ d ∷ []) known (Some d) refl h.since.within in
    record {
      edition = r.first.edition;
      definitions = known;
      next = d;
      within = within.0;
      next_within = within.1;
      rest = joined (body_lines d) ++ rest.0;
      same = rest.1 ∙ ap (λ t. t ++ rest.0) (ap (λ t. t ++ flat_map definition_text (known ++ d ∷ [])) begun ∙ ap (λ t. o ++ t) texts) ∙ regroup o (flat_map definition_text known) (header_line d) (joined (body_lines d)) rest.0;
    }

pub push_fault : {V : Type 0} (text : List ℕ) (r : Result V CodeFault) → IsErrAnd r (λ f. f ≡ fault.Memory) → HasHeader text → IfErr r (IsFaultOf text)
push_fault text (Ok v) same header = absurd same
push_fault text (Err f) same header = subst (IsFaultOf text) (sym same) header
