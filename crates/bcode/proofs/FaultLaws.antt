-- The line of a fault, and that a code text is that of one list of definitions.
use Rattle.std.proofs.Common.{subst, ◌≢◌, replicate, length-append, ◌≡◌, ℕ, zero, suc, ◌+◌, ◌^◌, ◌<◌, ◌≤◌, List, [], ◌∷◌, ◌++◌, length, take, refl, sym, ap, ◌∙◌, arith, append_assoc, append-nil}
use Rattle.std.specs.Prelude.{All}
use Rattle.std.specs.List.{flat_map}
use Rattle.std.proofs.lemmas.List.Concat.{flat_map-append}
use Rattle.std.proofs.lemmas.List.Elements.{All-nil, All-head, All-tail}
use Rattle.bword.specs.declared.edition.Edition.{Edition}
use Rattle.bword.specs.declared.edition.Edition.TheVariants as editions
use Rattle.blang.specs.CodeParts.{Function, Simple, Vector, IsWord, IsInstrWithin, IsIvalWithin, sizes_of}
use Rattle.bcode.specs.Ahead.{Ahead, TakesBytes, TakesText, BytesFail, StopsInside, BreaksInside, ReadsDefinition}
use Rattle.bcode.specs.Faults.{BeginsIn, IsFaultLine, IsFaultLineIn}
use Rattle.bcode.specs.Headers.{header_of, header_text}
use Rattle.bcode.specs.LineReading.{LineReader, IsExact, FitSizes}
use Rattle.bcode.specs.Stopping.{opens, expects, value, target, string, instruction, state_after, IsStuckAfter}
use Rattle.blang.specs.Text.{joined, end_text, header_line, body_lines, lines_of, definition_text, edition_line, opening, opening_lines, ended_lines, code_lines, IsTextOf, IsCodeText, target_line, string_line, ival_line, instr_line, IsWithinRanges}
use Rattle.blang.specs.declared.code.Definition.{Definition}
use Rattle.blang.specs.declared.code.Definition.TheVariants as definition
use Rattle.bcode.specs.declared.header.Header.TheVariants as header
use Rattle.blang.specs.declared.code.Sizes.{Sizes}
use Rattle.blang.specs.declared.code.Instr.{Instr}
use Rattle.blang.specs.declared.code.Ival.{Ival}
use Rattle.bcode.proofs.AheadLaws.{Reads-append, Breaks-after, Passes-append, both_empty}
use Rattle.bcode.specs.Streams.{IsLinePart}
use Rattle.bcode.proofs.StreamLaws.{EndsInLine-after, ends_first}
use Rattle.bcode.proofs.BodyLaws.{two_kinds, three_kinds, two_goes, three_goes, GoesOn, GoesOn-append, items_go, items_go_last, header_go, not_end, text_header}
use Rattle.bcode.proofs.CodeLaws.{header_of-text, header_of-within, code_path, path_code, path_ended, ended_path, of_value, of_target, of_string, of_instr}
use Rattle.bcode.proofs.HeaderLaws.{header_at-exact, end_within}
use Rattle.bcode.proofs.LineLaws.{ival_at-exact, instr_at-exact, number_line_at-exact}
use Rattle.bcode.proofs.StoppingLaws.{same_spelling, begins_path, greatest_path, no_header, same_after, no_path}

pub fault_line : (text : List ℕ) (good : ℕ) → IsStuckAfter good opens text → IsFaultLine text (suc good)
fault_line text good stops =
    let b = begins_path good opens text tt stops in
    let code = path_code b.0 b.1 in
    record {
      good = good;
      next = refl;
      begins = (
        code.0,
        record {
          definitions = code.1;
          within = code.2;
          enough = rw (← code.3) b.2;
          rest = b.3;
          same = b.4 ∙ ap (λ ls. joined (take good ls) ++ b.3) code.3;
        },
      );
      greatest = λ m begins.
          let b = begins.1 in
          greatest_path good opens text tt stops m (code_lines begins.0 b.definitions) (code_path begins.0 b.definitions b.within) b.enough b.rest b.same;
    }

-- the same in one edition, after what its texts begin with
pub fault_line_in : (edition : Edition) (text : List ℕ) (good : ℕ) → IsStuckAfter good (expects []) text → IsFaultLineIn edition (opening edition ++ text) (suc (length (opening_lines edition) + good))
fault_line_in editions.One text good stops =
    let b = begins_path good (expects []) text tt stops in
    let code = path_ended b.0 b.1 in
    record {
      good = good;
      next = omega arith;
      begins = record {
        definitions = code.0;
        within = code.1;
        enough = rw (← code.2) b.2;
        rest = b.3;
        same = b.4 ∙ ap (λ ls. joined (take good ls) ++ b.3) code.2;
      };
      greatest = λ m b. greatest_path good (expects []) text tt stops m (ended_lines b.definitions) (ended_path b.definitions b.within) b.enough b.rest b.same;
    }
fault_line_in editions.Two text good stops =
    let b = begins_path good (expects []) text tt stops in
    let code = path_ended b.0 b.1 in
    record {
      good = suc good;
      next = omega arith;
      begins = record {
        definitions = code.0;
        within = code.1;
        enough = (let le : good ≤ length (ended_lines code.0) = rw (← code.2) b.2 in omega arith);
        rest = b.3;
        same = ap (λ t. edition_line ++ t) (b.4 ∙ ap (λ ls. joined (take good ls) ++ b.3) code.2)
            ∙ sym (append_assoc edition_line (joined (take good (ended_lines code.0))) b.3);
      };
      greatest = greatest;
    }
  where
    greatest : (m : ℕ) → BeginsIn editions.Two (edition_line ++ text) m → m ≤ suc good
    greatest zero b = omega arith
    greatest (suc m) b =
        let first = joined (take m (ended_lines b.definitions)) in
        let same : text ≡ first ++ b.rest = same_after text (first ++ b.rest) (b.same ∙ append_assoc edition_line first b.rest) in
        let enough : m ≤ length (ended_lines b.definitions) = (let e = b.enough in omega arith) in
        let least = greatest_path good (expects []) text tt stops m (ended_lines b.definitions) (ended_path b.definitions b.within) enough b.rest same in
        omega arith

pub no_code_in : (edition : Edition) (text : List ℕ) (good : ℕ) → IsStuckAfter good (expects []) text → (ds : List Definition) → IsTextOf edition (opening edition ++ text) ds → ⊥
no_code_in editions.One text good stops ds code = no_path good (expects []) text tt stops (ended_lines ds) (ended_path ds code.within) code.spelled
no_code_in editions.Two text good stops ds code =
    no_path good (expects []) text tt stops (ended_lines ds) (ended_path ds code.within) (same_after text (joined (ended_lines ds)) code.spelled)

-- a text of the second edition that begins with another line
pub no_opening_line : (text : List ℕ) → ((rest : List ℕ) → text ≡ edition_line ++ rest → ⊥) → IsFaultLineIn editions.Two text 1
no_opening_line text none = record {
  good = 0;
  next = refl;
  begins = record { definitions = []; within = All-nil IsWithinRanges; enough = omega arith; rest = text; same = refl };
  greatest = greatest;
}
  where
    greatest : (m : ℕ) → BeginsIn editions.Two text m → m ≤ 0
    greatest zero b = omega arith
    greatest (suc m) b =
        let first = joined (take m (ended_lines b.definitions)) in
        absurd (none (first ++ b.rest) (b.same ∙ append_assoc edition_line first b.rest))

pub no_opening_code : (text : List ℕ) → ((rest : List ℕ) → text ≡ edition_line ++ rest → ⊥) → (ds : List Definition) → IsTextOf editions.Two text ds → ⊥
no_opening_code text none ds code = none (joined (ended_lines ds)) code.spelled

-- lines of as many values
module _ {X : Type 0} {spell : X → List ℕ} {within : X → Type 0} {read : LineReader X} (exact : IsExact spell within read) where
  same_items : (xs ys : List X) (r s : List ℕ) → length xs ≡ length ys → All within xs → All within ys → flat_map spell xs ++ r ≡ flat_map spell ys ++ s → (xs ≡ ys) × (r ≡ s)
  same_items [] [] r s len all_x all_y same = (refl, same)
  same_items [] (y ∷ ys) r s len all_x all_y same = absurd (cc)
  same_items (x ∷ xs) [] r s len all_x all_y same = absurd (cc)
  same_items (x ∷ xs) (y ∷ ys) r s len all_x all_y same =
      let one = same_spelling exact x y (flat_map spell xs ++ r) (flat_map spell ys ++ s) (All-head within x xs all_x) (All-head within y ys all_y)
      (sym (append_assoc (spell x) (flat_map spell xs) r) ∙ same ∙ append_assoc (spell y) (flat_map spell ys) s) in
      let others = same_items xs ys r s (omega arith) (All-tail within x xs all_x) (All-tail within y ys all_y) one.1 in
      (ap (λ z. z ∷ xs) one.0 ∙ ap (λ l. y ∷ l) others.0, others.1)

same_function : (n m : List ℕ) (p q f g : ℕ) (t u v w : List ℕ) (c d : List Instr) → n ≡ m → p ≡ q → f ≡ g → t ≡ u → v ≡ w → c ≡ d
    → let a : Function = record { name = n; parameters = p; frame = f; targets = t; strings = v; code = c } in
    let b : Function = record { name = m; parameters = q; frame = g; targets = u; strings = w; code = d } in a ≡ b
same_function n m p q f g t u v w c d e1 e2 e3 e4 e5 e6 = rw (e1, e2, e3, e4, e5, e6) refl

same_simple : (n m : List ℕ) (v w : List Ival) (s t : List ℕ) → n ≡ m → v ≡ w → s ≡ t
    → let a : Simple = record { name = n; values = v; strings = s } in let b : Simple = record { name = m; values = w; strings = t } in a ≡ b
same_simple n m v w s t e1 e2 e3 = rw (e1, e2, e3) refl

same_vector : (n m : List ℕ) (k l : ℕ) (v w : List Ival) (s t : List ℕ) → n ≡ m → k ≡ l → v ≡ w → s ≡ t
    → let a : Vector = record { name = n; words = k; values = v; strings = s } in let b : Vector = record { name = m; words = l; values = w; strings = t } in a ≡ b
same_vector n m k l v w s t e1 e2 e3 e4 = rw (e1, e2, e3, e4) refl

-- two bodies after one first line are one
pub same_body : (d e : Definition) (r s : List ℕ) → IsWithinRanges d → IsWithinRanges e → header_of d ≡ header_of e → joined (body_lines d) ++ r ≡ joined (body_lines e) ++ s
    → (d ≡ e) × (r ≡ s)
same_body (definition.Function f) (definition.Function g) r s in_f in_g header same =
    let name : f.name ≡ g.name = cc in
    let parameters : f.parameters ≡ g.parameters = cc in
    let sizes : sizes_of f ≡ sizes_of g = cc in
    let spelled = λ (h : Function) (t : List ℕ). sym (three_kinds target_line string_line instr_line h.targets h.strings h.code _ _ _ t refl refl refl) in
    let flat = sym (spelled f r) ∙ same ∙ spelled g s in
    let fit : FitSizes (sizes_of f) = record {
      frame = (let l = in_f.frame in omega arith);
      labels = (let l = in_f.few_labels in omega arith);
      strings = (let l = in_f.few_strings in omega arith);
      code = (let l = in_f.few_instrs in omega arith);
    } in
    let t = same_items (number_line_at-exact 116 (length f.code) fit.code) f.targets g.targets _ _ (ap (λ z. z.labels) sizes) in_f.targets
    (subst (λ (n : ℕ). All (λ k. k < n) g.targets) (sym (ap (λ z. z.code) sizes)) in_g.targets) flat in
    let w = same_items (number_line_at-exact 119 (2 ^ 16) (omega arith)) f.strings g.strings _ _ (ap (λ z. z.strings) sizes) in_f.strings in_g.strings t.1 in
    let c = same_items (instr_at-exact (sizes_of f) fit) f.code g.code _ _ (ap (λ z. z.code) sizes) in_f.code
    (subst (λ (z : Sizes). All (IsInstrWithin z) g.code) (sym sizes) in_g.code) w.1 in (
      ap definition.Function (same_function f.name g.name f.parameters g.parameters f.frame g.frame f.targets g.targets f.strings g.strings f.code g.code
          name parameters (ap (λ z. z.frame) sizes) t.0 w.0 c.0),
      c.1,
    )
same_body (definition.Simple f) (definition.Simple g) r s in_f in_g header same =
    let name : f.name ≡ g.name = cc in
    let values : length f.values ≡ length g.values = cc in
    let strings : length f.strings ≡ length g.strings = cc in
    let spelled = λ (h : Simple) (t : List ℕ). sym (two_kinds ival_line string_line h.values h.strings _ _ t refl refl) in
    let flat = sym (spelled f r) ∙ same ∙ spelled g s in
    let few : length f.strings ≤ 2 ^ 16 = (let l = in_f.few_strings in omega arith) in
    let v = same_items (ival_at-exact (length f.strings) few) f.values g.values _ _ values in_f.values
    (subst (λ (n : ℕ). All (IsIvalWithin n) g.values) (sym strings) in_g.values) flat in
    let w = same_items (number_line_at-exact 119 (2 ^ 16) (omega arith)) f.strings g.strings _ _ strings in_f.strings in_g.strings v.1 in
    (ap definition.Simple (same_simple f.name g.name f.values g.values f.strings g.strings name v.0 w.0), w.1)
same_body (definition.Vector f) (definition.Vector g) r s in_f in_g header same =
    let name : f.name ≡ g.name = cc in
    let words : f.words ≡ g.words = cc in
    let values : length f.values ≡ length g.values = cc in
    let strings : length f.strings ≡ length g.strings = cc in
    let spelled = λ (h : Vector) (t : List ℕ). sym (two_kinds ival_line string_line h.values h.strings _ _ t refl refl) in
    let flat = sym (spelled f r) ∙ same ∙ spelled g s in
    let few : length f.strings ≤ 2 ^ 16 = (let l = in_f.few_strings in omega arith) in
    let v = same_items (ival_at-exact (length f.strings) few) f.values g.values _ _ values in_f.values
    (subst (λ (n : ℕ). All (IsIvalWithin n) g.values) (sym strings) in_g.values) flat in
    let w = same_items (number_line_at-exact 119 (2 ^ 16) (omega arith)) f.strings g.strings _ _ strings in_f.strings in_g.strings v.1 in
    (ap definition.Vector (same_vector f.name g.name f.words g.words f.values g.values f.strings g.strings name words v.0 w.0), w.1)
same_body _ _ r s in_d in_e header same = absurd (cc)

code_text : (d : Definition) (ds : List Definition) → joined (ended_lines (d ∷ ds)) ≡ header_text (header_of d) ++ (joined (body_lines d) ++ joined (ended_lines ds))
code_text d ds =
    let lines : ended_lines (d ∷ ds) ≡ header_line d ∷ (body_lines d ++ ended_lines ds) =
    ap (λ l. header_line d ∷ l) (append_assoc (body_lines d) (flat_map lines_of ds) (end_text ∷ [])) in
    ap joined lines ∙ ap (λ l. header_line d ++ l) (flat_map-append (λ l. l) (body_lines d) (ended_lines ds))
    ∙ ap (λ l. l ++ (joined (body_lines d) ++ joined (ended_lines ds))) (sym (header_of-text d))

unique_lines : (ds es : List Definition) → All IsWithinRanges ds → All IsWithinRanges es → joined (ended_lines ds) ≡ joined (ended_lines es) → ds ≡ es
unique_lines [] [] in_d in_e same = refl
unique_lines [] (e ∷ es) in_d in_e same =
    let one = same_spelling header_at-exact (header_of e) header.End (joined (body_lines e) ++ joined (ended_lines es)) [] (header_of-within e (All-head IsWithinRanges e es in_e)) end_within
    (sym (code_text e es) ∙ sym same) in
    absurd (not_end e one.0)
unique_lines (d ∷ ds) [] in_d in_e same =
    let one = same_spelling header_at-exact (header_of d) header.End (joined (body_lines d) ++ joined (ended_lines ds)) [] (header_of-within d (All-head IsWithinRanges d ds in_d)) end_within
    (sym (code_text d ds) ∙ same) in
    absurd (not_end d one.0)
unique_lines (d ∷ ds) (e ∷ es) in_d in_e same =
    let d_in = All-head IsWithinRanges d ds in_d in
    let e_in = All-head IsWithinRanges e es in_e in
    let one = same_spelling header_at-exact (header_of d) (header_of e) (joined (body_lines d) ++ joined (ended_lines ds)) (joined (body_lines e) ++ joined (ended_lines es))
    (header_of-within d d_in) (header_of-within e e_in) (sym (code_text d ds) ∙ same ∙ code_text e es) in
    let first = same_body d e (joined (ended_lines ds)) (joined (ended_lines es)) d_in e_in one.0 one.1 in
    let others = unique_lines ds es (All-tail IsWithinRanges d ds in_d) (All-tail IsWithinRanges e es in_e) first.1 in
    ap (λ z. z ∷ ds) first.0 ∙ ap (λ l. e ∷ l) others

-- no definition begins as the edition's line does
pub no_opening : (ds : List Definition) (rest : List ℕ) → edition_line ++ rest ≡ joined (ended_lines ds) → ⊥
no_opening [] rest e = no_header header.End rest [] e
no_opening (d ∷ ds) rest e = no_header (header_of d) rest (joined (body_lines d) ++ joined (ended_lines ds)) (e ∙ code_text d ds)

unique_texts : (f g : Edition) (ds es : List Definition) → All IsWithinRanges ds → All IsWithinRanges es → joined (code_lines f ds) ≡ joined (code_lines g es) → ds ≡ es
unique_texts editions.One editions.One ds es in_d in_e same = unique_lines ds es in_d in_e same
unique_texts editions.One editions.Two ds es in_d in_e same = absurd (no_opening ds (joined (ended_lines es)) (sym same))
unique_texts editions.Two editions.One ds es in_d in_e same = absurd (no_opening es (joined (ended_lines ds)) same)
unique_texts editions.Two editions.Two ds es in_d in_e same = unique_lines ds es in_d in_e (same_after (joined (ended_lines ds)) (joined (ended_lines es)) same)

-- two lists of definitions with the same text are equal
pub unique_code : (text : List ℕ) (ds es : List Definition) → IsCodeText text ds → IsCodeText text es → ds ≡ es
unique_code text ds es d e = unique_texts d.0 e.0 ds es d.1.within e.1.within (sym d.1.spelled ∙ e.1.spelled)

pub code_text-joined : (ds : List Definition) → joined (ended_lines ds) ≡ flat_map definition_text ds ++ end_text
code_text-joined [] = append-nil end_text
code_text-joined (d ∷ ds) =
    code_text d ds ∙ ap (λ h. h ++ (joined (body_lines d) ++ joined (ended_lines ds))) (header_of-text d)
    ∙ ap (λ l. header_line d ++ (joined (body_lines d) ++ l)) (code_text-joined ds)
    ∙ ap (λ l. header_line d ++ l) (sym (append_assoc (joined (body_lines d)) (flat_map definition_text ds) end_text))
    ∙ sym (append_assoc (header_line d) (joined (body_lines d) ++ flat_map definition_text ds) end_text)
    ∙ ap (λ l. l ++ end_text) (sym (append_assoc (header_line d) (joined (body_lines d)) (flat_map definition_text ds)))

-- The texts of definitions without a last line are no code text.
unended_lines : (ds es : List Definition) → All IsWithinRanges ds → All IsWithinRanges es → flat_map definition_text ds ≡ joined (ended_lines es) → ⊥
unended_lines [] es in_d in_e same =
    let l : 0 ≡ length (flat_map definition_text es) + 2 = ap length (same ∙ code_text-joined es) ∙ length-append (flat_map definition_text es) end_text in
    omega (arith, l)
unended_lines (d ∷ ds) [] in_d in_e same =
    let one = same_spelling header_at-exact (header_of d) header.End (joined (body_lines d) ++ flat_map definition_text ds) [] (header_of-within d (All-head IsWithinRanges d ds in_d)) end_within
    (sym (text_header d (flat_map definition_text ds)) ∙ same) in
    not_end d one.0
unended_lines (d ∷ ds) (e ∷ es) in_d in_e same =
    let d_in = All-head IsWithinRanges d ds in_d in
    let e_in = All-head IsWithinRanges e es in_e in
    let one = same_spelling header_at-exact (header_of d) (header_of e) (joined (body_lines d) ++ flat_map definition_text ds) (joined (body_lines e) ++ joined (ended_lines es))
    (header_of-within d d_in) (header_of-within e e_in) (sym (text_header d (flat_map definition_text ds)) ∙ same ∙ code_text e es) in
    let first = same_body d e (flat_map definition_text ds) (joined (ended_lines es)) d_in e_in one.0 one.1 in
    unended_lines ds es (All-tail IsWithinRanges d ds in_d) (All-tail IsWithinRanges e es in_e) first.1

unended_texts : (f g : Edition) (ds es : List Definition) → All IsWithinRanges ds → All IsWithinRanges es → opening f ++ flat_map definition_text ds ≡ joined (code_lines g es) → ⊥
unended_texts editions.One editions.One ds es in_d in_e same = unended_lines ds es in_d in_e same
unended_texts editions.One editions.Two ds es in_d in_e same =
    no_opening ds (joined (ended_lines es) ++ end_text)
    (sym (append_assoc edition_line (joined (ended_lines es)) end_text) ∙ ap (λ l. l ++ end_text) (sym same) ∙ sym (code_text-joined ds))
unended_texts editions.Two editions.One ds es in_d in_e same = no_opening es (flat_map definition_text ds) same
unended_texts editions.Two editions.Two ds es in_d in_e same = unended_lines ds es in_d in_e (same_after (flat_map definition_text ds) (joined (ended_lines es)) same)

pub unended_code : (edition : Edition) (ds es : List Definition) → All IsWithinRanges ds → IsCodeText (opening edition ++ flat_map definition_text ds) es → ⊥
unended_code edition ds es in_d e = unended_texts edition e.0 ds es in_d e.1.within e.1.spelled

-- definitions lead from one to the next

body_goes : (d : Definition) → IsWithinRanges d → GoesOn (state_after (header_of d)) (joined (body_lines d)) (length (body_lines d)) (expects [])
body_goes (definition.Function f) h =
    let s = sizes_of f in
    let code = replicate (length f.code) (instruction s) in
    let words = replicate (length f.strings) string ++ code in
    let t = items_go target_line (λ n. n < length f.code) (target (length f.code)) (of_target (length f.code)) f.targets words h.targets in
    let w = items_go string_line IsWord string of_string f.strings code h.strings in
    let c = items_go_last instr_line (IsInstrWithin s) (instruction s) (of_instr s) f.code h.code in
    let all = GoesOn-append _ _ (expects []) _ _ _ _ (GoesOn-append (state_after (header_of (definition.Function f))) (expects words) (expects code) _ _ _ _ t w) c in
    three_goes target_line string_line instr_line f.targets f.strings f.code _ _ all
body_goes (definition.Simple s) h =
    let k = length s.strings in
    let v = items_go ival_line (IsIvalWithin k) (value k) (of_value k) s.values (replicate k string) h.values in
    let w = items_go_last string_line IsWord string of_string s.strings h.strings in
    two_goes ival_line string_line s.values s.strings _ _ (GoesOn-append (state_after (header_of (definition.Simple s))) (expects (replicate k string)) (expects []) _ _ _ _ v w)
body_goes (definition.Vector s) h =
    let k = length s.strings in
    let v = items_go ival_line (IsIvalWithin k) (value k) (of_value k) s.values (replicate k string) h.values in
    let w = items_go_last string_line IsWord string of_string s.strings h.strings in
    two_goes ival_line string_line s.values s.strings _ _ (GoesOn-append (state_after (header_of (definition.Vector s))) (expects (replicate k string)) (expects []) _ _ _ _ v w)

definition_goes : (d : Definition) → IsWithinRanges d → GoesOn (expects []) (definition_text d) (length (lines_of d)) (expects [])
definition_goes d h =
    let all = GoesOn-append (expects []) (state_after (header_of d)) (expects []) (header_text (header_of d)) (joined (body_lines d)) 1 (length (body_lines d))
    (header_go (header_of d) (header_of-within d h)) (body_goes d h) in
    let count : 1 + length (body_lines d) ≡ length (lines_of d) = omega arith in
    subst (λ (n : ℕ). GoesOn (expects []) (definition_text d) n (expects [])) count
    (subst (λ (l : List ℕ). GoesOn (expects []) (l ++ joined (body_lines d)) (1 + length (body_lines d)) (expects [])) (header_of-text d) all)

pub definitions_go : (ds : List Definition) → All IsWithinRanges ds → GoesOn (expects []) (flat_map definition_text ds) (length (flat_map lines_of ds)) (expects [])
definitions_go [] all n rest stops = let same : n ≡ 0 + n = omega arith in subst (λ (m : ℕ). IsStuckAfter m (expects []) rest) same stops
definitions_go (d ∷ ds) all n rest stops =
    let count : length (lines_of d) + length (flat_map lines_of ds) ≡ length (flat_map lines_of (d ∷ ds)) = sym (length-append (lines_of d) (flat_map lines_of ds)) in
    let both = GoesOn-append (expects []) (expects []) (expects []) (definition_text d) (flat_map definition_text ds) (length (lines_of d)) (length (flat_map lines_of ds))
    (definition_goes d (All-head IsWithinRanges d ds all)) (definitions_go ds (All-tail IsWithinRanges d ds all)) in
    subst (λ (k : ℕ). IsStuckAfter (k + n) (expects []) (flat_map definition_text (d ∷ ds) ++ rest)) count (both n rest stops)

-- a definition more was passed
pub passes_more : {start at new : Ahead} (o : List ℕ) (k : ℕ) (known : List Definition) (d : Definition) → TakesText start (o ++ flat_map definition_text known) (k + length (flat_map lines_of known)) at → ReadsDefinition at d new
    → TakesText start (o ++ flat_map definition_text (known ++ d ∷ [])) (k + length (flat_map lines_of (known ++ d ∷ []))) new
passes_more {start} {at} {new} o k known d passes read =
    let texts : flat_map definition_text (known ++ d ∷ []) ≡ flat_map definition_text known ++ definition_text d =
    flat_map-append definition_text known (d ∷ []) ∙ ap (λ l. flat_map definition_text known ++ l) (append-nil (definition_text d)) in
    let lines : flat_map lines_of (known ++ d ∷ []) ≡ flat_map lines_of known ++ lines_of d =
    flat_map-append lines_of known (d ∷ []) ∙ ap (λ l. flat_map lines_of known ++ l) (append-nil (lines_of d)) in
    let all = Passes-append passes read.passes in
    let count : k + length (flat_map lines_of known) + length (lines_of d) ≡ k + length (flat_map lines_of (known ++ d ∷ [])) =
    omega (arith, ap length lines, length-append (flat_map lines_of known) (lines_of d)) in
    subst (λ (n : ℕ). TakesText start (o ++ flat_map definition_text (known ++ d ∷ [])) n new) count
    (subst (λ (t : List ℕ). TakesText start t (k + length (flat_map lines_of known) + length (lines_of d)) new)
    (append_assoc o (flat_map definition_text known) (definition_text d) ∙ ap (λ t. o ++ t) (sym texts)) all)

pub same_rest : (xs ys zs : List ℕ) → xs ++ ys ≡ xs ++ zs → ys ≡ zs
same_rest [] ys zs e = e
same_rest (x ∷ xs) ys zs e = same_rest xs ys zs (cc)

pub definition_shorter : (at new : Ahead) (d : Definition) → ReadsDefinition at d new → new.end.bound < at.end.bound
definition_shorter at new d read =
    let some = header_at-exact.filled (header_of d) in
    let first = ap length (header_of-text d) in
    let falls = read.passes.reads.took.bound in
    omega (arith, falls, length-append (header_line d) (joined (body_lines d)))

-- the last line, and what is after it

-- the text stops after the last line
pub end_stops : {at end new : Ahead} (taken : List ℕ) → TakesText at end_text 1 end → IsLinePart taken → TakesBytes end taken new → (taken ≢ []) → StopsInside at end.line new
end_stops {at} {end} {new} taken passes part reads some = record {
  stopped = record {
    good = 1 + 0;
    there = (let x = passes.counted in omega arith);
    taken = end_text ++ taken;
    near = EndsInLine-after passes.lines (ends_first taken part) (omega arith);
    reads = Reads-append passes.reads reads;
    stops = λ more can. subst (λ (l : List ℕ). IsStuckAfter (1 + 0) (expects []) l) (sym (append_assoc end_text taken more))
        (header_go header.End end_within 0 (taken ++ more) record { refused = λ l to rest leads same. leads; not_finished = λ e same. some (both_empty taken more same).0 });
  };
  none = λ more can d rest inside same.
      not_end d (sym (same_spelling header_at-exact header.End (header_of d) (taken ++ more) (joined (body_lines d) ++ rest) end_within (header_of-within d inside)
      (sym (append_assoc end_text taken more) ∙ same ∙ text_header d rest)).0);
}

-- a read failed after the last line
pub end_breaks : {at end new : Ahead} → TakesText at end_text 1 end → BytesFail end new → BreaksInside at new
unfolding Breaks-after
end_breaks passes breaks = record {
  breaks = Breaks-after passes.reads breaks;
  none = λ d rest inside same.
      not_end d (sym (same_spelling header_at-exact header.End (header_of d) breaks.taken (joined (body_lines d) ++ rest) end_within (header_of-within d inside) (same ∙ text_header d rest)).0);
}

opened : (edition : Edition) (ds : List Definition) → joined (code_lines edition ds) ≡ opening edition ++ joined (ended_lines ds)
opened editions.One ds = refl
opened editions.Two ds = refl

pub code_spelled : (edition : Edition) (ds : List Definition) → joined (code_lines edition ds) ≡ opening edition ++ flat_map definition_text ds ++ end_text
code_spelled edition ds = opened edition ds ∙ ap (λ t. opening edition ++ t) (code_text-joined ds) ∙ sym (append_assoc (opening edition) (flat_map definition_text ds) end_text)
