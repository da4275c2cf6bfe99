-- Definitions whose texts begin one text.
use Rattle.std.proofs.Common.{◌≡◌, ℕ, ◌<◌, List, [], ◌∷◌, ◌++◌, length, refl, sym, ap, ◌∙◌, arith, append_assoc, append-nil, length-append}
use Rattle.std.specs.Prelude.{All}
use Rattle.std.specs.List.{flat_map}
use Rattle.std.proofs.Math.Seq.{take-append_seam}
use Rattle.std.proofs.lemmas.List.Concat.{flat_map-append}
use Rattle.std.proofs.lemmas.List.Elements.{All-head, All-tail, All-push}
use Rattle.bword.specs.declared.edition.Edition.TheVariants as editions
use Rattle.bcode.specs.Faults.{BeginsIn, IsFaultLineIn}
use Rattle.bcode.specs.Headers.{header_of}
use Rattle.blang.specs.Text.{joined, opening, body_lines, lines_of, definition_text, end_text, IsTextOf, IsWithinRanges}
use Rattle.blang.specs.declared.code.Definition.{Definition}
use Rattle.bcode.specs.declared.header.Header.TheVariants as header
use Rattle.bcode.proofs.BodyLaws.{text_header, not_end}
use Rattle.bcode.proofs.CodeLaws.{header_of-within}
use Rattle.bcode.proofs.FaultLaws.{same_body, code_spelled, unique_code}
use Rattle.bcode.proofs.HeaderLaws.{header_at-exact, end_within}
use Rattle.bcode.proofs.StoppingLaws.{same_spelling}
use Rattle.brun.specs.Migrates.{rewritten, AreWhole, Becomes, whole, cut}

-- two definitions that come first are one
pub same_first : (d e : Definition) (r s : List ℕ) → IsWithinRanges d → IsWithinRanges e → definition_text d ++ r ≡ definition_text e ++ s → (d ≡ e) × (r ≡ s)
same_first d e r s in_d in_e same =
    let one = same_spelling header_at-exact (header_of d) (header_of e) (joined (body_lines d) ++ r) (joined (body_lines e) ++ s) (header_of-within d in_d) (header_of-within e in_e)
    (sym (text_header d r) ∙ same ∙ text_header e s) in
    same_body d e r s in_d in_e one.0 one.1

-- no definition comes first
abbrev pub NoFirst : List ℕ → Type 0
NoFirst text = (d : Definition) (rest : List ℕ) → IsWithinRanges d → text ≡ definition_text d ++ rest → ⊥

-- the last line is no definition's
pub no_first_at_end : NoFirst end_text
no_first_at_end d rest inside same =
    not_end d (sym (same_spelling header_at-exact header.End (header_of d) [] (joined (body_lines d) ++ rest) end_within (header_of-within d inside) (same ∙ text_header d rest)).0)

-- all definitions that a text begins with begin with any of them
pub longest : (ds es : List Definition) (r s : List ℕ) → All IsWithinRanges ds → All IsWithinRanges es → flat_map definition_text ds ++ r ≡ flat_map definition_text es ++ s → NoFirst s
    → (tail : List Definition) × (es ≡ ds ++ tail)
longest [] es r s in_d in_e same none = (es, refl)
longest (d ∷ ds) [] r s in_d in_e same none =
    absurd (none d (flat_map definition_text ds ++ r) (All-head IsWithinRanges d ds in_d) (sym same ∙ append_assoc (definition_text d) (flat_map definition_text ds) r))
longest (d ∷ ds) (e ∷ es) r s in_d in_e same none =
    let one = same_first d e (flat_map definition_text ds ++ r) (flat_map definition_text es ++ s) (All-head IsWithinRanges d ds in_d) (All-head IsWithinRanges e es in_e)
    (sym (append_assoc (definition_text d) (flat_map definition_text ds) r) ∙ same ∙ append_assoc (definition_text e) (flat_map definition_text es) s) in
    let others = longest ds es r s (All-tail IsWithinRanges d ds in_d) (All-tail IsWithinRanges e es in_e) one.1 none in
    (others.0, ap (λ z. z ∷ es) (sym one.0) ∙ ap (λ l. d ∷ l) others.1)

pub texts_push : (ds : List Definition) (d : Definition) → flat_map definition_text (ds ++ d ∷ []) ≡ flat_map definition_text ds ++ definition_text d
texts_push ds d = flat_map-append definition_text ds (d ∷ []) ∙ ap (λ l. flat_map definition_text ds ++ l) (append-nil (definition_text d))

-- the lines of definitions, joined
joined_lines : (ds : List Definition) → joined (flat_map lines_of ds) ≡ flat_map definition_text ds
joined_lines [] = refl
joined_lines (d ∷ ds) = flat_map-append (λ l. l) (lines_of d) (flat_map lines_of ds) ∙ ap (λ l. definition_text d ++ l) (joined_lines ds)

-- a text that begins with whole definitions begins with their lines
begins_whole : (text : List ℕ) (ds : List Definition) (rest : List ℕ) → All IsWithinRanges ds → text ≡ flat_map definition_text ds ++ rest
    → BeginsIn editions.One text (length (flat_map lines_of ds))
begins_whole text ds rest within same = record {
  definitions = ds;
  within = within;
  enough = omega (arith, length-append (flat_map lines_of ds) (end_text ∷ []));
  rest = rest;
  same = same ∙ ap (λ l. l ++ rest) (sym (ap joined (take-append_seam (flat_map lines_of ds) (end_text ∷ [])) ∙ joined_lines ds));
}

before_fault : (text : List ℕ) (n : ℕ) (ds : List Definition) (rest : List ℕ) → IsFaultLineIn editions.One text n → All IsWithinRanges ds → text ≡ flat_map definition_text ds ++ rest
    → length (flat_map lines_of ds) < n
before_fault text n ds rest fault within same =
    let l = fault.greatest (length (flat_map lines_of ds)) (begins_whole text ds rest within same) in omega (arith, fault.next, l)

pub are_whole : (text : List ℕ) (n : ℕ) (ds : List Definition) (rest : List ℕ) → IsFaultLineIn editions.One text n → All IsWithinRanges ds → text ≡ flat_map definition_text ds ++ rest → NoFirst rest
    → AreWhole text n ds
are_whole text n ds rest fault within same none = record {
  within = within;
  rest = rest;
  begins = same;
  among = before_fault text n ds rest fault within same;
  all = λ es following in_e begins few.
      let more = longest es ds following rest in_e within (sym begins ∙ same) none in
      omega (arith, ap length more.1, length-append es more.0);
}

-- after all whole definitions none comes
none_after : (text : List ℕ) (n : ℕ) (ds : List Definition) → IsFaultLineIn editions.One text n → (h : AreWhole text n ds) → NoFirst h.rest
none_after text n ds fault h d rest inside same =
    let spelled : text ≡ flat_map definition_text (ds ++ d ∷ []) ++ rest =
    h.begins ∙ ap (λ l. flat_map definition_text ds ++ l) same ∙ sym (append_assoc (flat_map definition_text ds) (definition_text d) rest) ∙ ap (λ l. l ++ rest) (sym (texts_push ds d)) in
    let within = All-push IsWithinRanges ds d h.within inside in
    let few = h.all (ds ++ d ∷ []) rest within spelled (before_fault text n (ds ++ d ∷ []) rest fault within spelled) in
    absurd (omega (arith, few, length-append ds (d ∷ [])))

rewritten-append : (ds tail : List Definition) → rewritten (ds ++ tail) ≡ rewritten ds ++ flat_map definition_text tail
rewritten-append ds tail =
    ap (λ l. opening editions.Two ++ l) (flat_map-append definition_text ds tail) ∙ sym (append_assoc (opening editions.Two) (flat_map definition_text ds) (flat_map definition_text tail))

pub rewritten-push : (ds : List Definition) (d : Definition) → rewritten (ds ++ d ∷ []) ≡ rewritten ds ++ definition_text d
rewritten-push ds d = rewritten-append ds (d ∷ []) ∙ ap (λ l. rewritten ds ++ l) (append-nil (definition_text d))

-- what a text becomes begins with the definitions that the text begins with
pub becomes_after : (text bytes : List ℕ) (ds : List Definition) (rest : List ℕ) → All IsWithinRanges ds → text ≡ flat_map definition_text ds ++ rest → Becomes text bytes
    → (more : List ℕ) × (bytes ≡ rewritten ds ++ more)
becomes_after text bytes ds rest within same (whole es one two) =
    let tail = longest ds es rest end_text within one.within (sym same ∙ one.spelled ∙ code_spelled editions.One es) no_first_at_end in (
      flat_map definition_text tail.0 ++ end_text,
      two.spelled ∙ code_spelled editions.Two es ∙ ap (λ l. rewritten l ++ end_text) tail.1 ∙ ap (λ l. l ++ end_text) (rewritten-append ds tail.0)
          ∙ append_assoc (rewritten ds) (flat_map definition_text tail.0) end_text,
    )
becomes_after text bytes ds rest within same (cut n es h is) =
    let tail = longest ds es rest h.whole.rest within h.whole.within (sym same ∙ h.whole.begins) (none_after text n es h.fault h.whole) in
    (flat_map definition_text tail.0, is ∙ ap rewritten tail.1 ∙ rewritten-append ds tail.0)

-- what a whole text becomes
pub becomes_whole : (text bytes : List ℕ) (ds : List Definition) → IsTextOf editions.One text ds → Becomes text bytes → bytes ≡ rewritten ds ++ end_text
becomes_whole text bytes ds is (whole es one two) =
    two.spelled ∙ code_spelled editions.Two es ∙ ap (λ l. rewritten l ++ end_text) (unique_code text es ds (editions.One, one) (editions.One, is))
becomes_whole text bytes ds is (cut n es h same) = absurd (h.no_text ds is)
