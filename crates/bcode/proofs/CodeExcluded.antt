-- What no writer of a code text, no call of `read_code` and no reader does.
use Rattle.std.proofs.Common.{subst, ◌≡◌, ℕ, suc, ◌≤◌, true, List, [], ◌∷◌, ◌++◌, length, sym, ap, ◌∙◌, arith, append_assoc, append-nil, Option, Some, None, Ok, refl, ◌⊎◌, inl, inr}
use Rattle.std.specs.Prelude.{All, codes}
use Rattle.std.specs.List.{flat_map}
use Rattle.std.specs.Io.KnownBytes.{Appends}
use Rattle.bword.specs.declared.edition.Edition.{Edition}
use Rattle.bword.specs.declared.edition.Edition.TheVariants as editions
use Rattle.std.proofs.lemmas.List.{append_cancel_right}
use Rattle.std.proofs.lemmas.List.Concat.{flat_map-append}
use Rattle.std.proofs.lemmas.List.Elements.{All-head, All-tail}
use Rattle.bword.proofs.Taking.{consumed}
use Rattle.bcode.specs.CodeExcluded.{Excluded}
use Rattle.bcode.specs.Copying.{TextGives}
use Rattle.bcode.specs.Faults.{IsFaultLine, HasHeader}
use Rattle.bcode.specs.Headers.{header_of}
use Rattle.bcode.specs.LineReading.{header_at, any_header_at, sizes_at, function_header_at, simple_header_at, vector_header_at, line_ended, ival_line_at, operand_at, name_operand_at}
use Rattle.bcode.specs.Reading.{expect_byte, number_at, number_from, name_text_at}
use Rattle.bcode.specs.Readers.{CodeReader, HasTaken, TextEnded, StoppedAtLine, MemoryRefused, ReadBroke, StepGives, code_step, opening_read}
use Rattle.bcode.specs.Stopping.{opens}
use Rattle.bcode.specs.Streams.{HasNoNewline, IsWholeLine, IsLinePart, AreLines, EndsInLine}
use Rattle.blang.specs.Text.{joined, body_lines, header_line, definition_text, edition_line, opening, code_lines, IsTextOf, IsCodeText, IsWithinRanges}
use Rattle.blang.specs.declared.code.Definition.{Definition}
use Rattle.blang.specs.declared.limits.TheConstants.{LINE_LEN}
use Rattle.bcode.specs.declared.header.Header.TheVariants as header
use Rattle.bcode.proofs.AheadLaws.{both_empty}
use Rattle.bcode.proofs.BodyLaws.{not_end, text_header}
use Rattle.bcode.proofs.CodeLaws.{code_path, header_of-text, header_of-within}
use Rattle.bcode.proofs.FaultLaws.{no_opening, same_body, same_rest, unended_code}
use Rattle.bcode.proofs.FaultRows.{stops, stops_at}
use Rattle.bcode.proofs.HeaderLaws.{header_at-exact, end_within}
use Rattle.bcode.proofs.StoppingLaws.{same_spelling, no_path}
use Rattle.bcode.proofs.StreamLaws.{first_newline, no_newline, FailsAfter-took}

-- a text up to its first newline
line_first : (l others rest : List ℕ) (w : IsWholeLine l) → l ++ others ++ rest ≡ w.before ++ 10 ∷ (others ++ rest)
line_first l others rest w =
    ap (λ t. t ++ others ++ rest) w.ends ∙ ap (λ t. t ++ rest) (append_assoc w.before (10 ∷ []) others) ∙ append_assoc w.before (10 ∷ others) rest

-- what comes after a first line, in a text of lines
after_first : (l m others following rest last : List ℕ) (w : IsWholeLine l) (v : IsWholeLine m) → l ++ others ++ rest ≡ m ++ following ++ last → others ++ rest ≡ following ++ last
after_first l m others following rest last w v same =
    (first_newline w.before v.before (others ++ rest) (following ++ last) w.clean v.clean (sym (line_first l others rest w) ∙ same ∙ line_first m following last v)).1

-- after as many lines the same comes
same_last : (ls ms : List (List ℕ)) (rest last : List ℕ) → All IsWholeLine ls → All IsWholeLine ms → length ls ≡ length ms → joined ls ++ rest ≡ joined ms ++ last → rest ≡ last
same_last [] [] rest last p q n same = same
same_last [] (m ∷ ms) rest last p q n same = absurd (omega arith)
same_last (l ∷ ls) [] rest last p q n same = absurd (omega arith)
same_last (l ∷ ls) (m ∷ ms) rest last p q n same =
    same_last ls ms rest last (All-tail IsWholeLine l ls p) (All-tail IsWholeLine m ms q) (omega arith)
    (after_first l m (joined ls) (joined ms) rest last (All-head IsWholeLine l ls p) (All-head IsWholeLine m ms q) same)

-- after one line more nothing comes
none_last : (ls ms : List (List ℕ)) (rest last : List ℕ) → All IsWholeLine ls → All IsWholeLine ms → length ls ≡ suc (length ms) → IsLinePart last → joined ls ++ rest ≡ joined ms ++ last → rest ≡ []
none_last [] ms rest last p q n part same = absurd (omega arith)
none_last (l ∷ ls) (m ∷ ms) rest last p q n part same =
    none_last ls ms rest last (All-tail IsWholeLine l ls p) (All-tail IsWholeLine m ms q) (omega arith) part
    (after_first l m (joined ls) (joined ms) rest last (All-head IsWholeLine l ls p) (All-head IsWholeLine m ms q) same)
none_last (l ∷ k ∷ ls) [] rest last p q n part same = absurd (omega arith)
none_last (l ∷ []) [] rest last p q n part same = split part.newline
  where
    w : IsWholeLine l
    w = All-head IsWholeLine l [] p

    text : w.before ++ 10 ∷ rest ≡ last
    text = sym (line_first l [] rest w) ∙ same

    split : IsWholeLine last ⊎ HasNoNewline last → rest ≡ []
    split (inl v) = (first_newline w.before v.before rest [] w.clean v.clean (text ∙ v.ends)).1
    split (inr clean) = absurd (no_newline last w.before rest clean (sym text))

ends_after : {n k : ℕ} {bytes : List ℕ} (e : EndsInLine n bytes) (lines rest : List ℕ) (h : AreLines k lines) → bytes ≡ lines ++ rest → joined h.lines ++ rest ≡ joined e.lines.lines ++ e.last
ends_after e lines rest h same =
    ap (λ t. t ++ rest) (sym h.split) ∙ sym same ∙ e.split ∙ ap (λ t. t ++ e.last) e.lines.split

-- after n lines a text that ends in line n has no more
pub none_after : {n : ℕ} {bytes : List ℕ} → EndsInLine n bytes → (lines rest : List ℕ) → AreLines n lines → bytes ≡ lines ++ rest → rest ≡ []
none_after e lines rest are same =
    none_last are.lines e.lines.lines rest e.last are.each e.lines.each (let x = e.number in let y = e.lines.counted in let z = are.counted in omega arith) e.part
    (ends_after e lines rest are same)

never_ends : (before : List Definition) (old new : CodeReader) (n : ℕ) (h : StoppedAtLine before old (suc n) new) → (lines rest : List ℕ) → AreLines n lines → h.taken ≡ lines ++ rest → length rest ≤ LINE_LEN
never_ends before old new n h lines rest are same =
    let e = h.near in
    let last = same_last are.lines e.lines.lines rest e.last are.each e.lines.each (let x = e.number in let y = e.lines.counted in let z = are.counted in omega arith)
    (ends_after e lines rest are same) in
    subst (λ t. length t ≤ LINE_LEN) (sym last) e.part.few

appended : (a b : Option (List ℕ)) (text bytes : List ℕ) → a ≡ Some [] → b ≡ Some bytes → Appends a b text → bytes ≡ text
appended None b text bytes e f h = cc
appended (Some a) None text bytes e f h = cc
appended (Some a) (Some b) text bytes e f h = let p : a ≡ [] = cc in let q : b ≡ bytes = cc in sym q ∙ h ∙ ap (λ l. l ++ text) p

abbrev zero_first : List ℕ
zero_first = codes "X n 1 0\nc 007\nE\n"

zero_stuck : stops_at 1 opens zero_first ≡ true
unfolding header_at any_header_at sizes_at function_header_at simple_header_at vector_header_at line_ended ival_line_at operand_at name_operand_at expect_byte number_at number_from name_text_at
zero_stuck = refl

leading_zero : (ds : List Definition) → IsCodeText zero_first ds → ⊥
leading_zero ds code =
    no_path 1 opens zero_first tt (stops 1 opens zero_first tt zero_stuck) (code_lines code.0 ds) (code_path code.0 ds code.1.within) code.1.spelled

pub same_line : (text : List ℕ) (n m : ℕ) → IsFaultLine text n → IsFaultLine text m → n ≡ m
same_line text n m f g =
    let p = f.greatest g.good g.begins in
    let q = g.greatest f.good f.begins in
    omega (arith, f.next, g.next, p, q)

-- a last line is no definition's first
not_first : (d : Definition) (rest : List ℕ) → IsWithinRanges d → codes "E\n" ≡ definition_text d ++ rest → ⊥
not_first d rest inside e =
    not_end d (sym (same_spelling header_at-exact header.End (header_of d) [] (joined (body_lines d) ++ rest) end_within (header_of-within d inside) (e ∙ text_header d rest)).0)

no_header : HasHeader (codes "E\n") → ⊥
no_header h = at h.edition h.definitions h.within h.same
  where
    at : (edition : Edition) (ds : List Definition) → All IsWithinRanges ds → codes "E\n" ≡ opening edition ++ (flat_map definition_text ds ++ (header_line h.next ++ h.rest)) → ⊥
    at editions.Two ds all e = cc
    at editions.One [] all e =
        not_end h.next (sym (same_spelling header_at-exact header.End (header_of h.next) [] h.rest end_within (header_of-within h.next h.next_within) (e ∙ ap (λ l. l ++ h.rest) (sym (header_of-text h.next)))).0)
    at editions.One (d ∷ ds) all e =
        not_first d (flat_map definition_text ds ++ (header_line h.next ++ h.rest)) (All-head IsWithinRanges d ds all)
        (e ∙ append_assoc (definition_text d) (flat_map definition_text ds) (header_line h.next ++ h.rest))

taken_on : (r : CodeReader) (ds : List Definition) (rest left : List ℕ) → HasTaken r ds → r.first.source.left ≡ Some (opening_read r ++ flat_map definition_text ds ++ rest) → r.ahead.end.left ≡ Some left → left ≡ rest
taken_on r ds rest left h e f =
    sym (same_rest (opening_read r ++ flat_map definition_text ds) rest left (consumed r.first.source.left r.ahead.end.left (opening_read r ++ flat_map definition_text ds) (opening_read r ++ flat_map definition_text ds ++ rest) left e f h.passes.reads.took.bytes))

-- after those before, the text of one more
one_more : (o : List ℕ) (ds : List Definition) (d : Definition) (left : List ℕ) → o ++ flat_map definition_text (ds ++ d ∷ []) ++ left ≡ o ++ flat_map definition_text ds ++ (definition_text d ++ left)
one_more o ds d left =
    let texts : flat_map definition_text (ds ++ d ∷ []) ≡ flat_map definition_text ds ++ definition_text d =
    flat_map-append definition_text ds (d ∷ []) ∙ ap (λ l. flat_map definition_text ds ++ l) (append-nil (definition_text d)) in
    ap (λ l. o ++ l ++ left) texts ∙ regroup o (flat_map definition_text ds) (definition_text d) left
  where
    regroup : (a b c e : List ℕ) → (a ++ (b ++ c)) ++ e ≡ (a ++ b) ++ (c ++ e)
    regroup a b c e = simp append_assoc

copied_other : (ds : List Definition) (old new : CodeReader) (before after rest left : List ℕ) → HasTaken old ds → TextGives (λ answer. StepGives old (code_step answer) new) (Ok true) before after
    → new.first.source.left ≡ Some (opening_read new ++ flat_map definition_text ds ++ rest) → new.ahead.end.left ≡ Some left → after ++ left ≡ before ++ rest
copied_other ds old new before after rest left h t e f =
    let d = t.0 in
    let now = (t.1.1 ds h).now in
    let whole = consumed new.first.source.left new.ahead.end.left (opening_read new ++ flat_map definition_text (ds ++ d ∷ [])) (opening_read new ++ flat_map definition_text ds ++ rest) left e f now.passes.reads.took.bytes in
    let same : rest ≡ definition_text d ++ left = same_rest (opening_read new ++ flat_map definition_text ds) rest (definition_text d ++ left) (whole ∙ one_more (opening_read new) ds d left) in
    ap (λ l. l ++ left) t.2 ∙ append_assoc before (definition_text d) left ∙ ap (λ l. before ++ l) (sym same)

lost_before_failure : (before : List Definition) (d : Definition) (old new : CodeReader) (more : List ℕ) → IsWithinRanges d
    → opening_read old ≡ opening old.first.edition → old.ahead.end.left ≡ Some (definition_text d ++ more)
    → new.ahead.end.left ≡ Some more → ReadBroke before old new → ⊥
lost_before_failure before d old new more inside opened e f h = h.none d [] inside spelled
  where
    taken : definition_text d ++ more ≡ h.breaks.taken ++ more
    taken =
        consumed old.ahead.end.left new.ahead.end.left h.breaks.taken (definition_text d ++ more) more e f
        (FailsAfter-took h.breaks.fails).bytes

    whole : h.breaks.taken ≡ definition_text d ++ []
    whole = append_cancel_right h.breaks.taken (definition_text d) more (sym taken) ∙ sym (append-nil (definition_text d))

    spelled : opening_read old ++ flat_map definition_text before ++ h.breaks.taken
        ≡ opening old.first.edition ++ flat_map definition_text before ++ (definition_text d ++ [])
    spelled =
        ap (λ begun. begun ++ flat_map definition_text before ++ h.breaks.taken) opened
        ∙ ap (λ text. opening old.first.edition ++ flat_map definition_text before ++ text) whole

held_back : (before : List Definition) (old new : CodeReader) (h : MemoryRefused before old new) → (d : Definition) (rest : List ℕ) → IsWithinRanges d
    → h.taken ≡ opening old.first.edition ++ flat_map definition_text before ++ (definition_text d ++ rest) → rest ≡ []
held_back before old new h d rest inside e = (both_empty rest h.more (sym (same_body h.next d [] (rest ++ h.more) h.inside inside one.0 one.1).1)).0
  where
    here : header_line h.next ++ h.rest ≡ definition_text d ++ rest
    here =
        same_rest (opening old.first.edition ++ flat_map definition_text before) (header_line h.next ++ h.rest) (definition_text d ++ rest)
        (sym h.spelled ∙ e)

    whole : definition_text h.next ≡ definition_text d ++ (rest ++ h.more)
    whole = h.whole ∙ ap (λ l. l ++ h.more) here ∙ append_assoc (definition_text d) rest h.more

    one : (header_of h.next ≡ header_of d) × (joined (body_lines h.next) ++ [] ≡ joined (body_lines d) ++ (rest ++ h.more))
    one =
        same_spelling header_at-exact (header_of h.next) (header_of d) (joined (body_lines h.next) ++ []) (joined (body_lines d) ++ (rest ++ h.more)) (header_of-within h.next h.inside) (header_of-within d inside)
        (sym (text_header h.next []) ∙ append-nil (definition_text h.next) ∙ whole ∙ text_header d (rest ++ h.more))

other_edition : (before : List Definition) (old new : CodeReader) (rest : List ℕ) → old.first.edition ≡ editions.One → old.first.source.left ≡ Some (edition_line ++ rest) → new.ahead.end.left ≡ Some [] → TextEnded before old new → ⊥
other_edition before old new rest first e f h =
    let all = consumed old.first.source.left new.ahead.end.left h.taken (edition_line ++ rest) [] e f h.reads.took.bytes in
    let one : IsTextOf editions.One h.taken before = subst (λ edition. IsTextOf edition h.taken before) first h.whole in
    no_opening before rest (all ∙ append-nil h.taken ∙ one.spelled)

pub excluded : Excluded
excluded = record {
  other_text = λ d o p bytes e f h. appended o.written p.written (definition_text d) bytes e f h.appended;
  leading_zero = leading_zero;
  unended = unended_code;
  other_line = same_line;
  no_header = no_header;
  taken_on = taken_on;
  read_on = λ before old new n h. none_after h.near;
  never_ends = never_ends;
  lost_before_failure = lost_before_failure;
  held_back = held_back;
  other_edition = other_edition;
  copied_other = copied_other;
  unseen_end = λ before old new unseen h. let e = h.over in cc;
}
