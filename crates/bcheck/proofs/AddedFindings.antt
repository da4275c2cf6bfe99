-- Findings one after another, and what stands in each.
use Rattle.std.proofs.Common.{◌≡◌, ◌∙◌, ◌+◌, ◌<◌, List, [], ℕ, ◌∷◌, ◌++◌, IsTrue, OnOk, Result, Ok, Err, ap, arith, append-nil, append_assoc, codes, decimal, get_or, length, map, None, Option, replicate, Some, refl, subst, suc, sym, take}
use Rattle.std.specs.Prelude.{◌-◌, ◌≤◌, drop, min, nat_le, nat_lt}
use Rattle.bword.specs.ByteEnds.{most, Kept}
use Rattle.std.proofs.lemmas.Bool.Decides.{nat_tests}
use Rattle.std.specs.List.{All, AllZip, flat_map, list_all}
use Rattle.std.proofs.lemmas.List.{get_or_default, map-append, take-append-drop, take_all, take_more}
use Rattle.std.proofs.lemmas.Slice.Zip.{AllZip-long}
use Rattle.std.proofs.lemmas.List.Concat.{flat_map-append}
use Rattle.std.proofs.lemmas.List.Elements.{All-append, All-cons, All-head, All-nil, All-push, All-tail, All-weaker}
use Rattle.btools.proofs.AddedTexts.{each_more}
use Rattle.bword.specs.declared.edition.Edition.{Edition}
use Rattle.blang.specs.Code.{code_of}
use Rattle.blang.specs.Compiles.{Compilation, CompilesTo}
use Rattle.blang.specs.Cut.{line_number_after, tokens_from}
use Rattle.bsources.specs.Files.{Files, Line, line_shown, own_line}
use Rattle.bsources.specs.declared.files.FileLine.{FileLine}
use Rattle.blang.specs.Layout.{load_fault}
use Rattle.blang.specs.declared.code.Definition.{Definition}
use Rattle.blang.specs.declared.run.LoadFault.{LoadFault}
use Rattle.blang.specs.declared.run.LoadFault.TheVariants as fault
use Rattle.blang.specs.declared.token.Diagnostic.{Diagnostic}
use Rattle.bcheck.specs.Sections.{Section, at_fault, sections}
use Rattle.bcheck.specs.declared.finding.TheConstants.{MOST_FINDINGS}
use Rattle.bcheck.specs.declared.verdict.Verdict.{Verdict}
use Rattle.bcheck.specs.declared.verdict.Verdict.TheVariants as verdict
use Rattle.bcheck.specs.Checks.{IsFurther, IsOfSection, IsOfSections, Judged, TellsSection, status_told, told_first, EditParts, IsMended, Mends, cut_mark, edit_object, edits_text, file_member, mended_line, mended_lines, AreFindings, EachOutcome, FindingParts, IsReason, IsWhole, Reason, Says, Second, fault_in, finding_at, finding_column, finding_end, finding_line, finding_unit, finding_unit_end, finding_text, findings_text, is_on_line, outcome_of, second_text, severity_of, severity_word, shown_text, is_of_several, spot_words, told_at}
use Rattle.bcheck.specs.declared.told.Setting.{Setting}
use Rattle.bcheck.specs.Findings.{AddsAfter, AddsFurther, IsAfter, IsOnSection, IsReasoned, IsStopOf, TellsAfter, TellsFinding, matter_code, AddsFinding, AreWhole, Improves, IsExcerpt, IsOn, IsSecond, IsTried, MendsIn, TellsOf, AreWarned, found_at}
use Rattle.bplaces.specs.Columns.{column_after}
use Rattle.btools.specs.Quoting.{file_text, json_text}
use Rattle.bplaces.specs.Units.{unit_column}
use Rattle.bcheck.specs.RuleWarnings.{TellsWarnings}
use Rattle.bcheck.specs.UndefinedNames.{IsAtName, Tells, name_in, told_subjects}
use Rattle.bcheck.specs.declared.mention.Subject.{Subject}
use Rattle.bcheck.specs.declared.finding.Finding.{Finding}
use Rattle.bcheck.specs.Pieces.{change_text, edit_text, line_text, piece_text, spot_text}
use Rattle.bcheck.specs.declared.edit.Edit.{Edit}
use Rattle.bcheck.specs.declared.excerpt.Excerpt.{Excerpt}
use Rattle.bcheck.specs.declared.pieces.Fragment.{Fragment}
use Rattle.bcheck.specs.declared.finding.Severity.{Severity}
use Rattle.bcheck.specs.declared.finding.SecondPlace.{SecondPlace}
use Rattle.bcheck.specs.declared.form.FindingForm.{FindingForm}
use Rattle.bcheck.specs.declared.form.FindingForm.TheVariants as form

pub on_ok : {E : Type 0} (r : Result (Unit {0}) E) (P Q : Type 0) → (P → Q) → OnOk r P → OnOk r Q
on_ok (Ok u) P Q f h = f h
on_ok (Err e) P Q f h = h

-- the text of one piece more
pub piece_more : (head text new : List ℕ) (pieces : List Fragment) (i : ℕ) (other : Fragment) → i < length pieces → text ≡ head ++ flat_map piece_text (take i pieces) → new ≡ text ++ piece_text (get_or pieces i other)
    → new ≡ head ++ flat_map piece_text (take (i + 1) pieces)
piece_more head text new pieces i other lt e f = each_more piece_text head text new pieces i (get_or pieces i other) lt (get_or_default _ _ _ _ lt) e f

-- the text of one thing more
pub item_more : {A : Type 0} (f : A → List ℕ) (head text new : List ℕ) (items : List A) (i : ℕ) (other : A) → i < length items → text ≡ head ++ flat_map f (take i items) → new ≡ text ++ f (get_or items i other) → new ≡ head ++ flat_map f (take (i + 1) items)
item_more f head text new items i other lt e g = each_more f head text new items i (get_or items i other) lt (get_or_default _ _ _ _ lt) e g

-- the pieces of a finding for people, and of one for editors, in their parts
people_pieces : (o f a l b c d w e s x p r y m n g z k q : List ℕ)
    → ((o ++ (f ++ (a ++ (l ++ (b ++ (c ++ (d ++ (w ++ (e ++ (s ++ (x ++ (p ++ (r ++ (y ++ (m ++ n))))))))))))))) ++ g) ++ (z ++ (k ++ q)) ≡ o ++ (f ++ a ++ l ++ b ++ c ++ d ++ w ++ e ++ (s ++ x ++ (p ++ r) ++ y ++ (m ++ n) ++ g ++ z ++ k) ++ q)
people_pieces o f a l b c d w e s x p r y m n g z k q = simp append_assoc refl

editor_pieces : (o a f b l c d e w g k h s i m u v x y z j n r q : List ℕ)
    → (((o ++ (a ++ (f ++ (b ++ (l ++ (c ++ (d ++ (e ++ (w ++ (g ++ (k ++ (h ++ (s ++ (i ++ (m ++ (u ++ (v ++ (x ++ (y ++ (z ++ j)))))))))))))))))))) ++ n) ++ r) ++ q ≡ o ++ (a ++ f ++ b ++ l ++ c ++ d ++ e ++ w ++ g ++ (k ++ h ++ s ++ i ++ (m ++ ((u ++ (v ++ (x ++ (y ++ (z ++ j))))) ++ (n ++ r)))) ++ q)
editor_pieces o a f b l c d e w g k h s i m u v x y z j n r q = simp append_assoc refl

pub three_more : (o a m r : List ℕ) → ((o ++ a) ++ m) ++ r ≡ o ++ (a ++ (m ++ r))
three_more o a m r = simp append_assoc refl

-- the pieces of an edit
edit_pieces : (o b m l p c q e f u g v h s i n j t w k : List ℕ)
    → ((o ++ b) ++ m) ++ (l ++ (p ++ (c ++ (q ++ (e ++ (f ++ (u ++ (g ++ (v ++ (h ++ (s ++ (i ++ (n ++ (j ++ (t ++ (w ++ k))))))))))))))))
    ≡ o ++ (b ++ (m ++ (l ++ (p ++ (c ++ (q ++ ((e ++ (f ++ (u ++ (g ++ (v ++ h))))) ++ (s ++ (i ++ (n ++ (j ++ (t ++ (w ++ k)))))))))))))
edit_pieces o b m l p c q e f u g v h s i n j t w k = simp append_assoc refl

pub adds_edit : (e : Edit) (old one two new : List ℕ) (stop : ℕ) → stop ≡ min (e.column + e.len) most → one ≡ old ++ codes "{" → two ≡ one ++ file_member e.is_of_several e.at.file.now
    → new ≡ two ++ (codes "\"line\":" ++ (decimal e.at.line ++ (codes ",\"column\":" ++ (decimal e.column ++ (codes ",\"end\":" ++ (decimal stop ++ (codes ",\"utf16_column\":" ++ (decimal e.unit ++ (codes ",\"utf16_end\":" ++ (decimal e.unit_end ++ (codes ",\"offset\":" ++ (decimal e.start ++ (codes ",\"length\":" ++ (decimal e.len ++ (codes ",\"text\":" ++ (json_text e.text.now ++ codes "}"))))))))))))))))
    → new ≡ old ++ edit_text e
adds_edit e old one two new stop is e0 e1 e2 =
    let member = file_member e.is_of_several e.at.file.now in
    let rest = λ (n : ℕ). codes "\"line\":" ++ (decimal e.at.line ++ (codes ",\"column\":" ++ (decimal e.column ++ (codes ",\"end\":" ++ (decimal n ++ (codes ",\"utf16_column\":" ++ (decimal e.unit ++ (codes ",\"utf16_end\":" ++ (decimal e.unit_end ++ (codes ",\"offset\":" ++ (decimal e.start ++ (codes ",\"length\":" ++ (decimal e.len ++ (codes ",\"text\":" ++ (json_text e.text.now ++ codes "}"))))))))))))))) in
    e2 ∙ ap (λ n. two ++ rest n) is ∙ ap (λ t. t ++ rest (min (e.column + e.len) most)) (e1 ∙ ap (λ t. t ++ member) e0)
    ∙ edit_pieces old (codes "{") member (codes "\"line\":") (decimal e.at.line) (codes ",\"column\":") (decimal e.column) (codes ",\"end\":") (decimal (min (e.column + e.len) most)) (codes ",\"utf16_column\":") (decimal e.unit) (codes ",\"utf16_end\":") (decimal e.unit_end) (codes ",\"offset\":") (decimal e.start) (codes ",\"length\":") (decimal e.len) (codes ",\"text\":") (json_text e.text.now) (codes "}")

pub adds_line : (e : Edit) (old new mark : List ℕ) → mark ≡ cut_mark e.is_cut
    → new ≡ old ++ (codes "\n  line " ++ (decimal e.at.line ++ (codes " mended: " ++ (flat_map shown_text e.left.now ++ (e.text.now ++ (flat_map shown_text e.right.now ++ (mark ++ [])))))))
    → new ≡ old ++ line_text e
adds_line e old new mark em is = is ∙ ap (λ t. old ++ (codes "\n  line " ++ (decimal e.at.line ++ (codes " mended: " ++ (flat_map shown_text e.left.now ++ (e.text.now ++ (flat_map shown_text e.right.now ++ t))))))) (append-nil mark ∙ em)

pub adds_change : (e : Edit) (old new file mark : List ℕ) → file ≡ e.at.file.now → mark ≡ cut_mark e.is_cut
    → new ≡ old ++ (file_text file ++ (codes ":" ++ (decimal e.at.line ++ (codes ":" ++ (decimal e.column ++ (codes ": mended: " ++ (flat_map shown_text e.left.now ++ (e.text.now ++ (flat_map shown_text e.right.now ++ (mark ++ (codes "\n" ++ [])))))))))))
    → new ≡ old ++ change_text e
adds_change e old new file mark ef em is =
    is ∙ ap (λ f. old ++ (file_text f ++ (codes ":" ++ (decimal e.at.line ++ (codes ":" ++ (decimal e.column ++ (codes ": mended: " ++ (flat_map shown_text e.left.now ++ (e.text.now ++ (flat_map shown_text e.right.now ++ (mark ++ codes "\n"))))))))))) ef
    ∙ ap (λ t. old ++ (file_text e.at.file.now ++ (codes ":" ++ (decimal e.at.line ++ (codes ":" ++ (decimal e.column ++ (codes ": mended: " ++ (flat_map shown_text e.left.now ++ (e.text.now ++ (flat_map shown_text e.right.now ++ (t ++ codes "\n"))))))))))) em

-- the first edit and the others
pub first_and_others : (es : List Edit) (d : Edit) → 1 ≤ length es → get_or es 0 d ∷ take (length es - 1) (drop 1 es) ≡ es
first_and_others [] d h = absurd (omega (arith, h))
first_and_others (e ∷ es) d h = ap (λ t. e ∷ t) (take_all (length (e ∷ es) - 1) es (omega arith))

pub adds_list : (o a b f k : List ℕ) → (((o ++ a) ++ b) ++ f) ++ k ≡ o ++ (a ++ (b ++ (f ++ k)))
adds_list o a b f k = simp append_assoc refl

-- the second place
abbrev pub second_of : (files : Files) (source : List ℕ) (s : Option SecondPlace) → IsSecond files source s → Option (Second source)
second_of files source None i = None
second_of files source (Some s) i = Some (record { before = i.0; after = i.1; split = i.2 })

pub second_same : (files : Files) (source : List ℕ) (s : Option SecondPlace) (i : IsSecond files source s) → spot_text s ≡ second_text files (second_of files source s i)
second_same files source None i = refl
second_same files source (Some s) i =
    ap (λ told. spot_words told (line_shown s.at) s.column s.unit) i.4 ∙ ap (λ l. spot_words (is_of_several files) l s.column s.unit) i.3
    ∙ ap (λ n. spot_words (is_of_several files) (own_line files (line_number_after 1 i.0)) n s.unit) i.5
    ∙ ap (λ n. spot_words (is_of_several files) (own_line files (line_number_after 1 i.0)) (column_after 1 i.0) n) i.6

-- the edits of a source that are told
pub record EditsTold (edition : Edition) (files : Files) (source : List ℕ) (es : List Edit) : Type 0 where
  pub parts : List (EditParts source)
  pub long : length parts ≡ length es
  pub others : flat_map (λ e. codes "," ++ edit_text e) es ≡ flat_map (λ e. codes "," ++ edit_object files e) parts
  pub array : edits_text edit_text es ≡ edits_text (edit_object files) parts
  pub lines : flat_map line_text es ≡ flat_map (mended_line files) parts
  pub mend : All (MendsIn edition) parts

pub edits_told : (edition : Edition) (files : Files) (source : List ℕ) (es : List Edit) → All (IsTried edition files source) es → EditsTold edition files source es
edits_told edition files source [] h = record { parts = []; long = refl; others = refl; array = refl; lines = refl; mend = All-nil (MendsIn edition) }
edits_told edition files source (e ∷ es) h =
    let it = All-head (IsTried edition files source) e es h in
    let more = edits_told edition files source es (All-tail (IsTried edition files source) e es h) in
    let p = it.1.parts in
    let those = flat_map (λ x. codes "," ++ edit_text x) es in
    record {
      parts = p ∷ more.parts;
      long = ap suc more.long;
      others = ap (λ x. (codes "," ++ x) ++ those) it.1.object ∙ ap (λ x. (codes "," ++ edit_object files p) ++ x) more.others;
      array =
          ap (λ x. codes ",\"edits\":[" ++ (x ++ (those ++ codes "]"))) it.1.object
          ∙ ap (λ x. codes ",\"edits\":[" ++ (edit_object files p ++ (x ++ codes "]"))) more.others;
      lines = ap (λ x. x ++ flat_map line_text es) it.1.line ∙ ap (λ x. mended_line files p ++ x) more.lines;
      mend = All-cons (MendsIn edition) p more.parts (subst (λ t. Improves edition source t) (sym it.1.makes) it.2) more.mend;
    }

text_finding : {source : List ℕ} (p : FindingParts source) (s : Severity) (files : Files) (f w t m g old first both new : List ℕ) (line column blanks : ℕ) → f ≡ (finding_at files p).file → w ≡ severity_word s → t ≡ p.sentence → m ≡ p.fix → g ≡ mended_lines files p → line ≡ (finding_at files p).line → column ≡ finding_column p → blanks ≡ length p.left
    → first ≡ old ++ (file_text f ++ (codes ":" ++ (decimal line ++ (codes ":" ++ (decimal column ++ (codes ": " ++ (w ++ (codes ": " ++ (t ++ (codes "\n    " ++ (flat_map shown_text p.left ++ (flat_map shown_text p.right ++ (codes "\n    " ++ (replicate blanks 32 ++ (replicate p.marks 94 ++ [])))))))))))))))
    → both ≡ first ++ g → new ≡ both ++ (codes "\n  fix: " ++ (m ++ codes "\n"))
    → new ≡ old ++ finding_text form.Text s files p
text_finding p s files f w t m g old first both new line column blanks ef ew et em eg el ec eb e0 e1 e2 =
    let none = append-nil {A = ℕ} (replicate p.marks 94) in
    let e = (rw (ef, ew, et, el, ec, eb, none) at e0) in
    e2 ∙ ap (λ x. both ++ (codes "\n  fix: " ++ (x ++ codes "\n"))) em
    ∙ ap (λ x. x ++ (codes "\n  fix: " ++ (p.fix ++ codes "\n"))) (e1 ∙ ap (λ x. first ++ x) eg ∙ ap (λ x. x ++ mended_lines files p) e)
    ∙ people_pieces old (file_text (finding_at files p).file) (codes ":") (decimal (finding_at files p).line) (codes ":") (decimal (finding_column p)) (codes ": ") (severity_word s) (codes ": ") p.sentence (codes "\n    ") (flat_map shown_text p.left) (flat_map shown_text p.right) (codes "\n    ") (replicate (length p.left) 32) (replicate p.marks 94) (mended_lines files p) (codes "\n  fix: ") p.fix (codes "\n")

json_finding : {source : List ℕ} (p : FindingParts source) (s : Severity) (files : Files) (f w k t m n a old first both three new : List ℕ) (line column stop unit unit_end : ℕ) → f ≡ (finding_at files p).file → w ≡ severity_word s → k ≡ p.code → t ≡ p.sentence → m ≡ p.fix → n ≡ second_text files p.second → a ≡ edits_text (edit_object files) p.edits → line ≡ (finding_at files p).line → column ≡ finding_column p → stop ≡ finding_end p
    → unit ≡ finding_unit p → unit_end ≡ finding_unit_end p
    → first ≡ old ++ (codes "{\"file\":" ++ (json_text f ++ (codes ",\"line\":" ++ (decimal line ++ (codes ",\"column\":" ++ (decimal column ++ (codes ",\"severity\":\"" ++ (w ++ (codes "\",\"code\":" ++ (json_text k ++ (codes ",\"message\":" ++ (json_text t ++ (codes ",\"fix\":" ++ (json_text m ++ (codes ",\"end\":" ++ (decimal stop ++ (codes ",\"utf16_column\":" ++ (decimal unit ++ (codes ",\"utf16_end\":" ++ (decimal unit_end ++ []))))))))))))))))))))
    → both ≡ first ++ n → three ≡ both ++ a → new ≡ three ++ codes "}\n"
    → new ≡ old ++ finding_text form.Json s files p
json_finding p s files f w k t m n a old first both three new line column stop unit unit_end ef ew ek et em en ea el ec es eu ev e0 e1 e2 e3 =
    let none = append-nil (decimal (finding_unit_end p)) in
    let array = edits_text (edit_object files) p.edits in
    let e = (rw (ef, ew, ek, et, em, el, ec, es, eu, ev, none) at e0) in
    e3 ∙ ap (λ x. x ++ codes "}\n") (e2 ∙ ap (λ x. both ++ x) ea ∙ ap (λ x. x ++ array) (e1 ∙ ap (λ x. first ++ x) en ∙ ap (λ x. x ++ second_text files p.second) e)) ∙ editor_pieces old (codes "{\"file\":") (json_text (finding_at files p).file) (codes ",\"line\":") (decimal (finding_at files p).line) (codes ",\"column\":") (decimal (finding_column p)) (codes ",\"severity\":\"") (severity_word s) (codes "\",\"code\":") (json_text p.code) (codes ",\"message\":") (json_text p.sentence) (codes ",\"fix\":") (json_text p.fix) (codes ",\"end\":") (decimal (finding_end p)) (codes ",\"utf16_column\":") (decimal (finding_unit p)) (codes ",\"utf16_end\":") (decimal (finding_unit_end p)) (second_text files p.second) array (codes "}\n")

pub less : (a b : ℕ) → a < b → IsTrue (nat_lt a b)
less a b h = grind (arith, nat_tests)

-- the finding of an excerpt
module _ (source : List ℕ) (start : ℕ) (e : Excerpt) (x : IsExcerpt source start e) (code sentence fix : List ℕ) (are : IsTrue (list_all is_on_line (code ∷ sentence ∷ fix ∷ []))) (second : Option (Second source)) (edition : Edition) (edits : List (EditParts source)) (mend : All (MendsIn edition) edits) (few : IsTrue (nat_le (length edits) 3)) where
  abbrev this_finding : FindingParts source
  this_finding = record {
    before = x.before;
    left = e.left.now;
    right = e.right.now;
    after = x.after;
    split = sym (ap (λ a. a ++ (e.right.now ++ x.after)) x.first ∙ ap (λ b. take start source ++ b) x.rest ∙ take-append-drop start source);
    from_line = less _ _ (subst (λ b. length e.left.now < column_after 1 b) (sym x.first) (subst (λ n. length e.left.now < n) x.column x.from_line));
    in_line = x.in_line;
    marks = e.marks;
    marked = less _ _ x.marked;
    code = code;
    sentence = sentence;
    fix = fix;
    on_lines = are;
    second = second;
    edits = edits;
    few = few;
  }

  on_its_line : e.line ≡ finding_line this_finding
  on_its_line = x.line ∙ ap (line_number_after 1) (sym x.first)

  at_its_column : e.column ≡ finding_column this_finding
  at_its_column = x.column ∙ ap (column_after 1) (sym x.first)

  at_its_end : (stop : ℕ) → stop ≡ min (e.column + e.marks) most → stop ≡ finding_end this_finding
  at_its_end stop is = is ∙ ap (λ c. min (c + e.marks) most) at_its_column

  at_its_unit : e.unit ≡ finding_unit this_finding
  at_its_unit = x.unit ∙ ap (λ b. unit_column b (drop start source)) (sym x.first) ∙ ap (unit_column (x.before ++ e.left.now)) (sym x.rest)

  at_its_unit_end : e.unit_end ≡ finding_unit_end this_finding
  at_its_unit_end =
      x.unit_end ∙ ap (λ b. min (unit_column (b ++ take e.marks e.right.now) (drop e.marks e.right.now ++ x.after) + (e.marks - length e.right.now)) most) (sym x.first)

  in_its_file : (files : Files) (at : Line) → at ≡ own_line files e.line → at ≡ own_line files (finding_line this_finding)
  in_its_file files at is = is ∙ ap (own_line files) on_its_line

  pub adds_text : (s : Severity) (files : Files) (at : FileLine) (f w t m g old first both new : List ℕ) (blanks : ℕ) → line_shown at ≡ own_line files e.line → f ≡ at.file.now → w ≡ severity_word s → t ≡ sentence → m ≡ fix → g ≡ flat_map (mended_line files) edits → blanks ≡ length e.left.now
      → first ≡ old ++ (file_text f ++ (codes ":" ++ (decimal at.line ++ (codes ":" ++ (decimal e.column ++ (codes ": " ++ (w ++ (codes ": " ++ (t ++ (codes "\n    " ++ (flat_map shown_text e.left.now ++ (flat_map shown_text e.right.now ++ (codes "\n    " ++ (replicate blanks 32 ++ (replicate e.marks 94 ++ [])))))))))))))))
      → both ≡ first ++ g → new ≡ both ++ (codes "\n  fix: " ++ (m ++ codes "\n"))
      → AddsFinding form.Text s edition files source start code sentence old new
  adds_text s files at f w t m g old first both new blanks is ef ew et em eg eb e0 e1 e2 =
      let here = in_its_file files (line_shown at) is in
      (this_finding, refl, x.first, x.rest, text_finding this_finding s files f w t m g old first both new at.line e.column blanks (ef ∙ ap (λ (l : Line). l.file) here) ew et em eg (ap (λ (l : Line). l.line) here) at_its_column eb e0 e1 e2, refl, mend)

  pub adds_json : (s : Severity) (files : Files) (at : FileLine) (f w k t m n a old first both three new : List ℕ) (stop unit unit_end : ℕ) → stop ≡ min (e.column + e.marks) most → unit ≡ e.unit → unit_end ≡ e.unit_end → line_shown at ≡ own_line files e.line → f ≡ at.file.now → w ≡ severity_word s → k ≡ code → t ≡ sentence → m ≡ fix → n ≡ second_text files second → a ≡ edits_text (edit_object files) edits
      → first ≡ old ++ (codes "{\"file\":" ++ (json_text f ++ (codes ",\"line\":" ++ (decimal at.line ++ (codes ",\"column\":" ++ (decimal e.column ++ (codes ",\"severity\":\"" ++ (w ++ (codes "\",\"code\":" ++ (json_text k ++ (codes ",\"message\":" ++ (json_text t ++ (codes ",\"fix\":" ++ (json_text m ++ (codes ",\"end\":" ++ (decimal stop ++ (codes ",\"utf16_column\":" ++ (decimal unit ++ (codes ",\"utf16_end\":" ++ (decimal unit_end ++ []))))))))))))))))))))
      → both ≡ first ++ n → three ≡ both ++ a → new ≡ three ++ codes "}\n"
      → AddsFinding form.Json s edition files source start code sentence old new
  adds_json s files at f w k t m n a old first both three new stop unit unit_end ends eu ev is ef ew ek et em en ea e0 e1 e2 e3 =
      let here = in_its_file files (line_shown at) is in
      (this_finding, refl, x.first, x.rest, json_finding this_finding s files f w k t m n a old first both three new at.line e.column stop unit unit_end (ef ∙ ap (λ (l : Line). l.file) here) ew ek et em en ea (ap (λ (l : Line). l.line) here) at_its_column (at_its_end stop ends) (eu ∙ at_its_unit) (ev ∙ at_its_unit_end) e0 e1 e2 e3, refl, mend)

-- so few edits
pub so_few : (n m : ℕ) → n ≡ m → m ≤ 3 → IsTrue (nat_le n 3)
so_few n m e h = grind (arith, nat_tests)

-- each edit of the finding mends
abbrev pub MendedIn : Edition → {source : List ℕ} → FindingParts source → Type 0
MendedIn edition p = All (MendsIn edition) p.edits

-- the finding is one of whatever the source comes to
abbrev pub Reasoned : Edition → (source : List ℕ) → FindingParts source → Type 0
Reasoned edition source p = EachOutcome edition source (λ o. Reason o.edition o.stop (fault_in o) p.code (p.before ++ p.left) (p.right ++ p.after))

-- what the finding is on is told
abbrev pub SaysIts : {source : List ℕ} → Finding → FindingParts source → Type 0
SaysIts {source} f p = (subject : Subject) → TellsOf source subject f → Says subject p

-- the finding in its parts has the same code and place
abbrev pub IsSame : {source : List ℕ} → Finding → FindingParts source → Type 0
IsSame {source} f p = (p.code ≡ matter_code f.matter) × (p.before ++ p.left ≡ take f.place.start source)

-- the text of the first findings
abbrev pub FindingsSoFar : FindingForm → Edition → (status : ℕ) → Files → (source : List ℕ) → (found : List Finding) → (count : ℕ) → (text : List ℕ) → Type 0
FindingsSoFar form edition status files source found count text =
    (findings : List (FindingParts source)) × AllZip SaysIts (take count found) findings × All (Reasoned edition source) findings × (text ≡ findings_text form status files findings) × All (MendedIn edition) findings
    × (map (found_at source) (take count found) ≡ map told_at findings)

-- one pair more
pub zip_more : {A B : Type 0} (R : A → B → Type 0) (xs : List A) (ys : List B) (x : A) (y : B) → AllZip R xs ys → R x y → AllZip R (xs ++ x ∷ []) (ys ++ y ∷ [])
zip_more R [] [] x y h r = (r, h)
zip_more R [] (b ∷ ys) x y h r = absurd h
zip_more R (a ∷ xs) [] x y h r = absurd h
zip_more R (a ∷ xs) (b ∷ ys) x y h r = (h.0, zip_more R xs ys x y h.1 r)

-- a finding that was added in its form is told
pub told_as : (form f : FindingForm) (s : Severity) (edition : Edition) (files : Files) (source : List ℕ) (it : Finding) (code sentence old new : List ℕ) → form ≡ f → code ≡ matter_code it.matter → ((subject : Subject) → IsOn subject it → Tells subject sentence)
    → AddsFinding f s edition files source it.place.start code sentence old new → TellsFinding form s edition files source it old new
told_as form f s edition files source it code sentence old new same is tells a =
    (sentence, tells, subst (λ x. AddsFinding x s edition files source it.place.start (matter_code it.matter) sentence old new) (sym same) (subst (λ k. AddsFinding f s edition files source it.place.start k sentence old new) is a))

-- one finding more
module _ (form : FindingForm) (edition : Edition) (status : ℕ) (s : Severity) (files : Files) (source : List ℕ) (found : List Finding) (it : Finding) (old new : List ℕ) (count : ℕ) where
  pub finding_more : s ≡ severity_of status → count < length found → it ≡ get_or found count it → IsReasoned edition source it
      → FindingsSoFar form edition status files source found count old → TellsFinding form s edition files source it old new → FindingsSoFar form edition status files source found (count + 1) new
  finding_more also lt here reason a more =
      let severity = severity_of status in
      let text = finding_text form severity files in
      let code = matter_code it.matter in
      let sentence = more.0 in
      let b : AddsFinding form severity edition files source it.place.start code sentence old new =
      subst (λ y. AddsFinding form y edition files source it.place.start code sentence old new) also more.2 in
      let reasoned : Reasoned edition source b.0 =
      λ r g. subst (λ c. Reason edition r.stop (load_fault (map code_of g.definitions)) c (b.0.before ++ b.0.left) (b.0.right ++ b.0.after)) (sym b.1)
      (subst (λ x. Reason edition r.stop (load_fault (map code_of g.definitions)) code x (b.0.right ++ b.0.after)) (sym b.2)
      (subst (λ x. Reason edition r.stop (load_fault (map code_of g.definitions)) code (take it.place.start source) x) (sym b.3) (reason r g))) in
      let says : SaysIts it b.0 =
      λ subject on. (subst (λ t. Tells subject t) (sym b.5) (more.1 subject on.0), subst (λ x. IsAtName (name_in subject) x (b.0.right ++ b.0.after)) (sym b.2) (subst (λ x. IsAtName (name_in subject) (take it.place.start source) x) (sym b.3) on.1)) in
      let items : take (count + 1) found ≡ take count found ++ it ∷ [] = take_more found count it lt ∙ ap (λ y. take count found ++ y ∷ []) (sym here) in (
        a.0 ++ b.0 ∷ [],
        subst (λ fs. AllZip SaysIts fs (a.0 ++ b.0 ∷ [])) (sym items) (zip_more SaysIts (take count found) a.0 it b.0 a.1 says),
        All-push (Reasoned edition source) a.0 b.0 a.2 reasoned,
        b.4 ∙ ap (λ t. t ++ text b.0) a.3 ∙ sym (flat_map-append text a.0 (b.0 ∷ []) ∙ ap (λ t. flat_map text a.0 ++ t) (append-nil (text b.0))),
        All-push (MendedIn edition) a.0 b.0 a.4 b.6,
        ap (map (found_at source)) items ∙ map-append (found_at source) (take count found) (it ∷ [])
            ∙ ap (λ l. l ++ found_at source it ∷ []) a.5
            ∙ ap (λ x. map told_at a.0 ++ (x, matter_code it.matter) ∷ []) (sym b.2)
            ∙ ap (λ k. map told_at a.0 ++ (b.0.before ++ b.0.left, k) ∷ []) (sym b.1)
            ∙ sym (map-append told_at a.0 (b.0 ∷ [])),
      )

-- what is told of sections so far
abbrev pub FurtherSoFar : FindingForm → Edition → Severity → Files → (source : List ℕ) → (found : List Finding) → (count : ℕ) → (old new : List ℕ) → Type 0
FurtherSoFar form edition s files source found count old new =
    (further : List (FindingParts source)) × AllZip IsSame (take count found) further × (new ≡ old ++ flat_map (finding_text form s files) further) × All (MendedIn edition) further

module _ (form : FindingForm) (edition : Edition) (s : Severity) (files : Files) (source : List ℕ) (found : List Finding) (it : Finding) (first old new : List ℕ) (count : ℕ) where
  pub further_more : count < length found → it ≡ get_or found count it → FurtherSoFar form edition s files source found count first old → TellsFinding form s edition files source it old new
      → FurtherSoFar form edition s files source found (count + 1) first new
  further_more lt here a more =
      let text = finding_text form s files in
      let b = more.2 in
      let items : take (count + 1) found ≡ take count found ++ it ∷ [] = take_more found count it lt ∙ ap (λ y. take count found ++ y ∷ []) (sym here) in (
        a.0 ++ b.0 ∷ [],
        subst (λ fs. AllZip IsSame fs (a.0 ++ b.0 ∷ [])) (sym items) (zip_more IsSame (take count found) a.0 it b.0 a.1 (b.1, b.2)),
        b.4 ∙ ap (λ t. t ++ text b.0) a.2 ∙ append_assoc first (flat_map text a.0) (text b.0)
            ∙ ap (λ t. first ++ t) (sym (flat_map-append text a.0 (b.0 ∷ []) ∙ ap (λ t. flat_map text a.0 ++ t) (append-nil (text b.0)))),
        All-push (MendedIn edition) a.0 b.0 a.3 b.6,
      )

-- what is told of them is on the same faults
on_same : (edition : Edition) (source : List ℕ) (fault : Section × Diagnostic) (f : Finding) (p : FindingParts source) → IsOnSection edition source fault f → IsSame f p → TellsSection edition fault p
on_same edition source fault f p on same =
    subst (λ c. IsOfSection edition fault c (p.before ++ p.left)) (sym same.0) (subst (λ x. IsOfSection edition fault (matter_code f.matter) x) (sym same.1) on)

on_sections : (edition : Edition) (source : List ℕ) (faults : List (Section × Diagnostic)) (fs : List Finding) (ps : List (FindingParts source)) → AllZip (IsOnSection edition source) faults fs → AllZip IsSame fs ps → AllZip (TellsSection edition) faults ps
on_sections edition source [] [] [] on same = on
on_sections edition source [] [] (p ∷ ps) on same = absurd same
on_sections edition source [] (f ∷ fs) ps on same = absurd on
on_sections edition source (x ∷ xs) [] ps on same = absurd on
on_sections edition source (x ∷ xs) (f ∷ fs) [] on same = absurd same
on_sections edition source (x ∷ xs) (f ∷ fs) (p ∷ ps) on same = (on_same edition source x f p on.0 same.0, on_sections edition source xs fs ps on.1 same.1)

pub further_of : (edition : Edition) (source : List ℕ) (line : ℕ) (fs : List Finding) (ps : List (FindingParts source)) → TellsAfter edition source line fs → AllZip IsSame fs ps → IsOfSections (TellsSection edition) edition line source ps
further_of edition source line fs ps told same =
    (told.0, told.1, on_sections edition source (take (MOST_FINDINGS - 1) (at_fault (sections edition line source) told.0)) fs ps told.2 same)

-- all of them were told
pub further_all : (form : FindingForm) (edition : Edition) (s : Severity) (files : Files) (source : List ℕ) (line : ℕ) (found : List Finding) (count : ℕ) (old new : List ℕ) → count ≡ length found → TellsAfter edition source line found
    → FurtherSoFar form edition s files source found count old new
    → (further : List (FindingParts source)) × IsOfSections (TellsSection edition) edition line source further
    × ((new ≡ old ++ flat_map (finding_text form s files) further) × All (MendedIn edition) further)
further_all form edition s files source line found count old new is told a =
    let same : AllZip IsSame found a.0 = subst (λ fs. AllZip IsSame fs a.0) (take_all count found (omega (arith, is))) a.1 in
    (a.0, further_of edition source line found a.0 told same, (a.2, a.3))

-- what is told after each verdict
pub faulty_further : {E : Type 0} (setting : Setting) (v : Verdict) (old new : List ℕ) (line : Kept) (d : Diagnostic) (r : Result (Unit {0}) E) → v ≡ verdict.Faulty line d → OnOk r (AddsAfter setting d.line old new) → OnOk r (AddsFurther setting v old new)
faulty_further setting v old new line d r is h =
    on_ok r _ _ (λ a. (a.0, subst (λ x. IsAfter setting.source.edition x a.0) (sym is) a.1, a.2)) h

nothing_further : (setting : Setting) (v : Verdict) (text : List ℕ) → IsAfter {source = setting.source.text.now} setting.source.edition v [] → AddsFurther setting v text text
nothing_further setting v text none = ([], none, (sym (append-nil text), All-nil (MendedIn setting.source.edition)))

pub clean_further : (setting : Setting) (v : Verdict) (text : List ℕ) → v ≡ verdict.Clean → AddsFurther setting v text text
clean_further setting v text is = nothing_further setting v text (subst (λ x. IsAfter {source = setting.source.text.now} setting.source.edition x []) (sym is) refl)

pub unloaded_further : (setting : Setting) (v : Verdict) (text : List ℕ) (f : LoadFault) → v ≡ verdict.Unloaded f → AddsFurther setting v text text
unloaded_further setting v text f is = nothing_further setting v text (subst (λ x. IsAfter {source = setting.source.text.now} setting.source.edition x []) (sym is) refl)

no_diagnostic : (stop : Option Diagnostic) (f : Option LoadFault) (line : List ℕ) (status : ℕ) → ◌≡◌ {A = List ℕ × ℕ} (line, status) (told_first stop f) → (status ≡ 1 → ⊥) → stop ≡ None
no_diagnostic None f line status e other = refl
no_diagnostic (Some d) f line status e other = absurd (other (ap (λ (p : List ℕ × ℕ). p.1) e))

reasons_at : (edition : Edition) (source : List ℕ) (r : Compilation) (g : CompilesTo [] (tokens_from edition 1 source) r) (ps : List (FindingParts source)) → All (Reasoned edition source) ps → All (IsReason (outcome_of edition source r.stop (map code_of g.definitions))) ps
reasons_at edition source r g ps h = All-weaker (Reasoned edition source) (IsReason (outcome_of edition source r.stop (map code_of g.definitions))) (λ p is. is r g) ps h

mended_at : (edition : Edition) (source : List ℕ) (r : Compilation) (g : CompilesTo [] (tokens_from edition 1 source) r) (ps : List (FindingParts source)) → All (MendedIn edition) ps → All (IsMended (outcome_of edition source r.stop (map code_of g.definitions))) ps
mended_at edition source r g ps h =
    let o = outcome_of edition source r.stop (map code_of g.definitions) in
    All-weaker (MendedIn edition) (IsMended o) (λ p each. All-weaker (MendsIn edition) (Mends o) (λ e is. is r g) p.edits each) ps h

-- what the findings are on is told
says_each : {source : List ℕ} (subjects : List Subject) (fs : List Finding) (ps : List (FindingParts source)) → AllZip (TellsOf source) subjects fs → AllZip SaysIts fs ps → AllZip Says subjects ps
says_each [] [] [] on says = says
says_each [] [] (p ∷ ps) on says = absurd says
says_each [] (f ∷ fs) ps on says = absurd on
says_each (s ∷ ss) [] ps on says = absurd on
says_each (s ∷ ss) (f ∷ fs) [] on says = absurd says
says_each (s ∷ ss) (f ∷ fs) (p ∷ ps) on says = (says.0 s on.0, says_each ss fs ps on.1 says.1)

whole_said : {source : List ℕ} (stop : Option Diagnostic) (f : Option LoadFault) (ds : List Definition) (fs : List Finding) (ps : List (FindingParts source)) → AllZip SaysIts fs ps → IsWhole (TellsOf source) stop f ds fs → IsWhole Says stop f ds ps
whole_said (Some d) f ds fs ps says whole = AllZip-long SaysIts fs ps says ∙ whole
whole_said None None ds fs ps says whole = tt
whole_said None (Some (fault.Duplicate name)) ds fs ps says whole = AllZip-long SaysIts fs ps says ∙ whole
whole_said None (Some fault.TooLarge) ds fs ps says whole = AllZip-long SaysIts fs ps says ∙ whole
whole_said None (Some (fault.Undefined name)) ds fs ps says whole = says_each (told_subjects ds) fs ps whole says
whole_said None (Some fault.NoMain) ds fs ps says whole = tt
whole_said None (Some fault.Memory) ds fs ps says whole = AllZip-long SaysIts fs ps says ∙ whole

-- what is told after a diagnostic
further_at : (edition : Edition) (source : List ℕ) (v : Verdict) (r : Compilation) (g : CompilesTo [] (tokens_from edition 1 source) r) (further : List (FindingParts source)) → Judged edition source v → IsStopOf edition source v → IsAfter edition v further → IsFurther edition r.stop further
further_at edition source verdict.Clean r g further j stop after = subst (λ o. IsFurther edition o further) (sym (no_diagnostic r.stop (load_fault (map code_of g.definitions)) [] 0 (j r g) (λ e. cc))) after
further_at edition source (verdict.Faulty line d) r g further j stop after = subst (λ o. IsFurther edition o further) (sym (stop r g)) after
further_at edition source (verdict.Unloaded f) r g further j stop after = subst (λ o. IsFurther edition o further) (sym (no_diagnostic r.stop (load_fault (map code_of g.definitions)) _ 132 (j r g) (λ e. cc))) after

-- all of them
pub all_findings : (form : FindingForm) (edition : Edition) (v : Verdict) (files : Files) (source said whole_text : List ℕ) (found : List Finding) (count : ℕ) → Judged edition source v → IsStopOf edition source v → AreWhole edition source found → AreWarned edition files source (status_told v) found → count ≡ length found
    → FindingsSoFar form edition (status_told v) files source found count said
    → (further : List (FindingParts source)) → IsAfter edition v further → whole_text ≡ said ++ flat_map (finding_text form (severity_of (status_told v)) files) further → All (MendedIn edition) further
    → EachOutcome edition source (λ o. AreFindings form o (status_told v) files whole_text)
all_findings form edition v files source said whole_text found count j stop whole warned is a further after also mended =
    let says : AllZip SaysIts found a.0 = subst (λ fs. AllZip SaysIts fs a.0) (take_all count found (omega (arith, is))) a.1 in
    let text = finding_text form (severity_of (status_told v)) files in
    let same : map (found_at source) found ≡ map told_at a.0 = ap (map (found_at source)) (sym (take_all count found (omega (arith, is)))) ∙ a.5 in
    λ r g. (
      a.0,
      whole_said r.stop (load_fault (map code_of g.definitions)) (map code_of g.definitions) found a.0 says (whole r g),
      reasons_at edition source r g a.0 a.2,
      further,
      further_at edition source v r g further j stop after,
      also ∙ ap (λ t. t ++ flat_map text further) a.3 ∙ sym (flat_map-append text a.0 further),
      mended_at edition source r g (a.0 ++ further) (All-append (MendedIn edition) a.0 further a.4 mended),
      λ done. subst (TellsWarnings edition files source) same (warned done),
    )
