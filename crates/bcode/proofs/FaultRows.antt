-- The line of the fault of some texts, which is after the whole lines that are right.
use Rattle.std.proofs.Common.{◌≡◌, ℕ, zero, suc, ◌^◌, Bool, true, false, ◌&&◌, List, [], ◌∷◌, ◌++◌, Option, Some, None, refl, sym, ap, ◌∙◌, arith, drop, if◌then◌else◌, inl, inr}
use Rattle.std.specs.Prelude.{codes}
use Rattle.std.proofs.lemmas.Bool.{and_parts}
use Rattle.bcode.specs.Faults.{IsFaultLine}
use Rattle.bcode.specs.Headers.{header_text}
use Rattle.bcode.specs.LineReading.{header_at, any_header_at, sizes_at, function_header_at, simple_header_at, vector_header_at, line_ended, instr_at, ival_line_at, number_line_at, operand_at, name_operand_at, operator_at, less_at, greater_at, increment_at, case_at, LineReader, IsExact}
use Rattle.bcode.specs.Reading.{expect_byte, number_at, number_from, name_text_at}
use Rattle.bcode.specs.Stopping.{LineKind, value, target, string, instruction, LineState, opens, expects, finished, state_after, Leads, IsOfKind, IsStuckAfter}
use Rattle.blang.specs.Text.{edition_line, target_line, string_line, instr_line, ival_line}
use Rattle.bcode.specs.declared.header.Header.{Header}
use Rattle.bcode.proofs.FaultLaws.{fault_line}
use Rattle.bcode.proofs.HeaderLaws.{header_at-exact}
use Rattle.bcode.proofs.LineLaws.{ival_at-exact, instr_at-exact, number_line_at-exact}
use Rattle.bcode.proofs.PartLaws.{same_read}
use Rattle.bcode.proofs.StoppingLaws.{IsGoodKind, IsGoodState, good_next, no_header}
use Rattle.bcode.proofs.StreamLaws.{is_two, two_line, line_two}

-- the text after a line of a kind
abbrev following : {X : Type 0} → Option (X × List ℕ) → Option (List ℕ)
following (Some r) = Some r.1
following None = None

abbrev line_after : LineKind → List ℕ → Option (List ℕ)
line_after (value strings) text = following (ival_line_at strings text)
line_after (target code) text = following (number_line_at 116 code text)
line_after string text = following (number_line_at 119 (2 ^ 16) text)
line_after (instruction sizes) text = following (instr_at sizes text)

abbrev to_expect : List LineKind → Option (List ℕ) → Option (LineState × List ℕ)
to_expect ks (Some text) = Some (expects ks, text)
to_expect ks None = None

abbrev after_header : Option (Header × List ℕ) → Option (LineState × List ℕ)
after_header (Some r) = Some (state_after r.0, r.1)
after_header None = None

abbrev after_opening : Bool → List ℕ → Option (LineState × List ℕ)
after_opening two text = if two then Some (expects [], drop 4 text) else after_header (header_at text)

-- a line further
abbrev step : LineState → List ℕ → Option (LineState × List ℕ)
step opens text = after_opening (is_two text) text
step (expects []) text = after_header (header_at text)
step (expects (k ∷ ks)) text = to_expect ks (line_after k text)
step finished text = None

-- whether the text is stuck after so many lines
abbrev is_stuck : LineState → List ℕ → Option (LineState × List ℕ) → Bool
is_stuck finished [] o = false
is_stuck from text (Some r) = false
is_stuck from text None = true

abbrev on : (LineState → List ℕ → Bool) → Option (LineState × List ℕ) → Bool
on test (Some r) = test r.0 r.1
on test None = false

abbrev pub stops_at : ℕ → LineState → List ℕ → Bool
stops_at zero from text = is_stuck from text (step from text)
stops_at (suc n) from text = on (stops_at n) (step from text)

module _ {X : Type 0} {spell : X → List ℕ} {within : X → Type 0} {read : LineReader X} (exact : IsExact spell within read) where
  line_read : (text rest : List ℕ) → following (read text) ≡ Some rest → (x : X) × within x × (text ≡ spell x ++ rest)
  line_read text rest e = on_read (read text) refl e
    where
      on_read : (o : Option (X × List ℕ)) → read text ≡ o → following o ≡ Some rest → (x : X) × within x × (text ≡ spell x ++ rest)
      on_read (Some r) is e =
          let found = exact.sound text r.0 r.1 is in
          let same : r.1 ≡ rest = cc in
          (r.0, found.0, found.1 ∙ ap (λ t. spell r.0 ++ t) same)
      on_read None is e = absurd (cc)

  line_there : (text rest : List ℕ) (x : X) → within x → text ≡ spell x ++ rest → following (read text) ≡ Some rest
  line_there text rest x inside same = ap following (ap read same ∙ exact.again x rest inside)

kind_read : (k : LineKind) → IsGoodKind k → (text rest : List ℕ) → line_after k text ≡ Some rest → (l : List ℕ) × IsOfKind k l × (text ≡ l ++ rest)
kind_read (value strings) good text rest e = let h = line_read (ival_at-exact strings good) text rest e in (ival_line h.0, (h.0, h.1, refl), h.2)
kind_read (target code) good text rest e = let h = line_read (number_line_at-exact 116 code good.1) text rest e in (target_line h.0, (h.0, h.1, refl), h.2)
kind_read string good text rest e = let h = line_read (number_line_at-exact 119 (2 ^ 16) (omega arith)) text rest e in (string_line h.0, (h.0, h.1, refl), h.2)
kind_read (instruction sizes) good text rest e = let h = line_read (instr_at-exact sizes good) text rest e in (instr_line h.0, (h.0, h.1, refl), h.2)

kind_there : (k : LineKind) → IsGoodKind k → (l text rest : List ℕ) → IsOfKind k l → text ≡ l ++ rest → line_after k text ≡ Some rest
kind_there (value strings) good l text rest of same = line_there (ival_at-exact strings good) text rest of.0 of.1 (same ∙ ap (λ t. t ++ rest) of.2)
kind_there (target code) good l text rest of same = line_there (number_line_at-exact 116 code good.1) text rest of.0 of.1 (same ∙ ap (λ t. t ++ rest) of.2)
kind_there string good l text rest of same = line_there (number_line_at-exact 119 (2 ^ 16) (omega arith)) text rest of.0 of.1 (same ∙ ap (λ t. t ++ rest) of.2)
kind_there (instruction sizes) good l text rest of same = line_there (instr_at-exact sizes good) text rest of.0 of.1 (same ∙ ap (λ t. t ++ rest) of.2)

expected : (ks : List LineKind) (o : Option (List ℕ)) (to : LineState) (rest : List ℕ) → to_expect ks o ≡ Some (to, rest) → (o ≡ Some rest) × (to ≡ expects ks)
expected ks (Some text) to rest e = let same = same_read (expects ks, text) (to, rest) e in (ap Some same.1, sym same.0)
expected ks None to rest e = absurd (cc)

headed : (o : Option (Header × List ℕ)) (to : LineState) (rest : List ℕ) → after_header o ≡ Some (to, rest) → (h : Header) × (o ≡ Some (h, rest)) × (to ≡ state_after h)
headed (Some r) to rest e = let same = same_read (state_after r.0, r.1) (to, rest) e in (r.0, ap (λ t. Some (r.0, t)) same.1, sym same.0)
headed None to rest e = absurd (cc)

step_leads : (from : LineState) (text : List ℕ) (to : LineState) (rest : List ℕ) → IsGoodState from → step from text ≡ Some (to, rest)
    → (l : List ℕ) × Leads from l to × (text ≡ l ++ rest)
step_leads opens text to rest good e = go (is_two text) refl e
  where
    go : (b : Bool) → is_two text ≡ b → after_opening b text ≡ Some (to, rest) → (l : List ℕ) × Leads opens l to × (text ≡ l ++ rest)
    go true two e =
        let same = same_read (expects [], drop 4 text) (to, rest) e in
        (edition_line, inl (refl, sym same.0), two_line text two ∙ ap (λ t. edition_line ++ t) same.1)
    go false one e =
        let h = headed (header_at text) to rest e in
        let read = header_at-exact.sound text h.0 rest h.1 in
        (header_text h.0, inr (h.0, read.0, refl, h.2), read.1)
step_leads (expects []) text to rest good e =
    let h = headed (header_at text) to rest e in
    let read = header_at-exact.sound text h.0 rest h.1 in
    (header_text h.0, (h.0, read.0, refl, h.2), read.1)
step_leads (expects (k ∷ ks)) text to rest good e =
    let h = expected ks (line_after k text) to rest e in
    let read = kind_read k good.0 text rest h.0 in
    (read.0, (read.1, h.1), read.2)
step_leads finished text to rest good e = absurd (cc)

leads_step : (from : LineState) (l : List ℕ) (to : LineState) (text rest : List ℕ) → IsGoodState from → Leads from l to → text ≡ l ++ rest → step from text ≡ Some (to, rest)
leads_step opens l to text rest good (inl x) same =
    let line : text ≡ edition_line ++ rest = same ∙ ap (λ t. t ++ rest) x.0 in
    let after_line : drop 4 text ≡ rest = ap (λ t. drop 4 t) line in
    ap (λ b. after_opening b text) (line_two text rest line) ∙ ap (λ t. Some (expects [], t)) after_line ∙ ap (λ s. Some (s, rest)) (sym x.1)
leads_step opens l to text rest good (inr x) same = ap (λ b. after_opening b text) one ∙ ap after_header there ∙ ap (λ s. Some (s, rest)) (sym x.3)
  where
    spelled : text ≡ header_text x.0 ++ rest
    spelled = same ∙ ap (λ t. t ++ rest) x.2

    there : header_at text ≡ Some (x.0, rest)
    there = ap header_at spelled ∙ header_at-exact.again x.0 rest x.1

    go : (b : Bool) → is_two text ≡ b → b ≡ false
    go true two = absurd (no_header x.0 (drop 4 text) rest (sym (two_line text two) ∙ spelled))
    go false none = refl

    one : is_two text ≡ false
    one = go (is_two text) refl
leads_step (expects []) l to text rest good leads same =
    let there : header_at text ≡ Some (leads.0, rest) = ap header_at (same ∙ ap (λ t. t ++ rest) leads.2) ∙ header_at-exact.again leads.0 rest leads.1 in
    ap after_header there ∙ ap (λ s. Some (s, rest)) (sym leads.3)
leads_step (expects (k ∷ ks)) l to text rest good leads same =
    ap (to_expect ks) (kind_there k good.0 l text rest leads.0 same) ∙ ap (λ s. Some (s, rest)) (sym leads.1)
leads_step finished l to text rest good leads same = absurd leads

stuck_step : (from : LineState) (text : List ℕ) (o : Option (LineState × List ℕ)) → is_stuck from text o ≡ true → (o ≡ None) × (from ≡ finished → text ≡ [] → ⊥)
stuck_step finished [] o e = absurd (cc)
stuck_step finished (b ∷ bs) (Some r) e = absurd (cc)
stuck_step finished (b ∷ bs) None e = (refl, λ p q. cc)
stuck_step opens text (Some r) e = absurd (cc)
stuck_step opens text None e = (refl, λ p q. cc)
stuck_step (expects ks) text (Some r) e = absurd (cc)
stuck_step (expects ks) text None e = (refl, λ p q. cc)

stops_after : (n : ℕ) (from : LineState) (text : List ℕ) → IsGoodState from → (o : Option (LineState × List ℕ)) → step from text ≡ o
    → on (stops_at n) o ≡ true → ((to : LineState) (rest : List ℕ) → IsGoodState to → stops_at n to rest ≡ true → IsStuckAfter n to rest) → IsStuckAfter (suc n) from text
stops_after n from text good (Some r) is e onward =
    let h = step_leads from text r.0 r.1 good is in
    (h.0, r.0, r.1, h.1, h.2, onward r.0 r.1 (good_next from h.0 r.0 good h.1) e)
stops_after n from text good None is e onward = absurd (cc)

pub stops : (n : ℕ) (from : LineState) (text : List ℕ) → IsGoodState from → stops_at n from text ≡ true → IsStuckAfter n from text
stops zero from text good e =
    let h = stuck_step from text (step from text) e in
    record {
      refused = λ l to rest leads same. let there = leads_step from l to text rest good leads same in let none = h.0 in cc;
      not_finished = h.1;
    }
stops (suc n) from text good e = stops_after n from text good (step from text) refl e (stops n)

-- Texts, and how many of their lines are right.
abbrev Row : Type 0
Row = List ℕ × ℕ

abbrev AreFaults : List Row → Type 0
AreFaults [] = Unit {0}
AreFaults (r ∷ rs) = IsFaultLine r.0 (suc r.1) × AreFaults rs

abbrev stop_there : List Row → Bool
stop_there [] = true
stop_there (r ∷ rs) = stops_at r.1 opens r.0 && stop_there rs

faults_there : (rows : List Row) → stop_there rows ≡ true → AreFaults rows
faults_there [] e = tt
faults_there (r ∷ rs) e =
    let h = and_parts (stops_at r.1 opens r.0) (stop_there rs) e in
    (fault_line r.0 r.1 (stops r.1 opens r.0 tt h.0), faults_there rs h.1)

abbrev rows : List Row
rows =
    ([], 0) ∷
    (codes "E", 0) ∷
    (codes "E\nE\n", 1) ∷
    (codes "E\nx", 1) ∷
    (codes "B 1\nE\n", 0) ∷
    (codes "B 2", 0) ∷
    (codes "B 2\n", 1) ∷
    (codes "B 2\nB 2\nE\n", 1) ∷
    (codes "X a 0 0\nB 2\nE\n", 1) ∷
    (codes "B 2\nX n 1 0\nc 007\nE\n", 2) ∷
    (codes "B 2\nE\nE\n", 2) ∷
    (codes "X n 0 0\n", 1) ∷
    (codes "X n 0 0\nX n 0 0", 1) ∷
    (codes "X n 1 0\nc 007\nE\n", 1) ∷
    (codes "X n 1 0\nc 65536\nE\n", 1) ∷
    (codes "X n 1 1\nc 1\nw 65536\nE\n", 2) ∷
    (codes "V v 0 0 0\nE\n", 0) ∷
    (codes "V v 1 1 0\ns 0\nE\n", 1) ∷
    (codes "F main 0 0 0 0 2\nc 0\n", 2) ∷
    (codes "F f 0 0 1 0 0\nE\n", 0) ∷
    (codes "F f 0 0 129 0 1\nE\n", 0) ∷
    (codes "F f 0 0 1 0 1\nt 1\nr\nE\n", 1) ∷
    (codes "F f 0 1 0 0 1\na 1\nE\n", 1) ∷
    (codes "F f 0 0 0 0 2\nr\nj 2\nE\n", 2) ∷
    (codes "F f 0 0 0 0 1\nb =\nE\n", 1) ∷
    (codes "F f 0 0 0 0 1\nr\nr\nE\n", 2) ∷
    []

faults : AreFaults rows
unfolding header_at any_header_at sizes_at function_header_at simple_header_at vector_header_at line_ended instr_at ival_line_at number_line_at operand_at name_operand_at operator_at less_at greater_at increment_at case_at expect_byte number_at number_from name_text_at
faults = faults_there rows refl
