-- What is read as a line is its text, and its text is read as it.
use Rattle.std.proofs.Common.{subst, length, drop, ◌≡◌, ℕ, ◌^◌, ◌<◌, ◌≤◌, Bool, true, false, cond, eqb, List, [], ◌∷◌, ◌++◌, decimal, Option, Some, None, refl, sym, ap, ◌∙◌, arith, append_assoc, IsTrue}
use Rattle.std.proofs.lemmas.Bool.{eqb-true}
use Rattle.bword.specs.Words.{is_name, operator_text}
use Rattle.bword.specs.declared.operators.BinOp.{BinOp}
use Rattle.bword.specs.declared.operators.BinOp.TheVariants as op
use Rattle.blang.specs.CodeParts.{IsWord, IsInstrWithin, IsIvalWithin}
use Rattle.bcode.specs.LineReading.{LineReader, IsExact, FitSizes, counted_readers, mapped, choose, by_first, line_ended, operand_at, name_operand_at, less_at, greater_at, operator_at, operator_readers, increment_at, increment_readers, case_at, instr_at, instr_readers, ival_line_at, ival_readers, number_line_at}
use Rattle.bcode.specs.Reading.{◌>>=◌, expect_byte, number_at, name_text_at}
use Rattle.blang.specs.Text.{line, increment_text, instr_line, ival_line}
use Rattle.blang.specs.declared.code.Sizes.{Sizes}
use Rattle.blang.specs.declared.code.Increment.{Increment}
use Rattle.blang.specs.declared.code.Increment.TheVariants as increment
use Rattle.blang.specs.declared.code.Instr.{Instr}
use Rattle.blang.specs.declared.code.Instr.TheVariants as instr
use Rattle.blang.specs.declared.code.Ival.{Ival}
use Rattle.blang.specs.declared.code.Ival.TheVariants as ival
use Rattle.bcode.proofs.PartLaws.{bind_some, same_read, expect-sound, expect-again, number_at-sound, number_at-again, name_at-sound, name_at-again}

mapped_some : {X Y : Type 0} (f : X → Y) (o : Option (X × List ℕ)) (y : Y) (rest : List ℕ) → mapped f o ≡ Some (y, rest)
    → (x : X) × (o ≡ Some (x, rest)) × (f x ≡ y)
mapped_some f (Some x) y rest e =
    let same = same_read (f x.0, x.1) (y, rest) e in
    (x.0, ap (λ r. Some (x.0, r)) same.1, same.0)
mapped_some f None y rest e = absurd (cc)

module _ {X : Type 0} (text : X → List ℕ) (within : X → Type 0) where
  -- what is read after a byte
  abbrev pub IsSoundAfter : ℕ → LineReader X → Type 0
  IsSoundAfter byte read = (bytes : List ℕ) (x : X) (rest : List ℕ) → read bytes ≡ Some (x, rest) → within x × (byte ∷ bytes ≡ text x ++ rest)

  abbrev pub AllSound : List (ℕ × LineReader X) → Type 0
  AllSound [] = Unit {0}
  AllSound (r ∷ rs) = IsSoundAfter r.0 r.1 × AllSound rs

  choose-step : (r : ℕ × LineReader X) (rs : List (ℕ × LineReader X)) (byte : ℕ) (bytes : List ℕ) (x : X) (rest : List ℕ) → IsSoundAfter r.0 r.1
      → (choose rs byte bytes ≡ Some (x, rest) → within x × (byte ∷ bytes ≡ text x ++ rest))
      → (t : Bool) → eqb byte r.0 ≡ t → cond t (r.1 bytes) (choose rs byte bytes) ≡ Some (x, rest) → within x × (byte ∷ bytes ≡ text x ++ rest)
  choose-step r rs byte bytes x rest first others true same e =
      let h = first bytes x rest e in (h.0, ap (λ b. b ∷ bytes) (eqb-true byte r.0 same) ∙ h.1)
  choose-step r rs byte bytes x rest first others false same e = others e

  choose-sound : (rs : List (ℕ × LineReader X)) → AllSound rs → (byte : ℕ) (bytes : List ℕ) (x : X) (rest : List ℕ)
      → choose rs byte bytes ≡ Some (x, rest) → within x × (byte ∷ bytes ≡ text x ++ rest)
  choose-sound [] all byte bytes x rest e = absurd (cc)
  choose-sound (r ∷ rs) all byte bytes x rest e =
      choose-step r rs byte bytes x rest all.0 (choose-sound rs all.1 byte bytes x rest) (eqb byte r.0) refl e

  pub by_first-sound : (rs : List (ℕ × LineReader X)) → AllSound rs → (bytes : List ℕ) (x : X) (rest : List ℕ)
      → by_first rs bytes ≡ Some (x, rest) → within x × (bytes ≡ text x ++ rest)
  by_first-sound rs all [] x rest e = absurd (cc)
  by_first-sound rs all (b ∷ bs) x rest e = choose-sound rs all b bs x rest e

ended-sound : {X : Type 0} (x y : X) (bytes rest : List ℕ) → line_ended x bytes ≡ Some (y, rest) → (x ≡ y) × (bytes ≡ 10 ∷ rest)
unfolding line_ended
ended-sound x y bytes rest e =
    let found = bind_some (expect_byte 10 bytes) _ (y, rest) e in
    let read = same_read (x, found.0) (y, rest) found.2 in
    (read.0, expect-sound 10 bytes found.0 found.1 ∙ ap (λ l. 10 ∷ l) read.1)

operand_at-sound : (below : ℕ) (bytes : List ℕ) (n : ℕ) (rest : List ℕ) → operand_at below bytes ≡ Some (n, rest)
    → (n < below) × (bytes ≡ 32 ∷ (decimal n ++ 10 ∷ [] ++ rest))
unfolding operand_at
operand_at-sound below bytes n rest e =
    let found = bind_some (expect_byte 32 bytes) (number_at 10 below) (n, rest) e in
    let read = number_at-sound 10 below found.0 n rest found.2 in
    (read.0, expect-sound 32 bytes found.0 found.1 ∙ ap (λ l. 32 ∷ l) (read.1 ∙ sym (append_assoc (decimal n) (10 ∷ []) rest)))

operand_at-again : (below n : ℕ) (rest : List ℕ) → below ≤ 2 ^ 16 → n < below → operand_at below (32 ∷ (decimal n ++ 10 ∷ [] ++ rest)) ≡ Some (n, rest)
unfolding operand_at
operand_at-again below n rest fits less =
    rw (expect-again 32 (decimal n ++ 10 ∷ [] ++ rest), append_assoc (decimal n) (10 ∷ []) rest)
    (number_at-again 10 below refl n rest (omega arith) less)

name_operand_at-sound : (bytes name rest : List ℕ) → name_operand_at bytes ≡ Some (name, rest) → IsTrue (is_name name) × (bytes ≡ 32 ∷ (name ++ 10 ∷ [] ++ rest))
unfolding name_operand_at
name_operand_at-sound bytes name rest e =
    let found = bind_some (expect_byte 32 bytes) (name_text_at 10) (name, rest) e in
    let read = name_at-sound 10 found.0 name rest found.2 in
    (read.0, expect-sound 32 bytes found.0 found.1 ∙ ap (λ l. 32 ∷ l) (read.1 ∙ sym (append_assoc name (10 ∷ []) rest)))

name_operand_at-again : (name rest : List ℕ) → IsTrue (is_name name) → name_operand_at (32 ∷ (name ++ 10 ∷ [] ++ rest)) ≡ Some (name, rest)
unfolding name_operand_at
name_operand_at-again name rest named =
    rw (expect-again 32 (name ++ 10 ∷ [] ++ rest), append_assoc name (10 ∷ []) rest) (name_at-again 10 refl name rest named)

-- the entries of a table
module _ {X : Type 0} (text : X → List ℕ) (within : X → Type 0) (byte : ℕ) where
  pub ended_entry : (x : X) → within x → text x ≡ byte ∷ 10 ∷ [] → IsSoundAfter text within byte (line_ended x)
  ended_entry x inside same bytes y rest e =
      let read = ended-sound x y bytes rest e in
      let at : within y = subst within read.0 inside in
      (at, ap (λ l. byte ∷ l) read.1 ∙ ap (λ l. l ++ rest) (sym same) ∙ ap (λ z. text z ++ rest) read.0)

  number_entry : (make : ℕ → X) (below : ℕ) → ((n : ℕ) → n < below → within (make n))
      → ((n : ℕ) → text (make n) ≡ byte ∷ 32 ∷ (decimal n ++ 10 ∷ [])) → IsSoundAfter text within byte (λ rest. mapped make (operand_at below rest))
  number_entry make below inside same bytes y rest e =
      let found = mapped_some make (operand_at below bytes) y rest e in
      let read = operand_at-sound below bytes found.0 rest found.1 in
      let at : within y = subst within found.2 (inside found.0 read.0) in
      (at, ap (λ l. byte ∷ l) read.1 ∙ ap (λ l. l ++ rest) (sym (same found.0)) ∙ ap (λ z. text z ++ rest) found.2)

  name_entry : (make : List ℕ → X) → ((name : List ℕ) → IsTrue (is_name name) → within (make name))
      → ((name : List ℕ) → text (make name) ≡ byte ∷ 32 ∷ (name ++ 10 ∷ [])) → IsSoundAfter text within byte (λ rest. mapped make (name_operand_at rest))
  name_entry make inside same bytes y rest e =
      let found = mapped_some make (name_operand_at bytes) y rest e in
      let read = name_operand_at-sound bytes found.0 rest found.1 in
      let at : within y = subst within found.2 (inside found.0 read.0) in
      (at, ap (λ l. byte ∷ l) read.1 ∙ ap (λ l. l ++ rest) (sym (same found.0)) ∙ ap (λ z. text z ++ rest) found.2)

ival_at-again : (strings : ℕ) → strings ≤ 2 ^ 16 → (x : Ival) (rest : List ℕ) → IsIvalWithin strings x → ival_line_at strings (ival_line x ++ rest) ≡ Some (x, rest)
unfolding ival_line_at
ival_at-again strings few (ival.Number n) rest inside = ap (mapped ival.Number) (operand_at-again (2 ^ 16) n rest (omega arith) inside)
ival_at-again strings few (ival.Name name) rest inside = ap (mapped ival.Name) (name_operand_at-again name rest inside)
ival_at-again strings few (ival.Text offset) rest inside = ap (mapped ival.Text) (operand_at-again strings offset rest few inside)

ival_line-filled : (x : Ival) → 0 < length (ival_line x)
ival_line-filled (ival.Number n) = omega arith
ival_line-filled _ = omega arith

pub ival_at-exact : (strings : ℕ) → strings ≤ 2 ^ 16 → IsExact ival_line (IsIvalWithin strings) (ival_line_at strings)
unfolding ival_line_at
ival_at-exact strings few = record {
  sound = by_first-sound ival_line (IsIvalWithin strings) (ival_readers strings) (
    number_entry ival_line (IsIvalWithin strings) 99 ival.Number (2 ^ 16) (λ n h. h) (λ n. refl),
    (
      name_entry ival_line (IsIvalWithin strings) 120 ival.Name (λ n h. h) (λ n. refl),
      (number_entry ival_line (IsIvalWithin strings) 115 ival.Text strings (λ n h. h) (λ n. refl), tt),
    ),
  );
  again = ival_at-again strings few;
  filled = ival_line-filled;
}

pub number_line_at-exact : (letter below : ℕ) → below ≤ 2 ^ 16 → IsExact (λ n. line ((letter ∷ []) ∷ decimal n ∷ [])) (λ n. n < below) (number_line_at letter below)
unfolding number_line_at
number_line_at-exact letter below fits = record {
  sound = λ bytes n rest e.
      let found = bind_some (expect_byte letter bytes) (operand_at below) (n, rest) e in
      let read = operand_at-sound below found.0 n rest found.2 in
      (read.0, expect-sound letter bytes found.0 found.1 ∙ ap (λ l. letter ∷ l) read.1);
  again = λ n rest less.
      rw (expect-again letter (32 ∷ (decimal n ++ 10 ∷ [] ++ rest))) (operand_at-again below n rest fits less);
  filled = λ n. omega arith;
}

-- operators

abbrev operator_end : BinOp → List ℕ
operator_end o = operator_text o ++ 10 ∷ []

two_entry : (byte : ℕ) (x : BinOp) → operator_text x ≡ byte ∷ 61 ∷ []
    → IsSoundAfter operator_end (λ o. Unit {0}) byte (λ rest. expect_byte 61 rest >>= line_ended x)
two_entry byte x same bytes y rest e =
    let found = bind_some (expect_byte 61 bytes) (line_ended x) (y, rest) e in
    let read = ended-sound x y found.0 rest found.2 in (
      tt,
      ap (λ l. byte ∷ l) (expect-sound 61 bytes found.0 found.1 ∙ ap (λ l. 61 ∷ l) read.1) ∙ ap (λ l. l ++ 10 ∷ [] ++ rest) (sym same)
          ∙ ap (λ o. operator_text o ++ 10 ∷ [] ++ rest) read.0,
    )

-- what stands after the first byte of an operator
abbrev after_first : BinOp → List ℕ
after_first o = drop 1 (operator_end o)

abbrev BeginsWith : ℕ → BinOp → Type 0
BeginsWith byte o = byte ∷ after_first o ≡ operator_end o

one_byte : (byte : ℕ) (x : BinOp) → operator_text x ≡ byte ∷ [] → IsSoundAfter after_first (BeginsWith byte) 10 (λ rest. Some (x, rest))
one_byte byte x same bytes y rest e =
    let read = same_read (x, bytes) (y, rest) e in
    let whole : BeginsWith byte x = rw same refl in
    let at : BeginsWith byte y = subst (BeginsWith byte) read.0 whole in
    let end : after_first x ≡ 10 ∷ [] = rw same refl in
    (at, ap (λ l. 10 ∷ l) read.1 ∙ ap (λ l. l ++ rest) (sym end) ∙ ap (λ o. after_first o ++ rest) read.0)

less_entry : IsSoundAfter operator_end (λ o. Unit {0}) 60 less_at
unfolding less_at
less_entry bytes x rest e =
    let read = by_first-sound after_first (BeginsWith 60) ((10, λ r. Some (op.Lt, r)) ∷ (61, line_ended op.Le) ∷ (60, line_ended op.Shl) ∷ [])
    (one_byte 60 op.Lt refl, (ended_entry after_first (BeginsWith 60) 61 op.Le refl refl, (ended_entry after_first (BeginsWith 60) 60 op.Shl refl refl, tt)))
    bytes x rest e in
    (tt, ap (λ l. 60 ∷ l) read.1 ∙ ap (λ l. l ++ rest) read.0)

greater_entry : IsSoundAfter operator_end (λ o. Unit {0}) 62 greater_at
unfolding greater_at
greater_entry bytes x rest e =
    let read = by_first-sound after_first (BeginsWith 62) ((10, λ r. Some (op.Gt, r)) ∷ (61, line_ended op.Ge) ∷ (62, line_ended op.Shr) ∷ [])
    (one_byte 62 op.Gt refl, (ended_entry after_first (BeginsWith 62) 61 op.Ge refl refl, (ended_entry after_first (BeginsWith 62) 62 op.Shr refl refl, tt)))
    bytes x rest e in
    (tt, ap (λ l. 62 ∷ l) read.1 ∙ ap (λ l. l ++ rest) read.0)

operator_at-sound : (bytes : List ℕ) (x : BinOp) (rest : List ℕ) → operator_at bytes ≡ Some (x, rest) → bytes ≡ 32 ∷ (operator_end x ++ rest)
unfolding operator_at
operator_at-sound bytes x rest e =
    let found = bind_some (expect_byte 32 bytes) (by_first operator_readers) (x, rest) e in
    let one = λ (byte : ℕ) (o : BinOp) (same : operator_end o ≡ byte ∷ 10 ∷ []). ended_entry operator_end (λ _. Unit {0}) byte o tt same in
    let read = by_first-sound operator_end (λ _. Unit {0}) operator_readers (
      one 124 op.Or refl,
      (
        one 38 op.And refl,
        (
          two_entry 61 op.Eq refl,
          (
            two_entry 33 op.Ne refl,
            (
              less_entry,
              (
                greater_entry,
                (one 45 op.Sub refl, (one 43 op.Add refl, (one 37 op.Rem refl, (one 42 op.Mul refl, (one 47 op.Div refl, tt))))),
              ),
            ),
          ),
        ),
      ),
    )
    found.0 x rest found.2 in
    expect-sound 32 bytes found.0 found.1 ∙ ap (λ l. 32 ∷ l) read.1

operator_at-again : (x : BinOp) (rest : List ℕ) → operator_at (32 ∷ (operator_end x ++ rest)) ≡ Some (x, rest)
unfolding operator_at less_at greater_at line_ended expect_byte
operator_at-again op.Or rest = refl
operator_at-again _ rest = refl

abbrev increment_end : Increment → List ℕ
increment_end i = increment_text i ++ 10 ∷ []

increment_at-sound : (bytes : List ℕ) (x : Increment) (rest : List ℕ) → increment_at bytes ≡ Some (x, rest) → bytes ≡ 32 ∷ (increment_end x ++ rest)
unfolding increment_at
increment_at-sound bytes x rest e =
    let found = bind_some (expect_byte 32 bytes) (by_first increment_readers) (x, rest) e in
    let one = λ (byte : ℕ) (i : Increment) (same : increment_end i ≡ byte ∷ 10 ∷ []). ended_entry increment_end (λ _. Unit {0}) byte i tt same in
    let read = by_first-sound increment_end (λ _. Unit {0}) increment_readers
    (one 48 increment.PreIncrement refl, (one 49 increment.PreDecrement refl, (one 50 increment.PostIncrement refl, (one 51 increment.PostDecrement refl, tt))))
    found.0 x rest found.2 in
    expect-sound 32 bytes found.0 found.1 ∙ ap (λ l. 32 ∷ l) read.1

increment_at-again : (x : Increment) (rest : List ℕ) → increment_at (32 ∷ (increment_end x ++ rest)) ≡ Some (x, rest)
unfolding increment_at line_ended expect_byte
increment_at-again increment.PreIncrement rest = refl
increment_at-again _ rest = refl

-- instructions

module _ (sizes : Sizes) where
  operator_entry : (byte : ℕ) (make : BinOp → Instr) → ((o : BinOp) → IsInstrWithin sizes (make o)) → ((o : BinOp) → instr_line (make o) ≡ byte ∷ 32 ∷ operator_end o)
      → IsSoundAfter instr_line (IsInstrWithin sizes) byte (λ rest. mapped make (operator_at rest))
  operator_entry byte make inside same bytes y rest e =
      let found = mapped_some make (operator_at bytes) y rest e in
      let read = operator_at-sound bytes found.0 rest found.1 in
      let at : IsInstrWithin sizes y = subst (IsInstrWithin sizes) found.2 (inside found.0) in
      (at, ap (λ l. byte ∷ l) read ∙ ap (λ l. l ++ rest) (sym (same found.0)) ∙ ap (λ z. instr_line z ++ rest) found.2)

  increment_entry : IsSoundAfter instr_line (IsInstrWithin sizes) 105 (λ rest. mapped instr.Increment (increment_at rest))
  increment_entry bytes y rest e =
      let found = mapped_some instr.Increment (increment_at bytes) y rest e in
      let read = increment_at-sound bytes found.0 rest found.1 in
      let at : IsInstrWithin sizes y = subst (IsInstrWithin sizes) found.2 tt in
      (at, ap (λ l. 105 ∷ l) read ∙ ap (λ z. instr_line z ++ rest) found.2)

  case_entry : IsSoundAfter instr_line (IsInstrWithin sizes) 101 (case_at sizes.code)
  unfolding case_at
  case_entry bytes y rest e =
      let space = bind_some (expect_byte 32 bytes) _ (y, rest) e in
      let value = bind_some (number_at 32 (2 ^ 16) space.0) _ (y, rest) space.2 in
      let target = bind_some (number_at 10 sizes.code value.0.1) _ (y, rest) value.2 in
      let v = number_at-sound 32 (2 ^ 16) space.0 value.0.0 value.0.1 value.1 in
      let t = number_at-sound 10 sizes.code value.0.1 target.0.0 target.0.1 target.1 in
      let read = same_read (instr.JumpIfCase value.0.0 target.0.0, target.0.1) (y, rest) target.2 in
      let at : IsInstrWithin sizes y = subst (IsInstrWithin sizes) read.0 (v.0, t.0) in
      let text : bytes ≡ 32 ∷ (decimal value.0.0 ++ 32 ∷ (decimal target.0.0 ++ 10 ∷ rest)) =
      expect-sound 32 bytes space.0 space.1 ∙ ap (λ l. 32 ∷ l) (v.1 ∙ ap (λ l. decimal value.0.0 ++ 32 ∷ l) (t.1 ∙ ap (λ l. decimal target.0.0 ++ 10 ∷ l) read.1)) in
      let line_is : 101 ∷ 32 ∷ (decimal value.0.0 ++ 32 ∷ (decimal target.0.0 ++ 10 ∷ rest)) ≡ instr_line (instr.JumpIfCase value.0.0 target.0.0) ++ rest =
      simp append_assoc in
      (at, ap (λ l. 101 ∷ l) text ∙ line_is ∙ ap (λ z. instr_line z ++ rest) read.0)

module _ (sizes : Sizes) where
  instr_at-sound : (bytes : List ℕ) (x : Instr) (rest : List ℕ) → instr_at sizes bytes ≡ Some (x, rest) → IsInstrWithin sizes x × (bytes ≡ instr_line x ++ rest)
  unfolding instr_at
  instr_at-sound =
      let within = IsInstrWithin sizes in
      let alone = λ (byte : ℕ) (i : Instr) (inside : within i) (same : instr_line i ≡ byte ∷ 10 ∷ []). ended_entry instr_line within byte i inside same in
      let counted : AllSound instr_line within (counted_readers sizes) = (
        number_entry instr_line within 99 instr.Constant (2 ^ 16) (λ n h. h) (λ n. refl),
        (
          number_entry instr_line within 97 instr.Automatic sizes.frame (λ n h. h) (λ n. refl),
          (
            number_entry instr_line within 115 instr.Text sizes.strings (λ n h. h) (λ n. refl),
            (
              number_entry instr_line within 108 instr.Label sizes.labels (λ n h. h) (λ n. refl),
              (
                number_entry instr_line within 106 instr.Jump sizes.code (λ n h. h) (λ n. refl),
                (
                  number_entry instr_line within 122 instr.JumpIfZero sizes.code (λ n h. h) (λ n. refl),
                  (number_entry instr_line within 107 instr.Call (2 ^ 16) (λ n h. h) (λ n. refl), tt),
                ),
              ),
            ),
          ),
        ),
      ) in
      by_first-sound instr_line within (instr_readers sizes) (
        name_entry instr_line within 120 instr.External (λ n h. h) (λ n. refl),
        (
          alone 118 instr.Load tt refl,
          (
            alone 119 instr.Store tt refl,
            (
              operator_entry sizes 98 instr.Binary (λ o. tt) (λ o. refl),
              (
                operator_entry sizes 109 instr.Modify (λ o. tt) (λ o. refl),
                (
                  alone 110 instr.Negate tt refl,
                  (
                    alone 104 instr.Not tt refl,
                    (
                      increment_entry sizes,
                      (
                        alone 103 instr.Goto tt refl,
                        (
                          case_entry sizes,
                          (
                            alone 114 instr.Return tt refl,
                            (alone 112 instr.Pop tt refl, counted),
                          ),
                        ),
                      ),
                    ),
                  ),
                ),
              ),
            ),
          ),
        ),
      )

  case_at-again : (value target : ℕ) (rest : List ℕ) → sizes.code ≤ 2 ^ 16 → IsWord value → target < sizes.code
      → case_at sizes.code (32 ∷ (decimal value ++ 32 ∷ [] ++ (decimal target ++ 10 ∷ []) ++ rest)) ≡ Some (instr.JumpIfCase value target, rest)
  unfolding case_at
  case_at-again value target rest few word less =
      let shape : decimal value ++ 32 ∷ [] ++ (decimal target ++ 10 ∷ []) ++ rest ≡ decimal value ++ 32 ∷ (decimal target ++ 10 ∷ rest) = simp append_assoc in
      rw (
        shape,
        expect-again 32 (decimal value ++ 32 ∷ (decimal target ++ 10 ∷ rest)),
        number_at-again 32 (2 ^ 16) refl value (decimal target ++ 10 ∷ rest) word word,
        number_at-again 10 sizes.code refl target rest (omega arith) less,
      ) refl

  instr_at-again : FitSizes sizes → (x : Instr) (rest : List ℕ) → IsInstrWithin sizes x → instr_at sizes (instr_line x ++ rest) ≡ Some (x, rest)
  unfolding instr_at line_ended expect_byte
  instr_at-again fit (instr.Constant n) rest inside = ap (mapped instr.Constant) (operand_at-again (2 ^ 16) n rest (omega arith) inside)
  instr_at-again fit (instr.External name) rest inside = ap (mapped instr.External) (name_operand_at-again name rest inside)
  instr_at-again fit (instr.Automatic k) rest inside = ap (mapped instr.Automatic) (operand_at-again sizes.frame k rest fit.frame inside)
  instr_at-again fit (instr.Text k) rest inside = ap (mapped instr.Text) (operand_at-again sizes.strings k rest fit.strings inside)
  instr_at-again fit (instr.Label k) rest inside = ap (mapped instr.Label) (operand_at-again sizes.labels k rest fit.labels inside)
  instr_at-again fit (instr.Binary o) rest inside = ap (mapped instr.Binary) (operator_at-again o rest)
  instr_at-again fit (instr.Modify o) rest inside = ap (mapped instr.Modify) (operator_at-again o rest)
  instr_at-again fit (instr.Increment i) rest inside = ap (mapped instr.Increment) (increment_at-again i rest)
  instr_at-again fit (instr.Jump k) rest inside = ap (mapped instr.Jump) (operand_at-again sizes.code k rest fit.code inside)
  instr_at-again fit (instr.JumpIfZero k) rest inside = ap (mapped instr.JumpIfZero) (operand_at-again sizes.code k rest fit.code inside)
  instr_at-again fit (instr.JumpIfCase value target) rest inside = case_at-again value target rest fit.code inside.0 inside.1
  instr_at-again fit (instr.Call n) rest inside = ap (mapped instr.Call) (operand_at-again (2 ^ 16) n rest (omega arith) inside)
  instr_at-again fit _ rest inside = refl

  instr_line-filled : (x : Instr) → 0 < length (instr_line x)
  instr_line-filled (instr.Constant n) = omega arith
  instr_line-filled _ = omega arith

  pub instr_at-exact : FitSizes sizes → IsExact instr_line (IsInstrWithin sizes) (instr_at sizes)
  instr_at-exact fit = record { sound = instr_at-sound; again = instr_at-again fit; filled = instr_line-filled }
