-- The lines of code texts: each ends with its only newline and has 128 bytes at most.
use Rattle.std.proofs.Common.{◌≡◌, ◌≢◌, ℕ, ◌+◌, ◌/◌, ◌%◌, ◌<◌, ◌≤◌, ◌^◌, true, List, [], ◌∷◌, ◌++◌, length, decimal, refl, sym, ap, ◌∙◌, arith, append_assoc, length-append, IsTrue}
use Rattle.std.specs.Prelude.{codes, nat_le}
use Rattle.std.specs.List.{list_all}
use Rattle.std.proofs.lemmas.List.Elements.{All-nil, All-cons, All-push, All-append}
use Rattle.std.proofs.lemmas.Bool.{false≢true, and_parts}
use Rattle.std.proofs.lemmas.Bool.Decides.{nat_tests}
use Rattle.std.proofs.lemmas.Fmt.{decimal_by_steps, length-decimal-le, decimal_nonempty}
use Rattle.bword.specs.Words.{is_name, is_name_start, is_name_byte, operator_text}
use Rattle.bword.specs.declared.operators.BinOp.{BinOp}
use Rattle.bword.specs.declared.operators.BinOp.TheVariants as op
use Rattle.blang.specs.CodeParts.{IsInstrWithin, IsIvalWithin}
use Rattle.bcode.specs.Headers.{header_text, IsHeaderWithin}
use Rattle.bcode.specs.LineReading.{FitSizes}
use Rattle.bcode.specs.Streams.{HasNoNewline, IsLine}
use Rattle.blang.specs.Text.{line, edition_line, increment_text, instr_line, ival_line}
use Rattle.bcode.specs.declared.header.Header.{Header}
use Rattle.bcode.specs.declared.header.Header.TheVariants as header
use Rattle.blang.specs.declared.code.Sizes.{Sizes}
use Rattle.blang.specs.declared.code.Increment.{Increment}
use Rattle.blang.specs.declared.code.Increment.TheVariants as increment
use Rattle.blang.specs.declared.code.Instr.{Instr}
use Rattle.blang.specs.declared.code.Instr.TheVariants as instr
use Rattle.blang.specs.declared.code.Ival.{Ival}
use Rattle.blang.specs.declared.code.Ival.TheVariants as ival
use Rattle.bcode.proofs.HeaderLaws.{function_words, simple_words, vector_words}

abbrev Other : ℕ → Type 0
Other b = b ≢ 10

-- a part of a line, of so many bytes at most
record IsPart (most : ℕ) (part : List ℕ) : Type 0 where
  clean : HasNoNewline part
  some : 0 < length part
  few : length part ≤ most

name_byte : (b : ℕ) → is_name_byte b ≡ true → b ≢ 10
name_byte b e same = false≢true (ap is_name_byte (sym same) ∙ e)

name_bytes : (bytes : List ℕ) → list_all is_name_byte bytes ≡ true → HasNoNewline bytes
name_bytes [] e = All-nil Other
name_bytes (b ∷ bs) e = let h = and_parts (is_name_byte b) (list_all is_name_byte bs) e in All-cons Other b bs (name_byte b h.0) (name_bytes bs h.1)

name_start : (b : ℕ) → is_name_start b ≡ true → b ≢ 10
name_start b e same = false≢true (ap is_name_start (sym same) ∙ e)

name_part : (name : List ℕ) → IsTrue (is_name name) → IsPart 8 name
name_part [] e = absurd (cc)
name_part (b ∷ bs) e =
    let h = and_parts (is_name_start b) _ e in
    let k = and_parts _ (list_all is_name_byte bs) h.1 in
    record {
      clean = All-cons Other b bs (name_start b h.0) (name_bytes bs k.1);
      some = omega arith;
      few = (let short = at_most_seven (length bs) k.0 in omega arith);
    }
  where
    at_most_seven : (n : ℕ) → nat_le n 7 ≡ true → n ≤ 7
    at_most_seven n e = grind (arith, nat_tests)

abbrev Clean : ℕ → List ℕ → Type 0
Clean n ds = HasNoNewline ds

digit_clean : (n : ℕ) → n < 10 → Clean n ((48 + n) ∷ [])
digit_clean n small = All-cons Other (48 + n) [] (λ e. omega (arith, e)) (All-nil Other)

more_clean : (n : ℕ) (ds : List ℕ) → 10 ≤ n → Clean (n / 10) ds → Clean n (ds ++ (48 + n % 10) ∷ [])
more_clean n ds large before = All-push Other ds (48 + n % 10) before (λ e. omega (arith, e))

number_part : (n : ℕ) → n < 2 ^ 16 → IsPart 5 (decimal n)
number_part n fits = record {
  clean = decimal_by_steps Clean digit_clean more_clean n (omega arith);
  some = decimal_nonempty n (omega arith);
  few = length-decimal-le 5 n (omega arith) (omega arith) (omega arith);
}

letter_part : (letter : ℕ) → letter ≢ 10 → IsPart 1 (letter ∷ [])
letter_part letter other = record { clean = All-cons Other letter [] other (All-nil Other); some = omega arith; few = omega arith }

last : {n : ℕ} {part : List ℕ} → IsPart n part → IsLine (n + 1) (line (part ∷ []))
last {n} {part} p = record { before = part; clean = p.clean; some = p.some; few = (let f = p.few in omega arith); ends = refl }

next : {a b : ℕ} {part l : List ℕ} → IsPart a part → IsLine b l → IsLine (a + 1 + b) (part ++ codes " " ++ l)
next {a} {b} {part} {l} p h = record {
  before = part ++ codes " " ++ h.before;
  clean = All-append Other (part ++ codes " ") h.before (All-push Other part 32 p.clean (λ e. omega (arith, e))) h.clean;
  some = (let s = p.some in omega (arith, length-append (part ++ codes " ") h.before, length-append part (codes " ")));
  few = (let f = p.few in let g = h.few in omega (arith, length-append (part ++ codes " ") h.before, length-append part (codes " ")));
  ends = ap (λ t. part ++ codes " " ++ t) h.ends ∙ sym (append_assoc (part ++ codes " ") h.before (10 ∷ []));
}

wide : {a : ℕ} {l : List ℕ} (b : ℕ) → a ≤ b → IsLine a l → IsLine b l
wide b le h = record { before = h.before; clean = h.clean; some = h.some; few = (let f = h.few in omega arith); ends = h.ends }

differs : (a : ℕ) → 11 ≤ a → a ≢ 10
differs a more e = omega (arith, more, e)

pub number_line-shape : (letter n : ℕ) → letter ≢ 10 → n < 2 ^ 16 → IsLine 128 (line ((letter ∷ []) ∷ decimal n ∷ []))
number_line-shape letter n other fits = wide 128 (omega arith) (next (letter_part letter other) (last (number_part n fits)))

numbered : (letter n : ℕ) → 11 ≤ letter → n < 2 ^ 16 → IsLine 128 (line ((letter ∷ []) ∷ decimal n ∷ []))
numbered letter n other fits = number_line-shape letter n (differs letter other) fits

named : (letter : ℕ) (name : List ℕ) → 11 ≤ letter → IsTrue (is_name name) → IsLine 128 (line ((letter ∷ []) ∷ name ∷ []))
named letter name other is = wide 128 (omega arith) (next (letter_part letter (differs letter other)) (last (name_part name is)))

alone : (letter : ℕ) → 11 ≤ letter → IsLine 128 (line ((letter ∷ []) ∷ []))
alone letter other = wide 128 (omega arith) (last (letter_part letter (differs letter other)))

one_byte : (a : ℕ) → 11 ≤ a → IsPart 2 (a ∷ [])
one_byte a x = record { clean = All-cons Other a [] (differs a x) (All-nil Other); some = omega arith; few = omega arith }

two_bytes : (a b : ℕ) → 11 ≤ a → 11 ≤ b → IsPart 2 (a ∷ b ∷ [])
two_bytes a b x y = record {
  clean = All-cons Other a (b ∷ []) (differs a x) (All-cons Other b [] (differs b y) (All-nil Other));
  some = omega arith;
  few = omega arith;
}

operator_part : (o : BinOp) → IsPart 2 (operator_text o)
operator_part op.Or = one_byte 124 (omega arith)
operator_part op.And = one_byte 38 (omega arith)
operator_part op.Eq = two_bytes 61 61 (omega arith) (omega arith)
operator_part op.Ne = two_bytes 33 61 (omega arith) (omega arith)
operator_part op.Lt = one_byte 60 (omega arith)
operator_part op.Le = two_bytes 60 61 (omega arith) (omega arith)
operator_part op.Gt = one_byte 62 (omega arith)
operator_part op.Ge = two_bytes 62 61 (omega arith) (omega arith)
operator_part op.Shl = two_bytes 60 60 (omega arith) (omega arith)
operator_part op.Shr = two_bytes 62 62 (omega arith) (omega arith)
operator_part op.Sub = one_byte 45 (omega arith)
operator_part op.Add = one_byte 43 (omega arith)
operator_part op.Rem = one_byte 37 (omega arith)
operator_part op.Mul = one_byte 42 (omega arith)
operator_part op.Div = one_byte 47 (omega arith)

increment_part : (i : Increment) → IsPart 2 (increment_text i)
increment_part increment.PreIncrement = one_byte 48 (omega arith)
increment_part increment.PreDecrement = one_byte 49 (omega arith)
increment_part increment.PostIncrement = one_byte 50 (omega arith)
increment_part increment.PostDecrement = one_byte 51 (omega arith)

pub edition_line-shape : IsLine 128 edition_line
edition_line-shape = wide 128 (omega arith) (next (letter_part 66 (differs 66 (omega arith))) (last (letter_part 50 (differs 50 (omega arith)))))

pub ival_line-shape : (strings : ℕ) → strings ≤ 2 ^ 16 → (x : Ival) → IsIvalWithin strings x → IsLine 128 (ival_line x)
ival_line-shape strings fits (ival.Number n) h = numbered 99 n (omega arith) (omega arith)
ival_line-shape strings fits (ival.Name name) h = named 120 name (omega arith) h
ival_line-shape strings fits (ival.Text offset) h = numbered 115 offset (omega arith) (omega arith)

pub instr_line-shape : (sizes : Sizes) → FitSizes sizes → (x : Instr) → IsInstrWithin sizes x → IsLine 128 (instr_line x)
instr_line-shape s fit (instr.Constant n) h = numbered 99 n (omega arith) (omega arith)
instr_line-shape s fit (instr.External name) h = named 120 name (omega arith) h
instr_line-shape s fit (instr.Automatic k) h = numbered 97 k (omega arith) (let f = fit.frame in omega arith)
instr_line-shape s fit (instr.Text offset) h = numbered 115 offset (omega arith) (let f = fit.strings in omega arith)
instr_line-shape s fit (instr.Label k) h = numbered 108 k (omega arith) (let f = fit.labels in omega arith)
instr_line-shape s fit instr.Load h = alone 118 (omega arith)
instr_line-shape s fit instr.Store h = alone 119 (omega arith)
instr_line-shape s fit (instr.Binary o) h = wide 128 (omega arith) (next (letter_part 98 (differs 98 (omega arith))) (last (operator_part o)))
instr_line-shape s fit (instr.Modify o) h = wide 128 (omega arith) (next (letter_part 109 (differs 109 (omega arith))) (last (operator_part o)))
instr_line-shape s fit instr.Negate h = alone 110 (omega arith)
instr_line-shape s fit instr.Not h = alone 104 (omega arith)
instr_line-shape s fit (instr.Increment i) h = wide 128 (omega arith) (next (letter_part 105 (differs 105 (omega arith))) (last (increment_part i)))
instr_line-shape s fit (instr.Jump place) h = numbered 106 place (omega arith) (let f = fit.code in omega arith)
instr_line-shape s fit (instr.JumpIfZero place) h = numbered 122 place (omega arith) (let f = fit.code in omega arith)
instr_line-shape s fit instr.Goto h = alone 103 (omega arith)
instr_line-shape s fit (instr.JumpIfCase value target) h =
    let v = h.0 in
    let t = h.1 in
    let f = fit.code in
    wide 128 (omega arith) (next (letter_part 101 (differs 101 (omega arith))) (next (number_part value (omega arith)) (last (number_part target (omega arith)))))
instr_line-shape s fit (instr.Call n) h = numbered 107 n (omega arith) (omega arith)
instr_line-shape s fit instr.Return h = alone 114 (omega arith)
instr_line-shape s fit instr.Pop h = alone 112 (omega arith)

pub header_text-shape : (h : Header) → IsHeaderWithin h → IsLine 128 (header_text h)
header_text-shape (header.Function name parameters s) h =
    let w = function_words parameters s h.fits in
    let a = w.parameters in
    let b = w.frame in
    let c = w.labels in
    let d = w.strings in
    let e = w.code in
    wide 128 (omega arith) (next (letter_part 70 (differs 70 (omega arith))) (next (name_part name h.named) (next (number_part parameters (omega arith))
    (next (number_part s.frame (omega arith)) (next (number_part s.labels (omega arith)) (next (number_part s.strings (omega arith)) (last (number_part s.code (omega arith)))))))))
header_text-shape (header.Simple name values strings) h =
    let w = simple_words values strings h.fits in
    let a = w.0 in
    let b = w.1 in
    wide 128 (omega arith) (next (letter_part 88 (differs 88 (omega arith))) (next (name_part name h.named) (next (number_part values (omega arith)) (last (number_part strings (omega arith))))))
header_text-shape (header.Vector name words values strings) h =
    let w = vector_words words values strings h.fits in
    let a = w.0 in
    let b = w.1 in
    let c = w.2 in
    wide 128 (omega arith) (next (letter_part 86 (differs 86 (omega arith))) (next (name_part name h.named) (next (number_part words (omega arith)) (next (number_part values (omega arith)) (last (number_part strings (omega arith)))))))
header_text-shape header.End h = alone 69 (omega arith)
