-- What is kept of a word's bytes, and what a word gives.
use Rattle.std.proofs.Common.{◌≡◌, ℕ, suc, ◌+◌, ◌*◌, ◌%◌, ◌^◌, ◌<◌, ◌≤◌, min, Bool, true, false, List, [], ◌∷◌, ◌++◌, length, Option, Some, None, refl, sym, ap, ◌∙◌, arith, append_assoc, append-nil, length-append}
use Rattle.std.proofs.lemmas.Bool.Decides.{nat_tests}
use Rattle.std.proofs.lemmas.List.Folds.{list_all-append}
use Rattle.std.specs.Prelude.{nat_le}
use Rattle.std.specs.Int.{bytes_high_first}
use Rattle.std.specs.List.{list_all}
use Rattle.std.proofs.lemmas.Bool.{and_parts}
use Rattle.bword.specs.ByteEnds.{most}
use Rattle.bword.specs.Words.{is_name, is_name_start, is_name_byte}
use Rattle.bword.specs.declared.edition.Edition.{Edition}
use Rattle.bword.proofs.NameBytes.{bytes_next, bytes_wrap}
use Rattle.blang.specs.declared.token.Token.{Token}
use Rattle.blang.specs.declared.token.Token.TheVariants as token
use Rattle.blang.specs.declared.token.Letters.TheVariants as letters
use Rattle.blang.specs.Cut.{Word, word_token}
use Rattle.blex.specs.Runs.{TakesName, number_through}
use Rattle.blex.specs.declared.spelling.Spelling.{Spelling}
use Rattle.blex.specs.Sources.{Source, GoesAfter}
use Rattle.blex.specs.Lexing.{PassesPiece, TakesIf}
use Rattle.blex.proofs.Passing.{Passes-refl, Passes-append}
use Rattle.blex.proofs.ByteSteps.{Passes-then}
use Rattle.blex.proofs.NameRuns.{number_through-append}
use Rattle.blex.proofs.EachPiece.{word-is, word-stops}

differ : {P : Type 0} → false ≡ true → P
differ {P} e = cc

pub TakesName-none : (s : Source) (w : Spelling) → TakesName s w false s w
TakesName-none s w = record {
  run = [];
  passes = Passes-refl s;
  bytes = refl;
  number = refl;
  short = λ l. omega arith;
  long = λ l. omega (arith, l);
  ends = λ e. differ e;
}

both_long : (v m n k w : ℕ) → (8 < w → 8 < v + m) → (w ≤ 8 → w ≡ v + m) → 8 < w + n → k ≡ m + n → 8 < v + k
both_long v m n k w long short l e = by (nat_le w 8) refl
  where
    by : (b : Bool) → nat_le w 8 ≡ b → 8 < v + k
    by true t =
        let few : w ≤ 8 = grind (arith, nat_tests) in
        let same = short few in omega (arith, same, l, e)
    by false t =
        let many : 8 < w = grind (arith, nat_tests) in
        let more = long many in omega (arith, more, e)

pub names_append : {a b c : Source} {v w x : Spelling} {o p : Bool} → TakesName a v o b w → TakesName b w p c x → TakesName a v p c x
names_append {a} {b} {c} {v} {w} {x} {o} {p} h k =
    let size = length-append h.run k.run in
    record {
      run = h.run ++ k.run;
      passes = Passes-append h.passes k.passes;
      bytes = rw (list_all-append is_name_byte h.run k.run, h.bytes, k.bytes) refl;
      number = k.number ∙ ap (λ n. number_through n k.run) h.number ∙ sym (number_through-append v.number h.run k.run);
      short = λ l. let m = k.short l in let n = h.short (omega (arith, m, l)) in omega (arith, m, n, size);
      long = λ l. both_long v.len (length h.run) (length k.run) _ w.len h.long h.short (k.long l) size;
      ends = k.ends;
    }

pub name_more : {a b c : Source} {v w x : Spelling} (o : Option ℕ) (byte : ℕ) → o ≡ Some byte → TakesName a v false b w → TakesIf is_name_byte b o c
    → x.number ≡ (w.number * 256 + byte) % 2 ^ 64 → x.len ≡ min (w.len + 1) most → TakesName a v false c x
name_more {a} {b} {c} {v} {w} {x} None byte e h k n l = cc
name_more {a} {b} {c} {v} {w} {x} (Some y) byte e h k n l =
    let same : y ≡ byte = cc in
    let here : GoesAfter b (byte ∷ []) c = rw same at k.0 in
    let byte_is : is_name_byte byte ≡ true = rw same at k.1 in
    names_append h (record { run = byte ∷ []; passes = here; bytes = rw byte_is refl; number = n; short = λ m. omega (arith, l, m); long = λ m. omega (arith, l, m); ends = λ e. differ e })

pub name_over : {a b c : Source} {v w : Spelling} (o : Option ℕ) → o ≡ None → TakesName a v false b w → TakesIf is_name_byte b o c → TakesName a v true c w
name_over {a} {b} {c} {v} {w} (Some y) e h k = cc
name_over {a} {b} {c} {v} {w} None e h k = record {
  run = h.run;
  passes = Passes-then h.passes k.0;
  bytes = h.bytes;
  number = h.number;
  short = h.short;
  long = h.long;
  ends = λ _. k.1;
}

byte_fits : (b : ℕ) → is_name_byte b ≡ true → b < 256
byte_fits b e = grind (arith, nat_tests)

start_fits : (b : ℕ) → is_name_start b ≡ true → b < 256
start_fits b e = grind (arith, nat_tests)

-- up to eight bytes are kept as they are
spelled : (text run : List ℕ) (n : ℕ) → bytes_high_first (length text) n ≡ text → list_all is_name_byte run ≡ true → length text + length run ≤ 8
    → bytes_high_first (length text + length run) (number_through n run) ≡ text ++ run
spelled text [] n e f l = let same : length text + 0 ≡ length text = omega arith in rw (same, append-nil text) e
spelled text (b ∷ bs) n e f l =
    let both = and_parts (is_name_byte b) (list_all is_name_byte bs) f in
    let one : bytes_high_first (suc (length text)) ((n * 256 + b) % 2 ^ 64) ≡ text ++ b ∷ [] =
    bytes_wrap (suc (length text)) (n * 256 + b) (omega (arith, l)) ∙ bytes_next (length text) n b (byte_fits b both.0) ∙ ap (λ t. t ++ b ∷ []) e in
    let size : length (text ++ b ∷ []) ≡ suc (length text) = omega (arith, length-append text (b ∷ [])) in
    let more = spelled (text ++ b ∷ []) bs ((n * 256 + b) % 2 ^ 64) (rw size one) both.1 (omega (arith, l, size)) in
    let sum : length text + length (b ∷ bs) ≡ length (text ++ b ∷ []) + length bs = omega (arith, size) in
    rw sum (more ∙ append_assoc text (b ∷ []) bs)

module _ {first : ℕ} {a b : Source} {v w : Spelling} {o : Bool} (is_one : (v.number ≡ first) × (v.len ≡ 1)) (start : is_name_start first ≡ true) (h : TakesName a v o b w) where
  size : w.len ≤ 8 → w.len ≡ 1 + length h.run
  size l = let m = h.short l in let n = is_one.1 in omega (arith, m, n)

  -- the text of a word that isn't too long
  pub word_spelled : w.len ≤ 8 → bytes_high_first w.len w.number ≡ first ∷ h.run
  word_spelled l =
      let small = start_fits first start in
      let one : bytes_high_first 1 first ≡ first ∷ [] = let same : first % 256 ≡ first = omega (arith, small) in ap (λ x. x ∷ []) same in
      let number : w.number ≡ number_through first h.run = h.number ∙ ap (λ n. number_through n h.run) is_one.0 in
      let few = size l in
      rw (few, number) (spelled (first ∷ []) h.run first one h.bytes (omega (arith, l, few)))

  pub word_name : w.len ≤ 8 → is_name (bytes_high_first w.len w.number) ≡ true
  word_name l =
      let few = size l in
      let le : nat_le (length h.run) 7 ≡ true = grind (arith, nat_tests) in
      rw (word_spelled l, start, le, h.bytes) refl

  word_piece : (t : Token) → o ≡ true → word_token a.edition (first ∷ h.run) ≡ t → PassesPiece first a (Some t) b
  word_piece t e f = record {
    rest = h.run;
    passes = h.passes;
    is = word-is _ first h.run start h.bytes ∙ ap (λ u. Some (Word u)) f;
    stops = λ xs m. word-stops _ first h.run xs start (h.ends e xs m);
  }

  too_long : (edition : Edition) (text : List ℕ) → 8 < length text → word_token edition text ≡ token.Bad letters.LongName
  unfolding word_token
  too_long edition text l = let m : nat_le (length text) 8 ≡ false = grind (arith, nat_tests) in rw m refl

  pub word_long : o ≡ true → 8 < w.len → PassesPiece first a (Some (token.Bad letters.LongName)) b
  word_long e l =
      let m = h.long l in let n = is_one.1 in
      word_piece _ e (too_long _ (first ∷ h.run) (omega (arith, m, n)))

  pub word_short : (t : Token) → o ≡ true → w.len ≤ 8 → t ≡ word_token b.edition (bytes_high_first w.len w.number) → PassesPiece first a (Some t) b
  word_short t e l f =
      word_piece t e (ap (word_token a.edition) (sym (word_spelled l)) ∙ ap (λ d. word_token d (bytes_high_first w.len w.number)) (sym h.passes.edition) ∙ sym f)
