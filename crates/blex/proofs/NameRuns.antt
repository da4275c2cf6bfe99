-- Bytes of a name that are taken from those that an end shows.
use Rattle.std.proofs.Common.{◌≡◌, ℕ, suc, ◌+◌, ◌*◌, ◌%◌, ◌^◌, ◌<◌, ◌≤◌, min, Bool, true, false, not, ◌==◌, cond, List, [], ◌∷◌, ◌++◌, length, take, get_or, Option, Some, None, refl, sym, ap, ◌∙◌, arith}
use Rattle.std.proofs.lemmas.Bool.Decides.{nat_tests}
use Rattle.std.proofs.lemmas.List.{length-take, take_more}
use Rattle.std.specs.Prelude.{nat_lt, option_to_list, position}
use Rattle.std.proofs.lemmas.List.Folds.{list_all_more}
use Rattle.std.specs.Io.{StartsWith}
use Rattle.std.specs.List.{list_all, prefix_len}
use Rattle.std.specs.Option.{unwrap_or}
use Rattle.std.proofs.lemmas.Bool.{and_parts}
use Rattle.std.proofs.Math.Bool.{not-not}
use Rattle.bword.specs.ByteEnds.{most, Incoming, TakesReady}
use Rattle.bword.specs.Words.{is_name_byte}
use Rattle.bword.specs.declared.edition.Edition.{Edition}
use Rattle.blex.specs.Runs.{PassesRun, EndsName, TakesName, number_through, is_space}
use Rattle.blex.specs.Lexing.{EndsRun}
use Rattle.blex.specs.declared.spelling.Spelling.{Spelling}
use Rattle.blex.specs.Sources.{Source}
use Rattle.blang.specs.Cut.{is_blank, line_number_after, next_line}
use Rattle.blex.proofs.BlockSteps.{take_shown, block_taken, block_passes}

-- as many bytes as come before the first that doesn't pass
run_len : (ℕ → Bool) → List ℕ → ℕ
run_len p bytes = prefix_len (λ b. not (not (p b))) bytes

run_bytes : (p : ℕ → Bool) (bytes : List ℕ) → (list_all p (take (run_len p bytes) bytes) ≡ true) × (run_len p bytes ≤ length bytes)
unfolding run_len
run_bytes p [] = (refl, omega arith)
run_bytes p (b ∷ bs) = by (p b) refl (run_bytes p bs)
  where
    by : (t : Bool) → p b ≡ t
        → (list_all p (take (run_len p bs) bs) ≡ true) × (run_len p bs ≤ length bs)
        → (list_all p (take (run_len p (b ∷ bs)) (b ∷ bs)) ≡ true) × (run_len p (b ∷ bs) ≤ length (b ∷ bs))
    by true e h =
        let n : run_len p (b ∷ bs) ≡ suc (run_len p bs) = rw e (omega arith) in
        rw n (rw (e, h.0) refl, omega (arith, h.1))
    by false e h = let n : run_len p (b ∷ bs) ≡ 0 = rw e refl in rw n (refl, omega arith)

found_or_all : (n m : ℕ) → n ≤ m → unwrap_or (cond (nat_lt n m) (Some n) None) m ≡ n
found_or_all n m h = by (nat_lt n m) refl
  where
    by : (t : Bool) → nat_lt n m ≡ t → unwrap_or (cond t (Some n) None) m ≡ n
    by true e = refl
    by false e = grind (arith, nat_tests)

pub run_end : (p : ℕ → Bool) (bytes : List ℕ) (r : Option ℕ) (n : ℕ) → r ≡ position (λ b. not (p b)) bytes → n ≡ unwrap_or r (length bytes)
    → (list_all p (take n bytes) ≡ true) × (n ≤ length bytes)
unfolding run_len
run_end p bytes r n e f =
    let h = run_bytes p bytes in
    let same : n ≡ run_len p bytes = f ∙ ap (λ o. unwrap_or o (length bytes)) e ∙ found_or_all (run_len p bytes) (length bytes) h.1 in
    rw same h

run_is : (p : ℕ → Bool) (bytes : List ℕ) → run_len p bytes ≡ prefix_len p bytes
unfolding run_len
run_is p [] = refl
run_is p (b ∷ bs) = rw (not-not (p b), run_is p bs) refl

pub run_place : (p : ℕ → Bool) (bytes : List ℕ) (r : Option ℕ) (n : ℕ) → r ≡ position (λ b. not (p b)) bytes → n ≡ unwrap_or r (length bytes) → n ≡ prefix_len p bytes
unfolding run_len
run_place p bytes r n e f = f ∙ ap (λ o. unwrap_or o (length bytes)) e ∙ found_or_all (run_len p bytes) (length bytes) (run_bytes p bytes).1 ∙ run_is p bytes

-- no line ends in bytes of which none is a newline
run_line : (p : ℕ → Bool) → ((b : ℕ) → p b ≡ true → (b == 10) ≡ false) → (line : ℕ) (bytes : List ℕ) → list_all p bytes ≡ true → line_number_after line bytes ≡ line
run_line p other line [] e = refl
run_line p other line (b ∷ bs) e =
    let both = and_parts (p b) (list_all p bs) e in
    let same : next_line line b ≡ line = rw (other b both.0) refl in
    ap (λ l. line_number_after l bs) same ∙ run_line p other line bs both.1

name_stays : (b : ℕ) → is_name_byte b ≡ true → (b == 10) ≡ false
name_stays b e = grind (arith, nat_tests)

pub space_stays : (b : ℕ) → is_space b ≡ true → (b == 10) ≡ false
space_stays b e = grind (arith, nat_tests)

pub space_blank : (b : ℕ) → is_space b ≡ true → is_blank b ≡ true
space_blank b e = grind (arith, nat_tests)

pub number_through-append : (n : ℕ) (xs ys : List ℕ) → number_through n (xs ++ ys) ≡ number_through (number_through n xs) ys
number_through-append n [] ys = refl
number_through-append n (x ∷ xs) ys = number_through-append ((n * 256 + x) % 2 ^ 64) xs ys

-- a name goes on with the bytes before a place, which the number took
pub record GoesOnTo (bytes : List ℕ) (old at new : ℕ) : Type 0 where
  pub within : at ≤ length bytes
  pub all : list_all is_name_byte (take at bytes) ≡ true
  pub number : new ≡ number_through old (take at bytes)

pub goes_on_none : (bytes : List ℕ) (n : ℕ) → GoesOnTo bytes n 0 n
goes_on_none bytes n = record { within = omega arith; all = refl; number = refl }

pub goes_on_more : {bytes : List ℕ} {old at n m : ℕ} (byte : ℕ) → GoesOnTo bytes old at n → at < length bytes → byte ≡ get_or bytes at 0 → is_name_byte byte ≡ true → m ≡ (n * 256 + byte) % 2 ^ 64
    → GoesOnTo bytes old (at + 1) m
goes_on_more {bytes} {old} {at} {n} {m} byte h l e f g =
    let here : is_name_byte (get_or bytes at 0) ≡ true = rw e at f in
    record {
      within = omega (arith, l);
      all = list_all_more is_name_byte bytes at 0 l ∙ rw (h.all, here) refl;
      number = g ∙ ap (λ k. (k * 256 + byte) % 2 ^ 64) h.number
          ∙ ap (λ b. (number_through old (take at bytes) * 256 + b) % 2 ^ 64) e
          ∙ sym (number_through-append old (take at bytes) (get_or bytes at 0 ∷ []))
          ∙ ap (number_through old) (sym (take_more bytes at 0 l));
    }

pub goes_on_stops : {bytes : List ℕ} {old at n : ℕ} (byte : ℕ) → GoesOnTo bytes old at n → at < length bytes → byte ≡ get_or bytes at 0 → is_name_byte byte ≡ false → EndsName bytes old (Some at) n
goes_on_stops {bytes} {old} {at} {n} byte h l e f = record { all = h.all; other = (l, rw e at f); number = h.number }

pub goes_on_over : {bytes : List ℕ} {old at n : ℕ} → GoesOnTo bytes old at n → length bytes ≤ at → EndsName bytes old None n
goes_on_over {bytes} {old} {at} {n} h l =
    let m = h.within in
    let whole : at ≡ length bytes = omega (arith, l, m) in
    record { all = rw whole at h.all; other = tt; number = rw whole at h.number }

other_next : (byte : ℕ) (more xs : List ℕ) → is_name_byte byte ≡ false → xs ≡ byte ∷ more → EndsRun is_name_byte xs
other_next byte more [] e g = tt
other_next byte more (x ∷ xs) e g = let here : x ≡ byte = cc in rw here e

module _ (edition : Edition) (line : ℕ) (lender lender' : List ℕ) (old new : Incoming) (first second : Option ℕ) (ready block : List ℕ) (f : first ≡ None) (s : second ≡ None)
    (shows : StartsWith ready block) (same : lender' ≡ lender) (v w : Spelling) where
  abbrev pub source : Option ℕ → Incoming → List ℕ → Source
  source o end lent = record { ahead = option_to_list o ++ option_to_list second; line = line; end = end; lender = lent; edition = edition }

  -- the name goes on with all bytes of the block
  pub name_goes_on : EndsName block v.number None w.number → TakesReady old (take (length block) ready) new
      → w.len ≡ min (v.len + length block) most → TakesName (source first old lender) v false (source first new lender') w
  name_goes_on h takes len = record {
    run = take (length block) block;
    passes = block_taken line line lender lender' old new first second ready block (length block) f s shows (omega arith) takes same (sym (run_line is_name_byte name_stays line (take (length block) block) h.all));
    bytes = h.all;
    number = h.number;
    short = λ l. let size = length-take (length block) block in omega (arith, len, size, l);
    long = λ l. let size = length-take (length block) block in omega (arith, len, size, l);
    ends = λ e. cc;
  }

  -- the name ends in the block
  pub name_stops : (n byte : ℕ) → EndsName block v.number (Some n) w.number → byte ≡ get_or block n 0 → TakesReady old (take (n + 1) ready) new
      → w.len ≡ min (v.len + n) most → TakesName (source first old lender) v true (source (Some byte) new lender') w
  name_stops n byte h is_byte takes len =
      let within = h.other.0 in
      let other : is_name_byte byte ≡ false = rw is_byte h.other.1 in
      record {
        run = take n block;
        passes = record {
          taken = take (n + 1) block;
          took = rw (take_shown ready block (n + 1) shows (omega (arith, within))) at takes.took;
          split = rw (f, s) (take_more block n 0 within ∙ ap (λ b. take n block ++ b ∷ []) (sym is_byte));
          line = sym (run_line is_name_byte name_stays line (take n block) h.all);
          failures = takes.failures;
          lender = same;
          edition = refl;
          near = λ l. rw s (omega arith);
        };
        bytes = h.all;
        number = h.number;
        short = λ l. let size = length-take n block in omega (arith, len, size, within, l);
        long = λ l. let size = length-take n block in omega (arith, len, size, within, l);
        ends = λ _ xs m. other_next byte m.more xs other (m.split ∙ ap (λ l. (byte ∷ l) ++ m.more) (ap option_to_list s));
      }

pub spaces_block : {edition : Edition} (line : ℕ) (lender lender' : List ℕ) (old new : Incoming) (first second : Option ℕ) (ready block : List ℕ) (r : Option ℕ) (n : ℕ)
    → first ≡ None → second ≡ None → StartsWith ready block → TakesReady old (take n ready) new → lender' ≡ lender
    → r ≡ position (λ b. not (is_space b)) block → n ≡ unwrap_or r (length block)
    → PassesRun is_space (record { ahead = option_to_list first ++ option_to_list second; line = line; end = old; lender = lender; edition = edition })
    (record { ahead = option_to_list first ++ option_to_list second; line = line; end = new; lender = lender'; edition = edition })
spaces_block {edition} line lender lender' old new first second ready block r n f s shows takes same found whole =
    let h = run_end is_space block r n found whole in
    block_passes is_space line line lender lender' old new first second ready block n f s shows h.1 takes same (sym (run_line is_space space_stays line (take n block) h.0)) h.0

-- a run of spaces ends no line
pub run_keeps_line : {a b : Source} → PassesRun is_space a b → b.line ≡ a.line
run_keeps_line {a} {b} h = h.passes.line ∙ run_line is_space space_stays a.line h.run h.all
