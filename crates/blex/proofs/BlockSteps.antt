-- Runs that are taken from the bytes that an end shows.
use Rattle.std.proofs.Common.{◌≡◌, ℕ, zero, suc, ◌+◌, ◌<◌, ◌≤◌, min, Bool, true, false, not, ◌&&◌, ◌==◌, List, [], ◌∷◌, ◌++◌, length, take, get_or, Option, Some, None, refl, sym, ap, ◌∙◌, arith, append_assoc, append-nil, if◌then◌else◌}
use Rattle.std.proofs.lemmas.List.Folds.{list_all_more}
use Rattle.std.specs.Prelude.{option_to_list}
use Rattle.std.specs.List.{list_all, count_by}
use Rattle.std.specs.Option.{unwrap_or}
use Rattle.std.specs.Io.{StartsWith}
use Rattle.memchr.specs.Find.{IsFirstByte, is_byte}
use Rattle.std.proofs.lemmas.List.{take-take}
use Rattle.std.proofs.lemmas.List.Sums.{sum_by-cons}
use Rattle.std.proofs.lemmas.Bool.{and_parts, not-true}
use Rattle.bword.specs.declared.edition.Edition.{Edition}
use Rattle.bword.specs.ByteEnds.{most, Incoming, TakesReady}
use Rattle.blang.specs.Cut.{after_close, line_number_after, next_line}
use Rattle.blex.specs.Sources.{Source, GoesAfter, room}
use Rattle.blex.specs.Runs.{PassesRun, is_no_star}
use Rattle.blex.proofs.Passing.{Passes-refl, Passes-append}
use Rattle.blex.proofs.ByteSteps.{room-falls}
use Rattle.blex.proofs.CommentSteps.{InComment, plain_step}

pub PassesRun-none : (p : ℕ → Bool) (s : Source) → PassesRun p s s
PassesRun-none p s = record { run = []; passes = Passes-refl s; all = refl }

pub take_shown : (ready block : List ℕ) (n : ℕ) → StartsWith ready block → n ≤ length block → take n ready ≡ take n block
take_shown ready block n h l = rw (← h) (sym (take-take n (length block) ready l))

-- bytes of the block were taken, with none ahead before it
pub block_taken : {edition : Edition} (line line' : ℕ) (lender lender' : List ℕ) (old new : Incoming) (first second : Option ℕ) (ready block : List ℕ) (n : ℕ)
    → first ≡ None → second ≡ None → StartsWith ready block → n ≤ length block → TakesReady old (take n ready) new → lender' ≡ lender → line' ≡ line_number_after line (take n block)
    → GoesAfter (record { ahead = option_to_list first ++ option_to_list second; line = line; end = old; lender = lender; edition = edition })
    (take n block) (record { ahead = option_to_list first ++ option_to_list second; line = line'; end = new; lender = lender'; edition = edition })
block_taken line line' lender lender' old new first second ready block n f s shows within takes same following = record {
  taken = take n block;
  took = rw (take_shown ready block n shows within) at takes.took;
  split = rw (f, s) (sym (append-nil (take n block)));
  line = following;
  failures = takes.failures;
  lender = same;
  edition = refl;
  near = λ l. l;
}

pub block_passes : {edition : Edition} (p : ℕ → Bool) (line line' : ℕ) (lender lender' : List ℕ) (old new : Incoming) (first second : Option ℕ) (ready block : List ℕ) (n : ℕ)
    → first ≡ None → second ≡ None → StartsWith ready block → n ≤ length block → TakesReady old (take n ready) new → lender' ≡ lender → line' ≡ line_number_after line (take n block)
    → list_all p (take n block) ≡ true
    → PassesRun p (record { ahead = option_to_list first ++ option_to_list second; line = line; end = old; lender = lender; edition = edition })
    (record { ahead = option_to_list first ++ option_to_list second; line = line'; end = new; lender = lender'; edition = edition })
block_passes p line line' lender lender' old new first second ready block n f s shows within takes same following all =
    record {
      run = take n block;
      passes = block_taken line line' lender lender' old new first second ready block n f s shows within takes same following;
      all = all;
    }

-- a line is so many newlines on
line_cases : (b : Bool) (line n : ℕ) → line ≤ most → min ((if b then min (line + 1) most else line) + n) most ≡ min (line + ((if b then 1 else 0) + n)) most
line_cases true line n h = omega arith
line_cases false line n h = omega arith

next_within : (b : Bool) (line : ℕ) → line ≤ most → (if b then min (line + 1) most else line) ≤ most
next_within true line h = omega arith
next_within false line h = h

pub line_number_after-count : (line : ℕ) (bytes : List ℕ) → line ≤ most → line_number_after line bytes ≡ min (line + count_by (λ b. b == 10) bytes) most
line_number_after-count line [] h = omega arith
line_number_after-count line (b ∷ bs) h =
    line_number_after-count (next_line line b) bs (next_within (b == 10) line h) ∙ line_cases (b == 10) line (count_by (λ x. x == 10) bs) h ∙ ap (λ n. min (line + n) most) (sym (sum_by-cons (λ x. if x == 10 then 1 else 0) b bs))

-- no star stands before the first
not_star : (b : Bool) → (b ≡ true → ⊥) → not b ≡ true
not_star true h = absurd (h refl)
not_star false h = refl

pub no_star_before : (bytes : List ℕ) (n : ℕ) → n ≤ length bytes → ((k : ℕ) → k < n → (get_or bytes k 0 == 42) ≡ true → ⊥) → list_all is_no_star (take n bytes) ≡ true
no_star_before bytes zero l h = refl
no_star_before bytes (suc n) l h =
    let before = no_star_before bytes n (omega arith) (λ k m. h k (omega arith)) in
    let here = not_star (get_or bytes n 0 == 42) (h n (omega arith)) in
    let next : n + 1 ≡ suc n = omega arith in
    let more : list_all is_no_star (take (n + 1) bytes) ≡ (list_all is_no_star (take n bytes) && is_no_star (get_or bytes n 0)) = list_all_more is_no_star bytes n 0 (omega arith) in
    rw next at more ∙ rw (before, here) refl

-- a comment doesn't end before a star
starless : (run more : List ℕ) → list_all is_no_star run ≡ true → after_close (run ++ more) ≡ after_close more
starless [] more e = refl
starless (b ∷ bs) more e =
    let both = and_parts (is_no_star b) (list_all is_no_star bs) e in
    let plain : (b == 42) ≡ false = not-true (b == 42) both.0 in
    plain_step b (bs ++ more) ∙ rw plain (starless bs more both.1)

pub comment_run : {a b c : Source} {s : Bool} → s ≡ false → InComment a s b → PassesRun is_no_star b c → InComment a s c
comment_run {a} {b} {c} {s} e h k = record {
  body = h.body ++ k.run;
  passes = Passes-append h.passes k.passes;
  rest = λ more. ap after_close (append_assoc h.body k.run more) ∙ h.rest (k.run ++ more) ∙ rw e (starless k.run more k.all);
}

pub run_falls : {p : ℕ → Bool} (a : Source) {b c : Source} → room b < room a → PassesRun p b c → room c < room a
run_falls {p} a {b} {c} l k = omega (arith, room-falls k.passes)

pub before_first_star : (bytes : List ℕ) (r : Option ℕ) (n : ℕ) → IsFirstByte (is_byte 42) bytes r → n ≡ unwrap_or r (length bytes) → list_all is_no_star (take n bytes) ≡ true
before_first_star bytes None n h e = rw e (no_star_before bytes (length bytes) (omega arith) (λ k l. h k (omega arith) l))
before_first_star bytes (Some m) n h e = rw e (no_star_before bytes m (omega (arith, h.0.high)) (λ k l. h.0.before k (omega arith) l))

pub byte_less : {a b : Source} {byte : ℕ} → GoesAfter a (byte ∷ []) b → room b < room a
byte_less {a} {b} {byte} h = omega (arith, room-falls h)
