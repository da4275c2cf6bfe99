-- What the loop over a comment keeps, and what a slash gives.
use Rattle.std.proofs.Common.{subst, ◌≡◌, ℕ, Bool, true, false, ◌&&◌, ◌==◌, ◌≢◌, List, [], ◌∷◌, ◌++◌, take, Option, Some, None, Result, Ok, Err, refl, sym, ap, ◌∙◌, append_assoc, append-nil, if◌then◌else◌, ◌⊎◌, inl, inr}
use Rattle.std.specs.Prelude.{option_to_list, is_some, IfOk}
use Rattle.blang.specs.declared.token.Token.{Token}
use Rattle.blang.specs.declared.token.Token.TheVariants as token
use Rattle.blang.specs.declared.token.Letters.TheVariants as letters
use Rattle.std.specs.Option.{option_map}
use Rattle.std.proofs.lemmas.Bool.{true≢false, ne_eqb, eqb-true}
use Rattle.bword.specs.declared.ends.Device.{Device}
use Rattle.bword.specs.declared.edition.Edition.{Edition}
use Rattle.blex.specs.declared.lexeme.Lexeme.{Lexeme}
use Rattle.blex.specs.Lexemes.{token_of_lexeme}
use Rattle.blang.specs.Cut.{is_blank, is_digit, after_close, whole}
use Rattle.blex.specs.Sources.{Source, GoesAfter, SourceFails, StaysAtEnd}
use Rattle.blex.specs.Lexing.{piece_of, PassesPiece, PassesComment, TakesIf, IsLongest, BeginsFixed}
use Rattle.bword.specs.Words.{is_name_start}
use Rattle.blex.proofs.Passing.{Passes-refl, Passes-append, Breaks-after, CanCome-none}
use Rattle.blex.proofs.ByteSteps.{Passes-then}
use Rattle.blex.proofs.EachPiece.{whole-blank, blank-stops, comment-is, comment-stops, open_comment-is, whole-fixed, whole-slash}

-- what a comment's body does to its rest: a star may begin its end
abbrev pub past_star : Bool → List ℕ → List ℕ
past_star b more = if b then 42 ∷ more else more

-- a comment so far
pub record InComment (old : Source) (after_star : Bool) (new : Source) : Type 0 where
  pub body : List ℕ
  pub passes : GoesAfter old body new
  pub rest : (more : List ℕ) → after_close (body ++ more) ≡ after_close (past_star after_star more)

-- one blank
pub piece_blank : (b : ℕ) (s : Source) → is_blank b ≡ true → PassesPiece b s None s
piece_blank b s e = record { rest = []; passes = Passes-refl s; is = whole-blank _ b [] e; stops = λ xs k. blank-stops _ b xs e }

-- what begins no other kind of piece
pub fixed_begins : (b : ℕ) (s : Source) → is_blank b ≡ false → is_name_start b ≡ false → is_digit b ≡ false → b ≢ 39 → b ≢ 34 → b ≢ 47 → BeginsFixed b s
fixed_begins b s e f g h i j = record { whole_is = λ xs m n. whole-fixed _ b (take n xs) e f g h i j }

pub slash_begins : (a b : Source) (o : Option ℕ) → is_some o ≡ false → TakesIf (λ b. b == 42) a o b → BeginsFixed 47 b
slash_begins a b (Some x) e h = cc
slash_begins a b None e h = record { whole_is = λ xs m n. whole-slash _ n xs (h.1 xs m) }

pub no_star : (a b : Source) (o : Option ℕ) → is_some o ≡ false → TakesIf (λ b. b == 42) a o b → GoesAfter a [] b
no_star a b (Some x) e h = cc
no_star a b None e h = h.0

-- a piece after a look at no byte
pub piece_after : {a b c : Source} {first : ℕ} {piece : Option Token} → GoesAfter a [] b → PassesPiece first b piece c → PassesPiece first a piece c
piece_after {a} {b} {c} {first} {piece} h k = record {
  rest = k.rest;
  passes = Passes-append h k.passes;
  is = subst (λ e. whole e (first ∷ k.rest) ≡ Some (piece_of piece)) h.edition k.is;
  stops = λ xs m. subst (λ e. IsLongest e (first ∷ k.rest) xs) h.edition (k.stops xs m);
}

star_passed : (a b : Source) (o : Option ℕ) → is_some o ≡ true → TakesIf (λ b. b == 42) a o b → GoesAfter a (42 ∷ []) b
star_passed a b None e h = cc
star_passed a b (Some x) e h = let star : x ≡ 42 = eqb-true x 42 h.1 in rw star at h.0

pub star_breaks : (a b c : Source) (o : Option ℕ) → is_some o ≡ true → TakesIf (λ b. b == 42) a o b → SourceFails b c → SourceFails a c
star_breaks a b c o e h k = Breaks-after (star_passed a b o e h) k

pub piece_comment : (a b c : Source) (o : Option ℕ) (ended : Bool) → is_some o ≡ true → TakesIf (λ b. b == 42) a o b → PassesComment b ended c → ended ≡ true → PassesPiece 47 a None c
piece_comment a b c o ended e h k t =
    record { rest = 42 ∷ k.body; passes = Passes-append (star_passed a b o e h) k.passes; is = comment-is _ k.body (k.ends t); stops = λ xs m. comment-stops _ k.body xs (k.ends t) }

pub stops-nil : (edition : Edition) (text xs : List ℕ) → xs ≡ [] → IsLongest edition text xs
stops-nil edition text [] e = tt
stops-nil edition text (x ∷ xs) e = cc

pub piece_open : (a b c : Source) (o : Option ℕ) (ended : Bool) → is_some o ≡ true → TakesIf (λ b. b == 42) a o b → PassesComment b ended c → ended ≡ false → PassesPiece 47 a (Some (token.Bad letters.OpenComment)) c
piece_open a b c o ended e h k t =
    let endless = k.endless t in
    record { rest = 42 ∷ k.body; passes = Passes-append (star_passed a b o e h) k.passes; is = open_comment-is _ k.body endless.0; stops = λ xs m. stops-nil _ (47 ∷ 42 ∷ k.body) xs (endless.1 xs m) }

-- a comment's body
nothing : (s : Bool) → None ≡ after_close (past_star s [])
nothing true = refl
nothing false = refl

plain_cases : (s : Bool) (b c : ℕ) (cs : List ℕ) → (b == 42) ≡ s → (if (b == 42) && (c == 47) then Some cs else after_close (c ∷ cs)) ≡ after_close (past_star s (c ∷ cs))
plain_cases true b c cs e = rw e refl
plain_cases false b c cs e = rw e refl

pub plain_step : (b : ℕ) (more : List ℕ) → after_close (b ∷ more) ≡ after_close (past_star (b == 42) more)
plain_step b [] = nothing (b == 42)
plain_step b (c ∷ cs) = plain_cases (b == 42) b c cs refl

comment_step : (s : Bool) (b : ℕ) (more : List ℕ) → (s ≡ true → b ≡ 47 → ⊥) → after_close (past_star s (b ∷ more)) ≡ after_close (past_star (b == 42) more)
comment_step true b more h = rw (ne_eqb b 47 (h refl)) (plain_step b more)
comment_step false b more h = plain_step b more

pub comment_more : {a b c : Source} {s : Bool} (byte : ℕ) → InComment a s b → GoesAfter b (byte ∷ []) c → (s ≡ true → byte ≡ 47 → ⊥) → InComment a (byte == 42) c
comment_more {a} {b} {c} {s} byte h k n = record {
  body = h.body ++ byte ∷ [];
  passes = Passes-append h.passes k;
  rest = λ more. rw (append_assoc h.body (byte ∷ []) more) (h.rest (byte ∷ more) ∙ comment_step s byte more n);
}

slash_ends : (byte : ℕ) → byte ≡ 47 → after_close (42 ∷ byte ∷ []) ≡ Some []
slash_ends byte e = rw e refl

pub comment_ends : {a b c : Source} (byte : ℕ) → InComment a true b → GoesAfter b (byte ∷ []) c → byte ≡ 47 → PassesComment a true c
comment_ends {a} {b} {c} byte h k e = record {
  body = h.body ++ byte ∷ [];
  passes = Passes-append h.passes k;
  ends = λ _. h.rest (byte ∷ []) ∙ slash_ends byte e;
  endless = λ f. absurd (true≢false f);
}

pub not_both : (s : Bool) (byte : ℕ) → ((s ≡ true) × (byte ≢ 47)) ⊎ (s ≡ false) → s ≡ true → byte ≡ 47 → ⊥
not_both s byte (inl h) e f = h.1 f
not_both s byte (inr h) e f = cc

pub comment_endless : {a b c : Source} {s : Bool} (o : Option ℕ) → o ≡ None → InComment a s b → GoesAfter b (option_to_list o) c × StaysAtEnd o c → PassesComment a false c
comment_endless {a} {b} {c} {s} (Some x) n h k = cc
comment_endless {a} {b} {c} {s} None n h k = record {
  body = h.body;
  passes = Passes-then h.passes k.0;
  ends = λ f. absurd (true≢false (sym f));
  endless = λ _. (sym (ap after_close (append-nil h.body)) ∙ h.rest [] ∙ sym (nothing s), λ xs m. CanCome-none c xs k.1 m);
}

-- what a slash gives, for one list of characters
pub slash_found : (a b : Source) (first : ℕ) (r : Result (Option Lexeme) Device) (xs : List ℕ) → first ≡ 47
    → IfOk r (λ found. (characters : List ℕ) → PassesPiece 47 a (option_map (λ l. token_of_lexeme l characters) found) b)
    → IfOk r (λ found. PassesPiece first a (option_map (λ l. token_of_lexeme l xs) found) b)
slash_found a b first (Ok found) xs e h = rw e (h xs)
slash_found a b first (Err fault) xs e h = tt
