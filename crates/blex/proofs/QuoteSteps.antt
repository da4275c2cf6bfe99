-- What the loop over a constant in quotes keeps, and what it gives.
use Rattle.std.proofs.Common.{◌≡◌, ℕ, ◌<◌, Bool, true, false, ◌==◌, ◌≢◌, List, [], ◌∷◌, ◌++◌, length, fold, Option, Some, None, refl, sym, ap, ◌∙◌, arith}
use Rattle.std.proofs.lemmas.Bool.Decides.{nat_tests}
use Rattle.std.specs.Prelude.{option_to_list}
use Rattle.std.proofs.lemmas.Bool.{ne_eqb, eq-eqb}
use Rattle.blex.proofs.CommentSteps.{stops-nil}
use Rattle.bword.specs.declared.edition.Edition.{Edition}
use Rattle.blang.specs.declared.token.Token.{Token}
use Rattle.blang.specs.declared.token.Token.TheVariants as token
use Rattle.blang.specs.declared.token.Letters.TheVariants as letters
use Rattle.blang.specs.Cut.{whole, Quoted, Open, Starred, Closed, Wrong, Past, quoted, with_quoted_byte, with_character, plain_of, escape_of, quoted_constant}
use Rattle.blex.specs.Sources.{Source, GoesAfter, StaysAtEnd}
use Rattle.blex.specs.Lexing.{PassesPiece, PassesCharacter, PassesQuoted, ReadsCharacter, IsCutOff}
use Rattle.blex.proofs.Passing.{Passes-refl, Passes-append}
use Rattle.blex.proofs.ByteSteps.{Passes-then, byte_passed, none_passed}
use Rattle.blex.proofs.EachPiece.{quoted-append, quoted-stops}

-- One character.
-- what an open constant does at a byte that isn't its quote, where there is room
open-star : (quote room : ℕ) (characters : List ℕ) → (42 == quote) ≡ false → (length characters == room) ≡ false
    → with_quoted_byte quote room (Open characters) 42 ≡ Starred characters
unfolding with_quoted_byte
open-star quote room characters e f = rw (e, f) refl

open-plain : (quote room : ℕ) (characters : List ℕ) (b : ℕ) → (b == quote) ≡ false → (length characters == room) ≡ false → b ≢ 42
    → with_quoted_byte quote room (Open characters) b ≡ with_character characters (plain_of b)
unfolding with_quoted_byte
open-plain quote room characters b e f g = rw (e, f, ne_eqb b 42 g) refl

starred : (quote room : ℕ) (characters : List ℕ) (b : ℕ) → with_quoted_byte quote room (Starred characters) b ≡ with_character characters (escape_of b)
unfolding with_quoted_byte
starred quote room characters b = refl

reads-some : (character : Option ℕ) (characters : List ℕ) (s : Source) → ReadsCharacter character characters (with_character characters character) s
reads-some None characters s = tt
reads-some (Some c) characters s = refl

pub character_plain : (first : ℕ) (s : Source) → first ≢ 42 → PassesCharacter first s (plain_of first) s
character_plain first s e = record {
  rest = [];
  passes = Passes-refl s;
  reads = λ quote room characters q f. rw (open-plain quote room characters first q f e) (reads-some (plain_of first) characters s);
}

pub character_escape : {a b : Source} (first byte : ℕ) (o : Option ℕ) → first ≡ 42 → o ≡ Some byte → GoesAfter a (option_to_list o) b × StaysAtEnd o b → PassesCharacter first a (escape_of byte) b
character_escape {a} {b} first byte o e f h = record {
  rest = byte ∷ [];
  passes = byte_passed o byte a b f h;
  reads = λ quote room characters q g.
      let q' : (42 == quote) ≡ false = rw e at q in
      rw (e, open-star quote room characters q' g, starred quote room characters byte) (reads-some (escape_of byte) characters b);
}

pub character_cut_off : {a b : Source} (first : ℕ) (o : Option ℕ) → first ≡ 42 → o ≡ None → GoesAfter a (option_to_list o) b × StaysAtEnd o b → PassesCharacter first a None b
character_cut_off {a} {b} first o e f h =
    let none = none_passed o a b f h in
    record {
      rest = [];
      passes = none.0;
      reads = λ quote room characters q g.
          let q' : (42 == quote) ≡ false = rw e at q in
          rw (e, open-star quote room characters q' g) none.1;
    }

-- The loop.
-- a constant so far
pub record InQuoted (quote room : ℕ) (old : Source) (characters : List ℕ) (new : Source) : Type 0 where
  pub run : List ℕ
  pub passes : GoesAfter old run new
  pub is : quoted quote room run ≡ Open characters

pub quoted_start : (quote room : ℕ) (s : Source) (characters : List ℕ) → characters ≡ [] → InQuoted quote room s characters s
quoted_start quote room s characters e = record { run = []; passes = Passes-refl s; is = ap Open (sym e) }

at_quote : (quote room : ℕ) (characters : List ℕ) (b : ℕ) → (b == quote) ≡ true → with_quoted_byte quote room (Open characters) b ≡ Closed characters
unfolding with_quoted_byte
at_quote quote room characters b e = rw e refl

at_full : (quote room : ℕ) (characters : List ℕ) (b : ℕ) → (b == quote) ≡ false → (length characters == room) ≡ true → with_quoted_byte quote room (Open characters) b ≡ Wrong
unfolding with_quoted_byte
at_full quote room characters b e f = rw (e, f) refl

-- what an open constant comes to after more bytes
more_quoted : {quote room : ℕ} {a b : Source} {characters : List ℕ} (h : InQuoted quote room a characters b) (xs : List ℕ) (now : Quoted)
    → fold (with_quoted_byte quote room) (Open characters) xs ≡ now → quoted quote room (h.run ++ xs) ≡ now
more_quoted {quote} {room} {a} {b} {characters} h xs now e = quoted-append quote room h.run xs ∙ ap (λ q. fold (with_quoted_byte quote room) q xs) h.is ∙ e

pub quoted_closes : {quote room : ℕ} {a b c : Source} (characters : List ℕ) (byte : ℕ) (o : Option ℕ) → o ≡ Some byte → byte ≡ quote
    → InQuoted quote room a characters b → GoesAfter b (option_to_list o) c × StaysAtEnd o c → PassesQuoted quote room a true characters c
quoted_closes {quote} {room} {a} {b} {c} characters byte o e f h k = record {
  run = h.run ++ byte ∷ [];
  passes = Passes-append h.passes (byte_passed o byte b c e k);
  ends = more_quoted h (byte ∷ []) (Closed characters) (at_quote quote room characters byte (eq-eqb byte quote f));
}

pub quoted_full : {quote room : ℕ} {a b c : Source} (characters : List ℕ) (byte : ℕ) (o : Option ℕ) → o ≡ Some byte → byte ≢ quote → length characters ≡ room
    → InQuoted quote room a characters b → GoesAfter b (option_to_list o) c × StaysAtEnd o c → PassesQuoted quote room a false characters c
quoted_full {quote} {room} {a} {b} {c} characters byte o e f full h k =
    let wrong = more_quoted h (byte ∷ []) Wrong (at_full quote room characters byte (ne_eqb byte quote f) (eq-eqb (length characters) room full)) in
    record {
      run = h.run ++ byte ∷ [];
      passes = Passes-append h.passes (byte_passed o byte b c e k);
      ends = rw wrong tt;
    }

-- the same with a character more
module _ {quote room : ℕ} {a b m c : Source} (characters : List ℕ) (byte : ℕ) (o character : Option ℕ) (e : o ≡ Some byte) (f : byte ≢ quote) (g : length characters < room)
    (h : InQuoted quote room a characters b) (k : GoesAfter b (option_to_list o) m × StaysAtEnd o m) (p : PassesCharacter byte m character c) where
  room_left : (length characters == room) ≡ false
  room_left = grind (arith, nat_tests)

  passed : GoesAfter a (h.run ++ byte ∷ p.rest) c
  passed = Passes-append h.passes (Passes-append (byte_passed o byte b m e k) p.passes)

  is_now : quoted quote room (h.run ++ byte ∷ p.rest) ≡ fold (with_quoted_byte quote room) (Open characters) (byte ∷ p.rest)
  is_now = more_quoted h (byte ∷ p.rest) (fold (with_quoted_byte quote room) (Open characters) (byte ∷ p.rest)) refl

  reads : ReadsCharacter character characters (fold (with_quoted_byte quote room) (Open characters) (byte ∷ p.rest)) c
  reads = p.reads quote room characters (ne_eqb byte quote f) room_left

  pub quoted_more : (x : ℕ) (next : List ℕ) → character ≡ Some x → next ≡ characters ++ x ∷ [] → InQuoted quote room a next c
  quoted_more x next s n =
      let opened = rw s at reads in
      record { run = h.run ++ byte ∷ p.rest; passes = passed; is = is_now ∙ opened ∙ ap Open (sym n) }

  pub quoted_wrong : character ≡ None → PassesQuoted quote room a false characters c
  quoted_wrong s =
      let wrong = rw s at reads in
      record { run = h.run ++ byte ∷ p.rest; passes = passed; ends = rw is_now wrong }

pub quoted_endless : {quote room : ℕ} {a b c : Source} {characters : List ℕ} (o : Option ℕ) → o ≡ None → InQuoted quote room a characters b
    → GoesAfter b (option_to_list o) c × StaysAtEnd o c → PassesQuoted quote room a false characters c
quoted_endless {quote} {room} {a} {b} {c} {characters} o e h k =
    let none = none_passed o b c e k in
    record { run = h.run; passes = Passes-then h.passes none.0; ends = rw h.is none.1 }

-- The constant.
module _ (quote room : ℕ) (constant : List ℕ → Token) (whole_is : (edition : Edition) (bs : List ℕ) → whole edition (quote ∷ bs) ≡ quoted_constant constant (quoted quote room bs)) where
  closed_piece : {a b : Source} (characters run : List ℕ) → GoesAfter a run b → quoted quote room run ≡ Closed characters → PassesPiece quote a (Some (constant characters)) b
  closed_piece {a} {b} characters run p e = record {
    rest = run;
    passes = p;
    is = whole_is a.edition run ∙ ap (quoted_constant constant) e;
    stops = λ xs m. quoted-stops _ quote room constant (whole_is a.edition) run xs (rw e tt);
  }

  wrong_piece : {a b : Source} (run : List ℕ) (now : Quoted) → GoesAfter a run b → quoted quote room run ≡ now → IsCutOff now b → PassesPiece quote a (Some (token.Bad letters.Constant)) b
  wrong_piece {a} {b} run (Open characters) p e h = record { rest = run; passes = p; is = whole_is a.edition run ∙ ap (quoted_constant constant) e; stops = λ xs m. stops-nil _ (quote ∷ run) xs (h xs m) }
  wrong_piece {a} {b} run (Starred characters) p e h = record { rest = run; passes = p; is = whole_is a.edition run ∙ ap (quoted_constant constant) e; stops = λ xs m. stops-nil _ (quote ∷ run) xs (h xs m) }
  wrong_piece {a} {b} run (Closed characters) p e h = absurd h
  wrong_piece {a} {b} run Wrong p e h = record { rest = run; passes = p; is = whole_is a.edition run ∙ ap (quoted_constant constant) e; stops = λ xs m. quoted-stops _ quote room constant (whole_is a.edition) run xs (rw e tt) }
  wrong_piece {a} {b} run Past p e h = absurd h

  pub constant_closed : {a b : Source} (fits : Bool) (characters : List ℕ) → fits ≡ true → PassesQuoted quote room a fits characters b
      → PassesPiece quote a (Some (constant characters)) b
  constant_closed {a} {b} false characters e h = cc
  constant_closed {a} {b} true characters e h = closed_piece characters h.run h.passes h.ends

  pub constant_wrong : {a b : Source} (fits : Bool) (characters : List ℕ) → fits ≡ false → PassesQuoted quote room a fits characters b
      → PassesPiece quote a (Some (token.Bad letters.Constant)) b
  constant_wrong {a} {b} true characters e h = cc
  constant_wrong {a} {b} false characters e h = wrong_piece h.run (quoted quote room h.run) h.passes refl h.ends
