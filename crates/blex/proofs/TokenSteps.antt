-- Space, and then a token.
use Rattle.std.proofs.Common.{subst, ◌≡◌, ℕ, ◌<◌, true, false, List, [], ◌∷◌, ◌++◌, length, Option, Some, None, refl, sym, ap, ◌∙◌, arith, append_assoc, append-nil, length-append}
use Rattle.std.specs.Prelude.{option_to_list}
use Rattle.bword.specs.declared.edition.Edition.{Edition}
use Rattle.blang.specs.declared.token.Token.{Token}
use Rattle.blang.specs.declared.token.Token.TheVariants as token
use Rattle.blang.specs.declared.token.Placed.{Placed}
use Rattle.blang.specs.Cut.{Space, Word, whole, is_last, next_line, placed, piece_first, tokens_from}
use Rattle.blex.specs.Sources.{Source, GoesAfter, SourceFails, StaysAtEnd, room}
use Rattle.blex.specs.Lexing.{PassesPiece, PassesToken, piece_of, ComesAfter, IsLongest}
use Rattle.blex.proofs.Passing.{Passes-append, Breaks-after}
use Rattle.blex.proofs.ByteSteps.{Passes-then, room-falls, none_passed}
use Rattle.blex.proofs.Cutting.{tokens_from-piece, tokens_from-nil, whole-nil}
use Rattle.blex.proofs.EachPiece.{whole-blank, blank-stops}
use Rattle.blex.proofs.NameRuns.{run_keeps_line, space_blank, space_stays}
use Rattle.blex.specs.Runs.{PassesRun, is_space}
use Rattle.std.specs.List.{list_all}
use Rattle.std.proofs.lemmas.Bool.{and_parts}

-- space so far
pub record InSpace (old : Source) (line : ℕ) (new : Source) : Type 0 where
  pub bytes : List ℕ
  pub passes : GoesAfter old bytes new
  pub line_is : line ≡ new.line
  pub cut : (xs : List ℕ) → tokens_from old.edition old.line (bytes ++ xs) ≡ tokens_from old.edition new.line xs

-- space alone is followed by the end
space_end : {a b : Source} {line : ℕ} (h : InSpace a line b) → tokens_from a.edition a.line h.bytes ≡ placed token.End line ∷ []
space_end {a} {b} {line} h =
    ap (tokens_from a.edition a.line) (sym (append-nil h.bytes)) ∙ h.cut [] ∙ tokens_from-nil _ b.line ∙ ap (λ l. placed token.End l ∷ []) (sym h.line_is)

pub space_breaks : {a b m c : Source} {line first : ℕ} → InSpace a line b → GoesAfter b (first ∷ []) m → SourceFails m c → SourceFails a c
space_breaks {a} {b} {m} {c} {line} {first} h n k = Breaks-after h.passes (Breaks-after n k)

module _ {a b m c : Source} {line : ℕ} (first : ℕ) (piece : Option Token) (h : InSpace a line b) (n : GoesAfter b (first ∷ []) m) (k : PassesPiece first m piece c) where
  abbrev text : List ℕ
  text = first ∷ k.rest

  here : GoesAfter b text c
  here = Passes-append n k.passes

  passed : GoesAfter a (h.bytes ++ text) c
  passed = Passes-append h.passes here

  same_edition : m.edition ≡ a.edition
  same_edition = n.edition ∙ h.passes.edition

  piece_is : whole a.edition text ≡ Some (piece_of piece)
  piece_is = subst (λ e. whole e text ≡ Some (piece_of piece)) same_edition k.is

  -- the tokens from the piece on
  piece_cut : (xs : List ℕ) → ComesAfter piece c xs → tokens_from a.edition a.line ((h.bytes ++ text) ++ xs) ≡ piece_first (Some (piece_of piece)) line (tokens_from a.edition c.line xs)
  piece_cut xs m =
      let some : 0 < length text = omega arith in
      ap (tokens_from a.edition a.line) (append_assoc h.bytes text xs) ∙ h.cut (text ++ xs)
      ∙ tokens_from-piece _ b.line text xs (piece_of piece) some piece_is (subst (λ e. IsLongest e text xs) same_edition (k.stops xs m))
      ∙ ap (λ l. piece_first (Some (piece_of piece)) b.line (tokens_from a.edition l xs)) (sym here.line)
      ∙ ap (λ l. piece_first (Some (piece_of piece)) l (tokens_from a.edition c.line xs)) (sym h.line_is)

token_here : {a b m c : Source} {line : ℕ} (first : ℕ) (t : Token) → InSpace a line b → GoesAfter b (first ∷ []) m → PassesPiece first m (Some t) c → PassesToken a (placed t line) c
token_here {a} {b} {m} {c} {line} first t h n k = record {
  bytes = h.bytes ++ text first (Some t) h n k;
  passes = passed first (Some t) h n k;
  space = h.bytes;
  text = first ∷ k.rest;
  split = refl;
  before = space_end h;
  is = piece_is first (Some t) h n k;
  cut = piece_cut first (Some t) h n k;
}

pub space_more : {a b m c : Source} {line : ℕ} (first line' : ℕ) (piece : Option Token) → InSpace a line b → GoesAfter b (first ∷ []) m → PassesPiece first m piece c
    → line' ≡ c.line → piece ≡ None → InSpace a line' c
space_more {a} {b} {m} {c} {line} first line' (Some t) h n k e f = cc
space_more {a} {b} {m} {c} {line} first line' None h n k e f = record {
  bytes = h.bytes ++ text first None h n k;
  passes = passed first None h n k;
  line_is = e;
  cut = λ xs. piece_cut first None h n k xs tt;
}

-- a run of spaces is space
space_line : (b line : ℕ) → is_space b ≡ true → next_line line b ≡ line
space_line b line e = rw (space_stays b e) refl

space_cut : (edition : Edition) (line : ℕ) (run xs : List ℕ) → list_all is_space run ≡ true → tokens_from edition line (run ++ xs) ≡ tokens_from edition line xs
space_cut edition line [] xs e = refl
space_cut edition line (b ∷ bs) xs e =
    let both = and_parts (is_space b) (list_all is_space bs) e in
    let blank = space_blank b both.0 in
    tokens_from-piece edition line (b ∷ []) (bs ++ xs) Space (omega arith) (whole-blank edition b [] blank) (blank-stops edition b (bs ++ xs) blank)
    ∙ ap (λ l. tokens_from edition l (bs ++ xs)) (space_line b line both.0)
    ∙ space_cut edition line bs xs both.1

pub space_run : {a b c : Source} {line line' : ℕ} → InSpace a line b → PassesRun is_space b c → line' ≡ c.line → InSpace a line' c
space_run {a} {b} {c} {line} {line'} h k e = record {
  bytes = h.bytes ++ k.run;
  passes = Passes-append h.passes k.passes;
  line_is = e;
  cut = λ xs. ap (tokens_from a.edition a.line) (append_assoc h.bytes k.run xs) ∙ h.cut (k.run ++ xs) ∙ space_cut a.edition b.line k.run xs k.all
      ∙ ap (λ l. tokens_from a.edition l xs) (sym (run_keeps_line k));
}

pub token_passed : {a b m c : Source} {line : ℕ} (first : ℕ) (piece : Option Token) → InSpace a line b → GoesAfter b (first ∷ []) m → PassesPiece first m piece c
    → (t : Token) → piece ≡ Some t → PassesToken a (placed t line) c
token_passed {a} {b} {m} {c} {line} first None h n k t f = cc
token_passed {a} {b} {m} {c} {line} first (Some u) h n k t f =
    let same : u ≡ t = cc in
    rw same at (token_here first u h n k)

pub end_passed : {a b c : Source} {line : ℕ} (o : Option ℕ) → o ≡ None → InSpace a line b → GoesAfter b (option_to_list o) c × StaysAtEnd o c → PassesToken a (placed token.End line) c
end_passed {a} {b} {c} {line} o e h k =
    let none = none_passed o b c e k in
    record {
      bytes = h.bytes;
      passes = Passes-then h.passes none.0;
      space = h.bytes;
      text = [];
      split = sym (append-nil h.bytes);
      before = space_end h;
      is = whole-nil _;
      cut = λ xs m. ap (λ l. tokens_from a.edition a.line (h.bytes ++ l)) (none.1 xs m) ∙ h.cut [] ∙ tokens_from-nil _ b.line ∙ ap (λ l. placed token.End l ∷ []) (sym h.line_is);
    }

pub piece_falls : {b m c : Source} {first : ℕ} {piece : Option Token} → GoesAfter b (first ∷ []) m → PassesPiece first m piece c → room c < room b
piece_falls {b} {m} {c} {first} {piece} n k = omega (arith, room-falls n, room-falls k.passes)

-- a token that is not the last has a byte
some_text : (edition : Edition) (t : Token) (text : List ℕ) → whole edition text ≡ Some (Word t) → is_last t ≡ false → 0 < length text
some_text edition t [] e more = let end : Some (Word token.End) ≡ Some (Word t) = sym (whole-nil edition) ∙ e in let same : token.End ≡ t = cc in let last : true ≡ false = rw (← same) at more in cc
some_text edition t (b ∷ bs) e more = omega arith

pub token_falls : {a b : Source} {t : Placed} → PassesToken a t b → is_last t.token ≡ false → room b < room a
token_falls {a} {b} {t} h more =
    omega (arith, room-falls h.passes, some_text _ t.token h.text h.is more, ap length h.split, length-append h.space h.text)
