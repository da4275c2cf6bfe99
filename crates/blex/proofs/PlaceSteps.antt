-- Where the pieces of a source in memory stand.
use Rattle.std.proofs.Common.{subst, ◌≡◌, ◌≢◌, ℕ, zero, suc, ◌+◌, ◌-◌, ◌<◌, ◌≤◌, Bool, true, false, List, [], ◌∷◌, ◌++◌, length, take, drop, Option, Some, None, Result, Ok, Err, IfOk, OnErr, refl, sym, ap, ◌∙◌, arith, append_assoc, length-append, length-drop}
use Rattle.std.proofs.Math.Seq.{take-add, take-append_seam}
use Rattle.std.proofs.lemmas.List.{drop-drop, drop_all}
use Rattle.std.proofs.lemmas.List.Sums.{prefix_len-le-length}
use Rattle.std.specs.Prelude.{if◌then◌else◌, is_some, min, option_to_list, slice_range}
use Rattle.std.specs.List.{prefix_len}
use Rattle.std.specs.Option.{option_map}
use Rattle.std.specs.Io.KnownBytes.{Consumes}
use mir.Val.{bool_byte}
use Rattle.bword.specs.declared.edition.Edition.{Edition}
use Rattle.bword.specs.ByteEnds.{Unread, incoming_of, most}
use Rattle.blang.specs.declared.token.Token.{Token}
use Rattle.blang.specs.declared.token.Token.TheVariants as token
use Rattle.blang.specs.Cut.{Piece, Space, Word, cut, greatest, is_blank, line_number_after, longest, next_line, piece_first, tokens_from, whole}
use Rattle.blex.specs.declared.lexeme.Lexeme.{Lexeme}
use Rattle.blex.specs.declared.lexeme.Lexeme.TheVariants as lexeme
use Rattle.blex.specs.Lexemes.{token_of_lexeme}
use Rattle.blex.specs.Lexing.{ComesAfter, IsLongest, PassesPiece, piece_of}
use Rattle.blex.specs.declared.scanner.PlacedPiece.{PlacedPiece}
use Rattle.blex.specs.Places.{Finds, PassesFirst, PlacesOfTokens, Scanner, after_blanks, line_at, piece_end, piece_from, piece_lexeme, placed_piece, next_piece}
use Rattle.blex.specs.Sources.{Source, GoesAfter, StaysAtEnd, CanCome, HasLeft}
use Rattle.blex.proofs.ByteSteps.{none_passed}
use Rattle.blex.proofs.Cutting.{cut-fuel, longest-text, piece_first-same, shorter, tokens_from-piece, whole-nil}
use Rattle.blex.proofs.EachPiece.{blank-stops, whole-blank}
use Rattle.blex.proofs.LexemeSteps.{lexeme_back}
use Rattle.blex.proofs.Passing.{Passes-append, line_number_after-append}

-- what is left of a source in memory
flag_length : (o : Option ℕ) → bool_byte (is_some o) ≡ length (option_to_list o)
flag_length None = refl
flag_length (Some b) = refl

pub has_left : (m : Unread) (first second : Option ℕ) (line count : ℕ) (lender : List ℕ) (edition : Edition) → (m.is_over ≡ true → m.left ≡ [])
    → count ≡ min (length m.left + (bool_byte (is_some first) + bool_byte (is_some second))) most
    → HasLeft (record { ahead = option_to_list first ++ option_to_list second; line = line; end = incoming_of m; lender = lender; edition = edition }) count
has_left m first second line count lender edition over e = record {
  rest = m.left;
  left = refl;
  over = over;
  failures = refl;
  count_is = e ∙ ap (λ n. min (length m.left + n) most) (omega (arith, flag_length first, flag_length second) ∙ sym (length-append (option_to_list first) (option_to_list second)));
}

-- the line of a place so many bytes on
pub line_on : (source : List ℕ) (at n : ℕ) → line_number_after (line_at source at) (take n (drop at source)) ≡ line_at source (at + n)
line_on source at n = sym (line_number_after-append 1 (take at source) (take n (drop at source))) ∙ ap (line_number_after 1) (sym (take-add at n source))

-- blanks stand in a source
pub blanks_within : (source : List ℕ) (at : ℕ) → at ≤ length source → after_blanks source at ≤ length source
blanks_within source at h = omega (arith, prefix_len-le-length is_blank (drop at source), length-drop at source)

-- the end is passed as a piece
stops_at_end : (edition : Edition) (xs : List ℕ) → xs ≡ [] → IsLongest edition [] xs
stops_at_end edition [] e = tt
stops_at_end edition (x ∷ xs) e = cc

pub first_end : (a b : Source) (o : Option ℕ) → o ≡ None → GoesAfter a (option_to_list o) b × StaysAtEnd o b → PassesFirst a (Some lexeme.End) b
first_end a b o e h =
    let none = none_passed o a b e h in
    record {
      text = [];
      passes = none.0;
      piece = Word token.End;
      is = whole-nil a.edition;
      lexeme_is = refl;
      stops = λ xs c. stops_at_end a.edition xs (none.1 xs c);
    }

-- a comment or a token is passed
lexeme_found : (characters : List ℕ) (found : Option Lexeme) → found ≡ piece_lexeme (Some (piece_of (option_map (λ l. token_of_lexeme l characters) found)))
lexeme_found characters None = refl
lexeme_found characters (Some l) = ap (λ x. Some x) (sym (lexeme_back l characters))

may_come : (piece : Option Token) (source : Source) (xs : List ℕ) → CanCome source xs → ComesAfter piece source xs
may_come None source xs c = tt
may_come (Some t) source xs c = c

pub first_found : (a m b : Source) (first : ℕ) (characters : List ℕ) (found : Option Lexeme) → GoesAfter a (first ∷ []) m
    → PassesPiece first m (option_map (λ l. token_of_lexeme l characters) found) b → PassesFirst a found b
first_found a m b first characters found n k =
    let piece = option_map (λ l. token_of_lexeme l characters) found in
    record {
      text = first ∷ k.rest;
      passes = Passes-append n k.passes;
      piece = piece_of piece;
      is = subst (λ e. whole e (first ∷ k.rest) ≡ Some (piece_of piece)) n.edition k.is;
      lexeme_is = lexeme_found characters found;
      stops = λ xs c. subst (λ e. IsLongest e (first ∷ k.rest) xs) n.edition (k.stops xs (may_come piece b xs c));
    }

pub if_ok : {A E : Type 0} {P Q : A → Type 0} (r : Result A E) → IfOk r P → ((x : A) → P x → Q x) → IfOk r Q
if_ok (Ok x) h f = f x h
if_ok (Err e) h f = h

pub if_err : {A E P Q : Type 0} (r : Result A E) → OnErr r P → (P → Q) → OnErr r Q
if_err (Ok x) h f = tt
if_err (Err e) h f = f h

-- what is left of bytes that are known
known_rest : (xs : List ℕ) (y : Option (List ℕ)) (taken rest : List ℕ) → y ≡ Some rest → Consumes (Some xs) y taken → xs ≡ taken ++ rest
known_rest xs None taken rest e h = absurd h
known_rest xs (Some ys) taken rest e h = let same : ys ≡ rest = cc in h ∙ ap (λ l. taken ++ l) same

-- What a scanner comes to after the piece that begins at a place.
pub record Ends (edition : Edition) (source : List ℕ) (first : ℕ) (found : Option Lexeme) (line end : ℕ) : Type 0 where
  pub end_is : end ≡ piece_end edition source first
  pub found_is : found ≡ piece_lexeme (piece_from edition source first)
  pub line_is : line ≡ line_at source end
  pub within : end ≤ length source
  pub grows : found ≢ Some lexeme.End → first < end

slice_on : (source text : List ℕ) (first end : ℕ) → end ≡ first + length text → take (length text) (drop first source) ≡ text → slice_range source first end ≡ text
slice_on source text first end e h = let n : end - first ≡ length text = omega arith in rw (n, h) refl

some_piece : (edition : Edition) (piece : Piece) (text : List ℕ) → whole edition text ≡ Some piece → piece_lexeme (Some piece) ≢ Some lexeme.End → 0 < length text
some_piece edition piece [] e other = absurd (other (ap piece_lexeme (sym e ∙ whole-nil edition)))
some_piece edition piece (b ∷ bs) e other = omega arith

module _ (edition : Edition) (source : List ℕ) (first line : ℕ) (lender : List ℕ) (found : Option Lexeme) (new : Source) (count : ℕ) where
  -- a source of the bytes from a place on
  abbrev old : Source
  old = record { ahead = []; line = line; end = incoming_of (record { left = drop first source; is_over = false }); lender = lender; edition = edition }

  pub ends_after : first ≤ length source → length source ≤ most → line ≡ line_at source first → PassesFirst old found new → HasLeft new count
      → Ends edition source first found new.line (length source - count)
  ends_after within small here h k =
      let rest = new.ahead ++ k.rest in
      let split : drop first source ≡ h.text ++ rest =
      known_rest (drop first source) new.end.left h.passes.taken k.rest k.left h.passes.took.bytes ∙ ap (λ l. l ++ k.rest) h.passes.split ∙ append_assoc h.text new.ahead k.rest in
      let can : CanCome new rest = record { more = k.rest; split = refl; over = k.over } in
      let long : longest edition (drop first source) ≡ length h.text =
      ap (longest edition) split ∙ longest-text edition h.text rest (rw h.is refl) (h.stops rest can) in
      let lengths : length source - first ≡ length h.text + (length new.ahead + length k.rest) =
      sym (length-drop first source) ∙ ap length split ∙ length-append h.text rest ∙ ap (λ n. length h.text + n) (length-append new.ahead k.rest) in
      let counted : count ≡ length k.rest + length new.ahead = k.count_is ∙ omega arith in
      let end : length source - count ≡ first + length h.text = omega arith in
      let text : take (length h.text) (drop first source) ≡ h.text = ap (take (length h.text)) split ∙ take-append_seam h.text rest in
      let is_end : length source - count ≡ piece_end edition source first = end ∙ ap (λ n. first + n) (sym long) in
      record {
        end_is = is_end;
        found_is = h.lexeme_is ∙ ap piece_lexeme (sym h.is ∙ ap (whole edition) (sym (slice_on source h.text first (piece_end edition source first) (sym is_end ∙ end) text)));
        line_is = h.passes.line ∙ ap (λ l. line_number_after l h.text) here ∙ ap (line_number_after (line_at source first)) (sym text) ∙ line_on source first (length h.text) ∙ ap (line_at source) (sym end);
        within = omega arith;
        grows = λ other. omega (arith, some_piece edition h.piece h.text h.is (λ e. other (h.lexeme_is ∙ e)));
      }

abbrev pub piece_of_fields : Option Lexeme → ℕ → ℕ → ℕ → PlacedPiece
piece_of_fields lexeme line first end = record { lexeme = lexeme; line = line; first = first; end = end }

same_piece : {l l' : Option Lexeme} {line line' first end end' : ℕ} → l ≡ l' → line ≡ line' → end ≡ end'
    → piece_of_fields l line first end ≡ piece_of_fields l' line' first end'
same_piece {l} {l'} {line} {line'} {first} {end} {end'} e f g = rw (e, f, g) refl

pub finds : (old : Scanner) (edition : Edition) (source : List ℕ) (first line end after : ℕ) (found : Option Lexeme) → Ends edition source first found after end → line ≡ line_at source first
    → first ≡ after_blanks old.source old.at → edition ≡ old.edition → source ≡ old.source
    → Finds old (piece_of_fields found line first end) (record { edition = edition; source = source; at = end })
finds old edition source first line end after found e here at same_edition same_source = record {
  found_is = same_piece e.found_is here e.end_is ∙ ap (λ x. placed_piece x source first) same_edition ∙ ap (λ s. placed_piece old.edition s first) same_source
      ∙ ap (placed_piece old.edition old.source) at;
  edition = same_edition;
  source = same_source;
  at = refl;
}

-- The tokens from a place on.
pub skip_blanks : (edition : Edition) (line : ℕ) (bytes : List ℕ)
    → tokens_from edition line bytes ≡ tokens_from edition (line_number_after line (take (prefix_len is_blank bytes) bytes)) (drop (prefix_len is_blank bytes) bytes)
skip_blanks edition line [] = refl
skip_blanks edition line (b ∷ bs) = by (is_blank b) refl (skip_blanks edition (next_line line b) bs)
  where
    by : (t : Bool) → is_blank b ≡ t
        → tokens_from edition (next_line line b) bs ≡ tokens_from edition (line_number_after (next_line line b) (take (prefix_len is_blank bs) bs)) (drop (prefix_len is_blank bs) bs)
        → tokens_from edition line (b ∷ bs) ≡ tokens_from edition (line_number_after line (take (prefix_len is_blank (b ∷ bs)) (b ∷ bs))) (drop (prefix_len is_blank (b ∷ bs)) (b ∷ bs))
    by true e h =
        let n : prefix_len is_blank (b ∷ bs) ≡ suc (prefix_len is_blank bs) = rw e (omega arith) in
        rw n
        (tokens_from-piece edition line (b ∷ []) bs Space (omega arith) (whole-blank edition b [] e) (blank-stops edition b bs e)
        ∙ h)
    by false e h = let n : prefix_len is_blank (b ∷ bs) ≡ 0 = rw e refl in rw n refl

piece_cut : (edition : Edition) (line : ℕ) (bytes : List ℕ)
    → tokens_from edition line bytes
    ≡ piece_first (whole edition (take (longest edition bytes) bytes)) line (tokens_from edition (line_number_after line (take (longest edition bytes) bytes)) (drop (longest edition bytes) bytes))
unfolding tokens_from cut longest greatest
piece_cut edition line [] = rw (whole-nil edition) refl
piece_cut edition line (b ∷ bs) =
    let n = longest edition (b ∷ bs) in
    piece_first-same edition b bs n line _ _ (λ p. cut-fuel edition (length bs) (length (drop n (b ∷ bs))) _ _ (shorter b bs n (length bs) p (omega arith)) (omega arith))

slice_first : (source : List ℕ) (first n : ℕ) → slice_range source first (first + n) ≡ take n (drop first source)
slice_first source first n = let e : first + n - first ≡ n = omega arith in rw e refl

pub places_of_tokens : PlacesOfTokens
places_of_tokens edition source at =
    let first = after_blanks source at in
    let n = longest edition (drop first source) in
    skip_blanks edition (line_at source at) (drop at source)
    ∙ ap (λ l. tokens_from edition l (drop (prefix_len is_blank (drop at source)) (drop at source))) (line_on source at (prefix_len is_blank (drop at source)))
    ∙ ap (tokens_from edition (line_at source first)) (drop-drop (prefix_len is_blank (drop at source)) at source)
    ∙ piece_cut edition (line_at source first) (drop first source)
    ∙ ap (λ t. piece_first (whole edition t) (line_at source first) (tokens_from edition (line_number_after (line_at source first) (take n (drop first source))) (drop n (drop first source)))) (sym (slice_first source first n))
    ∙ ap (λ l. piece_first (piece_from edition source first) (line_at source first) (tokens_from edition l (drop n (drop first source)))) (line_on source first n)
    ∙ ap (λ d. piece_first (piece_from edition source first) (line_at source first) (tokens_from edition (line_at source (first + n)) d)) (drop-drop n first source)

-- Each place has a piece, and each but the end has a byte.
greatest_passes : (p : ℕ → Bool) (n : ℕ) → p 0 ≡ true → p (greatest p n) ≡ true
unfolding greatest
greatest_passes p zero h = h
greatest_passes p (suc n) h = by (p (suc n)) refl (greatest_passes p n h)
  where
    by : (b : Bool) → p (suc n) ≡ b → p (greatest p n) ≡ true → p (if b then suc n else greatest p n) ≡ true
    by true e before = e
    by false e before = before

pub some_piece_from : (edition : Edition) (source : List ℕ) (first : ℕ) → is_some (piece_from edition source first) ≡ true
unfolding longest
some_piece_from edition source first =
    let rest = drop first source in
    rw (slice_first source first (longest edition rest)) (greatest_passes (λ n. is_some (whole edition (take n rest))) (length rest) (rw (whole-nil edition) refl))

empty_slice : (source : List ℕ) (first n : ℕ) → length source ≤ first → slice_range source first n ≡ []
empty_slice source first n h = let none : drop first source ≡ [] = drop_all first source h in rw none (nothing (n - first))
  where
    nothing : (k : ℕ) → take {A = ℕ} k [] ≡ []
    nothing zero = refl
    nothing (suc k) = refl

pub end_piece : (edition : Edition) (source : List ℕ) (at : ℕ) → length source ≤ at → piece_lexeme (piece_from edition source (after_blanks source at)) ≡ Some lexeme.End
end_piece edition source at h =
    let first = after_blanks source at in
    ap (λ t. piece_lexeme (whole edition t)) (empty_slice source first (piece_end edition source first) (omega arith)) ∙ ap piece_lexeme (whole-nil edition)

pub piece_grows : (edition : Edition) (source : List ℕ) (first : ℕ) → piece_lexeme (piece_from edition source first) ≢ Some lexeme.End → first < piece_end edition source first
piece_grows edition source first other = by (longest edition (drop first source)) refl
  where
    by : (n : ℕ) → longest edition (drop first source) ≡ n → first < first + n
    by zero e = absurd (other (ap (λ k. piece_lexeme (whole edition (slice_range source first (first + k)))) e ∙ ap (λ t. piece_lexeme (whole edition t)) (slice_first source first 0) ∙ ap piece_lexeme (whole-nil edition)))
    by (suc n) e = omega arith

-- what a scanner found
pub found_in : (old new : Scanner) (found : PlacedPiece) (edition : Edition) (source : List ℕ) → Finds old found new → old.edition ≡ edition → old.source ≡ source
    → found ≡ next_piece edition source old.at
found_in old new found edition source h e f = h.found_is ∙ ap (λ x. next_piece x old.source old.at) e ∙ ap (λ s. next_piece edition s old.at) f
