-- The pieces and tokens of a source that are still to come.
use Rattle.std.proofs.Common.{◌≡◌, ◌≢◌, ◌∙◌, ℕ, zero, suc, ◌+◌, ◌<◌, ◌≤◌, Bool, true, false, List, [], ◌∷◌, ◌++◌, Option, Some, None, ap, append_assoc, append-nil, arith, drop, length, map, refl, subst, sym}
use Rattle.std.proofs.lemmas.List.{drop_all}
use Rattle.std.specs.Prelude.{if◌then◌else◌, is_some, slice_range}
use Rattle.std.specs.List.{list_any}
use Rattle.bword.specs.declared.edition.Edition.{Edition}
use Rattle.blang.specs.Cut.{Piece, Space, Word, is_last, piece_first, tokens_from, whole}
use Rattle.blang.specs.declared.token.Placed.{Placed}
use Rattle.blang.specs.declared.token.Token.{Token}
use Rattle.blang.specs.declared.token.Token.TheVariants as token
use Rattle.blang.specs.declared.token.Letters.TheVariants as letters
use Rattle.blex.specs.declared.lexeme.Lexeme.{Lexeme}
use Rattle.blex.specs.declared.lexeme.Lexeme.TheVariants as lexeme
use Rattle.blex.specs.Places.{after_blanks, line_at, next_piece, piece_end, piece_from, piece_lexeme}
use Rattle.blex.specs.declared.scanner.PlacedPiece.{PlacedPiece}
use Rattle.blex.proofs.Cutting.{tokens_from-nil}
use Rattle.blex.proofs.PlaceSteps.{end_piece, piece_grows, places_of_tokens, some_piece_from}
use Rattle.bformat.specs.Formats.{has_wrong_token, is_wrong, tokens_of}
use Rattle.bformat.specs.Pieces.{is_end, pieces_from, pieces_of}
use Rattle.bformat.specs.Readings.{is_bad}

pub fine_before : (t : Token) (ts : List Token) → is_last t ≡ false → list_any is_wrong (t ∷ ts) ≡ list_any is_wrong ts
fine_before (token.Bad letters) ts e = cc
fine_before token.End ts e = cc
fine_before _ ts e = refl

abbrev without_lines : List Placed → List Token
without_lines ps = map (λ (p : Placed). p.token) ps

module _ (edition : Edition) (source : List ℕ) where
  -- the tokens from a place on
  abbrev pub upcoming : ℕ → List Token
  upcoming at = without_lines (tokens_from edition (line_at source at) (drop at source))

  -- what the next piece after a place is, and its place
  abbrev pub first_at : ℕ → ℕ
  first_at at = after_blanks source at

  abbrev pub end_at : ℕ → ℕ
  end_at at = piece_end edition source (first_at at)

  abbrev piece_at : ℕ → Option Piece
  piece_at at = piece_from edition source (first_at at)

  abbrev pub text_at : ℕ → List ℕ
  text_at at = slice_range source (first_at at) (end_at at)

  other_than_end : (l : Option Lexeme) → is_end l ≡ false → l ≢ Some lexeme.End
  other_than_end l e same = let f : true ≡ false = ap is_end (sym same) ∙ e in cc

  grows : (at : ℕ) → is_end (piece_lexeme (piece_at at)) ≡ false → at < end_at at
  grows at e = omega (arith, piece_grows edition source (first_at at) (other_than_end (piece_lexeme (piece_at at)) e))

  -- one step of the pieces
  step_end : (fuel at : ℕ) → is_end (piece_lexeme (piece_at at)) ≡ true → pieces_from edition (suc fuel) source at ≡ []
  unfolding pieces_from
  step_end fuel at e = rw e refl

  step_more : (fuel at : ℕ) → is_end (piece_lexeme (piece_at at)) ≡ false → pieces_from edition (suc fuel) source at ≡ text_at at ∷ pieces_from edition fuel source (end_at at)
  unfolding pieces_from
  step_more fuel at e = rw e refl

  none_left : (fuel at : ℕ) → length source ≤ at → pieces_from edition fuel source at ≡ []
  unfolding pieces_from
  none_left zero at h = refl
  none_left (suc fuel) at h = rw (end_piece edition source at h) refl

  -- enough fuel is enough
  pieces_fuel : (m n at : ℕ) → length source ≤ at + m → length source ≤ at + n → pieces_from edition m source at ≡ pieces_from edition n source at
  pieces_fuel zero n at h k = none_left zero at (omega arith) ∙ sym (none_left n at (omega arith))
  pieces_fuel (suc m) zero at h k = none_left (suc m) at (omega arith) ∙ sym (none_left zero at (omega arith))
  pieces_fuel (suc m) (suc n) at h k = by (is_end (piece_lexeme (piece_at at))) refl (λ g. pieces_fuel m n (end_at at) (omega (arith, g)) (omega (arith, g)))
    where
      by : (b : Bool) → is_end (piece_lexeme (piece_at at)) ≡ b → (at < end_at at → pieces_from edition m source (end_at at) ≡ pieces_from edition n source (end_at at))
          → pieces_from edition (suc m) source at ≡ pieces_from edition (suc n) source at
      by true e again = step_end m at e ∙ sym (step_end n at e)
      by false e again = step_more m at e ∙ ap (λ ps. text_at at ∷ ps) (again (grows at e)) ∙ sym (step_more n at e)

  -- the pieces from a place on
  abbrev pub coming : ℕ → List (List ℕ)
  coming at = pieces_from edition (length source) source at

  pub coming_end : (at : ℕ) → is_end (piece_lexeme (piece_at at)) ≡ true → coming at ≡ []
  coming_end at e = pieces_fuel (length source) (suc (length source)) at (omega arith) (omega arith) ∙ step_end (length source) at e

  pub coming_more : (at : ℕ) → is_end (piece_lexeme (piece_at at)) ≡ false → coming at ≡ text_at at ∷ coming (end_at at)
  coming_more at e = pieces_fuel (length source) (suc (length source)) at (omega arith) (omega arith) ∙ step_more (length source) at e

  -- the tokens from a place on are those of the next piece and those from its end on
  upcoming_step : (at : ℕ) → upcoming at ≡ without_lines (piece_first (piece_at at) (line_at source (first_at at)) (tokens_from edition (line_at source (end_at at)) (drop (end_at at) source)))
  upcoming_step at = ap without_lines (places_of_tokens edition source at)

  fine_first : (o : Option Piece) (line : ℕ) (rest : List Placed) → is_some o ≡ true → is_end (piece_lexeme o) ≡ false → is_bad (piece_lexeme o) ≡ false
      → list_any is_wrong (without_lines (piece_first o line rest)) ≡ list_any is_wrong (without_lines rest)
  fine_first None line rest s e b = cc
  fine_first (Some Space) line rest s e b = refl
  fine_first (Some (Word (token.Bad letters))) line rest s e b = cc
  fine_first (Some (Word token.End)) line rest s e b = cc
  fine_first (Some (Word _)) line rest s e b = refl

  fine_end : (o : Option Piece) (line : ℕ) (rest : List Placed) → is_end (piece_lexeme o) ≡ true → list_any is_wrong (without_lines (piece_first o line rest)) ≡ false
  fine_end (Some (Word token.End)) line rest e = refl
  fine_end _ line rest e = cc

  wrong_first : (o : Option Piece) (line : ℕ) (rest : List Placed) → is_bad (piece_lexeme o) ≡ true → list_any is_wrong (without_lines (piece_first o line rest)) ≡ true
  wrong_first (Some (Word (token.Bad letters))) line rest e = refl
  wrong_first _ line rest e = cc

  -- a source is read up to a place: its pieces before, and whether one of its tokens is wrong is open
  pub record Reads (texts : List (List ℕ)) (at : ℕ) : Type 0 where
    pub all : texts ++ coming at ≡ pieces_of edition source
    pub undecided : list_any is_wrong (upcoming at) ≡ has_wrong_token edition source

  module _ (texts : List (List ℕ)) (at : ℕ) (found : PlacedPiece) (is : found ≡ next_piece edition source at) (h : Reads texts at) where
    lexeme_is : found.lexeme ≡ piece_lexeme (piece_at at)
    lexeme_is = ap (λ (p : PlacedPiece). p.lexeme) is

    pub reads_end : is_end found.lexeme ≡ true → (texts ≡ pieces_of edition source) × (has_wrong_token edition source ≡ false)
    reads_end e =
        let end : is_end (piece_lexeme (piece_at at)) ≡ true = ap is_end (sym lexeme_is) ∙ e in (
          sym (append-nil texts) ∙ ap (λ ps. texts ++ ps) (sym (coming_end at end)) ∙ h.all,
          sym h.undecided ∙ ap (list_any is_wrong) (upcoming_step at) ∙ fine_end (piece_at at) _ _ end,
        )

    pub reads_wrong : is_bad found.lexeme ≡ true → has_wrong_token edition source ≡ true
    reads_wrong e =
        sym h.undecided ∙ ap (list_any is_wrong) (upcoming_step at) ∙ wrong_first (piece_at at) _ _ (ap is_bad (sym lexeme_is) ∙ e)

    pub reads_more : is_end found.lexeme ≡ false → is_bad found.lexeme ≡ false → Reads (texts ++ slice_range source found.first found.end ∷ []) found.end
    reads_more e b =
        let other : is_end (piece_lexeme (piece_at at)) ≡ false = ap is_end (sym lexeme_is) ∙ e in
        let fine : is_bad (piece_lexeme (piece_at at)) ≡ false = ap is_bad (sym lexeme_is) ∙ b in
        subst (λ (p : PlacedPiece). Reads (texts ++ slice_range source p.first p.end ∷ []) p.end) (sym is)
        (record {
          all = append_assoc texts (text_at at ∷ []) (coming (end_at at)) ∙ ap (λ ps. texts ++ ps) (sym (coming_more at other)) ∙ h.all;
          undecided = sym (ap (list_any is_wrong) (upcoming_step at) ∙ fine_first (piece_at at) _ _ (some_piece_from edition source (first_at at)) other fine) ∙ h.undecided;
        })

  -- the token of a piece, and those after it
  abbrev word_first : Option Piece → List Token → List Token
  word_first None rest = token.Bad letters.Character ∷ []
  word_first (Some Space) rest = rest
  word_first (Some (Word t)) rest = t ∷ (if is_last t then [] else rest)

  abbrev pub words : List (List ℕ) → List Token
  words [] = token.End ∷ []
  words (t ∷ ts) = word_first (whole edition t) (words ts)

  tokens_end : (o : Option Piece) (line : ℕ) (rest : List Placed) → is_end (piece_lexeme o) ≡ true → without_lines (piece_first o line rest) ≡ token.End ∷ []
  tokens_end (Some (Word token.End)) line rest e = refl
  tokens_end _ line rest e = cc

  if_without : (b : Bool) (rest : List Placed) → without_lines (if b then [] else rest) ≡ (if b then [] else without_lines rest)
  if_without true rest = refl
  if_without false rest = refl

  tokens_first : (o : Option Piece) (line : ℕ) (rest : List Placed) → without_lines (piece_first o line rest) ≡ word_first o (without_lines rest)
  tokens_first None line rest = refl
  tokens_first (Some Space) line rest = refl
  tokens_first (Some (Word t)) line rest = ap (λ ts. t ∷ ts) (if_without (is_last t) rest)

  none_to_come : (at : ℕ) → length source ≤ at → upcoming at ≡ token.End ∷ []
  none_to_come at h = let none : drop at source ≡ [] = drop_all at source h in rw (none, tokens_from-nil edition (line_at source at)) refl

  token_words : (fuel at : ℕ) → length source ≤ at + fuel → upcoming at ≡ words (pieces_from edition fuel source at)
  unfolding pieces_from
  token_words zero at h = none_to_come at (omega arith)
  token_words (suc fuel) at h = by (is_end (piece_lexeme (piece_at at))) refl (λ g. token_words fuel (end_at at) (omega (arith, g)))
    where
      by : (b : Bool) → is_end (piece_lexeme (piece_at at)) ≡ b → (at < end_at at → upcoming (end_at at) ≡ words (pieces_from edition fuel source (end_at at)))
          → upcoming at ≡ words (pieces_from edition (suc fuel) source at)
      by true e again = upcoming_step at ∙ tokens_end (piece_at at) _ _ e ∙ ap words (sym (step_end fuel at e))
      by false e again =
          upcoming_step at ∙ tokens_first (piece_at at) _ _ ∙ ap (word_first (piece_at at)) (again (grows at e)) ∙ ap words (sym (step_more fuel at e))

  pub words_of_pieces : tokens_of edition source ≡ words (pieces_of edition source)
  words_of_pieces = token_words (length source) 0 (omega arith)

-- the same pieces are the same tokens
pub same_tokens : (edition : Edition) (source text : List ℕ) → pieces_of edition text ≡ pieces_of edition source → tokens_of edition text ≡ tokens_of edition source
same_tokens edition source text e = words_of_pieces edition text ∙ ap (words edition text) e ∙ sym (words_of_pieces edition source)

-- So many pieces of a text were compared with others.
pub record Compares (edition : Edition) (text : List ℕ) (texts : List (List ℕ)) (at : ℕ) : Type 0 where
  pub all : texts ++ coming edition text at ≡ pieces_of edition text

pub compares_more : (edition : Edition) (text : List ℕ) (texts : List (List ℕ)) (at : ℕ) (found : PlacedPiece) → found ≡ next_piece edition text at → Compares edition text texts at
    → is_end found.lexeme ≡ false → Compares edition text (texts ++ slice_range text found.first found.end ∷ []) found.end
compares_more edition text texts at found is h e =
    subst (λ (p : PlacedPiece). Compares edition text (texts ++ slice_range text p.first p.end ∷ []) p.end) (sym is)
    (record {
      all = append_assoc texts (text_at edition text at ∷ []) (coming edition text (end_at edition text at))
          ∙ ap (λ ps. texts ++ ps) (sym (coming_more edition text at (ap (λ (p : PlacedPiece). is_end p.lexeme) (sym is) ∙ e))) ∙ h.all;
    })

pub compares_end : (edition : Edition) (text : List ℕ) (texts : List (List ℕ)) (at : ℕ) (found : PlacedPiece) → found ≡ next_piece edition text at → Compares edition text texts at
    → is_end found.lexeme ≡ true → pieces_of edition text ≡ texts
compares_end edition text texts at found is h e =
    sym h.all ∙ ap (λ ps. texts ++ ps) (coming_end edition text at (ap (λ (p : PlacedPiece). is_end p.lexeme) (sym is) ∙ e)) ∙ append-nil texts
