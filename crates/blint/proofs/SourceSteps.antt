-- The tokens of a source that are still to come, and those that the compiler reads.
use Rattle.std.proofs.Common.{◌≡◌, ◌≢◌, ◌∙◌, ℕ, zero, suc, ◌+◌, ◌<◌, ◌≤◌, Bool, true, false, List, [], ◌∷◌, ◌++◌, Option, Some, None, ap, append_assoc, append-nil, arith, drop, length, map, refl, subst, sym}
use Rattle.std.specs.Prelude.{◌-◌, if◌then◌else◌, is_some, slice_get, ⊤}
use Rattle.std.specs.List.{cons_option}
use Rattle.bword.specs.declared.edition.Edition.{Edition}
use Rattle.blang.specs.declared.token.Placed.{Placed}
use Rattle.blang.specs.declared.token.Token.{Token}
use Rattle.blang.specs.declared.token.Token.TheVariants as token
use Rattle.blang.specs.Cut.{Piece as Read, Space, Word, is_last, piece_first, placed as placed_token, tokens_from}
use Rattle.blang.specs.Trees.{Definition, bare}
use Rattle.blex.specs.Lexemes.{lexeme_of}
use Rattle.blex.specs.Places.{Finds, Scanner, after_blanks, line_at, next_piece, piece_end, piece_from, piece_lexeme}
use Rattle.blex.specs.declared.lexeme.Lexeme.{Lexeme}
use Rattle.blex.specs.declared.lexeme.Lexeme.TheVariants as lexeme
use Rattle.blex.specs.declared.scanner.PlacedPiece.{PlacedPiece}
use Rattle.blex.proofs.PlaceSteps.{end_piece, piece_grows, places_of_tokens, some_piece_from}
use Rattle.blint.specs.declared.cutting.CutSource.{CutSource}
use Rattle.bmatch.specs.declared.tree.TokenPlace.{TokenPlace}
use Rattle.blint.specs.Cutting.{Cuts, TakesPiece}
use Rattle.bmatch.specs.Growing.{lexemes_of}
use Rattle.blint.specs.Told.{AreRising}
use Rattle.blint.specs.SourceTokens.{IsSource, PlacedToken, is_end, lexemes_in, token_places, token_of, tokens_at, tokens_of}

no_more : (ps : List Placed) (o : Placed) (os : List Placed) → [] ≡ ps ++ o ∷ os → ⊥
no_more [] o os e = cc
no_more (p ∷ ps) o os e = cc

no_end : (t : Token) → is_last t ≡ false → is_end (Some (lexeme_of t)) ≡ false
no_end (token.Bad letters) e = cc
no_end token.End e = cc
no_end _ e = refl

end_is_last : (t : Token) → Some (lexeme_of t) ≡ Some lexeme.End → is_last t ≡ true
end_is_last (token.Bad letters) e = refl
end_is_last token.End e = refl
end_is_last _ e = cc

other_than_end : (l : Option Lexeme) → is_end l ≡ false → l ≢ Some lexeme.End
other_than_end l e same = let f : true ≡ false = ap is_end (sym same) ∙ e in cc

is_the_end : (l : Option Lexeme) → l ≡ Some lexeme.End → is_end l ≡ true
is_the_end l e = ap is_end e

-- a token after which others can come is read
abbrev read_of : Token → TokenPlace → PlacedToken
read_of t place = (lexeme_of t, place)

is_read : (t : Token) → is_last t ≡ false → (line first end : ℕ)
    → token_of (record { lexeme = Some (lexeme_of t); line = line; first = first; end = end }) ≡ Some (read_of t (record { line = line; start = first; len = end - first }))
is_read (token.Bad letters) e line first end = cc
is_read token.End e line first end = cc
is_read _ e line first end = refl

module _ (edition : Edition) (source : List ℕ) where
  abbrev pub found_at : ℕ → PlacedPiece
  found_at at = next_piece edition source at

  pub grows : (at : ℕ) → is_end (found_at at).lexeme ≡ false → at < (found_at at).end
  grows at e = omega (arith, piece_grows edition source (after_blanks source at) (other_than_end (found_at at).lexeme e))

  step_end : (fuel at : ℕ) → is_end (found_at at).lexeme ≡ true → tokens_at edition (suc fuel) source at ≡ []
  unfolding tokens_at
  step_end fuel at e = rw e refl

  pub step_more : (fuel at : ℕ) → is_end (found_at at).lexeme ≡ false → tokens_at edition (suc fuel) source at ≡ cons_option (token_of (found_at at)) (tokens_at edition fuel source (found_at at).end)
  unfolding tokens_at
  step_more fuel at e = rw e refl

  step_none : (at : ℕ) → tokens_at edition zero source at ≡ []
  unfolding tokens_at
  step_none at = refl

  none_left : (fuel at : ℕ) → length source ≤ at → tokens_at edition fuel source at ≡ []
  none_left zero at h = step_none at
  none_left (suc fuel) at h = step_end fuel at (is_the_end (found_at at).lexeme (end_piece edition source at h))

  -- enough fuel is enough
  fueled : (m n at : ℕ) → length source ≤ at + m → length source ≤ at + n → tokens_at edition m source at ≡ tokens_at edition n source at
  fueled zero n at h k = none_left zero at (omega arith) ∙ sym (none_left n at (omega arith))
  fueled (suc m) zero at h k = none_left (suc m) at (omega arith) ∙ sym (none_left zero at (omega arith))
  fueled (suc m) (suc n) at h k = by (is_end (found_at at).lexeme) refl (λ g. fueled m n (found_at at).end (omega (arith, g)) (omega (arith, g)))
    where
      by : (b : Bool) → is_end (found_at at).lexeme ≡ b → (at < (found_at at).end → tokens_at edition m source (found_at at).end ≡ tokens_at edition n source (found_at at).end)
          → tokens_at edition (suc m) source at ≡ tokens_at edition (suc n) source at
      by true e again = step_end m at e ∙ sym (step_end n at e)
      by false e again = step_more m at e ∙ ap (cons_option (token_of (found_at at))) (again (grows at e)) ∙ sym (step_more n at e)

  abbrev pub coming : ℕ → List PlacedToken
  coming at = tokens_at edition (length source) source at

  -- A source was read up to a place.
  pub record Reads (c : CutSource) (at : ℕ) : Type 0 where
    pub lexemes : c.lexemes.items ++ lexemes_in (coming at) ≡ lexemes_in (tokens_of edition source)
    pub places : c.places.items ++ token_places (coming at) ≡ token_places (tokens_of edition source)

  again : (at : ℕ) → coming at ≡ tokens_at edition (suc (length source)) source at
  again at = fueled (length source) (suc (length source)) at (omega arith) (omega arith)

  one_more : {A : Type 0} (f : PlacedToken → A) (old new all : List A) (o : Option PlacedToken) (ts us : List PlacedToken) → new ≡ old ++ map f (cons_option o []) → us ≡ cons_option o ts → old ++ map f us ≡ all → new ++ map f ts ≡ all
  one_more f old new all None ts us e u h = ap (λ l. l ++ map f ts) (e ∙ append-nil old) ∙ ap (λ l. old ++ map f l) (sym u) ∙ h
  one_more f old new all (Some t) ts us e u h = ap (λ l. l ++ map f ts) e ∙ append_assoc old (f t ∷ []) (map f ts) ∙ ap (λ l. old ++ map f l) (sym u) ∙ h

  module _ (c : CutSource) (at : ℕ) (found : PlacedPiece) (is : found ≡ next_piece edition source at) (h : Reads c at) where
    over : is_end found.lexeme ≡ true → coming at ≡ []
    over e =
        let end : is_end (found_at at).lexeme ≡ true = ap (λ (p : PlacedPiece). is_end p.lexeme) (sym is) ∙ e in
        again at ∙ step_end (length source) at end

    pub reads_end : is_end found.lexeme ≡ true → Cuts (tokens_of edition source) c
    reads_end e = (
      sym (append-nil c.lexemes.items) ∙ ap (λ ts. c.lexemes.items ++ lexemes_in ts) (sym (over e)) ∙ h.lexemes,
      sym (append-nil c.places.items) ∙ ap (λ ts. c.places.items ++ token_places ts) (sym (over e)) ∙ h.places,
    )

    pub reads_more : (new : CutSource) → TakesPiece found c new → is_end found.lexeme ≡ false → Reads new found.end
    reads_more new takes e =
        let more : is_end (found_at at).lexeme ≡ false = ap (λ (q : PlacedPiece). is_end q.lexeme) (sym is) ∙ e in
        let next : coming at ≡ cons_option (token_of found) (coming found.end) =
        again at ∙ step_more (length source) at more ∙ ap (λ (q : PlacedPiece). cons_option (token_of q) (coming q.end)) (sym is) in
        record {
          lexemes = one_more (λ t. t.0) c.lexemes.items new.lexemes.items _ (token_of found) (coming found.end) (coming at) takes.0 next h.lexemes;
          places = one_more (λ t. t.1) c.places.items new.places.items _ (token_of found) (coming found.end) (coming at) takes.1 next h.places;
        }

  abbrev first_at : ℕ → ℕ
  first_at at = after_blanks source at

  abbrev end_at : ℕ → ℕ
  end_at at = piece_end edition source (first_at at)

  abbrev piece_at : ℕ → Option Read
  piece_at at = piece_from edition source (first_at at)

  abbrev told : ℕ → List Placed
  told at = tokens_from edition (line_at source at) (drop at source)

  abbrev lexemes_at : (fuel at : ℕ) → List Lexeme
  lexemes_at fuel at = lexemes_in (tokens_at edition fuel source at)

  step : (at : ℕ) → told at ≡ piece_first (piece_at at) (line_at source (first_at at)) (told (end_at at))
  step at = places_of_tokens edition source at

  -- after the last token there is none
  none_after : (t : Token) (line : ℕ) (later : List Placed) (p : Placed) (ps : List Placed) (o : Placed) (os : List Placed) → is_last t ≡ true
      → piece_first (Some (Word t)) line later ≡ p ∷ (ps ++ o ∷ os) → ⊥
  none_after t line later p ps o os e h =
      let g : placed_token t line ∷ [] ≡ p ∷ (ps ++ o ∷ os) = ap (λ b. placed_token t line ∷ (if b then [] else later)) (sym e) ∙ h in
      let f : [] ≡ ps ++ o ∷ os = cc in no_more ps o os f

  -- the last token is the end
  ends_so : (t : Token) (line : ℕ) (later : List Placed) (o : Placed) (os : List Placed) → o.token ≡ token.End
      → piece_first (Some (Word t)) line later ≡ o ∷ os → t ≡ token.End
  ends_so t line later o os end h = by (is_last t) refl
    where
      by : (b : Bool) → is_last t ≡ b → t ≡ token.End
      by b l =
          let g : placed_token t line ∷ (if b then [] else later) ≡ o ∷ os = ap (λ (x : Bool). placed_token t line ∷ (if x then [] else later)) (sym l) ∙ h in
          let f : placed_token t line ≡ o = cc in ap (λ (p : Placed). p.token) f ∙ end

  module _ (o : Placed) (os : List Placed) (end : o.token ≡ token.End) where
    exact : (fuel at : ℕ) → length source ≤ at + fuel → (passed : List Placed) → told at ≡ passed ++ o ∷ os → lexemes_at fuel at ≡ map lexeme_of (map bare passed)
    exact zero at h [] e = ap lexemes_in (step_none at)
    exact zero at h (p ∷ ps) e = absurd (by (piece_at at) refl)
      where
        over : piece_lexeme (piece_at at) ≡ Some lexeme.End
        over = end_piece edition source at (omega (arith, h))

        by : (piece : Option Read) → piece_at at ≡ piece → ⊥
        by None q = let f : None ≡ Some lexeme.End = ap piece_lexeme (sym q) ∙ over in cc
        by (Some Space) q = let f : None ≡ Some lexeme.End = ap piece_lexeme (sym q) ∙ over in cc
        by (Some (Word t)) q =
            none_after t (line_at source (first_at at)) (told (end_at at)) p ps o os (end_is_last t (ap piece_lexeme (sym q) ∙ over))
            (ap (λ (it : Option Read). piece_first it (line_at source (first_at at)) (told (end_at at))) (sym q) ∙ sym (step at) ∙ e)
    exact (suc fuel) at h passed e = by (piece_at at) refl (λ g later is. exact fuel (end_at at) (omega (arith, h, g)) later is)
      where
        by : (piece : Option Read) → piece_at at ≡ piece → (at < end_at at → (later : List Placed) → told (end_at at) ≡ later ++ o ∷ os → lexemes_at fuel (end_at at) ≡ map lexeme_of (map bare later)) → lexemes_at (suc fuel) at ≡ map lexeme_of (map bare passed)
        by None q again = absurd (let f : true ≡ false = sym (some_piece_from edition source (first_at at)) ∙ ap is_some q in cc)
        by (Some Space) q again =
            let other : is_end (piece_lexeme (piece_at at)) ≡ false = ap (λ (it : Option Read). is_end (piece_lexeme it)) q in
            let none : token_of (found_at at) ≡ None = ap (λ (it : Option Read). token_of (record { lexeme = piece_lexeme it; line = line_at source (first_at at); first = first_at at; end = end_at at })) q in
            let same : told at ≡ told (end_at at) = step at ∙ ap (λ (it : Option Read). piece_first it (line_at source (first_at at)) (told (end_at at))) q in
            ap lexemes_in (step_more fuel at other ∙ ap (λ (it : Option PlacedToken). cons_option it (tokens_at edition fuel source (end_at at))) none)
            ∙ again (grows at other) passed (sym same ∙ e)
        by (Some (Word t)) q again = word passed (is_last t) e refl
          where
            line : ℕ
            line = line_at source (first_at at)

            read : told at ≡ piece_first (Some (Word t)) (line_at source (first_at at)) (told (end_at at))
            read = step at ∙ ap (λ (it : Option Read). piece_first it (line_at source (first_at at)) (told (end_at at))) q

            word : (ps : List Placed) (b : Bool) → told at ≡ ps ++ o ∷ os → is_last t ≡ b → lexemes_at (suc fuel) at ≡ map lexeme_of (map bare ps)
            word [] b e l =
                let is : t ≡ token.End = ends_so t (line_at source (first_at at)) (told (end_at at)) o os end (sym read ∙ e) in
                let over : is_end (piece_lexeme (piece_at at)) ≡ true =
                ap (λ (it : Option Read). is_end (piece_lexeme it)) q ∙ ap (λ (x : Token). is_end (Some (lexeme_of x))) is in
                ap lexemes_in (step_end fuel at over)
            word (p ∷ ps) true e l = absurd (none_after t (line_at source (first_at at)) (told (end_at at)) p ps o os l (sym read ∙ e))
            word (p ∷ ps) false e l =
                let here : PlacedToken = read_of t (record { line = line_at source (first_at at); start = first_at at; len = end_at at - first_at at }) in
                let other : is_end (piece_lexeme (piece_at at)) ≡ false = ap (λ (it : Option Read). is_end (piece_lexeme it)) q ∙ no_end t l in
                let token : token_of (found_at at) ≡ Some here =
                ap (λ (it : Option Read). token_of (record { lexeme = piece_lexeme it; line = line_at source (first_at at); first = first_at at; end = end_at at })) q
                ∙ is_read t l (line_at source (first_at at)) (first_at at) (end_at at) in
                let both : placed_token t (line_at source (first_at at)) ∷ told (end_at at) ≡ p ∷ (ps ++ o ∷ os) =
                ap (λ b. placed_token t (line_at source (first_at at)) ∷ (if b then [] else told (end_at at))) (sym l) ∙ sym read ∙ e in
                let first : placed_token t (line_at source (first_at at)) ≡ p = cc in
                let later : told (end_at at) ≡ ps ++ o ∷ os = cc in
                ap lexemes_in (step_more fuel at other ∙ ap (λ (it : Option PlacedToken). cons_option it (tokens_at edition fuel source (end_at at))) token)
                ∙ ap (λ (ls : List Lexeme). lexeme_of t ∷ ls) (again (grows at other) ps later)
                ∙ ap (λ (x : Placed). lexeme_of x.token ∷ map lexeme_of (map bare ps)) first

-- places one after another, from this one on
abbrev Rises : ℕ → List TokenPlace → Type 0
Rises from [] = ⊤
Rises from (p ∷ ps) = (from ≤ p.start) × Rises p.start ps

from_later : (first later : ℕ) (ps : List TokenPlace) → first ≤ later → Rises later ps → Rises first ps
from_later first later [] le h = h
from_later first later (p ∷ ps) le h = (omega (arith, le, h.0), h.1)

abbrev start_of : Option PlacedToken → ℕ
start_of None = 0
start_of (Some t) = t.1.start

token_starts : (l : Option Lexeme) (line first end : ℕ) (t : PlacedToken) → token_of (record { lexeme = l; line = line; first = first; end = end }) ≡ Some t → t.1.start ≡ first
token_starts None line first end t e = cc
token_starts (Some (lexeme.Bad letters)) line first end t e = cc
token_starts (Some _) line first end t e = sym (ap start_of e)

module _ (edition : Edition) (source : List ℕ) where
  abbrev found : ℕ → PlacedPiece
  found at = next_piece edition source at

  rises : (fuel at : ℕ) → Rises at (token_places (tokens_at edition fuel source at))
  rises zero at = subst (λ ts. Rises at (token_places ts)) (sym (step_none edition source at)) tt
  rises (suc fuel) at = by (is_end (found at).lexeme) refl (rises fuel (found at).end)
    where
      later : List PlacedToken
      later = tokens_at edition fuel source (found at).end

      one : (o : Option PlacedToken) → token_of (found at) ≡ o → at < (found at).end → Rises (found at).end (token_places later) → Rises at (token_places (cons_option o later))
      one None q lt h = from_later at (found at).end (token_places later) (omega (arith, lt)) h
      one (Some t) q lt h =
          let starts : t.1.start ≡ after_blanks source at = token_starts (found at).lexeme (found at).line (found at).first (found at).end t q in
          (omega (arith, starts), from_later t.1.start (found at).end (token_places later) (omega (arith, starts)) h)

      by : (b : Bool) → is_end (found at).lexeme ≡ b → Rises (found at).end (token_places later) → Rises at (token_places (tokens_at edition (suc fuel) source at))
      by true e h = subst (λ ts. Rises at (token_places ts)) (sym (step_end edition source fuel at e)) tt
      by false e h = subst (λ ts. Rises at (token_places ts)) (sym (step_more edition source fuel at e)) (one (token_of (found at)) refl (grows edition source at e) h)

from_start : (from : ℕ) (ps : List TokenPlace) (k : ℕ) (p : TokenPlace) → Rises from ps → slice_get ps k ≡ Some p → from ≤ p.start
from_start from [] zero p h e = cc
from_start from [] (suc k) p h e = cc
from_start from (q ∷ ps) zero p h e = let f : q ≡ p = cc in subst (λ (x : TokenPlace). from ≤ x.start) f h.0
from_start from (q ∷ ps) (suc k) p h e = let f = from_start q.start ps k p h.1 e in omega (arith, f, h.0)

rising_from : (from : ℕ) (ps : List TokenPlace) → Rises from ps → AreRising ps
rising_from from [] h zero k a b le e f = cc
rising_from from [] h (suc j) k a b le e f = cc
rising_from from (q ∷ ps) h zero zero a b le e f = let first : q ≡ a = cc in let second : q ≡ b = cc in omega (arith, ap (λ (x : TokenPlace). x.start) (sym first ∙ second))
rising_from from (q ∷ ps) h zero (suc k) a b le e f = let first : q ≡ a = cc in subst (λ (x : TokenPlace). x.start ≤ b.start) first (from_start q.start ps k b h.1 f)
rising_from from (q ∷ ps) h (suc j) zero a b le e f = absurd (omega (arith, le))
rising_from from (q ∷ ps) h (suc j) (suc k) a b le e f = rising_from q.start ps h.1 j k a b (omega (arith, le)) e f

pub source_rises : (edition : Edition) (source : List ℕ) → AreRising (token_places (tokens_of edition source))
source_rises edition source = rising_from 0 (token_places (tokens_of edition source)) (rises edition source (length source) 0)

-- the lexemes of a source that is these definitions
pub source_lexemes : (edition : Edition) (source : List ℕ) (ds : List Definition) → IsSource edition source ds → lexemes_in (tokens_of edition source) ≡ lexemes_of ds
source_lexemes edition source ds is =
    exact edition source is.end is.none is.ends (length source) 0 (omega arith) is.before is.split ∙ ap (map lexeme_of) (sym is.spelled)

pub found_in : (old new : Scanner) (found : PlacedPiece) (edition : Edition) (source : List ℕ) → Finds old found new → old.edition ≡ edition → old.source ≡ source → found ≡ next_piece edition source old.at
found_in old new found edition source f e s = f.found_is ∙ ap (λ ed. next_piece ed old.source old.at) e ∙ ap (λ text. next_piece edition text old.at) s
