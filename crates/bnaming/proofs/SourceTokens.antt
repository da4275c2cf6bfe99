-- The tokens of a source are those that the compiler reads, up to one that is wrong.
use Rattle.std.proofs.Common.{◌≡◌, ◌∙◌, ◌+◌, ◌<◌, ◌≤◌, ℕ, zero, suc, Bool, true, false, List, [], ◌∷◌, ◌++◌, Option, Some, None, ap, arith, drop, length, map, refl, subst, sym}
use Rattle.std.specs.Prelude.{if◌then◌else◌, is_some}
use Rattle.std.specs.List.{cons_option, filter_map}
use Rattle.bword.specs.declared.edition.Edition.{Edition}
use Rattle.blang.specs.declared.token.Placed.{Placed}
use Rattle.blang.specs.declared.token.Token.{Token}
use Rattle.blang.specs.declared.token.Token.TheVariants as token
use Rattle.blang.specs.Cut.{Piece as Read, Space, Word, is_last, piece_first, placed as placed_token, tokens_from}
use Rattle.blang.specs.Trees.{bare, kept, keeps_line, mark}
use Rattle.blex.specs.Lexemes.{lexeme_of}
use Rattle.blex.specs.Places.{after_blanks, line_at, piece_end, piece_from, piece_lexeme}
use Rattle.blex.specs.declared.lexeme.Lexeme.{Lexeme}
use Rattle.blex.specs.declared.lexeme.Lexeme.TheVariants as lexeme
use Rattle.blex.proofs.PlaceSteps.{end_piece, places_of_tokens, some_piece_from}
use Rattle.bnaming.specs.declared.places.Spot.{Spot}
use Rattle.bnaming.specs.declared.reading.PlacedToken.{PlacedToken}
use Rattle.bnaming.specs.Laws.{TokensOfSource}
use Rattle.bnaming.specs.Pieces.{is_end, pieces_from, token_in}
use Rattle.bnaming.specs.Spots.{spot_at}
use Rattle.bnaming.proofs.ReadingSteps.{grows, step_more}

abbrev pub lexemes : List PlacedToken → List Lexeme
lexemes ts = map (λ t. t.lexeme) ts

-- Tokens begin with these.
pub record Begins (passed : List Placed) (tokens : List PlacedToken) : Type 0 where
  pub own : List PlacedToken
  pub more : List PlacedToken
  pub split : tokens ≡ own ++ more
  pub same : lexemes own ≡ map lexeme_of (map bare passed)

nothing_passed : (ts : List PlacedToken) → Begins [] ts
nothing_passed ts = record { own = []; more = ts; split = refl; same = refl }

one_passed : (p : Placed) (ps : List Placed) (t : PlacedToken) (ts : List PlacedToken) → t.lexeme ≡ lexeme_of p.token → Begins ps ts → Begins (p ∷ ps) (t ∷ ts)
one_passed p ps t ts e b = record {
  own = t ∷ b.own;
  more = b.more;
  split = ap (λ l. t ∷ l) b.split;
  same = ap (λ l. l ∷ lexemes b.own) e ∙ ap (λ ls. lexeme_of p.token ∷ ls) b.same;
}

no_more : (ps : List Placed) (o : Placed) (os : List Placed) → [] ≡ ps ++ o ∷ os → ⊥
no_more [] o os e = cc
no_more (p ∷ ps) o os e = cc

-- a token that others can come after is read, and one that none can isn't
is_read : (t : Token) → is_last t ≡ false → (first end : Spot)
    → token_in (record { lexeme = Some (lexeme_of t); first = first; end = end }) ≡ Some (record { lexeme = lexeme_of t; first = first; end = end })
is_read (token.Bad letters) e first end = cc
is_read token.End e first end = cc
is_read _ e first end = refl

no_end : (t : Token) → is_last t ≡ false → is_end (Some (lexeme_of t)) ≡ false
no_end (token.Bad letters) e = cc
no_end token.End e = cc
no_end _ e = refl

end_is_last : (t : Token) → Some (lexeme_of t) ≡ Some lexeme.End → is_last t ≡ true
end_is_last (token.Bad letters) e = refl
end_is_last token.End e = refl
end_is_last _ e = cc

module _ (edition : Edition) (source : List ℕ) where
  abbrev first_at : ℕ → ℕ
  first_at at = after_blanks source at

  abbrev end_at : ℕ → ℕ
  end_at at = piece_end edition source (first_at at)

  abbrev piece_at : ℕ → Option Read
  piece_at at = piece_from edition source (first_at at)

  abbrev told : ℕ → List Placed
  told at = tokens_from edition (line_at source at) (drop at source)

  abbrev rest_at : (fuel at : ℕ) → List PlacedToken
  rest_at fuel at = filter_map token_in (pieces_from edition fuel source at)

  step : (at : ℕ) → told at ≡ piece_first (piece_at at) (line_at source (first_at at)) (told (end_at at))
  step at = places_of_tokens edition source at

  -- after the last token there is none
  none_after : (t : Token) (line : ℕ) (later : List Placed) (p : Placed) (ps : List Placed) (o : Placed) (os : List Placed) → is_last t ≡ true
      → piece_first (Some (Word t)) line later ≡ p ∷ (ps ++ o ∷ os) → ⊥
  none_after t line later p ps o os e h =
      let g : placed_token t line ∷ [] ≡ p ∷ (ps ++ o ∷ os) = ap (λ b. placed_token t line ∷ (if b then [] else later)) (sym e) ∙ h in
      let f : [] ≡ ps ++ o ∷ os = cc in no_more ps o os f

  pub begins : (fuel at : ℕ) → length source ≤ at + fuel → (passed : List Placed) (o : Placed) (os : List Placed) → told at ≡ passed ++ o ∷ os → Begins passed (rest_at fuel at)
  begins fuel at h [] o os e = nothing_passed (rest_at fuel at)
  begins zero at h (p ∷ ps) o os e = absurd (by (piece_at at) refl)
    where
      over : piece_lexeme (piece_at at) ≡ Some lexeme.End
      over = end_piece edition source at (omega (arith, h))

      by : (piece : Option Read) → piece_at at ≡ piece → ⊥
      by None q = let f : None ≡ Some lexeme.End = ap piece_lexeme (sym q) ∙ over in cc
      by (Some Space) q = let f : None ≡ Some lexeme.End = ap piece_lexeme (sym q) ∙ over in cc
      by (Some (Word t)) q =
          none_after t (line_at source (first_at at)) (told (end_at at)) p ps o os (end_is_last t (ap piece_lexeme (sym q) ∙ over))
          (ap (λ (it : Option Read). piece_first it (line_at source (first_at at)) (told (end_at at))) (sym q) ∙ sym (step at) ∙ e)
  begins (suc fuel) at h (p ∷ ps) o os e = by (piece_at at) refl (λ g later is. begins fuel (end_at at) (omega (arith, h, g)) later o os is)
    where
      by : (piece : Option Read) → piece_at at ≡ piece → (at < end_at at → (later : List Placed) → told (end_at at) ≡ later ++ o ∷ os → Begins later (rest_at fuel (end_at at))) → Begins (p ∷ ps) (rest_at (suc fuel) at)
      by None q again = absurd (let f : true ≡ false = sym (some_piece_from edition source (first_at at)) ∙ ap is_some q in cc)
      by (Some Space) q again =
          let other : is_end (piece_lexeme (piece_at at)) ≡ false = ap (λ (it : Option Read). is_end (piece_lexeme it)) q in
          let more : rest_at (suc fuel) at ≡ rest_at fuel (end_at at) =
          ap (filter_map token_in) (step_more edition source fuel at other)
          ∙ ap (λ (it : Option Read). cons_option (token_in (record { lexeme = piece_lexeme it; first = spot_at source (first_at at); end = spot_at source (end_at at) })) (rest_at fuel (end_at at))) q in
          let same : told at ≡ told (end_at at) = step at ∙ ap (λ (it : Option Read). piece_first it (line_at source (first_at at)) (told (end_at at))) q in
          subst (Begins (p ∷ ps)) (sym more) (again (grows edition source at other) (p ∷ ps) (sym same ∙ e))
      by (Some (Word t)) q again = word (is_last t) refl
        where
          read : told at ≡ piece_first (Some (Word t)) (line_at source (first_at at)) (told (end_at at))
          read = step at ∙ ap (λ (it : Option Read). piece_first it (line_at source (first_at at)) (told (end_at at))) q

          word : (b : Bool) → is_last t ≡ b → Begins (p ∷ ps) (rest_at (suc fuel) at)
          word true l = absurd (none_after t (line_at source (first_at at)) (told (end_at at)) p ps o os l (sym read ∙ e))
          word false l =
              let line = line_at source (first_at at) in
              let here : PlacedToken = record { lexeme = lexeme_of t; first = spot_at source (first_at at); end = spot_at source (end_at at) } in
              let other : is_end (piece_lexeme (piece_at at)) ≡ false = ap (λ (it : Option Read). is_end (piece_lexeme it)) q ∙ no_end t l in
              let more : rest_at (suc fuel) at ≡ here ∷ rest_at fuel (end_at at) =
              ap (filter_map token_in) (step_more edition source fuel at other)
              ∙ ap (λ (it : Option Read). cons_option (token_in (record { lexeme = piece_lexeme it; first = spot_at source (first_at at); end = spot_at source (end_at at) })) (rest_at fuel (end_at at))) q
              ∙ ap (λ r. cons_option r (rest_at fuel (end_at at))) (is_read t l (spot_at source (first_at at)) (spot_at source (end_at at))) in
              let both : placed_token t line ∷ told (end_at at) ≡ p ∷ (ps ++ o ∷ os) = ap (λ b. placed_token t line ∷ (if b then [] else told (end_at at))) (sym l) ∙ sym read ∙ e in
              let first : placed_token t line ≡ p = cc in
              let later : told (end_at at) ≡ ps ++ o ∷ os = cc in
              subst (Begins (p ∷ ps)) (sym more) (one_passed p ps here (rest_at fuel (end_at at)) (ap (λ (x : Placed). lexeme_of x.token) first) (again (grows edition source at other) ps later))

-- what a tree keeps of tokens, without their lines
pub bare_kept : (ps : List Placed) → map bare (map kept ps) ≡ map bare ps
bare_kept [] = refl
bare_kept (p ∷ ps) = ap (λ l. l ∷ map bare (map kept ps)) (one (keeps_line p.token)) ∙ ap (λ l. bare p ∷ l) (bare_kept ps)
  where
    one : (b : Bool) → bare (if b then p else mark p.token) ≡ bare p
    one true = refl
    one false = refl

pub tokens_of_source : TokensOfSource
tokens_of_source edition source definitions passed next others e spelled =
    let b = begins edition source (length source) 0 (omega arith) passed next others e in
    record { own = b.own; more = b.more; split = b.split; same = b.same ∙ ap (map lexeme_of) (sym (bare_kept passed) ∙ ap (map bare) spelled) }
