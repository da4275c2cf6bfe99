-- The levels of a program are those of its tokens, and it needs no more than those.
use Rattle.std.proofs.Common.{◌≡◌, ℕ, zero, suc, ◌+◌, ◌-◌, ◌≤◌, List, [], ◌∷◌, ◌++◌, ap, ◌∙◌, refl, subst, arith}
use Rattle.std.proofs.lemmas.List.{map-append}
use Rattle.blang.specs.Trees.{Definition}
use Rattle.blang.specs.Walk.{Walk, Said, TextHere, Level, ◌▸◌, tokens_in, walk_definition, spell_definition}
use Rattle.bgrammar.specs.Fitting.{words_in, Deeper, FitsIn}
use Rattle.bgrammar.specs.Levels.{Leveled, tokens, leveled, definition_levels, program_levels, IsFormedIn, NoneAbove, LevelsOfTokens, NeedsLevels, HasLevels}
use Rattle.bgrammar.proofs.Fitting.{definition_fits, definition_binds, definition_stands}

pub tokens-append : (us vs : List Leveled) → tokens (us ++ vs) ≡ tokens us ++ tokens vs
tokens-append us vs = map-append (λ (t : Leveled). t.token) us vs

pub tokens-leveled : (w : Walk) (n : ℕ) → tokens (leveled w n) ≡ tokens_in w
tokens-leveled (Level p w end) n = ap (λ l. p ∷ l) (tokens-leveled w (suc n))
tokens-leveled (v ▸ w) n = tokens-append (leveled v n) (leveled w n) ∙ ap (λ l. l ++ tokens (leveled w n)) (tokens-leveled v n) ∙ ap (λ l. tokens_in v ++ l) (tokens-leveled w n)
tokens-leveled _ n = refl

pub levels_of_tokens : LevelsOfTokens
levels_of_tokens [] = refl
levels_of_tokens (d ∷ ds) = tokens-append (definition_levels d) (program_levels ds) ∙ ap (λ l. l ++ tokens (program_levels ds)) (tokens-leveled (walk_definition d) 0) ∙ ap (λ l. spell_definition d ++ l) (levels_of_tokens ds)

-- Levels that stand in a list stand in its parts.
pub none_split : (most : ℕ) (us vs : List Leveled) → NoneAbove most (us ++ vs) → NoneAbove most us × NoneAbove most vs
none_split most [] vs h = (tt, h)
none_split most (u ∷ us) vs h = let s = none_split most us vs h.1 in ((h.0, s.0), s.1)

none_join : (most : ℕ) (us vs : List Leveled) → NoneAbove most us → NoneAbove most vs → NoneAbove most (us ++ vs)
none_join most [] vs h k = k
none_join most (u ∷ us) vs h k = (h.0, none_join most us vs h.1 k)

pub deeper : (P : ℕ → Type 0) (most n : ℕ) → suc n ≤ most → P (most - suc n) → Deeper P (most - n)
deeper P most n le p = let e : suc (most - suc n) ≡ most - n = omega arith in subst (λ k. Deeper P k) e p

-- What fits, fits as many levels as its tokens have, and has no level above its room.
module _ (most : ℕ) where
  pub within : (w : Walk) (room n off : ℕ) → FitsIn w room off → NoneAbove most (leveled w n) → FitsIn w (most - n) off
  within (TextHere t) room n off h none = h
  within (Level p w end) zero n off h none = absurd h
  within (Level p w end) (suc k) n off h none = deeper (λ k. FitsIn w k off) most n none.0 (within w k (suc n) off h none.1)
  within (v ▸ w) room n off h none = let s = none_split most (leveled v n) (leveled w n) none in (within v room n off h.0 s.0, within w room n (off + words_in v) h.1 s.1)
  within _ room n off h none = tt

  has : (w : Walk) (room n off : ℕ) → n + room ≤ most → FitsIn w room off → NoneAbove most (leveled w n)
  has (Said p) room n off le h = (omega arith, tt)
  has (TextHere t) room n off le h = (omega arith, tt)
  has (Level p w end) zero n off le h = absurd h
  has (Level p w end) (suc k) n off le h = (omega arith, has w k (suc n) off (omega arith) h)
  has (v ▸ w) room n off le h = none_join most (leveled v n) (leveled w n) (has v room n off le h.0) (has w room n (off + words_in v) le h.1)
  has _ room n off le h = tt

  pub definition_within : (d : Definition) (room : ℕ) → IsFormedIn room d → NoneAbove most (definition_levels d) → IsFormedIn most d
  definition_within d room f none =
      let same : most - 0 ≡ most = omega arith in
      definition_fits d most (definition_binds d room f) (subst (λ k. FitsIn (walk_definition d) k 0) same (within (walk_definition d) room 0 0 (definition_stands d room f) none))

pub needs_levels : NeedsLevels
needs_levels [] deepest most f none = tt
needs_levels (d ∷ ds) deepest most f none = let t = none_split most (definition_levels d) (program_levels ds) none in (definition_within most d deepest f.0 t.0, needs_levels ds deepest most f.1 t.1)

pub has_levels : HasLevels
has_levels [] most f = tt
has_levels (d ∷ ds) most f = none_join most (definition_levels d) (program_levels ds) (has most (walk_definition d) most 0 0 (omega arith) (definition_stands d most f.0)) (has_levels ds most f.1)
