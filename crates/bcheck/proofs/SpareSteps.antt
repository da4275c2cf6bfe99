-- What two sources begin with alike, and what an edit makes of a source.
use Rattle.std.proofs.Common.{◌≡◌, ◌∙◌, ℕ, suc, ◌+◌, ◌<◌, ◌≤◌, ◌==◌, Bool, true, false, List, [], ◌∷◌, ap, arith, drop, length, refl, sym, ◌≢◌, zero, ◌++◌, Option, Some, append_assoc, append-nil, subst}
use Rattle.std.specs.Prelude.{if◌then◌else◌}
use Rattle.std.proofs.lemmas.Bool.Decides.{nat_tests}
use Rattle.std.proofs.lemmas.List.{drop-drop, drop_all, length-drop}
use Rattle.blex.specs.declared.scanner.PlacedPiece.{PlacedPiece}
use Rattle.bword.specs.declared.edition.Edition.{Edition}
use Rattle.bcheck.specs.Spares.{Pair, Swap, alike, are_in, before_back, begins_alike, changed_pair, keeps, rest_back, right_pieces, spares, right_from, right_piece}
use Rattle.blex.specs.declared.lexeme.Lexeme.{Lexeme}
use Rattle.blex.specs.Places.{after_blanks, next_piece}
use Rattle.blex.proofs.PlaceSteps.{end_piece, piece_grows}
use Rattle.bcheck.specs.Sections.{is_end}
use Rattle.blex.specs.declared.lexeme.Lexeme.TheVariants as lexeme

module _ (source new : List ℕ) where
  one_more : (olds news : List PlacedPiece) → begins_alike source olds new news ≡ true
      → (alike source olds new news ≡ suc (alike source (drop 1 olds) new (drop 1 news))) × (1 ≤ length news)
  one_more [] news h = absurd (no h)
    where
      no : ◌≡◌ {A = Bool} false true → ⊥
      no h = cc
  one_more (p ∷ ps) [] h = absurd (no h)
    where
      no : ◌≡◌ {A = Bool} false true → ⊥
      no h = cc
  one_more (p ∷ ps) (q ∷ qs) h =
      (ap (λ (b : Bool). if b then suc (alike source ps new qs) else 0) h, omega arith)

  module _ (olds news : List PlacedPiece) (i : ℕ) where
    -- so many are alike, and those that come after them
    pub record Counts : Type 0 where
      pub all : alike source olds new news ≡ i + alike source (drop i olds) new (drop i news)
      pub within : i ≤ length news

  module _ (olds news : List PlacedPiece) (i : ℕ) (h : Counts olds news i) where
    pub counts_more : begins_alike source (drop i olds) new (drop i news) ≡ true → Counts olds news (i + 1)
    counts_more e =
        let one = one_more (drop i olds) (drop i news) e in
        let long = length-drop i news in
        let all = h.all in
        let within = h.within in
        let some = one.1 in
        let step : alike source (drop i olds) new (drop i news) ≡ suc (alike source (drop (i + 1) olds) new (drop (i + 1) news)) =
        one.0 ∙ ap (λ (ps : List PlacedPiece). suc (alike source ps new (drop 1 (drop i news)))) (drop-drop 1 i olds)
        ∙ ap (λ (qs : List PlacedPiece). suc (alike source (drop (i + 1) olds) new qs)) (drop-drop 1 i news) in
        record { all = omega (arith, all, step); within = omega (arith, long, some, within) }

-- the pieces that are left among the others that are left
module _ (source new : List ℕ) where
  in_same : (xs ys : List PlacedPiece) → begins_alike source xs new ys ≡ true
      → (are_in source xs new ys ≡ are_in source (drop 1 xs) new (drop 1 ys)) × (1 ≤ length xs)
  in_same [] ys h = absurd (no h)
    where
      no : ◌≡◌ {A = Bool} false true → ⊥
      no h = cc
  in_same (p ∷ ps) [] h = absurd (no h)
    where
      no : ◌≡◌ {A = Bool} false true → ⊥
      no h = cc
  in_same (p ∷ ps) (q ∷ qs) h =
      (ap (λ (b : Bool). if b then are_in source ps new qs else are_in source (p ∷ ps) new qs) h, omega arith)

  in_other : (xs ys : List PlacedPiece) → begins_alike source xs new ys ≡ false
      → are_in source xs new ys ≡ are_in source xs new (drop 1 ys)
  in_other [] ys h = refl
  in_other (p ∷ ps) [] h = refl
  in_other (p ∷ ps) (q ∷ qs) h =
      ap (λ (b : Bool). if b then are_in source ps new qs else are_in source (p ∷ ps) new qs) h

  in_none : (xs : List PlacedPiece) → 1 ≤ length xs → are_in source xs new [] ≡ false
  in_none [] h = absurd (omega (arith, h))
  in_none (p ∷ ps) h = refl

  -- so many pieces were found among so many others
  pub record Found (ps qs : List PlacedPiece) (count i : ℕ) : Type 0 where
    pub within : count ≤ length ps
    pub left : are_in source (drop count ps) new (drop i qs) ≡ are_in source ps new qs

  pub found_from : (ps qs : List PlacedPiece) → Found ps qs 0 0
  found_from ps qs = record { within = omega arith; left = refl }

  module _ (ps qs : List PlacedPiece) (count i : ℕ) (h : Found ps qs count i) where
    pub found_more : (after : ℕ)
        → after ≡ (if begins_alike source (drop count ps) new (drop i qs) then count + 1 else count)
        → Found ps qs after (i + 1)
    found_more after e = by (begins_alike source (drop count ps) new (drop i qs)) refl
      where
        next : drop 1 (drop i qs) ≡ drop (i + 1) qs
        next = drop-drop 1 i qs

        is : (b : Bool) → begins_alike source (drop count ps) new (drop i qs) ≡ b → after ≡ (if b then count + 1 else count)
        is b f = e ∙ ap (λ (c : Bool). if c then count + 1 else count) f

        by : (b : Bool) → begins_alike source (drop count ps) new (drop i qs) ≡ b → Found ps qs after (i + 1)
        by true f =
            let one = in_same (drop count ps) (drop i qs) f in
            let some = one.1 in
            let long = length-drop count ps in
            let at : after ≡ count + 1 = is true f in
            record {
              within = omega (arith, some, long, at);
              left =
                  ap (λ n. are_in source (drop n ps) new (drop (i + 1) qs)) at
                  ∙ sym (ap (λ xs. are_in source xs new (drop (i + 1) qs)) (drop-drop 1 count ps))
                  ∙ sym (ap (are_in source (drop 1 (drop count ps)) new) next) ∙ sym one.0 ∙ h.left;
            }
        by false f =
            let at : after ≡ count = is false f in
            let within = h.within in
            record {
              within = omega (arith, within, at);
              left =
                  ap (λ n. are_in source (drop n ps) new (drop (i + 1) qs)) at
                  ∙ sym (ap (are_in source (drop count ps) new) next)
                  ∙ sym (in_other (drop count ps) (drop i qs) f) ∙ h.left;
            }

    pub found_all : length qs ≤ i → (count == length ps) ≡ are_in source ps new qs
    found_all low = by (count == length ps) refl
      where
        end : are_in source (drop count ps) new [] ≡ are_in source ps new qs
        end = ap (are_in source (drop count ps) new) (sym (drop_all i qs low)) ∙ h.left

        by : (b : Bool) → (count == length ps) ≡ b → (count == length ps) ≡ are_in source ps new qs
        by true e =
            let same : length ps ≤ count = grind (arith, nat_tests) in
            e ∙ sym (ap (λ xs. are_in source xs new []) (drop_all count ps same)) ∙ end
        by false e =
            let high = h.within in
            let long = length-drop count ps in
            let less : count < length ps = grind (arith, nat_tests) in
            e ∙ sym (in_none (drop count ps) (omega (arith, less, long))) ∙ end

-- two sources and pieces of each
abbrev pub pair : (source : List ℕ) → List PlacedPiece → (new : List ℕ) → List PlacedPiece → Pair
pair source olds new news = record { source = source; olds = olds; new = new; news = news }

both : (source new : List ℕ) (olds news others more : List PlacedPiece) → olds ≡ others → news ≡ more
    → pair source olds new news ≡ pair source others new more
both source new olds news others more e f =
    ap (λ ps. pair source ps new news) e ∙ ap (λ ps. pair source others new ps) f

-- a change of the first pair to the second one
abbrev pub swap : (whole changed : Pair) → (before : List PlacedPiece) → (taken : List ℕ) → (pieces : List PlacedPiece) → Swap
swap whole changed before taken pieces = record { whole = whole; changed = changed; before = before; taken = taken; pieces = pieces }

-- what is said of the pieces that change is said of the sources
pub spares_is : (edition : Edition) (source new taken : List ℕ) (olds news before first_olds first_news last_olds last_news pieces : List PlacedPiece) (result : Bool)
    → olds ≡ right_pieces edition source → news ≡ right_pieces edition new → pieces ≡ right_pieces edition taken
    → before ≡ before_back (pair source olds new news)
    → first_olds ≡ (rest_back (pair source olds new news)).olds → first_news ≡ (rest_back (pair source olds new news)).news
    → last_olds ≡ (rest_back (pair source first_olds new first_news)).olds → last_news ≡ (rest_back (pair source first_olds new first_news)).news
    → result ≡ keeps (swap (pair source olds new news) (pair source last_olds new last_news) before taken pieces)
    → result ≡ spares edition source new taken
spares_is edition source new taken olds news before first_olds first_news last_olds last_news pieces result a b c h d e f g k =
    let whole = pair source (right_pieces edition source) new (right_pieces edition new) in
    let one = both source new olds news (right_pieces edition source) (right_pieces edition new) a b in
    let first : pair source first_olds new first_news ≡ rest_back whole =
    both source new first_olds first_news (rest_back (pair source olds new news)).olds (rest_back (pair source olds new news)).news d e
    ∙ ap rest_back one in
    let last : pair source last_olds new last_news ≡ changed_pair edition source new =
    both source new last_olds last_news (rest_back (pair source first_olds new first_news)).olds (rest_back (pair source first_olds new first_news)).news f g
    ∙ ap rest_back first in
    let front : before ≡ before_back whole = h ∙ ap before_back one in
    k ∙ ap (λ (p : Pair). keeps (swap p (pair source last_olds new last_news) before taken pieces)) one
    ∙ ap (λ (p : Pair). keeps (swap whole p before taken pieces)) last
    ∙ ap (λ (ps : List PlacedPiece). keeps (swap whole (changed_pair edition source new) ps taken pieces)) front
    ∙ ap (λ (ps : List PlacedPiece). keeps (swap whole (changed_pair edition source new) (before_back whole) taken ps)) c

-- The comments and tokens of a source that are still to come, but for what is wrong.

module _ (edition : Edition) (source : List ℕ) where
  abbrev next : ℕ → PlacedPiece
  next at = next_piece edition source at

  other_than_end : (l : Option Lexeme) → is_end l ≡ false → l ≢ Some lexeme.End
  other_than_end l e same = let f : true ≡ false = ap is_end (sym same) ∙ e in cc

  grows : (at : ℕ) → is_end (next at).lexeme ≡ false → at < (next at).end
  grows at e = omega (arith, piece_grows edition source (after_blanks source at) (other_than_end (next at).lexeme e))

  step_end : (fuel at : ℕ) → is_end (next at).lexeme ≡ true → right_from edition (suc fuel) source at ≡ []
  unfolding right_from
  step_end fuel at e =
      ap (λ (b : Bool). if b then [] else right_piece (next at) ++ right_from edition fuel source (next at).end) e

  step_more : (fuel at : ℕ) → is_end (next at).lexeme ≡ false
      → right_from edition (suc fuel) source at ≡ right_piece (next at) ++ right_from edition fuel source (next at).end
  unfolding right_from
  step_more fuel at e =
      ap (λ (b : Bool). if b then [] else right_piece (next at) ++ right_from edition fuel source (next at).end) e

  none_left : (fuel at : ℕ) → length source ≤ at → right_from edition fuel source at ≡ []
  unfolding right_from
  none_left zero at h = refl
  none_left (suc fuel) at h = step_end fuel at (ap is_end (end_piece edition source at h))

  -- enough fuel is enough
  fuel_enough : (m n at : ℕ) → length source ≤ at + m → length source ≤ at + n
      → right_from edition m source at ≡ right_from edition n source at
  fuel_enough zero n at h k = none_left zero at (omega arith) ∙ sym (none_left n at (omega arith))
  fuel_enough (suc m) zero at h k = none_left (suc m) at (omega arith) ∙ sym (none_left zero at (omega arith))
  fuel_enough (suc m) (suc n) at h k =
      by (is_end (next at).lexeme) refl (λ g. fuel_enough m n (next at).end (omega (arith, g)) (omega (arith, g)))
    where
      by : (b : Bool) → is_end (next at).lexeme ≡ b
          → (at < (next at).end → right_from edition m source (next at).end ≡ right_from edition n source (next at).end)
          → right_from edition (suc m) source at ≡ right_from edition (suc n) source at
      by true e again = step_end m at e ∙ sym (step_end n at e)
      by false e again =
          step_more m at e ∙ ap (λ ps. right_piece (next at) ++ ps) (again (grows at e)) ∙ sym (step_more n at e)

  -- those from a place on
  abbrev pub coming : ℕ → List PlacedPiece
  coming at = right_from edition (length source) source at

  coming_end : (at : ℕ) → is_end (next at).lexeme ≡ true → coming at ≡ []
  coming_end at e =
      fuel_enough (length source) (suc (length source)) at (omega arith) (omega arith) ∙ step_end (length source) at e

  coming_more : (at : ℕ) → is_end (next at).lexeme ≡ false
      → coming at ≡ right_piece (next at) ++ coming (next at).end
  coming_more at e =
      fuel_enough (length source) (suc (length source)) at (omega arith) (omega arith) ∙ step_more (length source) at e

  -- the source is read up to a place
  pub record Reads (pieces : List PlacedPiece) (at : ℕ) : Type 0 where
    pub all : pieces ++ coming at ≡ right_pieces edition source

  module _ (pieces : List PlacedPiece) (at : ℕ) (found : PlacedPiece) (is : found ≡ next at) (h : Reads pieces at) where
    pub reads_end : is_end found.lexeme ≡ true → pieces ≡ right_pieces edition source
    reads_end e =
        let end : is_end (next at).lexeme ≡ true = ap (λ (p : PlacedPiece). is_end p.lexeme) (sym is) ∙ e in
        sym (append-nil pieces) ∙ ap (λ ps. pieces ++ ps) (sym (coming_end at end)) ∙ h.all

    pub reads_more : is_end found.lexeme ≡ false → Reads (pieces ++ right_piece found) found.end
    reads_more e =
        let other : is_end (next at).lexeme ≡ false = ap (λ (p : PlacedPiece). is_end p.lexeme) (sym is) ∙ e in
        subst (λ (p : PlacedPiece). Reads (pieces ++ right_piece p) p.end) (sym is)
        (record {
          all =
              append_assoc pieces (right_piece (next at)) (coming (next at).end)
              ∙ ap (λ ps. pieces ++ ps) (sym (coming_more at other)) ∙ h.all;
        })
