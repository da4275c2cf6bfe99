-- Where the tokens of a source stand, and one of a line.
use Rattle.std.proofs.Common.{◌≡◌, ◌≢◌, ◌∙◌, ℕ, zero, suc, ◌+◌, ◌<◌, ◌≤◌, ◌==◌, ◌&&◌, ◌||◌, Bool, true, false, List, [], ◌∷◌, Option, Some, None, ⊎_elim, ap, arith, drop, length, length-drop, refl, subst, sym, ◌⊎◌, Ok, inl, inr, take, if◌then◌else◌}
use Rattle.std.proofs.lemmas.Bool.Decides.{nat_tests}
use Rattle.std.specs.Prelude.{IfSome, nat_lt, not, min}
use Rattle.std.specs.List.{list_any}
use Rattle.bword.specs.declared.edition.Edition.{Edition}
use Rattle.blang.specs.Cut.{greatest, longest, cut, line_number_after, placed, tokens_from}
use Rattle.blex.specs.declared.lexeme.Lexeme.{Lexeme}
use Rattle.blex.specs.declared.scanner.PlacedPiece.{PlacedPiece}
use Rattle.blex.specs.Places.{Finds, Scanner, after_blanks, line_at, next_piece, piece_end}
use Rattle.blex.proofs.PlaceSteps.{blanks_within, piece_grows}
use Rattle.bcheck.specs.Findings.{Chooses, FindsOn}
use Rattle.bcheck.specs.Tokens.{ends, has_token_on, is_on, is_token, pieces_from, pieces_of}
use Rattle.std.proofs.lemmas.List.{drop_all, take_all}
use Rattle.std.proofs.Math.Nat.{min-le_right}
use Rattle.bsources.specs.Files.{File}
use Rattle.bword.specs.ByteEnds.{Incoming, most}
use Rattle.blang.specs.declared.token.Placed.{Placed}
use Rattle.blex.specs.Calls.{first_tokens}
use Rattle.blex.specs.Lexemes.{placed_of, token_of_lexeme}
use Rattle.blex.specs.Lexers.{Lexer, LexGives}
use Rattle.blex.specs.declared.lexeme.Seen.{Seen}
use Rattle.blex.proofs.CallLaws.{calls_give_first}
use Rattle.bcheck.specs.Checks.{IsOver, StandsOn}
use Rattle.blex.specs.declared.lexeme.Lexeme.TheVariants as lexeme
use Rattle.blex.specs.Lexers as lexers

greatest_within : (p : ℕ → Bool) (n : ℕ) → greatest p n ≤ n
unfolding greatest
greatest_within p zero = omega arith
greatest_within p (suc n) = by (p (suc n)) (greatest_within p n)
  where
    by : (b : Bool) → greatest p n ≤ n → (if b then suc n else greatest p n) ≤ suc n
    by true h = omega arith
    by false h = omega (arith, h)

longest_within : (edition : Edition) (bytes : List ℕ) → longest edition bytes ≤ length bytes
unfolding longest
longest_within edition bytes = greatest_within _ (length bytes)

both_true : (a b : Bool) → (a && b) ≡ true → (a ≡ true) × (b ≡ true)
both_true true b e = (refl, e)
both_true false b e = cc

same_number : (m n : ℕ) → (m == n) ≡ true → m ≡ n
same_number m n e = grind (arith, nat_tests)

or_here : (a b : Bool) → a ≡ true → (a || b) ≡ true
or_here true b e = refl
or_here false b e = cc

or_later : (a b : Bool) → b ≡ true → (a || b) ≡ true
or_later true b e = refl
or_later false b e = e

no_end : (l : Option Lexeme) → ends l ≡ false → l ≢ Some lexeme.End
no_end l e is = let f : true ≡ false = ap ends (sym is) ∙ e in cc

token_no_end : (l : Option Lexeme) → is_token l ≡ true → l ≢ Some lexeme.End
token_no_end l e is = let f : false ≡ true = ap is_token (sym is) ∙ e in cc

module _ (edition : Edition) (source : List ℕ) where
  abbrev pub next : ℕ → PlacedPiece
  next at = next_piece edition source at

  pub end_within : (at : ℕ) → at ≤ length source → piece_end edition source (after_blanks source at) ≤ length source
  end_within at h =
      let first = after_blanks source at in
      omega (arith, blanks_within source at h, longest_within edition (drop first source), length-drop first source)

  grows : (at : ℕ) → ends (next at).lexeme ≡ false → at < piece_end edition source (after_blanks source at)
  grows at e = omega (arith, piece_grows edition source (after_blanks source at) (no_end (next at).lexeme e))

  step_end : (fuel at : ℕ) → ends (next at).lexeme ≡ true → pieces_from edition (suc fuel) source at ≡ next at ∷ []
  unfolding pieces_from
  step_end fuel at e = ap (λ (b : Bool). next at ∷ (if b then [] else pieces_from edition fuel source (next at).end)) e

  step_more : (fuel at : ℕ) → ends (next at).lexeme ≡ false → pieces_from edition (suc fuel) source at ≡ next at ∷ pieces_from edition fuel source (next at).end
  unfolding pieces_from
  step_more fuel at e = ap (λ (b : Bool). next at ∷ (if b then [] else pieces_from edition fuel source (next at).end)) e

  -- enough fuel is enough
  same_pieces : (m n at : ℕ) → at ≤ length source → length source < at + m → length source < at + n → pieces_from edition m source at ≡ pieces_from edition n source at
  same_pieces zero n at w h k = absurd (omega arith)
  same_pieces (suc m) zero at w h k = absurd (omega arith)
  same_pieces (suc m) (suc n) at w h k = by (ends (next at).lexeme) refl (λ g. same_pieces m n (next at).end (end_within at w) (omega (arith, g)) (omega (arith, g)))
    where
      by : (b : Bool) → ends (next at).lexeme ≡ b → (at < (next at).end → pieces_from edition m source (next at).end ≡ pieces_from edition n source (next at).end)
          → pieces_from edition (suc m) source at ≡ pieces_from edition (suc n) source at
      by true e again = step_end m at e ∙ sym (step_end n at e)
      by false e again = step_more m at e ∙ ap (λ ps. next at ∷ ps) (again (grows at e)) ∙ sym (step_more n at e)

  abbrev pub coming : ℕ → List PlacedPiece
  coming at = pieces_from edition (suc (length source)) source at

  pub coming_end : (at : ℕ) → ends (next at).lexeme ≡ true → coming at ≡ next at ∷ []
  coming_end at e = step_end (length source) at e

  pub coming_more : (at : ℕ) → at ≤ length source → ends (next at).lexeme ≡ false → coming at ≡ next at ∷ coming (next at).end
  coming_more at w e =
      step_more (length source) at e
      ∙ ap (λ ps. next at ∷ ps) (same_pieces (length source) (suc (length source)) (next at).end (end_within at w) (omega (arith, grows at e)) (omega arith))

  module _ (line : ℕ) where
    abbrev IsFound : PlacedPiece → Type 0
    IsFound p = FindsOn edition line source (Some p)

    -- one of the tokens of the line up to a place was found, or there is none
    pub record Seeks (at : ℕ) (found : Option PlacedPiece) : Type 0 where
      pub within : at ≤ length source
      pub members : (test : PlacedPiece → Bool) → list_any test (coming at) ≡ true → list_any test (pieces_of edition source) ≡ true
      pub some : IfSome found IsFound
      pub none : found ≡ None → list_any (is_on line) (coming at) ≡ has_token_on edition line source

    pub seeks_from : Seeks 0 None
    seeks_from = record { within = omega arith; members = λ test e. e; some = tt; none = λ e. refl }

    module _ (at : ℕ) (found after : Option PlacedPiece) (p : PlacedPiece) (is : p ≡ next at) (h : Seeks at found) (chosen : Chooses line p found after) where
      comes_first : (test : PlacedPiece → Bool) → test p ≡ true → list_any test (coming at) ≡ true
      comes_first test e = by (ends (next at).lexeme) refl
        where
          by : (b : Bool) → ends (next at).lexeme ≡ b → list_any test (coming at) ≡ true
          by true f = ap (list_any test) (step_end (length source) at f) ∙ or_here (test (next at)) false (ap test (sym is) ∙ e)
          by false f = ap (list_any test) (coming_more at h.within f) ∙ or_here (test (next at)) _ (ap test (sym is) ∙ e)

      is_found : is_on line p ≡ true → IsFound p
      is_found e =
          let both = both_true (is_token p.lexeme) (p.line == line) e in
          let here : line_at source p.first ≡ p.line = subst (λ (q : PlacedPiece). line_at source q.first ≡ q.line) (sym is) refl in
          let some : p.first < p.end = subst (λ (q : PlacedPiece). is_token q.lexeme ≡ true → q.first < q.end) (sym is) (λ t. piece_grows edition source (after_blanks source at) (token_no_end (next at).lexeme t)) both.0 in (
            e,
            here ∙ same_number p.line line both.1,
            some,
            subst (λ (q : PlacedPiece). q.end ≤ length source) (sym is) (end_within at h.within),
            λ test t. h.members test (comes_first test t),
          )

      some_after : IfSome after IsFound
      some_after = ⊎_elim (λ new. subst (λ o. IfSome o IsFound) (sym new.0) (is_found new.1)) (λ old. subst (λ o. IfSome o IsFound) (sym old.0) h.some) chosen

      -- where none was found this is none
      off : after ≡ None → (found ≡ None) × (is_on line (next at) ≡ false)
      off e = ⊎_elim (λ new. absurd (some_none (sym new.0 ∙ e))) (λ old. let f : found ≡ None = sym old.0 ∙ e in (f, ap (is_on line) (sym is) ∙ old.1 f)) chosen
        where
          some_none : Some p ≡ None → ⊥
          some_none x = cc

      pub seeks_on : ends p.lexeme ≡ false → Seeks p.end after
      seeks_on e =
          let f : ends (next at).lexeme ≡ false = ap (λ (q : PlacedPiece). ends q.lexeme) (sym is) ∙ e in
          let more = coming_more at h.within f in
          subst (λ (q : PlacedPiece). Seeks q.end after) (sym is)
          (record {
            within = end_within at h.within;
            members = λ test t. h.members test (ap (list_any test) more ∙ or_later (test (next at)) _ t);
            some = some_after;
            none = λ n. let o = off n in
                sym (ap (list_any (is_on line)) more ∙ ap (λ b. b || list_any (is_on line) (coming (next at).end)) o.1) ∙ h.none o.0;
          })

      finds_after : (o : Option PlacedPiece) → after ≡ o → ends p.lexeme ≡ true → FindsOn edition line source o
      finds_after None n e =
          let f : ends (next at).lexeme ≡ true = ap (λ (q : PlacedPiece). ends q.lexeme) (sym is) ∙ e in
          let o = off n in
          sym (h.none o.0) ∙ ap (list_any (is_on line)) (step_end (length source) at f) ∙ ap (λ b. b || false) o.1
      finds_after (Some q) n e = subst (λ x. IfSome x IsFound) n some_after

      pub seeks_end : ends p.lexeme ≡ true → FindsOn edition line source after
      seeks_end e = finds_after after refl e

-- what a scanner found
pub found_in : (old new : Scanner) (found : PlacedPiece) (edition : Edition) (source : List ℕ) → Finds old found new → old.edition ≡ edition → old.source ≡ source
    → found ≡ next_piece edition source old.at
found_in old new found edition source h e f = h.found_is ∙ ap (λ x. next_piece x old.source old.at) e ∙ ap (λ s. next_piece edition s old.at) f

-- Lines and columns along a text, and what stands where a source comes to a fault.

first_of : (p : Placed) (ts : List Placed) → first_tokens 1 ts ≡ p ∷ [] → (none : List Placed) × (ts ≡ p ∷ none)
first_of p [] e = cc
first_of p (t ∷ []) e = ([], e)
first_of p (t ∷ u ∷ us) e = let is : t ≡ p = cc in (u ∷ us, ap (λ x. x ∷ u ∷ us) is)

-- a lexer of this rest that gives the end first
pub over_here : (edition : Edition) (end : Incoming) (lender : List ℕ) (old new : Lexer) (seen : Seen) (characters rest : List ℕ) → old ≡ lexers.new edition end lender → end.left ≡ Some rest → end.is_over ≡ false
    → LexGives old (Ok (placed_of characters seen)) new → seen.lexeme ≡ lexeme.End → IsOver edition rest
over_here edition end lender old new seen characters rest e left live gives is =
    let p = placed_of characters seen in
    let first = subst (λ l. LexGives l (Ok p) new) e gives in
    let all = calls_give_first edition end lender (p ∷ []) new (new, first, refl) in
    let one = first_of p (tokens_from edition 1 rest) (all.told rest left live) in
    (seen.line, one.0, one.1 ∙ ap (λ l. placed (token_of_lexeme l characters) seen.line ∷ one.0) is)

-- nothing is left where a source ends
over_at_end : (edition : Edition) → IsOver edition []
unfolding tokens_from cut
over_at_end edition = (1, [], refl)

-- a line that comes, or was passed
pub line_near : (b : Bool) (now line : ℕ) → now < line → (if b then min (now + 1) most else now) ≤ line
line_near true now line h = omega arith
line_near false now line h = omega arith

-- where a line begins, or the source ends before it
pub stands_there : (edition : Edition) (line start : ℕ) (source : List ℕ) → (line_number_after 1 (take start source) ≡ line) ⊎ ((start ≡ length source) × (line_number_after 1 source < line))
    → StandsOn edition line (take start source) (drop start source)
stands_there edition line start source (inl is) = inl is
stands_there edition line start source (inr (end, less)) =
    let all : take start source ≡ source = take_all start source (omega (arith, end)) in
    let none : drop start source ≡ [] = drop_all start source (omega (arith, end)) in
    inr (subst (λ (xs : List ℕ). line_number_after 1 xs < line) (sym all) less, subst (IsOver edition) (sym none) (over_at_end edition))

positive : (m n : ℕ) → not (suc m == 0) ≡ nat_lt 0 (suc n)
positive m n = grind (arith, nat_tests)

-- whether there are several files, by their list
pub several_is : (rest : List File) (empty : Bool) → empty ≡ (length rest == 0) → not empty ≡ nat_lt 0 (length rest)
several_is [] empty e = ap not e
several_is (x ∷ xs) empty e = ap not e ∙ positive (length xs) (length xs)

pub below_min : (i n a b : ℕ) → i < n → n ≡ min a b → i < b
below_min i n a b h e = let less : n ≤ b = subst (λ m. m ≤ b) (sym e) (min-le_right a b) in omega (arith, h, less)
