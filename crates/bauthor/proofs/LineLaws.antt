-- The lines of a file of lines: what is written is read, and what is read is written so.
use Rattle.std.proofs.Common.{◌≡◌, ◌∙◌, ℕ, suc, ◌+◌, ◌^◌, ◌<◌, ◌≤◌, Bool, true, false, cond, List, [], ◌∷◌, ◌++◌, Option, None, Some, add-one, ap, arith, decimal, drop, get_or, inl, inr, length, length-append, refl, subst, sym, take}
use Rattle.std.specs.Prelude.{◌==◌, ◌||◌, MatchOption, nat_lt, option_map, position}
use Rattle.std.specs.List.{position_or_len}
use Rattle.std.proofs.Math.ListN.{get_or-append}
use Rattle.std.proofs.Math.Seq.{drop-append-add, get_or-append_seam, split_at, take-append_seam}
use Rattle.std.proofs.lemmas.Bool.{eqb-true, le-ltb, lt-ltb, ne_eqb}
use Rattle.std.proofs.lemmas.Bool.Decides.{eqb_tells}
use Rattle.std.proofs.lemmas.Fmt.{decimal_is_IsNumeral}
use Rattle.std.proofs.lemmas.List.{append-nil}
use Rattle.std.proofs.lemmas.List.Quantifiers.{position-Some}
use Rattle.std.proofs.lemmas.List.Sums.{position_or_len_is}
use Rattle.std.proofs.lemmas.Str.Parse.{digit_at}
use Rattle.bword.specs.ByteEnds.{most}
use Rattle.bauthor.specs.AuthorFiles.{lines_of}
use Rattle.bauthor.specs.LineFiles.{columned, columns_in, in_column, line_read, lines_wanted, number_read, place_before, place_read, whole_line}
use Rattle.bauthor.specs.Written.{IsColumn, SuitsPlace, WrittenLinesAreRead, column_text, place_text}
use Rattle.bauthor.specs.declared.place_line.PlaceLine.{PlaceLine}
use Rattle.bauthor.specs.declared.fault.LineWanted.{LineWanted}
use Rattle.bauthor.specs.declared.fault.LineWanted.TheVariants as wanted
use Rattle.bauthor.proofs.FileLaws.{written_is_read}
use Rattle.bauthor.proofs.Numbers.{is_read, read_so}

abbrev is_blank : ℕ → Bool
is_blank b = b == 32

-- a number in decimal digits has no blank
no_blank : (n : ℕ) → n < 2 ^ 64 → (k : ℕ) → k < length (decimal n) → is_blank (get_or (decimal n) k 0) ≡ false
no_blank n small k lt =
    let digit = digit_at (decimal n) k (decimal_is_IsNumeral n small).0.1 lt in
    ne_eqb (get_or (decimal n) k 0) 32 (λ e. omega (arith, digit.0, e))

-- where the first blank is
blank_at : (text : List ℕ) (n : ℕ) → position_or_len is_blank text ≡ n
    → position is_blank text ≡ cond (nat_lt n (length text)) (Some n) None
blank_at text n is = ap (λ i. cond (nat_lt i (length text)) (Some i) None) is

alone : (n : ℕ) → n < 2 ^ 64 → position is_blank (decimal n) ≡ None
alone n small =
    let all = length (decimal n) in
    let over : all ≤ all = omega arith in
    blank_at (decimal n) all
    (position_or_len_is is_blank (decimal n) all 0 over (no_blank n small) (λ lt. absurd (omega (arith, lt))))
    ∙ ap (λ b. cond b (Some all) None) (le-ltb all all over)

before : (n : ℕ) (rest : List ℕ) → n < 2 ^ 64
    → position is_blank (decimal n ++ 32 ∷ rest) ≡ Some (length (decimal n))
before n rest small =
    let digits = decimal n in
    let text = digits ++ 32 ∷ rest in
    let longer : length digits < length text = omega (arith, length-append digits (32 ∷ rest)) in
    let within : length digits ≤ length text = omega (arith, longer) in
    blank_at text (length digits)
    (position_or_len_is is_blank text (length digits) 0 within
    (λ k lt. ap is_blank (get_or-append digits (32 ∷ rest) 0 k lt) ∙ no_blank n small k lt)
    (λ lt. ap is_blank (get_or-append_seam digits 32 rest 0)))
    ∙ ap (λ b. cond b (Some (length digits)) None) (lt-ltb (length digits) (length text) longer)

-- What is written is read.
not_nothing : (n : ℕ) → 0 < n → (n == 0) ≡ false
not_nothing n some = ne_eqb n 0 (λ e. omega (arith, some, e))

module _ (last : ℕ) (source : Option (List (List ℕ))) where
  abbrev made : (line : ℕ) → Option ℕ → PlaceLine
  made line column = record { line = line; column = column }

  abbrev Fits : (line : ℕ) → Option ℕ → Type 0
  Fits line column = (line ≤ last) × (line ≤ most) × MatchOption column (Unit {0})
      (λ c. (0 < line) × (0 < c) × (c ≤ columns_in source line) × (c ≤ most))

  place_again : (line : ℕ) (column : Option ℕ) → Fits line column
      → place_read last source (decimal line ++ column_text column) ≡ Some (made line column)
  place_again line None h =
      let within = h.1 in
      let small : line < 2 ^ 64 = omega (arith, within) in
      ap (place_read last source) (append-nil (decimal line))
      ∙ ap (place_before last source (decimal line)) (alone line small)
      ∙ ap (option_map whole_line) (is_read line (decimal line) small refl last h.0)
  place_again line (Some c) h =
      let digits = decimal line in
      let text = digits ++ 32 ∷ decimal c in
      let within = h.1 in
      let small : line < 2 ^ 64 = omega (arith, within) in
      let column = h.2 in
      let most_of = column.3 in
      let few : c < 2 ^ 64 = omega (arith, most_of) in
      ap (place_before last source text) (before line (decimal c) small)
      ∙ ap (λ t. columned source (number_read last t) (drop (length digits + 1) text)) (take-append_seam digits (32 ∷ decimal c))
      ∙ ap (λ o. columned source o (drop (length digits + 1) text)) (is_read line digits small refl last h.0)
      ∙ ap (λ t. in_column line (number_read (columns_in source line) t)) (drop-append-add digits (32 ∷ decimal c) 1)
      ∙ ap (in_column line) (is_read c (decimal c) few refl (columns_in source line) column.2)
      ∙ ap (λ b. cond (b || (c == 0)) None (Some (made line (Some c)))) (not_nothing line column.0)
      ∙ ap (λ b. cond (false || b) None (Some (made line (Some c)))) (not_nothing c column.1)

  -- What is read is written so.
  abbrev IsWritten : List ℕ → PlaceLine → Type 0
  IsWritten text p = Fits p.line p.column × (text ≡ place_text p)

  whole_sound : (text : List ℕ) (p : PlaceLine) (o : Option ℕ) → number_read last text ≡ o
      → option_map whole_line o ≡ Some p → IsWritten text p
  whole_sound text p None is h = cc
  whole_sound text p (Some n) is h =
      let made : whole_line n ≡ p = cc in
      let r = read_so last text n is in
      subst (IsWritten text) made ((r.0.0, r.0.1, tt), r.1 ∙ sym (append-nil (decimal n)))

  none_or : (n c : ℕ) (p : PlaceLine) (a b : Bool) → (n == 0) ≡ a → (c == 0) ≡ b
      → cond (a || b) None (Some (made n (Some c))) ≡ Some p → (0 < n) × (0 < c) × (made n (Some c) ≡ p)
  none_or n c p true b na cb h = cc
  none_or n c p false true na cb h = cc
  none_or n c p false false na cb h = (some n na, some c cb, cc)
    where
      some : (m : ℕ) → (m == 0) ≡ false → 0 < m
      some m zero_not = elim (eqb_tells m 0) [
        | inl same ↦ let clash : true ≡ false = sym same.0 ∙ zero_not in absurd cc
        | inr other ↦ let apart : m ≡ 0 → ⊥ = other.1 in omega (arith, apart)
      ]

  column_sound : (n : ℕ) (text : List ℕ) (p : PlaceLine) (q : Option ℕ)
      → number_read (columns_in source n) text ≡ q → in_column n q ≡ Some p
      → (c : ℕ) × (0 < n) × (0 < c) × (made n (Some c) ≡ p) × (c ≤ columns_in source n) × (c ≤ most) × (text ≡ decimal c)
  column_sound n text p None is h = cc
  column_sound n text p (Some c) is h =
      let r = read_so (columns_in source n) text c is in
      let some = none_or n c p (n == 0) (c == 0) refl refl h in
      (c, some.0, some.1, some.2, r.0.0, r.0.1, r.1)

  columned_sound : (first rest : List ℕ) (p : PlaceLine) (o : Option ℕ) → number_read last first ≡ o
      → columned source o rest ≡ Some p → IsWritten (first ++ 32 ∷ rest) p
  columned_sound first rest p None is h = cc
  columned_sound first rest p (Some n) is h =
      let line = read_so last first n is in
      let column = column_sound n rest p (number_read (columns_in source n) rest) refl h in
      subst (IsWritten (first ++ 32 ∷ rest)) column.3 (
        (line.0.0, line.0.1, (column.1, column.2, column.4, column.5)),
        ap (λ t. t ++ 32 ∷ rest) line.1 ∙ ap (λ t. decimal n ++ 32 ∷ t) column.6,
      )

  place_sound : (text : List ℕ) (p : PlaceLine) (blank : Option ℕ) → position is_blank text ≡ blank
      → place_before last source text blank ≡ Some p → IsWritten text p
  place_sound text p None is h = whole_sound text p (number_read last text) refl h
  place_sound text p (Some at) is h =
      let found = position-Some is_blank text at 0 is in
      let blank : get_or text at 0 ≡ 32 = eqb-true (get_or text at 0) 32 found.1 in
      let cut : text ≡ take at text ++ 32 ∷ drop (at + 1) text =
      split_at text at 0 found.0 ∙ ap (λ b. take at text ++ b ∷ drop (suc at) text) blank
      ∙ ap (λ n. take at text ++ 32 ∷ drop n text) (sym (add-one at)) in
      subst (λ t. IsWritten t p) (sym cut)
      (columned_sound (take at text) (drop (at + 1) text) p (number_read last (take at text)) refl h)

again : (source : Option (List ℕ)) (w : LineWanted) (p : PlaceLine) → SuitsPlace source w p
    → line_read (option_map lines_of source) w (place_text p) ≡ Some p
again source (wanted.Number last name place) p h = place_again last (option_map lines_of source) p.line p.column h
again source wanted.End p h = absurd h

sound : (source : Option (List ℕ)) (w : LineWanted) (text : List ℕ) (p : PlaceLine)
    → line_read (option_map lines_of source) w text ≡ Some p → SuitsPlace source w p × (text ≡ place_text p)
sound source (wanted.Number last name place) text p h =
    place_sound last (option_map lines_of source) text p (position is_blank text) refl h
sound source wanted.End text p h = cc

pub written_lines_read : WrittenLinesAreRead
written_lines_read last source ds file =
    written_is_read (SuitsPlace source) place_text wanted.End (line_read (option_map lines_of source)) (again source)
    (sound source) (λ p h. h) (lines_wanted last ds) file
