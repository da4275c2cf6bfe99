-- The text of each file of a source reads back.
use Rattle.std.proofs.Common.{◌≡◌, ◌∙◌, ℕ, ◌+◌, ◌-◌, ◌==◌, Bool, true, false, List, [], ◌∷◌, ◌++◌, ap, append-nil, arith, cond, map, refl, if◌then◌else◌}
use Rattle.std.specs.Prelude.{count_by}
use Rattle.std.proofs.lemmas.Bool.Decides.{nat_tests}
use Rattle.std.proofs.lemmas.List.Sums.{sum_by-cons}
use Rattle.bsources.specs.Files.{file_in, joined, lines_in}
use Rattle.bshow.specs.OwnTexts.{FilesReadBack, lines_after, lines_until, own_texts, text_of}

-- one byte more, which is a newline or not
newlines_more : (b : ℕ) (bs : List ℕ) (t : Bool) → (b == 10) ≡ t → lines_in (b ∷ bs) ≡ cond t 1 0 + lines_in bs
newlines_more b bs t h =
    let one : count_by (λ x. x == 10) (b ∷ bs) ≡ cond t 1 0 + count_by (λ x. x == 10) bs =
    sum_by-cons (λ x. cond (x == 10) 1 0) b bs ∙ ap (λ c. cond c 1 0 + count_by (λ x. x == 10) bs) h in
    ap (λ n. n + 1) one ∙ assoc (cond t 1 0) (count_by (λ x. x == 10) bs)
  where
    assoc : (a c : ℕ) → a + c + 1 ≡ a + (c + 1)
    assoc a c = omega arith

module _ (b : ℕ) (text : List ℕ) (n m : ℕ) where
  until_newline : (b == 10) ≡ true → n ≡ 1 + (m + 1) → lines_until n (b ∷ text) ≡ b ∷ lines_until (m + 1) text
  until_newline h more =
      let other : (n == 1) ≡ false = grind (arith, nat_tests) in
      let less : n - 1 ≡ m + 1 = omega (arith, more) in
      (λ i. if h i then (if other i then [] else b ∷ lines_until (less i) text) else b ∷ lines_until n text)

  until_other : (b == 10) ≡ false → n ≡ 0 + (m + 1) → lines_until n (b ∷ text) ≡ b ∷ lines_until (m + 1) text
  until_other h same =
      let is : n ≡ m + 1 = omega (arith, same) in
      (λ i. if h i then (if n == 1 then [] else b ∷ lines_until (n - 1) text) else b ∷ lines_until (is i) text)

  after_newline : (b == 10) ≡ true → n ≡ 1 + (m + 1) → lines_after n (b ∷ text) ≡ lines_after (m + 1) text
  after_newline h more =
      let other : (n == 1) ≡ false = grind (arith, nat_tests) in
      let less : n - 1 ≡ m + 1 = omega (arith, more) in
      (λ i. if h i then (if other i then text else lines_after (less i) text) else lines_after n text)

  after_other : (b == 10) ≡ false → n ≡ 0 + (m + 1) → lines_after n (b ∷ text) ≡ lines_after (m + 1) text
  after_other h same =
      let is : n ≡ m + 1 = omega (arith, same) in
      (λ i. if h i then (if n == 1 then text else lines_after (n - 1) text) else lines_after (is i) text)

-- what stands up to the newline after a text, and what follows it
until_own : (text rest : List ℕ) → lines_until (lines_in text) (text ++ 10 ∷ rest) ≡ text
until_own [] rest = refl
until_own (b ∷ bs) rest = by_byte (b == 10) refl (until_own bs rest)
  where
    by_byte : (t : Bool) → (b == 10) ≡ t → lines_until (lines_in bs) (bs ++ 10 ∷ rest) ≡ bs → lines_until (lines_in (b ∷ bs)) (b ∷ (bs ++ 10 ∷ rest)) ≡ b ∷ bs
    by_byte true h others = until_newline b (bs ++ 10 ∷ rest) (lines_in (b ∷ bs)) (count_by (λ x. x == 10) bs) h (newlines_more b bs true h) ∙ ap (λ xs. b ∷ xs) others
    by_byte false h others = until_other b (bs ++ 10 ∷ rest) (lines_in (b ∷ bs)) (count_by (λ x. x == 10) bs) h (newlines_more b bs false h) ∙ ap (λ xs. b ∷ xs) others

after_own : (text rest : List ℕ) → lines_after (lines_in text) (text ++ 10 ∷ rest) ≡ rest
after_own [] rest = refl
after_own (b ∷ bs) rest = by_byte (b == 10) refl (after_own bs rest)
  where
    by_byte : (t : Bool) → (b == 10) ≡ t → lines_after (lines_in bs) (bs ++ 10 ∷ rest) ≡ rest → lines_after (lines_in (b ∷ bs)) (b ∷ (bs ++ 10 ∷ rest)) ≡ rest
    by_byte true h others = after_newline b (bs ++ 10 ∷ rest) (lines_in (b ∷ bs)) (count_by (λ x. x == 10) bs) h (newlines_more b bs true h) ∙ others
    by_byte false h others = after_other b (bs ++ 10 ∷ rest) (lines_in (b ∷ bs)) (count_by (λ x. x == 10) bs) h (newlines_more b bs false h) ∙ others

pub read_back : FilesReadBack
read_back first [] = ap (λ t. t ∷ []) (append-nil first.text)
read_back first (next ∷ rest) =
    let others = joined next.text (map text_of rest) in
    (λ i. until_own first.text others i ∷ own_texts (file_in next) (map file_in rest) (after_own first.text others i))
    ∙ ap (λ ts. first.text ∷ ts) (read_back next rest)
