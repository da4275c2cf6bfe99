-- Closed facts: words and pages of a small table, in which pages 1 and 3 are made.
use Rattle.std.specs.Prelude.{◌≡◌, ℕ, true, false, List, [], ◌∷◌, ◌++◌, map, replicate, refl, Result, Err, OnErr}
use Rattle.std.proofs.Common.{subst, sym, ◌∙◌}
use Rattle.std.specs.Ordering.{nat_cmp}
use Rattle.bword.specs.declared.store.NoMemory.{NoMemory}
use Rattle.std.specs.FinSet as set
use Rattle.bpages.specs.Pages.{paged_word, made_below}

abbrev starts : List ℕ
starts = 0 ∷ 256 ∷ 0 ∷ 512 ∷ []

-- a page of zeros, the page of 5 and 6, and that of 7
abbrev list : List ℕ
list = replicate 256 0 ++ (5 ∷ 6 ∷ replicate 254 0) ++ replicate 255 0 ++ 7 ∷ []

words : map (paged_word starts list) (0 ∷ 255 ∷ 256 ∷ 257 ∷ 258 ∷ 512 ∷ 768 ∷ 1023 ∷ []) ≡
    0 ∷ 0 ∷ 5 ∷ 6 ∷ 0 ∷ 0 ∷ 0 ∷ 7 ∷ []
words = refl

made : made_below starts 4 ≡ set.insert (set.insert set.empty 1) 3
unfolding made_below
made = refl

-- A page that is made isn't refused.
refused : (pages : set.FinSet nat_cmp) (page : ℕ) (r : Result (Unit {0}) NoMemory) (why : NoMemory)
    → set.contains pages page ≡ true → r ≡ Err why → OnErr r (set.contains pages page ≡ false) → ⊥
refused pages page r why made e h =
    let none : true ≡ false = sym made ∙ subst (λ x. OnErr x (set.contains pages page ≡ false)) e h in
    cc
