-- The pages of a store that have a word.
use Rattle.std.proofs.Common.{◌≡◌, ◌≢◌, ◌∙◌, ℕ, zero, suc, ◌+◌, ◌-◌, ◌*◌, ◌/◌, ◌<◌, ◌≤◌, Bool, true, false, cond, List, add-one, ap, arith, refl, subst, sym, inl, inr}
use Rattle.std.specs.Prelude.{◌==◌, if◌then◌else◌, slice_index}
use Rattle.std.proofs.lemmas.Bool.{cases_lt, eqb-true, ne_eqb}
use Rattle.std.proofs.Math.Bool.{or-true}
use Rattle.std.specs.Cmp.{nat_cmp_total}
use Rattle.std.specs.FinSet as set
use Rattle.std.specs.Ordering.{nat_cmp}
use Rattle.bpages.specs.PagedStores.{paged_words, pages_of}
use Rattle.bpages.specs.Pages.{get_or-words_below, made_below}
use Rattle.bpages.specs.declared.paged_store.PagedStore.{PagedStore}
use Rattle.bpages.proofs.PageLemmas.{below-contains, none_start, word_at-none}
use Rattle.bword.specs.Words.{flag_of}
use Rattle.bsession.specs.Sessions.{has_word, pages_held, pages_with_words}

pub no_word_first : (words : List ℕ) (first : ℕ) → has_word words first 0 ≡ false
unfolding has_word
no_word_first words first = refl

pub no_word_next : (words : List ℕ) (first n : ℕ) → has_word words first n ≡ false → slice_index words (first + n) ≡ 0
    → has_word words first (n + 1) ≡ false
unfolding has_word
no_word_next words first n none blank = rw (add-one, none, blank) refl

pub word_there : (words : List ℕ) (first n m : ℕ) → slice_index words (first + n) ≢ 0 → n < m → has_word words first m ≡ true
unfolding has_word
word_there words first n zero some lt = absurd (omega (arith, lt))
word_there words first n (suc m) some lt = elim (cases_lt n m) [
  | inl before ↦ rw (word_there words first n m some before) refl
  | inr there ↦
      let same : m ≡ n = omega (arith, lt, there) in
      rw (same, ne_eqb (slice_index words (first + n)) 0 some) (or-true (has_word words first n))
]

pub no_word_within : (words : List ℕ) (first n : ℕ) → ((i : ℕ) → i < n → slice_index words (first + i) ≡ 0)
    → has_word words first n ≡ false
unfolding no_word_first
no_word_within words first zero blank = no_word_first words first
no_word_within words first (suc n) blank =
    subst (λ k. has_word words first k ≡ false) (add-one n)
    (no_word_next words first n (no_word_within words first n (λ i lt. blank i (omega (arith, lt)))) (blank n (omega arith)))

-- a page that isn't made has none
blank_page : (store : PagedStore) (page : ℕ) → page < 256 → slice_index store.starts page ≡ 0
    → has_word (paged_words store) (256 * page) 256 ≡ false
blank_page store page below none = no_word_within (paged_words store) (256 * page) 256 (λ i lt.
    let whose : (256 * page + i) / 256 ≡ page = omega (arith, lt) in
    get_or-words_below store.starts store.list.items 65536 (256 * page + i) (omega (arith, lt, below))
    ∙ word_at-none store.starts store.list.items (256 * page + i) store.paged
    (ap (slice_index store.starts) whose ∙ none))

pub unmade_page : (store : PagedStore) (page : ℕ) → page < 256 → set.contains (pages_of store) page ≡ false
    → has_word (paged_words store) (256 * page) 256 ≡ false
unmade_page store page below none =
    blank_page store page below (none_start store.starts store.list.items page store.paged none)

pub pages_first : (words : List ℕ) → pages_with_words words 0 ≡ 0
unfolding pages_with_words
pages_first words = refl

pub pages_next : (words : List ℕ) (n : ℕ)
    → pages_with_words words (n + 1) ≡ pages_with_words words n + flag_of (has_word words (256 * n) 256)
unfolding pages_with_words
pages_next words n = rw add-one refl

flag_small : (b : Bool) → flag_of b ≤ 1
flag_small true = omega arith
flag_small false = omega arith

pub few_pages : (words : List ℕ) (n : ℕ) → pages_with_words words n ≤ n
few_pages words zero = let none = pages_first words in omega (arith, none)
few_pages words (suc n) =
    let few = few_pages words n in
    let small = flag_small (has_word words (256 * n) 256) in
    let next = ap (pages_with_words words) (sym (add-one n)) ∙ pages_next words n in
    omega (arith, next, few, small)

-- where a word isn't 0, its page has one
pub some_page : (words : List ℕ) (n address : ℕ) → address < 256 * n → slice_index words address ≢ 0
    → 0 < pages_with_words words n
some_page words zero address below some = absurd (omega (arith, below))
some_page words (suc n) address below some =
    let next = ap (pages_with_words words) (sym (add-one n)) ∙ pages_next words n in
    elim (cases_lt address (256 * n)) [
      | inl before ↦ let more = some_page words n address before some in omega (arith, next, more)
      | inr here ↦
          let at : 256 * n + (address - 256 * n) ≡ address = omega (arith, here) in
          let there : has_word words (256 * n) 256 ≡ true =
          word_there words (256 * n) (address - 256 * n) 256 (λ blank. some (ap (slice_index words) (sym at) ∙ blank)) (omega (arith, here, below)) in
          let one : flag_of (has_word words (256 * n) 256) ≡ 1 = ap flag_of there in
          omega (arith, next, one)
    ]

-- and where all are, none has
pub no_pages : (words : List ℕ) (n : ℕ) → ((address : ℕ) → slice_index words address ≡ 0) → pages_with_words words n ≡ 0
no_pages words zero blank = pages_first words
no_pages words (suc n) blank =
    let next = ap (pages_with_words words) (sym (add-one n)) ∙ pages_next words n in
    let before = no_pages words n blank in
    let none : flag_of (has_word words (256 * n) 256) ≡ 0 =
    ap flag_of (no_word_within words (256 * n) 256 (λ i lt. blank (256 * n + i))) in
    omega (arith, next, before, none)

-- a page more, with or without a word
pub one_page : (words : List ℕ) (n held : ℕ) (b : Bool) → held ≡ pages_with_words words n
    → b ≡ has_word words (256 * n) 256 → held + flag_of b ≡ pages_with_words words (n + 1)
one_page words n held b before is =
    let next = pages_next words n in
    let flag : flag_of b ≡ flag_of (has_word words (256 * n) 256) = ap flag_of is in
    omega (arith, next, before, flag)

-- no more pages have a word than are made
not_true : (b : Bool) → (b ≡ true → ⊥) → b ≡ false
not_true true none = absurd (none refl)
not_true false none = refl

page_more : (pages : set.FinSet nat_cmp) (n held flag : ℕ) (b : Bool) → set.contains pages n ≡ false → held ≤ set.len pages
    → flag ≤ 1 → (b ≡ true → flag ≡ 0) → held + flag ≤ set.len (if b then pages else set.insert pages n)
page_more pages n held flag true new few small none = let no = none refl in omega (arith, few, no)
page_more pages n held flag false new few small none =
    let one : set.len (set.insert pages n) ≡ set.len pages + 1 =
    set.len-insert nat_cmp_total pages n ∙ ap (λ b. cond b (set.len pages) (set.len pages + 1)) new in
    omega (arith, few, small, one)

few_of_made : (store : PagedStore) (n : ℕ) → n ≤ 256
    → pages_with_words (paged_words store) n ≤ set.len (made_below store.starts n)
unfolding made_below
few_of_made store zero le = let none = pages_first (paged_words store) in omega (arith, none)
few_of_made store (suc n) le =
    let words = paged_words store in
    let pages = made_below store.starts n in
    let next = ap (pages_with_words words) (sym (add-one n)) ∙ pages_next words n in
    let more = page_more pages n (pages_with_words words n) (flag_of (has_word words (256 * n) 256)) (slice_index store.starts n == 0)
    (not_true (set.contains pages n) (λ there. let lt = below-contains store.starts n n there in omega (arith, lt)))
    (few_of_made store n (omega (arith, le))) (flag_small (has_word words (256 * n) 256))
    (λ blank. ap flag_of (blank_page store n (omega (arith, le)) (eqb-true (slice_index store.starts n) 0 blank))) in
    omega (arith, next, more)

pub no_more_than_made : (store : PagedStore) → pages_held (paged_words store) ≤ set.len (pages_of store)
no_more_than_made store = few_of_made store 256 (omega arith)
