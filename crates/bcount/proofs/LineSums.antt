-- What the code of each line did, with an instruction more.
use Rattle.std.proofs.Common.{◌≡◌, ◌∙◌, ℕ, zero, suc, ◌+◌, ◌-◌, ◌<◌, Bool, true, false, cond, List, [], ◌∷◌, ◌++◌, Option, None, Some, ap, arith, get_or, length, map, min, refl, set, sym, take, if◌then◌else◌}
use Rattle.std.specs.Prelude.{◌==◌, find, option_map, replicate, unwrap_or}
use Rattle.std.specs.List.{range_with_len, sum_by}
use Rattle.std.specs.Option.{option_or}
use Rattle.std.proofs.lemmas.List.{take_more}
use Rattle.std.proofs.lemmas.List.Folds.{find-append}
use Rattle.std.proofs.lemmas.List.FromFn.{get_or-map-range_with_len}
use Rattle.std.proofs.lemmas.List.Sums.{sum_by_push}
use Rattle.bword.specs.ByteEnds.{most}
use Rattle.btools.proofs.Finding.{other_number, same_number}
use Rattle.bcount.specs.SourceLines.{IsOnLines}
use Rattle.bcount.specs.declared.lines.Counted.{Counted}
use Rattle.bcount.specs.declared.lines.LineCount.{LineCount}
use Rattle.bcount.specs.Counts.{line_count, steps_on, times_on, with_count}
use Rattle.bcount.specs.Marks.{no_code}

-- a list that was set at one index is made by another function
pub set_one : {A : Type 0} (f g : ℕ → A) (first n i : ℕ) (x : A) → i < n → x ≡ g (first + i) → ((k : ℕ) → (k ≡ first + i → ⊥) → g k ≡ f k) → set (map f (range_with_len first n)) i x ≡ map g (range_with_len first n)
set_one f g first zero i x lt is others = absurd (omega (arith, lt))
set_one f g first (suc n) zero x lt is others =
    let here : first + 0 ≡ first = omega arith in
    (λ j. (is ∙ ap g here) j ∷ same_from (first + 1) n (omega arith) j)
  where
    same_from : (k m : ℕ) → first < k → map f (range_with_len k m) ≡ map g (range_with_len k m)
    same_from k zero lt = refl
    same_from k (suc m) lt = (λ j. sym (others k (λ e. omega (arith, e, lt))) j ∷ same_from (k + 1) m (omega (arith, lt)) j)
set_one f g first (suc n) (suc i) x lt is others =
    let moved : first + 1 + i ≡ first + suc i = omega arith in
    (λ j. sym (others first (λ e. omega (arith, e))) j ∷ set_one f g (first + 1) n i x (omega (arith, lt)) (is ∙ ap g (sym moved)) (λ k other. others k (λ e. other (e ∙ sym moved))) j)

-- no instruction yet
pub no_lines : (first n : ℕ) → replicate n no_code ≡ map (line_count []) (range_with_len first n)
no_lines first zero = refl
no_lines first (suc n) = ap (λ xs. no_code ∷ xs) (no_lines (first + 1) n)

clamped : (a b : ℕ) → min (min a most + b) most ≡ min (a + b) most
clamped a b = omega arith

first_of : (o : Option Counted) (c : Counted) → option_map (λ (x : Counted). x.count) (option_or o (Some c)) ≡ Some (unwrap_or (option_map (λ (x : Counted). x.count) o) c.count)
first_of None c = refl
first_of (Some x) c = refl

last_of : (o : Option Counted) → option_or o None ≡ o
last_of None = refl
last_of (Some x) = refl

module _ (counted : List Counted) (c : Counted) where
  on_line : (line : ℕ) → (c.line == line) ≡ true → line_count (counted ++ c ∷ []) line ≡ with_count (line_count counted line) c.count
  on_line line so =
      let p : Counted → Bool = λ x. x.line == line in
      let w : Counted → ℕ = λ x. if x.line == line then x.count else 0 in
      let times : times_on (counted ++ c ∷ []) line ≡ Some (unwrap_or (times_on counted line) c.count) =
      ap (option_map (λ (x : Counted). x.count)) (find-append p counted (c ∷ []) ∙ ap (λ b. option_or (find p counted) (cond b (Some c) None)) so) ∙ first_of (find p counted) c in
      let steps : steps_on (counted ++ c ∷ []) line ≡ min (steps_on counted line + c.count) most =
      ap (λ n. min n most) (sum_by_push w counted c ∙ ap (λ (b : Bool). sum_by w counted + (if b then c.count else 0)) so) ∙ sym (clamped (sum_by w counted) c.count) in
      (λ i. record { times = times i; steps = steps i })

  off_line : (line : ℕ) → (c.line == line) ≡ false → line_count (counted ++ c ∷ []) line ≡ line_count counted line
  off_line line not =
      let p : Counted → Bool = λ x. x.line == line in
      let w : Counted → ℕ = λ x. if x.line == line then x.count else 0 in
      let times : times_on (counted ++ c ∷ []) line ≡ times_on counted line =
      ap (option_map (λ (x : Counted). x.count)) (find-append p counted (c ∷ []) ∙ ap (λ b. option_or (find p counted) (cond b (Some c) None)) not ∙ last_of (find p counted)) in
      let none : sum_by w (counted ++ c ∷ []) ≡ sum_by w counted = let e = sum_by_push w counted c ∙ ap (λ (b : Bool). sum_by w counted + (if b then c.count else 0)) not in omega (arith, e) in
      (λ i. record { times = times i; steps = min (none i) most })

  pub one_more : (last : ℕ) (lines new : List LineCount) → IsOnLines last c → lines ≡ map (line_count counted) (range_with_len 1 last) → new ≡ set lines (c.line - 1) (with_count (get_or lines (c.line - 1) no_code) c.count) → new ≡ map (line_count (counted ++ c ∷ [])) (range_with_len 1 last)
  one_more last lines new on before is =
      let at : 1 + (c.line - 1) ≡ c.line = omega (arith, on.0) in
      let within : c.line - 1 < last = omega (arith, on.0, on.1) in
      let there : get_or lines (c.line - 1) no_code ≡ line_count counted c.line = ap (λ ls. get_or ls (c.line - 1) no_code) before ∙ get_or-map-range_with_len (line_count counted) 1 last (c.line - 1) c.line no_code within at in
      is ∙ ap (λ ls. set ls (c.line - 1) (with_count (get_or lines (c.line - 1) no_code) c.count)) before
      ∙ set_one (line_count counted) (line_count (counted ++ c ∷ [])) 1 last (c.line - 1) _ within
      (ap (λ x. with_count x c.count) there ∙ sym (on_line c.line (same_number c.line c.line refl)) ∙ ap (line_count (counted ++ c ∷ [])) (sym at))
      (λ k other. off_line k (other_number c.line k (λ e. other (sym e ∙ sym at))))

pub next_line : (counted : List Counted) (i : ℕ) (c d : Counted) (last : ℕ) (lines new : List LineCount) → i < length counted → c ≡ get_or counted i d → IsOnLines last c → lines ≡ map (line_count (take i counted)) (range_with_len 1 last)
    → new ≡ set lines (c.line - 1) (with_count (get_or lines (c.line - 1) no_code) c.count) → new ≡ map (line_count (take (i + 1) counted)) (range_with_len 1 last)
next_line counted i c d last lines new lt is on before set_is =
    one_more (take i counted) c last lines new on before set_is
    ∙ ap (λ cs. map (line_count cs) (range_with_len 1 last)) (sym (take_more counted i d lt ∙ ap (λ x. take i counted ++ x ∷ []) (sym is)))
