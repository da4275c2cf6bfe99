-- The counts of instructions, as steps are made.
use Rattle.std.proofs.Common.{◌≡◌, ◌∙◌, ℕ, zero, suc, ◌+◌, ◌<◌, ◌≤◌, ⊎_elim, Bool, true, false, cond, List, [], ◌∷◌, ◌++◌, None, Some, ap, arith, get_or, length, map, min, refl, set, sym, take, if◌then◌else◌}
use Rattle.std.specs.Prelude.{◌==◌, ◌&&◌, replicate}
use Rattle.std.specs.List.{AllPairs, range_with_len}
use Rattle.std.proofs.lemmas.Bool.{cases_eq}
use Rattle.std.proofs.lemmas.List.{get_or-set_other, get_or-set_same, length-set, map-id, map_more}
use Rattle.std.proofs.lemmas.List.FromFn.{fill_by_all, get_or-map-range_with_len, length-map-range_with_len, length-range_with_len, sum_by-map-range_with_len_more}
use Rattle.std.proofs.lemmas.List.Sums.{sum_by-le}
use Rattle.bword.specs.ByteEnds.{most}
use Rattle.bmach.specs.declared.machine.Active.{Active}
use Rattle.btools.specs.Functions.{LiesAt, Placed, placed_entry}
use Rattle.btools.specs.declared.tables.FunctionEntry.{FunctionEntry}
use Rattle.btools.proofs.Finding.{other_number, same_number}
use Rattle.bwatch.specs.Sights.{Sights}
use Rattle.bcount.specs.Tallies.{blank, bumped, counts_of, is_at, noted, times}

one_at_most : (b : Bool) → cond b 1 0 ≤ 1
one_at_most true = omega arith
one_at_most false = omega arith

-- no step is counted twice
times_le : (sights : Sights) (made strings place : ℕ) → times sights made strings place ≤ made
times_le sights made strings place =
    omega (arith, sum_by-le (λ (n : ℕ). cond (is_at strings place (sights n).call) 1 0) 1 (range_with_len 0 made) (λ k d lt. one_at_most (is_at strings place (sights (get_or (range_with_len 0 made) k d)).call)), length-range_with_len 0 made)

pub times_more : (sights : Sights) (made strings place : ℕ) → times sights (made + 1) strings place ≡ times sights made strings place + cond (is_at strings place (sights made).call) 1 0
times_more sights made strings place = simp map-id at (sum_by-map-range_with_len_more (λ (n : ℕ). cond (is_at strings place (sights n).call) 1 0) (λ (n : ℕ). n) 0 made made (omega arith))

at_most : (n : ℕ) → n + 1 ≤ most → min (n + 1) most ≡ n + 1
at_most n le = omega (arith, le)

-- one step more
module _ (sights : Sights) (made : ℕ) (call : Active) (there : (sights made).call ≡ Some call) (within : made + 1 ≤ most) where
  decided : (strings place : ℕ) → is_at strings place (sights made).call ≡ ((strings == call.strings) && (place == call.place))
  decided strings place = ap (is_at strings place) there

  elsewhere : (strings place : ℕ) → is_at strings place (sights made).call ≡ false → times sights (made + 1) strings place ≡ times sights made strings place
  elsewhere strings place not = let e = times_more sights made strings place ∙ ap (λ b. times sights made strings place + cond b 1 0) not in omega (arith, e)

  here : (strings place : ℕ) → is_at strings place (sights made).call ≡ true → times sights (made + 1) strings place ≡ times sights made strings place + 1
  here strings place so = times_more sights made strings place ∙ ap (λ b. times sights made strings place + cond b 1 0) so

  other_function : (f : Placed) → (f.strings == call.strings) ≡ false → counts_of sights (made + 1) f ≡ counts_of sights made f
  other_function f not = λ i. map (λ k. elsewhere f.strings k (decided f.strings k ∙ ap (λ b. b && (k == call.place)) not) i) (range_with_len 0 (length f.function.code))

  same_function : (f : Placed) → (f.strings == call.strings) ≡ true → counts_of sights (made + 1) f ≡ bumped call.place (counts_of sights made f)
  same_function f so =
      let n = length f.function.code in
      let old = counts_of sights made f in
      let long : length old ≡ n = length-map-range_with_len (times sights made f.strings) 0 n in
      let value = min (get_or old call.place 0 + 1) most in
      sym (fill_by_all (times sights (made + 1) f.strings) (bumped call.place old) n 0 (length-set old call.place value ∙ long)
      (λ k lt.
      let first : get_or old k 0 ≡ times sights made f.strings k = get_or-map-range_with_len (times sights made f.strings) 0 n k k 0 lt (omega arith) in
      ⊎_elim
      (λ e.
      let le = times_le sights made f.strings k in
      let at = decided f.strings k ∙ (λ i. so i && same_number k call.place e i) in
      ap (λ p. get_or (set old p value) k 0) (sym e) ∙ get_or-set_same old k value 0 (omega (arith, lt, long))
      ∙ ap (λ p. min (get_or old p 0 + 1) most) (sym e) ∙ ap (λ x. min (x + 1) most) first ∙ at_most (times sights made f.strings k) (omega (arith, le, within))
      ∙ sym (here f.strings k at))
      (λ other.
      let at = decided f.strings k ∙ (λ i. so i && other_number k call.place other i) in
      get_or-set_other old call.place k value 0 other ∙ first ∙ sym (elsewhere f.strings k at))
      (cases_eq k call.place)))

  function_more : (f : Placed) (b : Bool) → (f.strings == call.strings) ≡ b → (if b then bumped call.place (counts_of sights made f) else counts_of sights made f) ≡ counts_of sights (made + 1) f
  function_more f true so = sym (same_function f so)
  function_more f false not = sym (other_function f not)

  -- what was noted is what was made
  pub noted_more : (es : List FunctionEntry) → noted call.strings call.place es (map (λ e. counts_of sights made (placed_entry e)) es) ≡ map (λ e. counts_of sights (made + 1) (placed_entry e)) es
  noted_more [] = refl
  noted_more (e ∷ es) = λ i. function_more (placed_entry e) (e.strings == call.strings) refl i ∷ noted_more es i

-- no step was made
zeros : (sights : Sights) (strings n first : ℕ) → map (times sights 0 strings) (range_with_len first n) ≡ replicate n 0
zeros sights strings zero first = refl
zeros sights strings (suc n) first = ap (λ xs. 0 ∷ xs) (zeros sights strings n (first + 1))

pub noted_none : (sights : Sights) (es : List FunctionEntry) → map blank es ≡ map (λ e. counts_of sights 0 (placed_entry e)) es
noted_none sights [] = refl
noted_none sights (e ∷ es) = λ i. sym (zeros sights e.strings (length (placed_entry e).function.code) 0) i ∷ noted_none sights es i

-- A function is found by its number.
abbrev Ascend : List FunctionEntry → Type 0
Ascend es = AllPairs (λ e f. e.strings < f.strings) es

not_listed : (strings place : ℕ) (es : List FunctionEntry) (cs : List (List ℕ)) → length cs ≡ length es → LiesAt es strings None → noted strings place es cs ≡ cs
not_listed strings place [] cs long none = refl
not_listed strings place (e ∷ es) [] long none = refl
not_listed strings place (e ∷ es) (c ∷ cs) long none =
    let other = other_number e.strings strings (none 0 e (omega arith)) in
    (λ i. (ap (λ b. if b then bumped place c else c) other) i ∷ not_listed strings place es cs (omega (arith, long)) (λ k d lt. none (suc k) d (omega (arith, lt))) i)

pub noted_nowhere : (strings place : ℕ) (es : List FunctionEntry) (cs : List (List ℕ)) → length cs ≡ length es → LiesAt es strings None → cs ≡ noted strings place es cs
noted_nowhere strings place es cs long none = sym (not_listed strings place es cs long none)

pub noted_at : (strings place i : ℕ) (es : List FunctionEntry) (cs : List (List ℕ)) (c : List ℕ) → length cs ≡ length es → Ascend es → LiesAt es strings (Some i) → c ≡ bumped place (get_or cs i []) → set cs i c ≡ noted strings place es cs
noted_at strings place i [] cs c long ascend lies is = let lt = lies.0 in absurd (omega (arith, lt))
noted_at strings place i (e ∷ es) [] c long ascend lies is = absurd (omega (arith, long))
noted_at strings place zero (e ∷ es) (x ∷ xs) c long ascend lies is =
    let so = same_number e.strings strings (lies.1 e) in
    let none : LiesAt es strings None = λ k d lt same. (let rises = ascend 0 (suc k) d (omega arith) (omega (arith, lt)) in let is = lies.1 d in omega (arith, rises, is, same)) in
    (λ j. (is ∙ ap (λ b. if b then bumped place x else x) (sym so)) j ∷ sym (not_listed strings place es xs (omega (arith, long)) none) j)
noted_at strings place (suc i) (e ∷ es) (x ∷ xs) c long ascend lies is =
    let lt = lies.0 in
    let other : (e.strings == strings) ≡ false = other_number e.strings strings (λ same. (let rises = ascend 0 (suc i) e (omega arith) lt in let is = lies.1 e in omega (arith, rises, is, same))) in
    (λ j. (ap (λ b. if b then bumped place x else x) (sym other)) j ∷ noted_at strings place i es xs c (omega (arith, long)) (λ k l d less within. ascend (suc k) (suc l) d (omega (arith, less)) (omega (arith, within))) (omega (arith, lt), λ d. lies.1 d) is j)

-- the counts of one function more
pub one_blank : (es : List FunctionEntry) (i : ℕ) (e : FunctionEntry) (cs new : List (List ℕ)) (c : List ℕ) → i < length es → e ≡ get_or es i e → cs ≡ map blank (take i es) → c ≡ blank e → new ≡ cs ++ c ∷ [] → new ≡ map blank (take (i + 1) es)
one_blank es i e cs new c lt is before blanks pushed =
    pushed ∙ (λ j. before j ++ (blanks ∙ ap blank is) j ∷ []) ∙ sym (map_more blank es i e lt)
