-- A function among those of a program, which ascend.
use Rattle.std.proofs.Common.{◌≡◌, ◌∙◌, ℕ, zero, suc, ◌+◌, ◌<◌, ◌≤◌, ◌⊎◌, inl, inr, ⊎_elim, ap, List, [], ◌∷◌, ◌++◌, Some, None, arith, get_or, length, map, refl, subst, sym}
use Rattle.std.specs.List.{All, AllPairs, find}
use Rattle.std.specs.Prelude.{◌==◌}
use Rattle.std.proofs.lemmas.Bool.{cases_order, eq-eqb, ne_eqb}
use Rattle.std.proofs.lemmas.List.{get_or_default}
use Rattle.std.proofs.lemmas.List.Elements.{All-push}
use Rattle.std.proofs.lemmas.List.Quantifiers.{all_pairs_push}
use Rattle.blang.specs.Layout.{shape_of, size_of}
use Rattle.blang.specs.declared.code.Definition.{Definition}
use Rattle.blang.specs.declared.code.Definition.TheVariants as definition
use Rattle.btools.specs.Functions.{LiesAt}
use Rattle.btools.specs.declared.tables.FunctionEntry.{FunctionEntry}

at_or_before : (k m : ℕ) → k ≤ m → (k < m) ⊎ (k ≡ m)
at_or_before zero zero le = inr refl
at_or_before zero (suc m) le = inl (omega arith)
at_or_before (suc k) zero le = absurd (omega arith)
at_or_before (suc k) (suc m) le = ⊎_elim (λ lt. inl (omega arith)) (λ is. inr (ap suc is)) (at_or_before k m (omega arith))

-- each function lies before those after it
abbrev pub Ascend : List FunctionEntry → Type 0
Ascend es = AllPairs (λ e f. e.strings < f.strings) es

module _ (es : List FunctionEntry) (i strings : ℕ) (e : FunctionEntry) (ascend : Ascend es) (lt : i < length es) (is : e ≡ get_or es i e) where
  pub below_all : e.strings < strings → (k : ℕ) (d : FunctionEntry) → k ≤ i → (get_or es k d).strings < strings
  below_all less k d le =
      ⊎_elim
      (λ before. (let rises = ascend k i d before lt in let same = ap (λ (x : FunctionEntry). x.strings) (is ∙ get_or_default es i e d lt) in omega (arith, rises, same, less)))
      (λ at. (let same = ap (λ (x : FunctionEntry). x.strings) (is ∙ get_or_default es i e d lt ∙ ap (λ n. get_or es n d) (sym at)) in omega (arith, same, less)))
      (at_or_before k i le)

  pub above_all : strings < e.strings → (k : ℕ) (d : FunctionEntry) → i ≤ k → k < length es → strings < (get_or es k d).strings
  above_all less k d le within =
      ⊎_elim
      (λ before. (let rises = ascend i k d before within in let same = ap (λ (x : FunctionEntry). x.strings) (is ∙ get_or_default es i e d lt) in omega (arith, rises, same, less)))
      (λ at. (let same = ap (λ (x : FunctionEntry). x.strings) (is ∙ get_or_default es i e d lt ∙ ap (λ n. get_or es n d) at) in omega (arith, same, less)))
      (at_or_before i k le)

-- Whether none has its string words there, or just this one, in a list of what is known of each.
module _ {B : Type 0} (f : FunctionEntry → B) (key : B → ℕ) (same : (e : FunctionEntry) → key (f e) ≡ e.strings) (strings : ℕ) where
  pub with_none : (es : List FunctionEntry) → ((k : ℕ) (d : FunctionEntry) → k < length es → (get_or es k d).strings ≡ strings → ⊥) → find (λ b. key b == strings) (map f es) ≡ None
  with_none [] others = refl
  with_none (e ∷ es) others =
      rw (ap (λ n. n == strings) (same e) ∙ ne_eqb e.strings strings (others 0 e (omega arith))) (with_none es (λ k d lt. others (suc k) d (omega arith)))

  pub with_one : (es : List FunctionEntry) (i : ℕ) (d : FunctionEntry) → Ascend es → i < length es → (get_or es i d).strings ≡ strings → find (λ b. key b == strings) (map f es) ≡ Some (f (get_or es i d))
  with_one [] i d ascend lt is = absurd (omega arith)
  with_one (e ∷ es) zero d ascend lt is = rw (ap (λ n. n == strings) (same e) ∙ eq-eqb e.strings strings is) refl
  with_one (e ∷ es) (suc i) d ascend lt is =
      let before = ascend 0 (suc i) d (omega arith) lt in
      rw (ap (λ n. n == strings) (same e) ∙ ne_eqb e.strings strings (λ at. omega (arith, before, at, is)))
      (with_one es i d (λ k l c less within. ascend (suc k) (suc l) c (omega arith) (omega arith)) (omega arith) is)

-- each definition takes a word
pub some_word : (d : Definition) → 0 < size_of (shape_of d)
some_word (definition.Function f) = omega arith
some_word (definition.Simple x) = omega arith
some_word (definition.Vector v) = omega arith

pub higher : (a b : ℕ) → (a ≡ b → ⊥) → b ≤ a → b < a
higher a b other le = grind arith

-- those before a place are too low, and the others too high
pub with_neither : (es : List FunctionEntry) (strings place : ℕ) → ((k : ℕ) (d : FunctionEntry) → k < place → (get_or es k d).strings < strings) → ((k : ℕ) (d : FunctionEntry) → place ≤ k → k < length es → strings < (get_or es k d).strings)
    → LiesAt es strings None
with_neither es strings place before after = λ k d within same.
    ⊎_elim
    (λ at. (let high = after k d (omega (arith, at)) within in omega (arith, high, same)))
    (⊎_elim (λ lt. (let low = before k d lt in omega (arith, low, same))) (λ gt. (let high = after k d (omega (arith, gt)) within in omega (arith, high, same))))
    (cases_order k place)

-- What a definition leaves: the functions ascend, and the next address is past them.
module _ (es new : List FunctionEntry) (address size : ℕ) (below : All (λ e. e.strings ≤ address) es) where
  pub further : new ≡ es → All (λ e. e.strings ≤ address + size) new
  further same = subst (All (λ (e : FunctionEntry). e.strings ≤ address + size)) (sym same) (λ k d lt. (let low = below k d lt in omega (arith, low)))

  pub one_more : (x : FunctionEntry) → new ≡ es ++ x ∷ [] → x.strings ≡ address + 1 → 0 < size → Ascend es → Ascend new × All (λ e. e.strings ≤ address + size) new
  one_more x is at some ascend = (
    subst Ascend (sym is) (all_pairs_push (λ (e : FunctionEntry) (f : FunctionEntry). e.strings < f.strings) es x ascend (λ k d lt. (let low = below k d lt in omega (arith, low, at)))),
    subst (All (λ (e : FunctionEntry). e.strings ≤ address + size)) (sym is)
        (All-push (λ (e : FunctionEntry). e.strings ≤ address + size) es x (λ k d lt. (let low = below k d lt in omega (arith, low))) (omega (arith, at, some))),
  )
