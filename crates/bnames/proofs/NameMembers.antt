-- The names of a table as a list of names.
use Rattle.std.proofs.Common.{◌≡◌, ℕ, Bool, true, false, cond, List, Some, refl, sym, ap, ◌∙◌}
use Rattle.std.proofs.lemmas.Map.Made.{is_some-lookup}
use Rattle.std.specs.Prelude.{is_some, ◌||◌}
use Rattle.std.specs.List.{list_any}
use Rattle.std.specs.Map.{keys_of}
use Rattle.std.specs.BTreeMap.{is_at}
use Rattle.std.specs.Ordering.{nat_cmp}
use Rattle.std.specs.Cmp.Lexicographic.{slice_cmp, texts_ties, nat_list_eq_equiv}
use Rattle.bword.specs.Words.{same_name}
use Rattle.bnames.specs.NameTables.{KnowsOneMore, value_in}

pub same_name-is_at : (x y : List ℕ) → is_at (slice_cmp nat_cmp x) y ≡ same_name x y
same_name-is_at x y = sym (texts_ties x y)

-- a name has a value where it is one of the names
pub is_some-value_of : (x : List ℕ) (es : List (List ℕ × ℕ)) → is_some (value_in x es) ≡ list_any (same_name x) (keys_of es)
is_some-value_of x es = is_some-lookup (is_at (slice_cmp nat_cmp x)) es ∙ (λ i. list_any (λ y. same_name-is_at x y i) (keys_of es))

-- the names with one more
pub members_more : (old new : List (List ℕ × ℕ)) (x : List ℕ) (v : ℕ) → KnowsOneMore old x v new
    → (y : List ℕ) → list_any (same_name y) (keys_of new) ≡ (list_any (same_name y) (keys_of old) || (same_name y x || false))
members_more old new x v knows y =
    sym (is_some-value_of y new)
    ∙ ap is_some (knows y)
    ∙ ap (λ b. is_some (cond b (Some v) (value_in y old))) (same_name-is_at x y ∙ nat_list_eq_equiv.symm x y)
    ∙ either (same_name y x)
    ∙ ap (λ b. b || (same_name y x || false)) (is_some-value_of y old)
  where
    or_true : (b : Bool) → true ≡ (b || true)
    or_true true = refl
    or_true false = refl

    or_false : (b : Bool) → b ≡ (b || false)
    or_false true = refl
    or_false false = refl

    either : (b : Bool) → is_some (cond b (Some v) (value_in y old)) ≡ (is_some (value_in y old) || (b || false))
    either true = or_true (is_some (value_in y old))
    either false = or_false (is_some (value_in y old))
