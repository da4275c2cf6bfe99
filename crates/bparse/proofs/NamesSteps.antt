-- The table of the names that are defined, with one more.
use Rattle.std.proofs.Common.{◌≡◌, ℕ, ◌+◌, Bool, true, false, List, [], ◌∷◌, ◌++◌, length, Option, Some, None, refl, sym, ap, ◌∙◌, length-append, if◌then◌else◌}
use Rattle.std.proofs.lemmas.List.{length-map}
use Rattle.std.proofs.lemmas.List.Folds.{list_any-append}
use Rattle.std.specs.Prelude.{is_none, is_some}
use Rattle.std.specs.Bool.{OnTrue}
use Rattle.std.specs.Map.{keys_of}
use Rattle.blang.specs.declared.token.Letters.TheVariants as letters
use Rattle.blang.specs.Code.{code_of, or_too_large, fault_of}
use Rattle.bgrammar.specs.Compiled.{AreNames, has}
use Rattle.blang.specs.Compiles.{Defined}
use Rattle.blang.specs.Trees.{Definition}
use Rattle.blang.specs.Scan.{inner_fault, identifier_of, name_fault}
use Rattle.bword.specs.Words.{same_name}
use Rattle.bnames.specs.NameTables.{KnowsOneMore, value_in}
use Rattle.bnames.proofs.NameMembers.{is_some-value_of, members_more}

-- a definition without a fault has a new name
new_name : (names : Defined) (d : Definition) → fault_of names d ≡ None → has (identifier_of d).text names ≡ false
new_name names d clean = go (has (identifier_of d).text names) clean
  where
    go : (b : Bool) → or_too_large (if b then Some (name_fault letters.Redeclared (identifier_of d)) else inner_fault d) (identifier_of d).line (code_of d) ≡ None → b ≡ false
    go true e = cc
    go false e = refl

none_there : (o : Option ℕ) → is_some o ≡ false → is_none o ≡ true
none_there None e = refl
none_there (Some v) e = cc

pub added : (old new : List (List ℕ × ℕ)) (d : Definition) (x : List ℕ) (v : ℕ) (b : Bool) → x ≡ (identifier_of d).text → fault_of (keys_of old) d ≡ None → b ≡ is_none (value_in x old)
    → OnTrue b (KnowsOneMore old x v new) → length new ≡ (if b then length old + 1 else length old) → AreNames (keys_of new) (keys_of old ++ x ∷ [])
added old new d x v b named clean there knows size = go b is_new knows size
  where
    absent : has x (keys_of old) ≡ false
    absent = ap (λ y. has y (keys_of old)) named ∙ new_name (keys_of old) d clean

    is_new : b ≡ true
    is_new = there ∙ none_there (value_in x old) (is_some-value_of x old ∙ absent)

    go : (b : Bool) → b ≡ true → OnTrue b (KnowsOneMore old x v new) → length new ≡ (if b then length old + 1 else length old) → AreNames (keys_of new) (keys_of old ++ x ∷ [])
    go true e knows size = record {
      members = λ y. members_more old new x v knows y ∙ sym (list_any-append (same_name y) (keys_of old) (x ∷ []));
      size = length-map new (λ e. e.0) ∙ size ∙ ap (λ n. n + 1) (sym (length-map old (λ e. e.0))) ∙ sym (length-append (keys_of old) (x ∷ []));
    }
    go false e knows size = cc
