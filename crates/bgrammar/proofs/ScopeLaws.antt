-- What a table says of a name where it grows, and where a name is given another kind.
use Rattle.std.proofs.Common.{◌≡◌, ℕ, suc, List, [], ◌∷◌, ◌++◌, length, Option, Some, None, Bool, true, false, refl, sym, ap, ◌∙◌, subst}
use Rattle.std.specs.Prelude.{if◌then◌else◌}
use Rattle.std.specs.Option.{option_or}
use Rattle.std.specs.Cmp.Lexicographic.{nat_list_eq_equiv}
use Rattle.blang.specs.Scan.{Entry, NameKind, kind_of, with_kind}
use Rattle.bword.specs.Words.{same_name}

or_if : (b : Bool) (k : NameKind) (o p q : Option NameKind) → o ≡ option_or p q → (if b then Some k else o) ≡ option_or (if b then Some k else p) q
or_if true k o p q e = refl
or_if false k o p q e = e

-- an entry at the end
pub kind_of-push : (x : List ℕ) (es : List Entry) (e : Entry) → kind_of x (es ++ e ∷ []) ≡ option_or (kind_of x es) (if same_name e.name x then Some e.kind else None)
kind_of-push x [] e = refl
kind_of-push x (f ∷ es) e = or_if (same_name f.name x) f.kind _ _ _ (kind_of-push x es e)

-- the same name is looked up the same
pub same_query : (w x y : List ℕ) → same_name w x ≡ true → same_name y w ≡ same_name y x
same_query w x y e = nat_list_eq_equiv.symm y w ∙ nat_list_eq_equiv.congr w x y e ∙ nat_list_eq_equiv.symm x y

-- the kind of a name that is given another kind where it is in the table
abbrev pub changed : Bool → NameKind → Option NameKind → Option NameKind
changed true k (Some j) = Some k
changed true k None = None
changed false k o = o

changed_none : (b : Bool) (k : NameKind) → None ≡ changed b k None
changed_none true k = refl
changed_none false k = refl

changed_hit : (c : Bool) (k j : NameKind) (o : Option NameKind) → (if c then Some k else o) ≡ changed c k (if c then Some j else o)
changed_hit true k j o = refl
changed_hit false k j o = refl

changed_miss : (b c : Bool) (k j : NameKind) (o p : Option NameKind) → (c ≡ true → b ≡ false) → o ≡ changed c k p → (if b then Some j else o) ≡ changed c k (if b then Some j else p)
changed_miss true true k j o p h e = let x : true ≡ false = h refl in cc
changed_miss true false k j o p h e = refl
changed_miss false c k j o p h e = e

pub kind_of-with_kind : (w x : List ℕ) (k : NameKind) (es : List Entry) → kind_of x (with_kind w k es) ≡ changed (same_name w x) k (kind_of x es)
kind_of-with_kind w x k [] = changed_none (same_name w x) k
kind_of-with_kind w x k (e ∷ es) = go (kind_of-with_kind w x k es) (same_name e.name w) refl
  where
    go : kind_of x (with_kind w k es) ≡ changed (same_name w x) k (kind_of x es) → (b : Bool) → same_name e.name w ≡ b → kind_of x (if b then record { name = e.name; kind = k } ∷ es else e ∷ with_kind w k es) ≡ changed (same_name w x) k (if same_name e.name x then Some e.kind else kind_of x es)
    go later true h =
        subst (λ b. (if b then Some k else kind_of x es) ≡ changed (same_name w x) k (if b then Some e.kind else kind_of x es)) (sym (nat_list_eq_equiv.congr e.name w x h))
        (changed_hit (same_name w x) k e.kind (kind_of x es))
    go later false h =
        changed_miss (same_name e.name x) (same_name w x) k e.kind (kind_of x (with_kind w k es)) (kind_of x es) (λ t. sym (same_query w x e.name t) ∙ h) later

length_if : (b : Bool) (e f : Entry) (es more : List Entry) → length more ≡ length es → length (if b then f ∷ es else e ∷ more) ≡ length (e ∷ es)
length_if true e f es more h = refl
length_if false e f es more h = ap suc h

pub length-with_kind : (x : List ℕ) (k : NameKind) (es : List Entry) → length (with_kind x k es) ≡ length es
length-with_kind x k [] = refl
length-with_kind x k (e ∷ es) = length_if (same_name e.name x) e _ es (with_kind x k es) (length-with_kind x k es)
