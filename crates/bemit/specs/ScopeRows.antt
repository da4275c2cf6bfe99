-- Closed facts: a table of names, one entry further.
use Rattle.std.specs.Prelude.{◌≡◌, ℕ, List, [], ◌∷◌, ◌++◌, map, codes, replicate, Result, Some, None, Ok, Err, refl}
use Rattle.std.specs.Prelude.{true, false}
use Rattle.blang.specs.declared.token.Letters.TheVariants as letters
use Rattle.blang.specs.declared.token.Diagnostic.{Diagnostic}
use Rattle.blang.specs.Scan.{Entry, NameKind, Automatic, External, Unlabelled, Labelled, fault, name_fault}
use Rattle.blang.specs.Scan.{with_declaration, with_mention, with_label, undefined}
use Rattle.bemit.specs.declared.names.Declared.TheVariants as declarations
use Rattle.bemit.specs.declared.names.Binding.TheVariants as bindings
use Rattle.bemit.specs.Tables.{word, kind_declared, binding_of}

abbrev entry : List ℕ → NameKind → Entry
entry name kind = record { name = name; kind = kind }

abbrev with_l : NameKind → List Entry
with_l kind = entry (codes "a") (Automatic 1) ∷ entry (codes "g") External ∷ entry (codes "l") kind ∷ []

abbrev table : List Entry
table = with_l (Unlabelled 3)

abbrev full : List Entry
full = replicate 128 (entry (codes "a") External)

abbrev more : NameKind → Result (List Entry) Diagnostic
more kind = Ok (table ++ entry (codes "x") kind ∷ [])

abbrev again : List ℕ → Result (List Entry) Diagnostic
again name = Err (name_fault letters.Redeclared (word name 7))

abbrev no_room : Result (List Entry) Diagnostic
no_room = Err (fault letters.TooManyNames 7)

-- a name is declared once, and not where it was mentioned
declared : map (λ x. with_declaration (word x 7) (kind_declared (declarations.Auto 2)) table) (
    codes "x" ∷ codes "a" ∷ codes "g" ∷ codes "l" ∷ []
    ) ≡ more (Automatic 2) ∷ again (codes "a") ∷ again (codes "g") ∷ again (codes "l") ∷ []
declared = refl

imported : with_declaration (word (codes "x") 7) (kind_declared declarations.External) table ≡ more External
imported = refl

-- a name that is there stays as it is; another is external where it is called
called : map (λ x. with_mention true (word x 7) table) (codes "x" ∷ codes "a" ∷ codes "l" ∷ [])
    ≡ more External ∷ Ok table ∷ Ok table ∷ []
called = refl

mentioned : map (λ x. with_mention false (word x 7) table) (codes "x" ∷ codes "g" ∷ codes "l" ∷ [])
    ≡ more (Unlabelled 7) ∷ Ok table ∷ Ok table ∷ []
mentioned = refl

-- a label's name is new, or was mentioned
labelled : map (λ x. with_label (word x 7) 4 table) (codes "x" ∷ codes "l" ∷ codes "a" ∷ codes "g" ∷ [])
    ≡ more (Labelled 4) ∷ Ok (with_l (Labelled 4)) ∷ again (codes "a") ∷ again (codes "g") ∷ []
labelled = refl

label_twice : with_label (word (codes "l") 7) 4 (with_l (Labelled 0)) ≡ again (codes "l")
label_twice = refl

-- there is room for 128 names
without_room : with_declaration (word (codes "x") 7) External full ∷ with_mention true (word (codes "x") 7) full
    ∷ with_label (word (codes "x") 7) 4 full ∷ [] ≡ no_room ∷ no_room ∷ no_room ∷ []
without_room = refl

-- what a name stands for, an internal one for its entry
bound : map (λ x. binding_of x table) (codes "a" ∷ codes "g" ∷ codes "l" ∷ codes "x" ∷ [])
    ≡ Some (bindings.Automatic 1) ∷ Some bindings.External ∷ Some (bindings.Internal 2) ∷ None ∷ []
bound = refl

-- the first name without a label is told
unlabelled : map undefined (table ∷ with_l (Labelled 0) ∷ [])
    ≡ Some (name_fault letters.Undefined (word (codes "l") 3)) ∷ None ∷ []
unlabelled = refl
