-- Inner words: the names that a search knows, and what it has found.
use Rattle.std.specs.Prelude.{◌≡◌, ◌||◌, ℕ, Bool, List, ◌++◌, filter, map}
use Rattle.std.specs.List.{list_any}
use Rattle.std.specs.Map.{keys_of}
use Rattle.bword.specs.Words.{same_name}
use Rattle.blang.specs.declared.code.Definition.{Definition}
use Rattle.blang.specs.Layout.{defined_names, shape_of}
use Rattle.bcheck.specs.UndefinedNames.{first_mentions, is_undefined}
use Rattle.bcheck.specs.declared.mention.Mention.{Mention}
use Rattle.bcheck.specs.declared.mention.Subject.{Subject}

-- a table of names has this one
abbrev pub is_in : (table : List (List ℕ × ℕ)) → List ℕ → Bool
is_in table x = list_any (same_name x) (keys_of table)

-- It has this name, and otherwise those that it had.
abbrev pub IsOneMore : (old : List (List ℕ × ℕ)) → (name : List ℕ) → (new : List (List ℕ × ℕ)) → Type 0
IsOneMore old name new = (x : List ℕ) → is_in new x ≡ (is_in old x || same_name x name)

-- It has the names of the definitions and these.
abbrev pub Knows : List Definition → (names : List (List ℕ)) → (table : List (List ℕ × ℕ)) → Type 0
Knows ds names table =
    (x : List ℕ)
    → is_in table x ≡ (list_any (same_name x) (defined_names (map shape_of ds)) || list_any (same_name x) names)

-- Of the names that are mentioned these are the new ones that nothing defines, and the table has them too.
abbrev pub Meets : List Definition → (before mentioned new : List (List ℕ)) → (table : List (List ℕ × ℕ)) → Type 0
Meets ds before mentioned new table =
    (new ≡ first_mentions before (filter (is_undefined ds) mentioned)) × Knows ds (before ++ new) table

abbrev pub subjects : List Mention → List Subject
subjects mentions = map (λ m. m.subject) mentions
