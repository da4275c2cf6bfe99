-- Promise: which row declares a name.
use Rattle.std.specs.Prelude.{◌≡◌, ◌&&◌, ℕ, zero, suc, ◌<◌, Bool, true, false, List, [], ◌∷◌, length, Option, None}
use Rattle.std.specs.Prelude.{Some, find, if◌then◌else◌, slice_get}
use Rattle.std.specs.Option.{option_or}
use Rattle.bword.specs.Words.{same_name}
use Rattle.bnames.specs.NameTables.{value_in}
use Rattle.bnaming.specs.declared.binding.Reach.{Reach}
use Rattle.bnaming.specs.declared.binding.Reach.TheVariants as reach
use Rattle.bnaming.specs.declared.roles.Role.{Role}
use Rattle.bnaming.specs.declared.rows.Content.{Content}
use Rattle.bnaming.specs.declared.rows.Content.TheVariants as content
use Rattle.bnaming.specs.declared.rows.Row.{Row}
use Rattle.bnaming.specs.Roles.{defines, is_local, looks_around}
use Rattle.bnaming.specs.Rows.{opens_after}

-- a name is declared for its definition, or for the whole source
abbrev pub declares : Reach → Role → Bool
declares reach.Definition r = is_local r
declares reach.Source r = defines r

abbrev pub declares_name : Reach → List ℕ → Content → Bool
declares_name reach x (content.Name r name) = declares reach r && same_name x name
declares_name reach x c = false

abbrev pub is_declared : Reach → List ℕ → Row → Bool
is_declared reach x r = declares_name reach x r.content

-- the rows in which a name is looked for end where no construct is open, but in the whole source
abbrev pub ends : Reach → (opens : ℕ) → Bool
ends reach.Definition zero = true
ends reach.Definition (suc n) = false
ends reach.Source n = false

-- those rows, where this many constructs are open before the first
abbrev pub reached : Reach → (opens : ℕ) → List Row → List Row
reached reach opens [] = []
reached reach opens (r ∷ rs) =
    if ends reach opens then [] else r ∷ reached reach (opens_after opens r.content) rs

-- the first row that declares a name
abbrev pub declaration : Reach → List ℕ → List Row → Option Row
declaration reach x rows = find (is_declared reach x) rows

-- the row that declares a name of this role: in its definition, if it is declared there alone, or else in the source
abbrev pub declared_as : (around whole : List Row) → Role → List ℕ → Option Row
declared_as around whole r x =
    option_or (if looks_around r then declaration reach.Definition x around else None) (declaration reach.Source x whole)

abbrev pub bound : (around whole : List Row) → Content → Option Row
bound around whole (content.Name r x) = declared_as around whole r x
bound around whole c = None

-- The rows of the outermost construct of a row. Where none is open before it, it may begin one; else they are as they
-- were before.
abbrev pub around_at : (opens : ℕ) → Row → (before rest : List Row) → List Row
around_at zero r before rest = reached reach.Definition (opens_after zero r.content) rest
around_at (suc n) r before rest = before

-- the row that a table has for a name
abbrev pub row_at : List Row → Option ℕ → Option Row
row_at rows None = None
row_at rows (Some place) = slice_get rows place

abbrev pub AreWithin : List Row → List (List ℕ × ℕ) → Type 0
AreWithin rows table = (x : List ℕ) (place : ℕ) → value_in x table ≡ Some place → place < length rows

-- A table has the first row for each name that these declare.
pub record IsIndex (rows : List Row) (reach : Reach) (part : List Row) (table : List (List ℕ × ℕ)) : Type 0 where
  pub rows_of : (x : List ℕ) → row_at rows (value_in x table) ≡ declaration reach x part

-- The place of a name was put in, if it had none.
abbrev pub HasPut : List ℕ → (place : ℕ) → (old new : List (List ℕ × ℕ)) → Type 0
HasPut name place old new =
    (x : List ℕ) → value_in x new ≡ (if same_name x name then option_or (value_in x old) (Some place) else value_in x old)

-- A row was entered: its name, if it declares one that the table hadn't.
abbrev pub Enters : Reach → Row → (place : ℕ) → (old new : List (List ℕ × ℕ)) → Type 0
Enters reach r place old new =
    (x : List ℕ) → value_in x new
    ≡ (if is_declared reach x r then option_or (value_in x old) (Some place) else value_in x old)
