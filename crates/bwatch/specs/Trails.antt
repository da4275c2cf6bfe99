-- Inner words: which rows of a run are kept.
use Rattle.std.specs.Prelude.{◌≡◌, ℕ, ◌-◌, Bool, true, false, List, [], ◌∷◌, ◌++◌, drop, length, nat_lt, if◌then◌else◌}
use Rattle.std.specs.List.{flat_map}
use Rattle.bwatch.specs.declared.trail.TraceRows.{TraceRows}
use Rattle.bwatch.specs.declared.trail.TraceRows.TheVariants as rows
use Rattle.bwatch.specs.declared.trail.Trail.{Trail}

-- the number of the first step that may be shown
abbrev pub first_of : TraceRows → ℕ
first_of (rows.From number) = number
first_of (rows.Last count) = 1

-- so many of the last ones, or all if there are fewer
abbrev pub last_of : {A : Type 0} → ℕ → List A → List A
last_of count xs = drop (length xs - count) xs

-- those that are shown of all that may be
abbrev pub chosen : {A : Type 0} → TraceRows → List A → List A
chosen (rows.From number) xs = xs
chosen (rows.Last count) xs = last_of count xs

-- what is written of a run
abbrev pub trail_text : Trail → List ℕ
trail_text t = t.text ++ flat_map (λ row. row) t.last.items ++ t.row

-- what is kept of these rows under a heading
abbrev pub IsKept : TraceRows → (heading : List ℕ) → List (List ℕ) → Trail → Type 0
IsKept (rows.From number) heading texts t = (t.text ≡ heading ++ flat_map (λ row. row) texts) × (t.last.items ≡ [])
IsKept (rows.Last count) heading texts t = (t.text ≡ heading) × (t.last.items ≡ last_of count texts)

-- rows without the first one, if they are more than so many
abbrev pub without_first : ℕ → List (List ℕ) → List (List ℕ)
without_first most xs = if nat_lt most (length xs) then drop 1 xs else xs

-- a row was kept after the others
abbrev pub Keeps : TraceRows → Trail → Trail → Type 0
Keeps (rows.From number) old new =
    (new.text ≡ old.text ++ old.row) × (new.last.items ≡ old.last.items) × (new.row ≡ [])
Keeps (rows.Last count) old new =
    (new.text ≡ old.text) × (new.last.items ≡ without_first count (old.last.items ++ old.row ∷ [])) × (new.row ≡ [])

-- and one that isn't shown was not
abbrev pub KeepsIf : Bool → TraceRows → Trail → Trail → Type 0
KeepsIf true rows old new = Keeps rows old new
KeepsIf false rows old new = (new.text ≡ old.text) × (new.last.items ≡ old.last.items) × (new.row ≡ old.row)
