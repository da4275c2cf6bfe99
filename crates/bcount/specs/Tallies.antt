-- Inner words: the counts of the instructions of a program.
use Rattle.std.specs.Prelude.{◌≡◌, ℕ, ◌+◌, ◌==◌, ◌&&◌, Bool, false, List, [], ◌∷◌, Option, None, Some, get_or, length}
use Rattle.std.specs.Prelude.{map, min, replicate, set, if◌then◌else◌}
use Rattle.std.specs.List.{count_by, range_with_len}
use Rattle.bword.specs.ByteEnds.{most}
use Rattle.bmach.specs.declared.machine.Active.{Active}
use Rattle.btools.specs.Functions.{Placed, placed_entry}
use Rattle.btools.specs.declared.tables.FunctionEntry.{FunctionEntry}
use Rattle.bwatch.specs.Sights.{Sights}
use Rattle.bcount.specs.declared.tallies.Tallies.{Tallies}

-- the counts of each function
abbrev pub tallies_of : Tallies → List (List ℕ)
tallies_of t = map (λ counts. counts.items) t.counts.items

-- no instruction of a function was made
abbrev pub blank : FunctionEntry → List ℕ
blank e = replicate (length (placed_entry e).function.code) 0

-- the instruction at a place was made once more
abbrev pub bumped : (place : ℕ) → List ℕ → List ℕ
bumped place counts = set counts place (min (get_or counts place 0 + 1) most)

-- a step was made at a place of the function that has its string words there
abbrev pub noted : (strings place : ℕ) → List FunctionEntry → List (List ℕ) → List (List ℕ)
noted strings place [] counts = counts
noted strings place (e ∷ es) [] = []
noted strings place (e ∷ es) (c ∷ cs) =
    (if e.strings == strings then bumped place c else c) ∷ noted strings place es cs

-- whether the running call is about to make the step at a place of this function
abbrev pub is_at : (strings place : ℕ) → Option Active → Bool
is_at strings place (Some call) = (strings == call.strings) && (place == call.place)
is_at strings place None = false

-- how many of the first steps were made there
abbrev pub times : Sights → (made strings place : ℕ) → ℕ
times sights made strings place = count_by (λ n. is_at strings place (sights n).call) (range_with_len 0 made)

-- the same of each place of a function
abbrev pub counts_of : Sights → (made : ℕ) → Placed → List ℕ
counts_of sights made f = map (times sights made f.strings) (range_with_len 0 (length f.function.code))

-- so many steps were noted, of the same functions
abbrev pub HasCounted : (first now : Tallies) → Sights → (made : ℕ) → Type 0
HasCounted first now sights made =
    (now.tables ≡ first.tables)
    × (tallies_of now ≡ map (λ e. counts_of sights made (placed_entry e)) first.tables.now.entries.items)
