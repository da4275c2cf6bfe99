-- Steps that are counted.
use Rattle.std.proofs.Common.{◌≡◌, ◌∙◌, ℕ, ◌+◌, ◌≤◌, List, [], ◌∷◌, ap, length, map, refl, subst, sym}
use Rattle.std.proofs.lemmas.List.{length-map}
use Rattle.bword.specs.ByteEnds.{most}
use Rattle.blang.specs.declared.run.Outcome.{Outcome}
use Rattle.blang.specs.declared.run.Outcome.TheVariants as outcome
use Rattle.bmach.specs.Stepping.{Paused}
use Rattle.bmach.specs.Stops.{active_of}
use Rattle.bmach.specs.declared.machine.Stop.{Stop}
use Rattle.btools.specs.Functions.{Placed, placed_entry}
use Rattle.btools.specs.declared.tables.FunctionEntry.{FunctionEntry}
use Rattle.btools.specs.declared.tables.Tables.{Tables}
use Rattle.bwatch.specs.Sights.{Sight, Sights, sight_at}
use Rattle.bwatch.specs.Watches.{Ending, Leaves}
use Rattle.bcount.specs.Counts.{AreCounts}
use Rattle.bcount.specs.Tallies.{HasCounted, blank, counts_of, noted, tallies_of}
use Rattle.bcount.specs.declared.tallies.Tallies.{Tallies}
use Rattle.bcount.proofs.Noting.{noted_more, noted_none}

-- no step was noted
pub none_counted : (t : Tallies) (tables : Tables) → tallies_of t ≡ map blank tables.entries.items → t.tables.now ≡ tables → (sights : Sights) → HasCounted t t sights 0
none_counted t tables is same sights =
    (refl, is ∙ noted_none sights tables.entries.items ∙ ap (λ (x : Tables). map (λ (e : FunctionEntry). counts_of sights 0 (placed_entry e)) x.entries.items) (sym same))

-- there is a count for each function
pub as_many : (first t : Tallies) (sights : Sights) (made : ℕ) → HasCounted first t sights made → length t.counts.items ≡ length t.tables.now.entries.items
as_many first t sights made has =
    sym (length-map t.counts.items _) ∙ ap length has.1 ∙ length-map first.tables.now.entries.items _ ∙ ap (λ tables. length tables.now.entries.items) (sym has.0)

-- the step that comes was noted
pub one_counted : (first t u : Tallies) (p : Paused) (sights : Sights) (made : ℕ) → made + 1 ≤ most → u.tables ≡ t.tables
    → (length t.counts.items ≡ length t.tables.now.entries.items → tallies_of u ≡ noted p.call.function.strings p.call.place t.tables.now.entries.items (tallies_of t))
    → sights made ≡ sight_at p (sights made).output → HasCounted first t sights made → HasCounted first u sights (made + 1)
one_counted first t u p sights made within same counts at has =
    let strings = p.call.function.strings in
    let place = p.call.place in (
      same ∙ has.0,
      counts (as_many first t sights made has) ∙ ap (λ tables. noted strings place tables.now.entries.items (tallies_of t)) has.0
          ∙ ap (noted strings place first.tables.now.entries.items) has.1
          ∙ noted_more sights made (active_of p.call) (ap (λ (s : Sight). s.call) at) within first.tables.now.entries.items,
    )

-- where the run ended all were noted
pub all_counted : (first t : Tallies) (p : Paused) (sights : Sights) (r : Outcome) (stop : Stop) → Ending p sights (HasCounted first t sights) (λ made. HasCounted first t sights (made + 1)) r stop → HasCounted first t sights stop.steps
all_counted first t p sights (outcome.Exit status) stop h = subst (HasCounted first t sights) (sym h.made) h.awaited
all_counted first t p sights (outcome.Trap kind) stop h = subst (HasCounted first t sights) (sym h.0.made) h.0.awaited
all_counted first t p sights outcome.Limit stop h = h.0
all_counted first t p sights outcome.Device stop h = absurd h
all_counted first t p sights outcome.Memory stop h = absurd h

map_map : {A B C : Type 0} (f : B → C) (g : A → B) (xs : List A) → map (λ x. f (g x)) xs ≡ map f (map g xs)
map_map f g [] = refl
map_map f g (x ∷ xs) = ap (λ ys. f (g x) ∷ ys) (map_map f g xs)

-- these are the counts of the functions
pub counted_so : (first t : Tallies) (tables : Tables) (fs : List Placed) → first.tables.now ≡ tables → map placed_entry tables.entries.items ≡ fs → (r : Outcome) → (r ≡ outcome.Device → ⊥) → (made : ℕ) (sights : Sights)
    → Leaves (λ s m. HasCounted first t s (m + 1)) (λ s m x. HasCounted first t s m) sights made r → AreCounts fs (tallies_of t) sights made r
counted_so first t tables fs same functions r read made sights has = by r read has
  where
    counts : HasCounted first t sights made → tallies_of t ≡ map (counts_of sights made) fs
    counts h = h.1 ∙ map_map (counts_of sights made) placed_entry first.tables.now.entries.items ∙ ap (λ (x : Tables). map (counts_of sights made) (map placed_entry x.entries.items)) same ∙ ap (map (counts_of sights made)) functions

    by : (x : Outcome) → (x ≡ outcome.Device → ⊥) → Leaves (λ s m. HasCounted first t s (m + 1)) (λ s m y. HasCounted first t s m) sights made x → AreCounts fs (tallies_of t) sights made x
    by (outcome.Exit status) own h = counts h
    by (outcome.Trap kind) own h = counts h
    by outcome.Limit own h = counts h
    by outcome.Device own h = absurd (own refl)
    by outcome.Memory own h = counts h

pub not_unread : (fs : List Placed) (tallies : List (List ℕ)) (sights : Sights) (made : ℕ) (r : Outcome) → AreCounts fs tallies sights made r → r ≡ outcome.Device → ⊥
not_unread fs tallies sights made (outcome.Exit status) h is = cc
not_unread fs tallies sights made (outcome.Trap kind) h is = cc
not_unread fs tallies sights made outcome.Limit h is = cc
not_unread fs tallies sights made outcome.Device h is = h
not_unread fs tallies sights made outcome.Memory h is = cc

pub counts_are : (fs : List Placed) (tallies : List (List ℕ)) (sights : Sights) (made : ℕ) (r : Outcome) → AreCounts fs tallies sights made r → tallies ≡ map (counts_of sights made) fs
counts_are fs tallies sights made (outcome.Exit status) h = h
counts_are fs tallies sights made (outcome.Trap kind) h = h
counts_are fs tallies sights made outcome.Limit h = h
counts_are fs tallies sights made outcome.Device h = absurd h
counts_are fs tallies sights made outcome.Memory h = h
