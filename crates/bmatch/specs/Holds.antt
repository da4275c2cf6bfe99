-- Promise: in which ways a condition holds, and what holes stand for then.
use Rattle.std.specs.Prelude.{ℕ, zero, suc, ◌+◌, ◌-◌, ◌==◌, ◌&&◌, Bool, true, false, if◌then◌else◌, nat_le, nat_lt, List, [], ◌∷◌}
use Rattle.std.specs.Prelude.{◌++◌, drop, length, Option, None, Some, unwrap_or}
use Rattle.std.specs.List.{find, flat_map, range_with_len}
use Rattle.btree.specs.declared.tags.Construct.TheVariants as construct
use Rattle.bmatch.specs.declared.binds.Binds.{Binds}
use Rattle.bmatch.specs.declared.conditions.Claim.{Claim}
use Rattle.bmatch.specs.declared.conditions.Claim.TheVariants as claim
use Rattle.bmatch.specs.declared.conditions.Scope.{Scope}
use Rattle.bmatch.specs.declared.conditions.Scope.TheVariants as scope
use Rattle.bmatch.specs.declared.fits.Sight.{Sight}
use Rattle.bmatch.specs.declared.fits.Span.{Span}
use Rattle.bmatch.specs.declared.holds.Site.{Site}
use Rattle.bmatch.specs.declared.holds.Sought.{Sought}
use Rattle.bmatch.specs.declared.pattern.Step.{Step}
use Rattle.bmatch.specs.declared.pattern.TheConstants.{ROOT}
use Rattle.bmatch.specs.declared.tree.Kind.{Kind}
use Rattle.bmatch.specs.declared.tree.Kind.TheVariants as kind
use Rattle.bmatch.specs.Asking.{passes_test}
use Rattle.bmatch.specs.Binds.{given_to, hole_of, with_hole}
use Rattle.bmatch.specs.Changes.{change_before}
use Rattle.bmatch.specs.Fits.{fits_in, span_of}
use Rattle.bmatch.specs.Trees.{branch_at}

-- the ways in which steps fit one branch
abbrev pub fits_at : Sight → List Step → (index : ℕ) → Binds → List Binds
fits_at s is index b =
    if nat_lt index (length s.tree.rows.now)
    then fits_in s 0 is (branch_at s.tree.rows.now index).begin (index + 1) [] b else []

-- the steps of a pattern
abbrev pub steps_at : Sight → (at : ℕ) → List Step
steps_at s at = drop at s.steps.now

abbrev pub fits_if : Option ℕ → Sight → (pattern : ℕ) → Binds → List Binds
fits_if None s p b = []
fits_if (Some index) s p b = fits_at s (steps_at s p) index b

abbrev pub fits_hole : Site → (pattern hole : ℕ) → Binds → List Binds
fits_hole s p hole b = fits_if (hole_of b hole) s.sight p b

-- the branches in what a hole stands for, with itself
abbrev pub hole_span : Site → Option ℕ → Span
hole_span s None = span_of 0 0
hole_span s (Some index) =
    if nat_lt index (length s.sight.tree.rows.now)
    then span_of (branch_at s.sight.tree.rows.now index).begin (index + 1) else span_of 0 0

abbrev pub root_of : Binds → ℕ
root_of b = unwrap_or (hole_of b ROOT) 0

abbrev is_loop : Kind → Bool
is_loop (kind.Construct construct.While) = true
is_loop k = false

abbrev pub is_loop_around : Site → (root index : ℕ) → Bool
is_loop_around s root index =
    let b = branch_at s.sight.tree.rows.now index in
    is_loop b.kind && (nat_lt root index && nat_le b.begin root)

-- the innermost loop around what was found
abbrev pub loop_around : Site → (root : ℕ) → Option ℕ
loop_around s root = find (is_loop_around s root) (range_with_len root (s.function.end - root))

-- from which branch up to which a scope goes
abbrev pub scope_span : Site → Scope → Binds → Span
scope_span s scope.Program b = span_of 0 (length s.sight.tree.rows.now)
scope_span s scope.Definitions b = span_of 0 (length s.sight.tree.rows.now)
scope_span s scope.Function b = s.function
scope_span s scope.Loop b = hole_span s (loop_around s (root_of b))
scope_span s scope.Before b = span_of s.function.begin (branch_at s.sight.tree.rows.now (root_of b)).begin
scope_span s scope.After b = span_of (root_of b) s.function.end
scope_span s scope.Around b = span_of (root_of b) s.function.end
scope_span s (scope.Hole hole) b = hole_span s (hole_of b hole)
scope_span s (scope.Own hole) b = hole_span s (hole_of b hole)

abbrev is_definition_kind : Kind → Bool
is_definition_kind (kind.Construct construct.Definition) = true
is_definition_kind k = false

-- which of these branches are in it: definitions, what is after what was found, around it, or in as many loops and
-- switches as the hole
abbrev pub is_within : Site → Scope → Binds → (index : ℕ) → Bool
is_within s scope.Definitions b index = is_definition_kind (branch_at s.sight.tree.rows.now index).kind
is_within s scope.After b index = nat_lt (root_of b) (branch_at s.sight.tree.rows.now index).begin
is_within s scope.Around b index =
    nat_lt (root_of b) index && nat_le (branch_at s.sight.tree.rows.now index).begin (root_of b)
is_within s (scope.Own hole) b index =
    (branch_at s.sight.tree.rows.now index).loops
    == (branch_at s.sight.tree.rows.now (unwrap_or (hole_of b hole) 0)).loops
is_within s _ b index = true

abbrev pub some_at : Site → Sought → Binds → (index : ℕ) → List Binds
some_at s sought b index =
    if is_within s sought.scope b index
    then fits_at s.sight (steps_at s.sight sought.pattern) index (with_hole b sought.hole index) else []

-- some branch of a scope fits a pattern, and a hole stands for it
abbrev pub some_in : Site → Sought → Binds → List Binds
some_in s sought b =
    let span = scope_span s sought.scope b in
    flat_map (some_at s sought b) (range_with_len span.begin (span.end - span.begin))

abbrev name_begun : Site → Option ℕ → (end : ℕ) → Option ℕ
name_begun s None end = None
name_begun s (Some name) end = change_before s name end

-- what changes the name of a hole last, before what was found
abbrev pub begun_by : Site → (hole : ℕ) → Binds → Option ℕ
begun_by s hole b = name_begun s (hole_of b hole) (branch_at s.sight.tree.rows.now (root_of b)).begin

abbrev pub fits_begun : Site → (pattern hole : ℕ) → Binds → List Binds
fits_begun s p hole b = fits_if (begun_by s hole b) s.sight p b

abbrev pub if_none : List Binds → List Binds → List Binds
if_none [] bs = bs
if_none (c ∷ cs) bs = []

abbrev pub if_some : List Binds → List Binds → List Binds
if_some [] bs = []
if_some (c ∷ cs) bs = bs

abbrev pub sought_of : Scope → (hole pattern : ℕ) → Sought
sought_of c hole p = record { scope = c; hole = hole; pattern = p }

-- the ways in which a claim of a pattern holds
abbrev pub fits_claim : Site → Claim → Binds → List Binds
fits_claim s (claim.Is hole p) b = fits_hole s p hole b
fits_claim s (claim.Some c hole p) b = some_in s (sought_of c hole p) b
fits_claim s (claim.Begun hole p) b = fits_begun s p hole b
fits_claim s c b = []

-- The ways in which claims hold, after so many were passed over: each one with what those before it have bound.
abbrev pub holds_in : Site → (passed : ℕ) → List Claim → Binds → List Binds
holds_in s n [] b = b ∷ []
holds_in s (suc n) (c ∷ cs) b = holds_in s n cs b
holds_in s zero (claim.End ∷ cs) b = b ∷ []
holds_in s zero (claim.Not n ∷ cs) b = if_none (holds_in s zero cs b) (holds_in s n cs b)
holds_in s zero (claim.Either n ∷ cs) b = holds_in s zero cs b ++ holds_in s n cs b
holds_in s zero (claim.Jump n ∷ cs) b = holds_in s n cs b
holds_in s zero (claim.Call n h i j k ∷ cs) b = if_some (holds_in s n cs (given_to b h i j k)) (holds_in s zero cs b)
holds_in s zero (claim.Test t ∷ cs) b = if passes_test s t b then holds_in s zero cs b else []
holds_in s zero (claim.Is hole p ∷ cs) b = flat_map (holds_in s zero cs) (fits_claim s (claim.Is hole p) b)
holds_in s zero (claim.Some c hole p ∷ cs) b = flat_map (holds_in s zero cs) (fits_claim s (claim.Some c hole p) b)
holds_in s zero (claim.Begun hole p ∷ cs) b = flat_map (holds_in s zero cs) (fits_claim s (claim.Begun hole p) b)
