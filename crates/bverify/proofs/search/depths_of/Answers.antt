use Rattle.std.proofs.Common.{◌≡◌, ◌+◌, [], ◌∷◌, ◌++◌, length, ℕ, List, refl, sym, ap, subst, arith}
use Rattle.bverify.specs.Search.{Found}
use Rattle.bverify.proofs.Searching.{IsSearched, unknowns, searched_first, searched_on, closed_at_end}
use Rattle.bverify.proofs.search.depths_of.Goals as goal

is_empty : (xs : List ℕ) → length xs ≡ 0 → xs ≡ []
is_empty [] none = refl
is_empty (x ∷ xs) none = absurd (omega (arith, none))

pub loop-place-init : goal.loop-place-init
loop-place-init c =
    let targets = c.args.targets.now in
    let code = c.args.code.now in
    subst (IsSearched targets code) (sym c.in_ok-search.ensures) (searched_first targets code (length code) refl)

pub loop-place-smaller : goal.loop-place-smaller
loop-place-smaller c =
    let targets = c.args.targets.now in
    let code = c.args.code.now in
    let s = c.loop-place.search in
    let ps = c.pop.new.self.items in
    let q = c.in-Some.place in
    let items = c.in-Some.ensures.items in
    let inv : IsSearched targets code (record { depths = s.depths.items; pending = ps ++ q ∷ [] }) =
    subst (λ l. IsSearched targets code (record { depths = s.depths.items; pending = l })) items c.loop-place.invariant in
    let r = searched_on targets code q s.depths.items ps c.requires inv in
    let left = ap (λ f. unknowns (Found.depths f) + length (Found.pending f)) c.in_ok-look_at.ensures in
    let before = ap length items in
    omega (arith, r.1, left, before)

pub loop-place-preserved : goal.loop-place-preserved
loop-place-preserved c =
    let targets = c.args.targets.now in
    let code = c.args.code.now in
    let s = c.loop-place.search in
    let ps = c.pop.new.self.items in
    let q = c.in-Some.place in
    let inv : IsSearched targets code (record { depths = s.depths.items; pending = ps ++ q ∷ [] }) =
    subst (λ l. IsSearched targets code (record { depths = s.depths.items; pending = l })) c.in-Some.ensures.items c.loop-place.invariant in
    subst (IsSearched targets code) (sym c.in_ok-look_at.ensures) (searched_on targets code q s.depths.items ps c.requires inv).0

pub returns-clause-closed : goal.returns-clause-closed
returns-clause-closed c =
    let s = c.loop-place.search in
    let zero : length s.pending.items ≡ 0 =
    first_of (omega (arith, c.in_default.ensures.cases.0), omega (arith, c.in_default.ensures.cases.0, s.pending.ok.0)) in
    let none : s.pending.items ≡ [] = is_empty s.pending.items zero in
    closed_at_end c.args.targets.now c.args.code.now s.depths.items
    (subst (λ l. IsSearched c.args.targets.now c.args.code.now (record { depths = s.depths.items; pending = l })) none c.loop-place.invariant)
