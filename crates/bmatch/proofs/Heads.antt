-- Steps that ask for another head fit nothing.
use Rattle.std.proofs.Common.{◌≡◌, ◌∙◌, ℕ, zero, suc, ◌+◌, Bool, true, false, List, [], ◌∷◌, ◌++◌, None, ap, append-nil, nat_lt, refl, sym}
use Rattle.std.specs.Prelude.{if◌then◌else◌, map}
use Rattle.std.proofs.lemmas.Bool.{and_right, cond-false, or_parts}
use Rattle.std.specs.List.{flat_map}
use Rattle.bmatch.specs.declared.binds.Binds.{Binds}
use Rattle.bmatch.specs.declared.fits.Rows.{Rows}
use Rattle.bmatch.specs.declared.fits.Sight.{Sight}
use Rattle.bmatch.specs.declared.fits.Span.{Span}
use Rattle.bmatch.specs.declared.holds.Site.{Site}
use Rattle.bmatch.specs.declared.holds.Sought.{Sought}
use Rattle.bmatch.specs.declared.noticing.Notice.{Notice}
use Rattle.bmatch.specs.declared.pattern.Rule.{Rule}
use Rattle.bmatch.specs.declared.pattern.RuleTable.{RuleTable}
use Rattle.bmatch.specs.declared.pattern.Step.{Step}
use Rattle.bmatch.specs.declared.pattern.Step.TheVariants as step
use Rattle.bmatch.specs.declared.pattern.TheConstants.{ROOT}
use Rattle.bmatch.specs.declared.tree.Tree.{Tree}
use Rattle.bmatch.specs.Fits.{either_way, fits_in, go_in, has_sides, inner_of, kind_for, may_begin, seen_at, sides_of}
use Rattle.bmatch.specs.Binds.{nothing_bound, with_hole, with_told}
use Rattle.bmatch.specs.Holds.{fits_at, holds_in, is_within, some_at, steps_at}
use Rattle.bmatch.specs.Notices.{notice_of, root_notices, sight_of, site_of}
use Rattle.bmatch.specs.Trees.{branch_at}
use Rattle.std.specs.Prelude.{drop}

pub no_head : (s : Sight) (n : ℕ) (is : List Step) (begin end : ℕ) (rows : List Span) (b : Binds) → may_begin s n is end ≡ false → fits_in s n is begin end rows b ≡ []
no_head s n [] begin end rows b h = refl
no_head s (suc n) (i ∷ is) begin end rows b h = no_head s n is begin end rows b h
no_head s zero (step.Tree k ∷ is) begin end rows b h =
    let none : inner_of s k k begin end ≡ None = cond-false _ _ _ (and_right (nat_lt begin end) _ h) in
    ap (λ i. go_in i (λ (x : Rows). fits_in s zero is x.one.begin x.one.end (x.other ∷ rows) b)) none
no_head s zero (step.Range k last ∷ is) begin end rows b h =
    let none : inner_of s k last begin end ≡ None = cond-false _ _ _ (and_right (nat_lt begin end) _ h) in
    ap (λ i. go_in i (λ (x : Rows). fits_in s zero is x.one.begin x.one.end (x.other ∷ rows) b)) none
no_head s zero (step.Sides k last told ∷ is) begin end rows b h =
    let kind = kind_for s k (seen_at s false end) in
    let hs = or_parts (has_sides s false k last kind) (has_sides s true k last kind) h in
    let plain : sides_of s false k last begin end ≡ None = cond-false _ _ _ (and_right (nat_lt begin end) _ hs.0) in
    let exchanged : sides_of s true k last begin end ≡ None = cond-false _ _ _ (and_right (nat_lt begin end) _ hs.1) in
    let way = either_way s k last begin end in
    let go = λ (x : Rows). fits_in s zero is x.one.begin x.one.end (x.other ∷ way.before ∷ rows) (with_told b told way.token) in
    ap (λ x. go_in x go ++ go_in way.exchanged go) plain ∙ ap (λ x. go_in x go) exchanged
no_head s zero (step.Either n ∷ is) begin end rows b h =
    let hs = or_parts (may_begin s zero is end) (may_begin s n is end) h in
    ap (λ bs. bs ++ fits_in s n is begin end rows b) (no_head s zero is begin end rows b hs.0) ∙ no_head s n is begin end rows b hs.1
no_head s zero (step.Jump n ∷ is) begin end rows b h = no_head s n is begin end rows b h
no_head s zero (step.Done ∷ is) begin end rows b h = absurd cc
no_head s zero (step.Leaf l ∷ is) begin end rows b h = absurd cc
no_head s zero (step.Told t ∷ is) begin end rows b h = absurd cc
no_head s zero (step.Dots ∷ is) begin end rows b h = absurd cc

none_either : (b : Bool) (bs : List Binds) → bs ≡ [] → (if b then bs else []) ≡ []
none_either true bs e = e
none_either false bs e = refl

pub nothing_found : (tree : Tree) (t : RuleTable) (r : Rule) (function : Span) (root : ℕ) (found : List Notice) → may_begin (sight_of tree t r) 0 (drop r.pattern t.steps.now) (root + 1) ≡ false
    → found ≡ found ++ root_notices tree t r function root
nothing_found tree t r function root found h =
    let b = with_hole nothing_bound ROOT root in
    let is = drop r.pattern t.steps.now in
    let none : fits_at (sight_of tree t r) is root b ≡ [] = none_either _ _ (no_head (sight_of tree t r) 0 is _ (root + 1) [] b h) in
    sym (append-nil found) ∙ ap (λ ways. found ++ map (notice_of tree r) (flat_map (holds_in (site_of tree t r function) 0 (drop r.condition t.claims.now)) ways)) (sym none)

pub nothing_sought : (s : Site) (sought : Sought) (b : Binds) (index : ℕ) (found : List Binds) → may_begin s.sight 0 (steps_at s.sight sought.pattern) (index + 1) ≡ false → found ≡ found ++ some_at s sought b index
nothing_sought s sought b index found h =
    let c = with_hole b sought.hole index in
    let is = steps_at s.sight sought.pattern in
    let none : fits_at s.sight is index c ≡ [] = none_either _ _ (no_head s.sight 0 is _ (index + 1) [] c h) in
    sym (append-nil found) ∙ ap (λ bs. found ++ bs) (sym (none_either (is_within s sought.scope b index) _ none))
