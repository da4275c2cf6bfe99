-- Promise: what rules tell of a source: each place where a rule fits and its condition holds, in the order of the rules.
use Rattle.std.specs.Prelude.{ℕ, ◌+◌, ◌-◌, ◌&&◌, ◌||◌, Bool, true, false, if◌then◌else◌, nat_lt, List, [], ◌∷◌, drop, length, map, Option, None, Some}
use Rattle.std.specs.List.{flat_map, range_with_len}
use Rattle.btree.specs.declared.tags.Construct.TheVariants as construct
use Rattle.bmatch.specs.declared.binds.Binds.{Binds}
use Rattle.bmatch.specs.declared.fits.Sight.{Sight}
use Rattle.bmatch.specs.declared.fits.Span.{Span}
use Rattle.bmatch.specs.declared.holds.Site.{Site}
use Rattle.bmatch.specs.declared.noticing.Notice.{Notice}
use Rattle.bmatch.specs.declared.noticing.TheConstants.{MOST_BRANCHES, MOST_IN_ALL}
use Rattle.bmatch.specs.declared.pattern.Rule.{Rule}
use Rattle.bmatch.specs.declared.pattern.RuleTable.{RuleTable}
use Rattle.bmatch.specs.declared.pattern.TheConstants.{ROOT}
use Rattle.bmatch.specs.declared.tree.Kind.{Kind}
use Rattle.bmatch.specs.declared.tree.Kind.TheVariants as kind
use Rattle.bmatch.specs.declared.tree.Tree.{Tree}
use Rattle.bmatch.specs.Asking.{told_token}
use Rattle.bmatch.specs.Binds.{hole_of, nothing_bound, with_hole}
use Rattle.bmatch.specs.Fits.{span_of}
use Rattle.bmatch.specs.Holds.{fits_at, holds_in}
use Rattle.bmatch.specs.Trees.{branch_at}

abbrev pub is_definition : Kind → Bool
is_definition (kind.Construct construct.Definition) = true
is_definition _ = false

abbrev pub functions_at : Tree → (index : ℕ) → List Span
functions_at tree index =
    if is_definition (branch_at tree.rows.now index).kind
    then span_of (branch_at tree.rows.now index).begin (index + 1) ∷ [] else []

-- the definitions of a tree
abbrev pub functions_in : Tree → List Span
functions_in tree = flat_map (functions_at tree) (range_with_len 0 (length tree.rows.now))

abbrev pub first_token : Tree → Option ℕ → Option ℕ
first_token tree None = None
first_token tree (Some index) = Some (branch_at tree.rows.now index).first

abbrev pub notice_of : Tree → Rule → Binds → Notice
notice_of tree r b =
    record {
      rule = r.number;
      token = told_token tree b;
      named = first_token tree (hole_of b r.named);
      beside = first_token tree (hole_of b r.beside);
    }

abbrev pub sight_of : Tree → RuleTable → Rule → Sight
sight_of tree t r = record { tree = tree; steps = t.steps; is_loose = r.is_loose }

abbrev pub site_of : Tree → RuleTable → Rule → Span → Site
site_of tree t r function = record { sight = sight_of tree t r; function = function }

-- the pattern of a rule fits this branch of a function, and its condition holds
abbrev pub root_notices : Tree → RuleTable → Rule → (function : Span) → (root : ℕ) → List Notice
root_notices tree t r function root =
    map (notice_of tree r) (flat_map (holds_in (site_of tree t r function) 0 (drop r.condition t.claims.now))
    (fits_at (sight_of tree t r) (drop r.pattern t.steps.now) root (with_hole nothing_bound ROOT root)))

-- A rule that looks around isn't asked in a very long function, nor one that looks at all of the source if that is long.
abbrev pub is_passed_over : Tree → Rule → Span → Bool
is_passed_over tree r function =
    (r.looks_around && nat_lt MOST_BRANCHES (function.end - function.begin))
    || (r.looks_far && nat_lt MOST_IN_ALL (length tree.rows.now))

abbrev pub function_notices : Tree → RuleTable → Rule → (function : Span) → List Notice
function_notices tree t r function =
    if is_passed_over tree r function then []
    else flat_map (root_notices tree t r function) (range_with_len function.begin (function.end - function.begin))

abbrev pub rule_notices : Tree → RuleTable → (functions : List Span) → Rule → List Notice
rule_notices tree t functions r = flat_map (function_notices tree t r) functions

abbrev pub notices_by : Tree → RuleTable → List Notice
notices_by tree t = flat_map (rule_notices tree t (functions_in tree)) t.rules.now
