-- Promise: which branches change a name.
use Rattle.std.specs.Prelude.{ℕ, ◌-◌, Bool, false, List, Option, None, Some}
use Rattle.std.specs.List.{find, range_with_len}
use Rattle.btree.specs.declared.nodes.Node.TheVariants as node
use Rattle.bmatch.specs.declared.holds.Site.{Site}
use Rattle.bmatch.specs.declared.tree.Branch.{Branch}
use Rattle.bmatch.specs.declared.tree.Kind.{Kind}
use Rattle.bmatch.specs.declared.tree.Kind.TheVariants as kind
use Rattle.bmatch.specs.declared.tree.Tree.{Tree}
use Rattle.bmatch.specs.Same.{is_same}
use Rattle.bmatch.specs.Trees.{branch_at}

abbrev changed_of : Kind → List Branch → (last : ℕ) → Option ℕ
changed_of (kind.Node (node.Assigned o)) rows last = Some (branch_at rows ((branch_at rows last).begin - 1)).core
changed_of (kind.Node node.PostIncrement) rows last = Some (branch_at rows last).core
changed_of (kind.Node node.PostDecrement) rows last = Some (branch_at rows last).core
changed_of (kind.Node node.PreIncrement) rows last = Some (branch_at rows last).core
changed_of (kind.Node node.PreDecrement) rows last = Some (branch_at rows last).core
changed_of k rows last = None

-- the branch that one changes, without parentheses: the left side, or what is counted
abbrev pub changed_by : List Branch → (index : ℕ) → Option ℕ
changed_by rows index = changed_of (branch_at rows index).kind rows (index - 1)

abbrev is_same_as : Tree → (name : ℕ) → Option ℕ → Bool
is_same_as tree name None = false
is_same_as tree name (Some changed) = is_same tree name changed

abbrev pub is_change : Tree → (name index : ℕ) → Bool
is_change tree name index = is_same_as tree name (changed_by tree.rows.now index)

abbrev pub place_back : (end back : ℕ) → ℕ
place_back end back = end - 1 - back

abbrev pub back_from : (end : ℕ) → Option ℕ → Option ℕ
back_from end None = None
back_from end (Some back) = Some (place_back end back)

abbrev pub steps_back : Site → (name end : ℕ) → Option ℕ
steps_back s name end =
    find (λ back. is_change s.sight.tree name (place_back end back)) (range_with_len 0 (end - s.function.begin))

-- the last branch of a function before another one that changes what a name is
abbrev pub change_before : Site → (name end : ℕ) → Option ℕ
change_before s name end = back_from end (steps_back s name end)
