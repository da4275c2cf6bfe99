-- Promise: how many arguments and blanks are counted.
use Rattle.std.specs.Prelude.{ℕ, zero, suc, ◌+◌, ◌-◌, ◌==◌, ◌||◌, Bool, true, false, if◌then◌else◌, nat_lt, List, Option, None, Some}
use Rattle.std.specs.Prelude.{slice_get}
use Rattle.btree.specs.declared.nodes.Node.TheVariants as node
use Rattle.bmatch.specs.declared.counting.TheConstants.{MOST_COUNTED}
use Rattle.bmatch.specs.declared.tree.Branch.{Branch}
use Rattle.bmatch.specs.declared.tree.Kind.{Kind}
use Rattle.bmatch.specs.declared.tree.Kind.TheVariants as kind
use Rattle.bmatch.specs.declared.tree.TokenPlace.{TokenPlace}
use Rattle.bmatch.specs.declared.tree.Tree.{Tree}
use Rattle.bmatch.specs.Trees.{branch_at}

abbrev pub is_argument : Kind → Bool
is_argument (kind.Node node.NoArguments) = false
is_argument (kind.Node n) = true
is_argument (kind.Construct c) = false

abbrev pub counted : Kind → ℕ
counted k = if is_argument k then 1 else 0

-- how many branches of a row that ends here are expressions, of so many at most
abbrev pub arguments_between : List Branch → (begin end fuel : ℕ) → ℕ
arguments_between rows begin end zero = 0
arguments_between rows begin end (suc n) =
    let last = branch_at rows (end - 1) in
    if nat_lt begin end then counted last.kind + arguments_between rows begin last.begin n else 0

-- without what is called or defined
abbrev pub arguments_in : Tree → Option ℕ → Option ℕ
arguments_in tree None = None
arguments_in tree (Some index) =
    let call = (branch_at tree.rows.now index).core in
    Some (arguments_between tree.rows.now (branch_at tree.rows.now call).begin call MOST_COUNTED - 1)

abbrev pub place_in : Tree → (one around : Option ℕ) → Option ℕ
place_in tree (Some one) (Some around) =
    Some (arguments_between tree.rows.now (branch_at tree.rows.now around).begin (branch_at tree.rows.now one).begin
    MOST_COUNTED)
place_in tree _ around = None

abbrev pub is_byte : Option ℕ → (n : ℕ) → Bool
is_byte None n = false
is_byte (Some b) n = b == n

-- how many blanks a blank or a tab is; 0 for all else
abbrev pub width : Option ℕ → ℕ
width b = if is_byte b 32 then 1 else if is_byte b 9 then 8 else 0

-- how many blanks stand before a place of a line, and so many more, if nothing else does
abbrev pub blanks_at : (source : List ℕ) → (place more fuel : ℕ) → Option ℕ
blanks_at source place more zero = None
blanks_at source place more (suc n) =
    let b = slice_get source (place - 1) in
    if place == 0 || is_byte b 10 then Some more
    else if nat_lt 0 (width b) then blanks_at source (place - 1) (more + width b) n else None

abbrev pub indent_at : (source : List ℕ) → Option TokenPlace → Option ℕ
indent_at source None = None
indent_at source (Some p) = blanks_at source p.start 0 MOST_COUNTED

abbrev pub indent_in : Tree → Option ℕ → Option ℕ
indent_in tree None = None
indent_in tree (Some index) = indent_at tree.text.now (slice_get tree.places.now (branch_at tree.rows.now index).first)
