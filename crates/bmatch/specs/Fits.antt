-- Promise: how the steps of a pattern fit a row of branches, and what holes stand for then.
use Rattle.std.specs.Prelude.{ℕ, zero, suc, ◌-◌, ◌==◌, ◌&&◌, ◌||◌, Bool, true, false, not, if◌then◌else◌, nat_le, nat_lt, List}
use Rattle.std.specs.Prelude.{[], ◌∷◌, ◌++◌, Option, None, Some, is_some, take, unwrap_or}
use Rattle.std.specs.List.{flat_map}
use Rattle.std.specs.Str.{bytes_eq}
use Rattle.blex.specs.declared.lexeme.Lexeme.{Lexeme}
use Rattle.blex.specs.declared.lexeme.Lexeme.TheVariants as lexeme
use Rattle.blang.specs.declared.token.Keyword.TheVariants as keyword
use Rattle.bword.specs.declared.operators.BinOp.{BinOp}
use Rattle.bword.specs.declared.operators.BinOp.TheVariants as op
use Rattle.btree.specs.declared.nodes.Node.TheVariants as node
use Rattle.btree.specs.declared.tags.Construct.TheVariants as construct
use Rattle.bmatch.specs.declared.binds.Binds.{Binds}
use Rattle.bmatch.specs.declared.fits.EitherWay.{EitherWay}
use Rattle.bmatch.specs.declared.fits.Left.{Left}
use Rattle.bmatch.specs.declared.fits.Left.TheVariants as left_is
use Rattle.bmatch.specs.declared.fits.Rows.{Rows}
use Rattle.bmatch.specs.declared.fits.Sight.{Sight}
use Rattle.bmatch.specs.declared.fits.Span.{Span}
use Rattle.bmatch.specs.declared.fits.TheConstants.{MOST_PASSED}
use Rattle.bmatch.specs.declared.pattern.Leaf.{Leaf}
use Rattle.bmatch.specs.declared.pattern.Leaf.TheVariants as leaf
use Rattle.bmatch.specs.declared.pattern.Sort.{Sort}
use Rattle.bmatch.specs.declared.pattern.Sort.TheVariants as sort
use Rattle.bmatch.specs.declared.pattern.Spot.{Spot}
use Rattle.bmatch.specs.declared.pattern.Spot.TheVariants as spot
use Rattle.bmatch.specs.declared.pattern.Step.{Step}
use Rattle.bmatch.specs.declared.pattern.Step.TheVariants as step
use Rattle.bmatch.specs.declared.pattern.Word.{Word}
use Rattle.bmatch.specs.declared.pattern.Word.TheVariants as word
use Rattle.bmatch.specs.declared.tree.Branch.{Branch}
use Rattle.bmatch.specs.declared.tree.Kind.{Kind}
use Rattle.bmatch.specs.declared.tree.Kind.TheVariants as kind
use Rattle.bmatch.specs.declared.tree.Tree.{Tree}
use Rattle.bmatch.specs.Binds.{hole_of, with_hole, with_told}
use Rattle.bmatch.specs.Changes.{is_change}
use Rattle.bmatch.specs.Same.{is_same, is_same_lexeme}
use Rattle.bmatch.specs.Trees.{branch_at, kind_number, lexeme_at}

-- where the branch begins that is right before this one
abbrev pub start_of : List Branch → (end : ℕ) → ℕ
start_of rows end = (branch_at rows (end - 1)).begin

-- the last branch of a row that ends here, or what stands in its parentheses
abbrev pub seen_at : Sight → (is_grouped : Bool) → (end : ℕ) → ℕ
seen_at s is_grouped end =
    if s.is_loose && not is_grouped then (branch_at s.tree.rows.now (end - 1)).core else end - 1

abbrev pub is_grouped : Kind → Bool
is_grouped (kind.Node node.Grouped) = true
is_grouped _ = false

abbrev pub is_name : Kind → Bool
is_name (kind.Node node.Name) = true
is_name _ = false

abbrev pub is_constant : Kind → Bool
is_constant (kind.Node node.Constant) = true
is_constant _ = false

abbrev pub is_text : Kind → Bool
is_text (kind.Node node.Text) = true
is_text _ = false

abbrev pub is_number : Lexeme → Bool
is_number (lexeme.Number n) = true
is_number _ = false

abbrev pub is_named : Lexeme → (name : List ℕ) → Bool
is_named (lexeme.Name x) name = bytes_eq x name
is_named _ name = false

abbrev pub is_name_of : Tree → Branch → (name : List ℕ) → Bool
is_name_of tree b name = if is_name b.kind then is_named (lexeme_at tree.lexemes.now b.token) name else false

abbrev pub is_value_of : Tree → Branch → (value : ℕ) → Bool
is_value_of tree b value =
    if is_constant b.kind then is_same_lexeme (lexeme_at tree.lexemes.now b.token) (lexeme.Number value) else false

abbrev pub is_sort : Tree → Branch → Sort → Bool
is_sort tree b sort.Any = true
is_sort tree b sort.Name = is_name b.kind
is_sort tree b sort.Text = is_text b.kind
is_sort tree b sort.Constant = is_constant b.kind
is_sort tree b sort.Number = is_constant b.kind && is_number (lexeme_at tree.lexemes.now b.token)
is_sort tree b sort.Character = is_constant b.kind && not (is_number (lexeme_at tree.lexemes.now b.token))

abbrev pub with_same_as : (bound : Option ℕ) → Tree → Binds → (hole index : ℕ) → Option Binds
with_same_as None tree b hole index = Some (with_hole b hole index)
with_same_as (Some other) tree b hole index = if is_same tree other index then Some b else None

-- A hole stands for one branch, and where it comes again for one that is the same tree.
abbrev pub with_same : Tree → Binds → (hole index : ℕ) → Option Binds
with_same tree b hole index = with_same_as (hole_of b hole) tree b hole index

-- where a row may end, if its last branches are left out, up to so many
unfoldable pub ends_of : List Branch → (most : ℕ) → (begin end : ℕ) → List ℕ
ends_of rows zero begin end = []
ends_of rows (suc n) begin end = end ∷ (if nat_lt begin end then ends_of rows n begin (start_of rows end) else [])

abbrev pub span_of : (begin end : ℕ) → Span
span_of begin end = record { begin = begin; end = end }

-- a kind from the first one to the last, by their numbers
abbrev pub is_between : (first last kind : Kind) → Bool
is_between first last k = nat_le (kind_number first) (kind_number k) && nat_le (kind_number k) (kind_number last)

-- the comparison that holds where another one doesn't
abbrev pub negated : BinOp → Option Kind
negated op.Eq = Some (kind.Node (node.Binary op.Ne))
negated op.Ne = Some (kind.Node (node.Binary op.Eq))
negated op.Lt = Some (kind.Node (node.Binary op.Ge))
negated op.Le = Some (kind.Node (node.Binary op.Gt))
negated op.Gt = Some (kind.Node (node.Binary op.Le))
negated op.Ge = Some (kind.Node (node.Binary op.Lt))
negated o = None

-- The kind that a branch says the same as, where another one is asked for: `*(v + i)` is `v[i]`, and `!(a < b)` is
-- `a >= b`.
abbrev pub kind_within : (asked kind inner : Kind) → Option Kind
kind_within (kind.Node node.Indexed) (kind.Node node.Indirection) (kind.Node (node.Binary op.Add)) =
    Some (kind.Node node.Indexed)
kind_within (kind.Node (node.Binary asked)) (kind.Node node.Not) (kind.Node (node.Binary o)) = negated o
kind_within asked k inner = None

-- the same for a branch of the tree, where a part in parentheses is no other than one without
abbrev pub other_kind : Sight → (asked : Kind) → (index : ℕ) → Option Kind
other_kind s asked index =
    let rows = s.tree.rows.now in
    if s.is_loose
    then kind_within asked (branch_at rows index).kind (branch_at rows (branch_at rows (index - 1)).core).kind
    else None

-- the kind that a branch is then, and the number of the branch whose parts it has
abbrev pub kind_for : Sight → (asked : Kind) → (index : ℕ) → Kind
kind_for s asked index = unwrap_or (other_kind s asked index) (branch_at s.tree.rows.now index).kind

abbrev pub index_for : Sight → (asked : Kind) → (index : ℕ) → ℕ
index_for s asked index =
    if is_some (other_kind s asked index) then (branch_at s.tree.rows.now (index - 1)).core else index

abbrev pub rows_from : (one other : Span) → Rows
rows_from one other = record { one = one; other = other }

-- the branches in the last one of a row, if it is of such a kind, and then those before it
abbrev pub inner_of : Sight → (first last : Kind) → (begin end : ℕ) → Option Rows
inner_of s first last begin end =
    let seen = seen_at s (is_grouped first) end in
    let index = index_for s first seen in
    if nat_lt begin end && is_between first last (kind_for s first seen)
    then Some (rows_from (span_of (branch_at s.tree.rows.now index).begin index)
    (span_of begin (start_of s.tree.rows.now end))) else None

-- the last branch that ends here is of such a kind
abbrev pub is_seen : Sight → (first last : Kind) → (end : ℕ) → Bool
is_seen s first last end = is_between first last (kind_for s first (seen_at s (is_grouped first) end))

-- the operator that says the same where its sides are exchanged
abbrev pub mirrored : Kind → Kind
mirrored (kind.Node (node.Binary op.Lt)) = kind.Node (node.Binary op.Gt)
mirrored (kind.Node (node.Binary op.Le)) = kind.Node (node.Binary op.Ge)
mirrored (kind.Node (node.Binary op.Gt)) = kind.Node (node.Binary op.Lt)
mirrored (kind.Node (node.Binary op.Ge)) = kind.Node (node.Binary op.Le)
mirrored k = k

-- it is of such a kind, where its sides are exchanged if this is so
abbrev pub has_sides : Sight → (is_exchanged : Bool) → (first last kind : Kind) → Bool
has_sides s is_exchanged first last k =
    if is_exchanged then s.is_loose && is_between first last (mirrored k) else is_between first last k

-- the last branch that ends here is of such a kind, in one order of its sides or in the other
abbrev pub sees_sides : Sight → (first last : Kind) → (end : ℕ) → Bool
sees_sides s first last end =
    let k = kind_for s first (seen_at s false end) in
    has_sides s false first last k || has_sides s true first last k

-- the two sides of the last branch of a row, the right one first, or last where they are exchanged
abbrev pub sides_of : Sight → (is_exchanged : Bool) → (first last : Kind) → (begin end : ℕ) → Option Rows
sides_of s is_exchanged first last begin end =
    let seen = seen_at s false end in
    let index = index_for s first seen in
    let left = span_of (branch_at s.tree.rows.now index).begin (start_of s.tree.rows.now index) in
    let right = span_of (start_of s.tree.rows.now index) index in
    if nat_lt begin end && has_sides s is_exchanged first last (kind_for s first seen)
    then Some (if is_exchanged then rows_from left right else rows_from right left)
    else None

abbrev pub either_way : Sight → (first last : Kind) → (begin end : ℕ) → EitherWay
either_way s first last begin end =
    record {
      plain = sides_of s false first last begin end;
      exchanged = sides_of s true first last begin end;
      before = span_of begin (start_of s.tree.rows.now end);
      token = (branch_at s.tree.rows.now (index_for s first (seen_at s false end))).token;
    }

abbrev pub is_plain : Kind → Bool
is_plain (kind.Construct construct.Plain) = true
is_plain _ = false

abbrev pub is_word : Word → Lexeme → Bool
is_word word.Nothing lexeme.Semicolon = true
is_word word.Return (lexeme.Keyword keyword.Return) = true
is_word word.Break (lexeme.Keyword keyword.Break) = true
is_word word.Auto (lexeme.Keyword keyword.Auto) = true
is_word word.Extrn (lexeme.Keyword keyword.Extrn) = true
is_word w l = false

-- the branch is a statement that is this word and a ;
abbrev pub is_word_alone : Tree → (index : ℕ) → Word → Bool
is_word_alone tree index w =
    let b = branch_at tree.rows.now index in
    is_plain b.kind && (b.begin == index && is_word w (lexeme_at tree.lexemes.now b.token))

abbrev pub changes_hole : Tree → (name : Option ℕ) → (index : ℕ) → Bool
changes_hole tree None index = false
changes_hole tree (Some name) index = is_change tree name index

abbrev pub leaf_binds : Tree → Leaf → (index : ℕ) → Binds → Option Binds
leaf_binds tree (leaf.Name bytes len) index b =
    if is_name_of tree (branch_at tree.rows.now index) (take len bytes) then Some b else None
leaf_binds tree (leaf.Value n) index b = if is_value_of tree (branch_at tree.rows.now index) n then Some b else None
leaf_binds tree (leaf.Word w) index b = if is_word_alone tree index w then Some b else None
leaf_binds tree (leaf.Change hole) index b = if changes_hole tree (hole_of b hole) index then Some b else None
leaf_binds tree (leaf.Hole hole sort) index b =
    if is_sort tree (branch_at tree.rows.now index) sort then with_same tree b hole index else None

-- Steps whose first one asks for another kind than the last branch that ends here fit nothing there.
abbrev pub may_begin : Sight → (passed : ℕ) → List Step → (end : ℕ) → Bool
may_begin s n [] end = false
may_begin s (suc n) (i ∷ is) end = may_begin s n is end
may_begin s zero (step.Tree k ∷ is) end = is_seen s k k end
may_begin s zero (step.Range k last ∷ is) end = is_seen s k last end
may_begin s zero (step.Sides k last told ∷ is) end = sees_sides s k last end
may_begin s zero (step.Leaf l ∷ is) end = true
may_begin s zero (step.Either n ∷ is) end = may_begin s zero is end || may_begin s n is end
may_begin s zero (step.Jump n ∷ is) end = may_begin s n is end
may_begin s zero (step.Done ∷ is) end = true
may_begin s zero (step.Told t ∷ is) end = true
may_begin s zero (step.Dots ∷ is) end = true

-- what holes stand for where the last branch of a row is this
abbrev pub with_leaf : Sight → Leaf → (begin end : ℕ) → Binds → Option Binds
with_leaf s l begin end b = if nat_lt begin end then leaf_binds s.tree l (seen_at s false end) b else None

-- the token that is told where a row ends here
abbrev pub token_told : Sight → Spot → (end : ℕ) → ℕ
token_told s spot.First end = (branch_at s.tree.rows.now (seen_at s false end)).first
token_told s spot.Maker end = (branch_at s.tree.rows.now end).token
token_told s spot.Else end = (branch_at s.tree.rows.now (end - 1)).first - 1

abbrev pub go_in : {A : Type 0} → Option A → (A → List Binds) → List Binds
go_in None go = []
go_in (Some x) go = go x

-- What holes stand for, in each way in which steps fit the branches from one number up to another, after so many steps
-- were passed over. The rows that were begun have to fit then.
abbrev pub fits_in : Sight → (passed : ℕ) → List Step → (begin end : ℕ) → (rows : List Span) → Binds → List Binds
fits_in s n [] begin end rows b = []
fits_in s (suc n) (i ∷ is) begin end rows b = fits_in s n is begin end rows b
fits_in s zero (step.Done ∷ is) begin end [] b = if nat_lt begin end then [] else b ∷ []
fits_in s zero (step.Done ∷ is) begin end (row ∷ rows) b =
    if nat_lt begin end then [] else fits_in s zero is row.begin row.end rows b
fits_in s zero (step.Tree k ∷ is) begin end rows b =
    go_in (inner_of s k k begin end) (λ x. fits_in s zero is x.one.begin x.one.end (x.other ∷ rows) b)
fits_in s zero (step.Range k last ∷ is) begin end rows b =
    go_in (inner_of s k last begin end) (λ x. fits_in s zero is x.one.begin x.one.end (x.other ∷ rows) b)
fits_in s zero (step.Sides k last told ∷ is) begin end rows b =
    let way = either_way s k last begin end in
    go_in way.plain (λ x.
    fits_in s zero is x.one.begin x.one.end (x.other ∷ way.before ∷ rows) (with_told b told way.token))
    ++ go_in way.exchanged (λ x.
    fits_in s zero is x.one.begin x.one.end (x.other ∷ way.before ∷ rows) (with_told b told way.token))
fits_in s zero (step.Leaf l ∷ is) begin end rows b =
    go_in (with_leaf s l begin end b) (fits_in s zero is begin (start_of s.tree.rows.now end) rows)
fits_in s zero (step.Told t ∷ is) begin end rows b =
    fits_in s zero is begin end rows (with_told b true (token_told s t end))
fits_in s zero (step.Dots ∷ is) begin end rows b =
    flat_map (λ e. fits_in s zero is begin e rows b) (ends_of s.tree.rows.now MOST_PASSED begin end)
fits_in s zero (step.Either n ∷ is) begin end rows b =
    fits_in s zero is begin end rows b ++ fits_in s n is begin end rows b
fits_in s zero (step.Jump n ∷ is) begin end rows b = fits_in s n is begin end rows b

-- the rows that were begun, the innermost first
abbrev pub rows_left : Left → List Span
rows_left left_is.Nothing = []
rows_left (left_is.Row' span p after) = span ∷ rows_left after
