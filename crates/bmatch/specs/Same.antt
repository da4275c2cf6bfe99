-- Promise: when two branches are the same tree.
use Rattle.std.specs.Prelude.{ℕ, ◌-◌, ◌==◌, ◌&&◌, ◌||◌, Bool, false, nat_lt, Option, None, Some}
use Rattle.std.specs.List.{list_all, range_with_len}
use Rattle.bword.specs.Words.{same_name}
use Rattle.blex.specs.declared.lexeme.Lexeme.{Lexeme}
use Rattle.blex.specs.declared.lexeme.Lexeme.TheVariants as lexeme
use Rattle.bmatch.specs.declared.tree.Tree.{Tree}
use Rattle.bmatch.specs.Trees.{branch_at, kind_number, lexeme_at}

-- the value of a number or of a character
abbrev pub constant_in : Lexeme → Option ℕ
constant_in (lexeme.Number n) = Some n
constant_in (lexeme.Character n) = Some n
constant_in _ = None

abbrev pub is_same_value : (one other : Option ℕ) → Bool
is_same_value (Some m) (Some n) = m == n
is_same_value _ other = false

abbrev pub is_same_lexeme : (one other : Lexeme) → Bool
is_same_lexeme (lexeme.Name x) (lexeme.Name y) = same_name x y
is_same_lexeme one other = is_same_value (constant_in one) (constant_in other)

-- of a kind with this number: names and constants are compared, and no string is the same as another one
abbrev pub is_same_leaf : (number : ℕ) → (one other : Lexeme) → Bool
is_same_leaf number one other = nat_lt 2 number || (nat_lt number 2 && is_same_lexeme one other)

abbrev pub is_same_branch : Tree → (one other : ℕ) → Bool
is_same_branch tree one other =
    let a = branch_at tree.rows.now one in
    let b = branch_at tree.rows.now other in
    kind_number a.kind == kind_number b.kind
    && is_same_leaf (kind_number a.kind) (lexeme_at tree.lexemes.now a.token) (lexeme_at tree.lexemes.now b.token)

-- so many branches up to these are the same
abbrev pub are_same : Tree → (one other count : ℕ) → Bool
are_same tree one other count =
    list_all (λ back. is_same_branch tree (one - back) (other - back)) (range_with_len 0 count)

-- They have as many branches, and these are the same, from the last one back.
abbrev pub is_same : Tree → (one other : ℕ) → Bool
is_same tree one other =
    let count = one - (branch_at tree.rows.now one).begin in
    count == other - (branch_at tree.rows.now other).begin
    && (is_same_branch tree one other && are_same tree (one - 1) (other - 1) count)
