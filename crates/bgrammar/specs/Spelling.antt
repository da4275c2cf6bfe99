-- Inner words: the tokens of each construct.
use Rattle.std.specs.Prelude.{List, [], ◌∷◌, ℕ, Option}
use Rattle.blang.specs.declared.token.Placed.{Placed}
use Rattle.blang.specs.Trees.{Identifier, Expr, Arguments, name_token, Declared, Heading, Stmt, Stmts, Ival}
use Rattle.blang.specs.Walk.{Walk, tokens_in, walk_commas, walk_list, comma_before_next, walk, walk_arguments}
use Rattle.blang.specs.Walk.{walk_size, walk_declared, walk_heading, walk_parenthesized, walk_statement, walk_body}
use Rattle.blang.specs.Walk.{walk_value, walk_values}

abbrev pub spell : Expr → List Placed
spell e = tokens_in (walk e)

-- what stands between these arguments and a further one
abbrev pub comma_after : Arguments → List Placed
comma_after args = tokens_in (comma_before_next args)

abbrev pub spell_arguments : Arguments → List Placed
spell_arguments args = tokens_in (walk_arguments args)

abbrev pub spelling : {A : Type 0} → (A → Walk) → A → List Placed
spelling say x = tokens_in (say x)

-- things with commas between them
abbrev pub comma_spelling : {A : Type 0} → (A → Walk) → List A → List Placed
comma_spelling say xs = tokens_in (walk_commas say xs)

abbrev pub list_spelling : {A : Type 0} → (A → Walk) → List A → List Placed
list_spelling say xs = tokens_in (walk_list say xs)

abbrev pub name_spelling : Identifier → List Placed
name_spelling w = name_token w ∷ []

abbrev pub size_spelling : Option ℕ → List Placed
size_spelling size = tokens_in (walk_size size)

abbrev pub declared_spelling : Declared → List Placed
declared_spelling d = tokens_in (walk_declared d)

abbrev pub spell_heading : Heading → List Placed
spell_heading h = tokens_in (walk_heading h)

abbrev pub spell_condition : Expr → List Placed
spell_condition e = tokens_in (walk_parenthesized e)

abbrev pub spell_statement : Stmt → List Placed
spell_statement s = tokens_in (walk_statement s)

abbrev pub spell_body : Stmts → List Placed
spell_body body = tokens_in (walk_body body)

abbrev pub ival_spelling : Ival → List Placed
ival_spelling v = tokens_in (walk_value v)

abbrev pub spell_values : List Ival → List Placed
spell_values values = tokens_in (walk_values values)
