-- Closed facts: what each construct asks of its parts. The parts are an assignment, a conditional and a bitwise or,
-- which ask for 9, 8 and 7: so each fact shows how loosely the operators of each part may bind.
use Rattle.std.specs.Prelude.{◌≡◌, ◌≤◌, ◌++◌, ℕ, List, [], ◌∷◌, map, true, false, Bool, codes, None, Some, refl}
use Rattle.std.proofs.Common.{inl, inr}
use Rattle.bword.specs.declared.operators.BinOp.TheVariants as op
use Rattle.blang.specs.declared.token.Token.{Token}
use Rattle.blang.specs.declared.token.Token.TheVariants as token
use Rattle.blang.specs.declared.token.Letters.TheVariants as letters
use Rattle.blang.specs.declared.token.About.TheVariants as about
use Rattle.blang.specs.declared.token.Diagnostic.{Diagnostic}
use Rattle.blang.specs.Cut.{placed}
use Rattle.blang.specs.Trees.{Identifier, Negate, PostIncrement, Expr, Named, Text, Grouped, Indexed}
use Rattle.blang.specs.Trees.{Called, Postfixed, Prefixed, Binary, Conditional, Assigned, No_arguments, Another, Auto}
use Rattle.blang.specs.Trees.{Extrn, Label, Stmt, Headed, Compound, If, IfElse, While, Switch, Goto, ReturnValue}
use Rattle.blang.specs.Trees.{Evaluate, Empty, Nothing, More, Ival_text, Simple, Function}
use Rattle.blang.specs.WalkRows.{one}
use Rattle.blang.specs.WellFormed.{IsPostfix, Binds, is_open, StatementBinds, IsFormed, AllFormed, IsProgram}
use Rattle.blang.specs.WellFormed.{BeginsProgram, IsViable, fault_at, StopsAt, IsPart, packed}

abbrev pub set : Expr
set = Assigned None 1 one one

abbrev pub no_claim : Type 0
no_claim = Unit {0}

abbrev pub pick : Expr
pick = Conditional one one one

abbrev join : Expr
join = Binary op.Or 1 one one

-- what these three ask where operators of this rank may be
abbrev pub at : ℕ → Type 0
at loose = (9 ≤ loose) × no_claim × no_claim

abbrev pub pick_at : ℕ → Type 0
pick_at loose = (8 ≤ loose) × no_claim × no_claim × no_claim

abbrev join_at : ℕ → Type 0
join_at loose = (7 ≤ loose) × no_claim × no_claim

-- a part that is to be postfix, which an assignment isn't
abbrev postfix : Type 0
postfix = ⊥ × at 0

abbrev word : Identifier
word = record { text = codes "a"; line = 1 }

of_groups : Binds (Grouped set) 3 ≡ at 9
of_groups = refl

of_indices : Binds (Indexed set pick) 3 ≡ (⊥ × at 0 × pick_at 9)
of_indices = refl

of_calls : Binds (Called set (Another (Another No_arguments pick) join)) 3
    ≡ (⊥ × at 0 × ((no_claim × pick_at 9) × join_at 9))
of_calls = refl

of_postfixes : Binds (Postfixed PostIncrement 1 set) 3 ≡ postfix
of_postfixes = refl

of_prefixes : Binds (Prefixed Negate 1 set) 3 ≡ at 0
of_prefixes = refl

-- the left side of a sum may be a sum, the right one no more than a product
of_sums : Binds (Binary op.Sub 1 set pick) 3 ≡ ((2 ≤ 3) × at 2 × pick_at 1)
of_sums = refl

of_choices : Binds (Conditional set pick join) 3 ≡ ((8 ≤ 3) × at 7 × pick_at 9 × join_at 8)
of_choices = refl

of_assignments : Binds (Assigned (Some op.Add) 1 set pick) 3 ≡ ((9 ≤ 3) × at 0 × pick_at 9)
of_assignments = refl

of_names : Binds (Named word) 0 ≡ no_claim
of_names = refl

of_numbers : Binds one 0 ≡ no_claim
of_numbers = refl

of_strings : Binds (Text (codes "s") 0) 0 ≡ no_claim
of_strings = refl

-- what may stand before an index, a call or an operator after it
abbrev before_index : Expr → Type 0
before_index e = Binds (Postfixed PostIncrement 1 e) 0

a_group_is_postfix : before_index (Grouped one) ≡ (no_claim × no_claim)
a_group_is_postfix = refl

a_call_is_postfix : before_index (Called one No_arguments) ≡ (no_claim × (no_claim × no_claim × no_claim))
a_call_is_postfix = refl

an_index_is_postfix : before_index (Indexed one one) ≡ (no_claim × (no_claim × no_claim × no_claim))
an_index_is_postfix = refl

a_count_is_postfix : before_index (Postfixed PostIncrement 1 one) ≡ (no_claim × (no_claim × no_claim))
a_count_is_postfix = refl

a_negative_is_none : before_index (Prefixed Negate 1 one) ≡ (⊥ × no_claim)
a_negative_is_none = refl

a_sum_is_none : IsPostfix (Binary op.Sub 1 one one) ≡ ⊥
a_sum_is_none = refl

a_choice_is_none : IsPostfix (Conditional one one one) ≡ ⊥
a_choice_is_none = refl

-- statements, of which each part asks for something
abbrev ask : Stmt
ask = Evaluate set

abbrev ask_less : Stmt
ask_less = Goto join

of_blocks : StatementBinds (Compound (More (More Nothing ask) ask_less)) ≡ ((no_claim × at 9) × join_at 9)
of_blocks = refl

of_ifs : StatementBinds (If pick ask) ≡ (pick_at 9 × at 9)
of_ifs = refl

of_elses : StatementBinds (IfElse set (If pick ask) ask_less)
    ≡ (◌≡◌ {A = Bool} true false × at 9 × (pick_at 9 × at 9) × join_at 9)
of_elses = refl

of_loops : StatementBinds (While pick ask) ≡ (pick_at 9 × at 9)
of_loops = refl

of_switches : StatementBinds (Switch pick (More Nothing ask)) ≡ (pick_at 9 × (no_claim × at 9))
of_switches = refl

of_jumps : StatementBinds ask_less ≡ join_at 9
of_jumps = refl

of_returns : StatementBinds (ReturnValue set) ≡ at 9
of_returns = refl

of_headings : StatementBinds (Headed (Label word) ask) ≡ (no_claim × at 9)
of_headings = refl

of_declarations : StatementBinds (Headed (Auto []) (Headed (Extrn []) Empty)) ≡ (⊥ × (⊥ × no_claim))
of_declarations = refl

of_names_declared : StatementBinds (Headed (Auto (record { word = word; size = None } ∷ [])) (Headed (Extrn (word ∷ []))
    Empty)) ≡ (no_claim × (no_claim × no_claim))
of_names_declared = refl

-- an else after it would be its own
of_open_statements : map is_open (If one Empty ∷ IfElse one Empty (If one Empty) ∷ While one (If one Empty)
    ∷ Headed (Label word) (If one Empty) ∷ []) ≡ true ∷ true ∷ true ∷ true ∷ []
of_open_statements = refl

of_closed_statements : map is_open (IfElse one Empty Empty ∷ IfElse one (If one Empty) Empty ∷ While one Empty
    ∷ Compound (More Nothing (If one Empty)) ∷ Switch one (More Nothing (If one Empty)) ∷ Headed (Label word) Empty
    ∷ Empty ∷ []) ≡ false ∷ false ∷ false ∷ false ∷ false ∷ false ∷ false ∷ []
of_closed_statements = refl

-- two bytes a word, and a 4 after the last
words_of_strings : map packed ([] ∷ codes "a" ∷ codes "ab" ∷ codes "abc" ∷ [])
    ≡ (4 ∷ []) ∷ (1121 ∷ []) ∷ (25185 ∷ 4 ∷ []) ∷ (25185 ∷ 1123 ∷ []) ∷ []
words_of_strings = refl

-- a definition's strings lie one after another from 0 on
abbrev same : ℕ → ℕ → Type 0
same n m = n ≡ m

of_values : IsFormed (Simple word (Ival_text (codes "ab") 7 ∷ Ival_text [] 8 ∷ Ival_text [] 9 ∷ []))
    ≡ (same 7 0 × (same 8 2 × (same 9 3 × no_claim)))
of_values = refl

of_functions : AllFormed (Function word [] (Evaluate (Grouped (Text [] 7))) ∷ Simple word [] ∷ [])
    ≡ ((no_claim × (1 ≤ 200) × (same 7 0 × no_claim)) × (no_claim × no_claim))
of_functions = refl

-- Where tokens stop being a program's: at the end of one, or at a token with which none goes on.
abbrev before : List Token
before = token.Name (codes "a") ∷ []

at_the_end : IsViable before token.End ≡ IsProgram before
at_the_end = refl

at_a_token : IsViable before token.Comma ≡ BeginsProgram (before ++ token.Comma ∷ [])
at_a_token = refl

stops_at_the_end : StopsAt before (placed token.End 2) None ≡ (◌≡◌ {A = Token} token.End token.End × IsProgram before)
stops_at_the_end = refl

stops_at_a_token : (d : Diagnostic) → StopsAt before (placed token.Comma 2) (Some d)
    ≡ (BeginsProgram before × (BeginsProgram (before ++ token.Comma ∷ []) → ⊥)
    × (d ≡ record { letters = letters.Syntax; about = about.Nothing; line = 2 }))
stops_at_a_token d = refl

-- the a of `a;` is a part of a definition, and so is nothing
a_part : IsPart before
a_part = inr (Simple word [], token.Semicolon, [], tt, refl)

no_part_yet : IsPart []
no_part_yet = inl refl

faults : map fault_at (placed (token.Bad letters.Constant) 2 ∷ placed token.End 3 ∷ [])
    ≡ record { letters = letters.Constant; about = about.Nothing; line = 2 }
    ∷ record { letters = letters.Syntax; about = about.Nothing; line = 3 } ∷ []
faults = refl
