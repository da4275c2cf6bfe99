-- Closed facts: statements in each other one, and what comes of many labels, vectors, bytes and definitions.
use Rattle.std.specs.Prelude.{◌≡◌, ◌+◌, ◌%◌, ℕ, List, [], ◌∷◌, ◌++◌, map, take, codes, Option, slice_index, Some}
use Rattle.std.specs.Prelude.{None, refl, ◌≤◌, false, Bool}
use Rattle.std.specs.List.{range_with_len}
use Rattle.bword.specs.Words.{zeros}
use Rattle.blang.specs.Trees.{Number, Expr, Named, Literal, Called, Binary, Arguments, Assigned, No_arguments}
use Rattle.blang.specs.Trees.{Another, Declared, Auto, Label, Stmt, Stmts, Headed, Compound, If, IfElse, While}
use Rattle.blang.specs.Trees.{Switch, Evaluate, Empty, Nothing, More, Definition, Simple, Function, Grouped}
use Rattle.blang.specs.Code.{Referent, In_frame}
use Rattle.blang.specs.Layout.{World, word_at, Exited, label_target}
use Rattle.blang.specs.Meaning.{with_vectors, Loads, IsBeginningOf}
use Rattle.blang.specs.MeaningRows.{does}
use Rattle.blang.specs.PlaceRows.{each}
use Rattle.blang.specs.VariantRows.{edges}
use Rattle.blang.specs.WalkRows.{word, one, statements}
use Rattle.blang.specs.WellFormed.{is_open, StatementBinds}
use Rattle.blang.specs.declared.run.LoadFault.{LoadFault}
use Rattle.bword.specs.declared.operators.BinOp.TheVariants as op
use Rattle.blang.specs.declared.run.LoadFault.TheVariants as fault

abbrev no_claim : Type 0
no_claim = Unit {0}

abbrev set : Expr
set = Assigned None 1 one one

abbrev at : ℕ → Type 0
at loose = (9 ≤ loose) × no_claim × no_claim

abbrev bytes : List ℕ
bytes = range_with_len 0 150

abbrev many : List Definition
many = map (λ n. Simple (word n) []) (range_with_len 0 150)

abbrev addresses : List ℕ
addresses = 0 ∷ 1 ∷ 2 ∷ 254 ∷ 255 ∷ 256 ∷ 257 ∷ 32766 ∷ 32767 ∷ 32768 ∷ 32769 ∷ 65534 ∷ 65535 ∷ []

abbrev world : World
world = record { store = zeros; input = []; output = codes "o" }

abbrev by_number : List ℕ → Referent
by_number x = In_frame (slice_index x 1)

abbrev vector : ℕ → Declared
vector n = record { word = word n; size = Some 1 }

abbrev number : ℕ → Expr
number n = Literal (Number n)

abbrev named : List ℕ → Expr
named x = Named (record { text = x; line = 1 })

abbrev calls : List ℕ → List Expr → Expr
calls f es = Called (Named (record { text = f; line = 1 })) (arguments_after No_arguments es)
  where
    arguments_after : Arguments → List Expr → Arguments
    arguments_after before [] = before
    arguments_after before (e ∷ es) = arguments_after (Another before e) es

abbrev block : Stmts → List Stmt → Stmts
block before [] = before
block before (s ∷ ss) = block (More before s) ss

abbrev putchar : ℕ → Expr
putchar n = calls (codes "putchar") (number n ∷ [])

-- what each asks of a statement in it, and whether that may end with an if that has no else
labelled_binds : each (λ s. StatementBinds (Headed (Label (word 3)) s)) statements
    ≡ each (λ s. no_claim × StatementBinds s) statements
labelled_binds = refl

compound_binds : each (λ s. StatementBinds (Compound (More Nothing s))) statements
    ≡ each (λ s. no_claim × StatementBinds s) statements
compound_binds = refl

if_binds : each (λ s. StatementBinds (If set s)) statements ≡ each (λ s. at 9 × StatementBinds s) statements
if_binds = refl

then_binds : each (λ s. StatementBinds (IfElse set s Empty)) statements
    ≡ each (λ s. ◌≡◌ {A = Bool} (is_open s) false × at 9 × StatementBinds s × no_claim) statements
then_binds = refl

else_binds : each (λ s. StatementBinds (IfElse set Empty s)) statements
    ≡ each (λ s. ◌≡◌ {A = Bool} false false × at 9 × no_claim × StatementBinds s) statements
else_binds = refl

while_binds : each (λ s. StatementBinds (While set s)) statements ≡ each (λ s. at 9 × StatementBinds s) statements
while_binds = refl

switch_binds : each (λ s. StatementBinds (Switch set (More Nothing s))) statements
    ≡ each (λ s. at 9 × (no_claim × StatementBinds s)) statements
switch_binds = refl

-- a label by its value, whichever is the first one
targets_of_labels : map (λ n. map (label_target {A = ℕ} n (7 ∷ 8 ∷ [])) (n ∷ (n + 1) ∷ [])) edges
    ≡ map (λ n. Some 7 ∷ Some 8 ∷ []) edges
targets_of_labels = refl

-- Vectors at the edges of the store: the own word of each has the address of its first word.
two_vectors_from_each_start : map (λ s.
    let w = with_vectors by_number (vector 0 ∷ vector 1 ∷ []) s world in word_at w s ∷ word_at w (s + 1) ∷ [])
    (take 12 addresses) ≡ map (λ s. ((s + 1) % 65536) ∷ ((s + 2) % 65536) ∷ []) (take 12 addresses)
unfolding zeros
two_vectors_from_each_start = refl

-- main(){auto c; while((c=getchar())!=4) putchar(c);} on 150 bytes
abbrev copier : List Definition
copier =
    Function (record { text = codes "main"; line = 1 }) []
    (Headed (Auto (record { word = record { text = codes "c"; line = 1 }; size = None } ∷ []))
    (While (Binary op.Ne 1 (Grouped (Assigned None 1 (named (codes "c")) (calls (codes "getchar") []))) (number 4))
    (Evaluate (calls (codes "putchar") (named (codes "c") ∷ []))))) ∷ []

copies_many : does copier (range_with_len 5 150) 151 ≡ (Some (Exited 0), range_with_len 5 150)
copies_many = refl

-- the first and the last of 110 functions are called
abbrev called_of_many : List Definition
called_of_many =
    map (λ n. Function (word n) [] (Evaluate (putchar n))) (range_with_len 0 110)
    ++ Function (record { text = codes "main"; line = 1 }) []
    (Compound (block Nothing (Evaluate (calls (97 ∷ 0 ∷ []) []) ∷ Evaluate (calls (97 ∷ 109 ∷ []) []) ∷ []))) ∷ []

calls_first_and_last : does called_of_many [] 2 ≡ (Some (Exited 0), 0 ∷ 109 ∷ [])
calls_first_and_last = refl

-- whether definitions load, the last of which has the name of the first
duplicates_load : Loads (many ++ Simple (word 0) [] ∷ [])
    ≡ (◌≡◌ {A = Option LoadFault} (Some (fault.Duplicate (97 ∷ 0 ∷ []))) None)
duplicates_load = refl

beginning_of_many : IsBeginningOf bytes (bytes ++ bytes)
    ≡ ((more : List ℕ) × (◌≡◌ {A = List ℕ} (bytes ++ more) (bytes ++ bytes)))
beginning_of_many = refl
