-- Closed facts: what one pass makes of small definitions.
use Rattle.std.specs.Prelude.{◌≡◌, ℕ, List, [], ◌∷◌, codes, Some, refl}
use Rattle.blang.specs.Trees.{Identifier, Definition, Function, Stmt, While, Switch, Break, Headed, Case, Empty}
use Rattle.blang.specs.Trees.{More, Nothing, Evaluate, Called, Named, No_arguments, Literal, Number}
use Rattle.blang.specs.Scan.{name_fault}
use Rattle.blang.specs.declared.token.Letters.TheVariants as letters
use Rattle.blang.specs.declared.code.Instr.{Instr}
use Rattle.blang.specs.declared.code.Instr.TheVariants as instr
use Rattle.bemit.specs.Drafts.{Draft, Faulty, Going, started}
use Rattle.bemit.specs.Effects.{definition_done}

abbrev f : Identifier
f = record { text = codes "f"; line = 1 }

abbrev function : Stmt → Definition
function s = Function f [] s

abbrev drafted : List (List ℕ) → Stmt → Draft
drafted names s = definition_done (function s) (started names f)

abbrev code_in : Draft → List Instr
code_in (Going scope (Some made)) = made.code
code_in _ = []

-- `f() while(1) break;`
a_break_leaves_its_loop : code_in (drafted [] (While (Literal (Number 1)) (Break 1))) ≡
    instr.Constant 1 ∷ instr.JumpIfZero 4 ∷ instr.Jump 4 ∷ instr.Jump 0 ∷ instr.Constant 0 ∷ instr.Return ∷ []
a_break_leaves_its_loop = refl

-- `f() switch(1) { case 1: ; }`
a_switch_ends_after_its_tests : code_in (drafted [] (Switch (Literal (Number 1)) (More Nothing (Headed (Case 1
    (Number 1)) Empty)))) ≡
    instr.Constant 1 ∷ instr.Jump 3 ∷ instr.Jump 5 ∷ instr.JumpIfCase 1 2 ∷ instr.Pop ∷ instr.Constant 0 ∷
    instr.Return ∷ []
a_switch_ends_after_its_tests = refl

-- `f() g();`
a_called_name_is_external : code_in (drafted [] (Evaluate (Called (Named record { text = codes "g"; line = 1 })
    No_arguments))) ≡
    instr.External (codes "g") ∷ instr.Load ∷ instr.Call 0 ∷ instr.Pop ∷ instr.Constant 0 ∷ instr.Return ∷ []
a_called_name_is_external = refl

-- `f() ;` after another definition of `f`
pub a_name_is_defined_once : drafted (codes "f" ∷ []) Empty ≡ Faulty (name_fault letters.Redeclared f)
a_name_is_defined_once = refl
