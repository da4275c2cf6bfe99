-- Closed facts: what one pass makes of a small definition: the parts that the law is about.
use Rattle.std.specs.Prelude.{◌≡◌, ℕ, List, [], ◌∷◌, codes, Option, Some, None, map, is_none, true, false, refl}
use Rattle.blang.specs.declared.code.Instr.{Instr}
use Rattle.blang.specs.declared.code.Instr.TheVariants as instr
use Rattle.blang.specs.declared.code.Definition.TheVariants as code
use Rattle.blang.specs.Trees.{Identifier, Definition, Function, Headed, Label, Goto, Named}
use Rattle.blang.specs.Code.{code_of}
use Rattle.bemit.specs.Drafts.{Draft, Going, draft_resolved, fault_in}
use Rattle.bcodegen.specs.Laws.{pass_over}

abbrev word : List ℕ → Identifier
word text = record { text = text; line = 1 }

-- f(a, b) x: goto x;
abbrev f : Definition
f = Function (word (codes "f")) (word (codes "a") ∷ word (codes "b") ∷ [])
    (Headed (Label (word (codes "x"))) (Goto (Named (word (codes "x")))))

-- the frame, the targets and the code of a draft
abbrev seen : Draft → Option (ℕ × List ℕ × List Instr)
seen (Going s (Some m)) = Some (s.frame, m.targets, m.code)
seen _ = None

-- a label stands by its entry in the table of names, and by its number once it is resolved
entry : seen (pass_over [] f)
    ≡ Some (2, 0 ∷ [], instr.Label 2 ∷ instr.Goto ∷ instr.Constant 0 ∷ instr.Return ∷ [])
entry = refl

number : seen (draft_resolved (pass_over [] f))
    ≡ Some (2, 0 ∷ [], instr.Label 0 ∷ instr.Goto ∷ instr.Constant 0 ∷ instr.Return ∷ [])
number = refl

-- a frame has a word for each variable, and none for a label
frame : code_of f ≡ code.Function (record {
  name = codes "f";
  parameters = 2;
  frame = 2;
  targets = 0 ∷ [];
  strings = [];
  code = instr.Label 0 ∷ instr.Goto ∷ instr.Constant 0 ∷ instr.Return ∷ [];
})
frame = refl

-- a name that an earlier definition has is at fault
earlier : map (λ defined. is_none (fault_in 1 (pass_over defined f))) ([] ∷ (codes "g" ∷ []) ∷ (codes "f" ∷ []) ∷ [])
    ≡ true ∷ true ∷ false ∷ []
earlier = refl
