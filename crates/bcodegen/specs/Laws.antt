-- Promise: One pass over a definition makes the code that its tree has and its names, and notes the lines of that code.
use Rattle.std.specs.Prelude.{◌≡◌, ℕ, List, [], ◌++◌, length, get_or, Some, None}
use Rattle.blang.specs.declared.code.Instr.{Instr}
use Rattle.blang.specs.declared.code.Definition as coded
use Rattle.blang.specs.declared.code.Definition.TheVariants as code
use Rattle.blang.specs.Trees.{Definition, Function}
use Rattle.blang.specs.Walk.{spell_definition}
use Rattle.blang.specs.Lines.{lines_of}
use Rattle.blang.specs.WellFormed.{IsFormed}
use Rattle.blang.specs.Scan.{Scope, no_scope, function_scope, identifier_of}
use Rattle.blang.specs.Code.{clean, code_of, fault_of}
use Rattle.bemit.specs.Drafts.{Made, Draft, Going, draft_resolved, fault_in, started}
use Rattle.bemit.specs.Effects.{definition_done, code_with}
use Rattle.bemit.specs.Trails.{Trail, definition_trail}

-- a pass over a definition, after definitions of these names
abbrev pub pass_over : List (List ℕ) → Definition → Draft
pass_over defined d = definition_done d (started defined (identifier_of d))

-- the scope at the end of a definition without a fault; an external has no names of its own
abbrev pub last_scope : Definition → Scope
last_scope (Function w parameters body) = clean (function_scope parameters body)
last_scope _ = no_scope

abbrev pub instructions_in : coded.Definition → List Instr
instructions_in (code.Function f) = f.code
instructions_in _ = []

abbrev pub OnePass : Type 0
OnePass =
    (defined : List (List ℕ)) (d : Definition) → IsFormed d
    → (fault_in (identifier_of d).line (pass_over defined d) ≡ fault_of defined d)
    × (fault_of defined d ≡ None
    → (s : Scope) × (m : Made) × (draft_resolved (pass_over defined d) ≡ Going s (Some m))
    × (code_with d s.frame m ≡ code_of d) × (m.code ≡ instructions_in (code_of d)) × (s ≡ last_scope d))

-- What comes of the tokens of a definition, which have these lines, before those of others.
pub record NotesLines (d : Definition) (passed rest : List ℕ) (t : Trail) : Type 0 where
  pub left : t.coming ≡ rest
  pub lines : t.noted.lines ≡ lines_of (λ k. get_or passed k 0) d

abbrev pub OneTrail : Type 0
OneTrail =
    (defined : List (List ℕ)) (d : Definition) → IsFormed d → fault_of defined d ≡ None → (passed rest : List ℕ)
    → length passed ≡ length (spell_definition d) → NotesLines d passed rest (definition_trail d (passed ++ rest))
