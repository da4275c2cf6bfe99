-- Closed facts: what is told of a program.
use Rattle.std.specs.Prelude.{◌≡◌, ℕ, true, false, List, [], ◌∷◌, ◌++◌, codes, map, refl}
use Rattle.std.specs.Fmt.{digits}
use Rattle.blang.specs.declared.code.Definition.{Definition}
use Rattle.blang.specs.declared.code.Definition.TheVariants as definition
use Rattle.blang.specs.declared.code.Instr.TheVariants as instr
use Rattle.bverify.specs.Verifies.{flaw_text, nothing_told, told_from, verified_status}
use Rattle.bverify.specs.declared.flaws.Flaw.{Flaw}
use Rattle.bverify.specs.declared.flaws.Flaw.TheVariants as flaw
use Rattle.bverify.specs.declared.flaws.PlacedFlaw.{PlacedFlaw}
use Rattle.bverify.specs.declared.verifying.Telling.{Telling}

flaws_told : map flaw_text
    (flaw.Lacks 2 3 ∷ flaw.Differs 7 2 1 ∷ flaw.Leaves 7 ∷ flaw.Unreached ∷ flaw.Left 1 ∷ flaw.NoGoto 2 ∷ [])
    ≡ codes "takes 3 of 2 operands"
    ∷ codes "comes to place 7 with 2 operands, another way with 1"
    ∷ codes "comes to place 7, which has no instruction"
    ∷ codes "no way comes here"
    ∷ codes "returns, and drops operands besides: 1"
    ∷ codes "label 2 is here, and no goto comes to it"
    ∷ []
unfolding digits
flaws_told = refl

abbrev at : (place : ℕ) → Flaw → PlacedFlaw
at place f = record { place = place; flaw = f }

-- a simple external, and a main function of two instructions
abbrev program : List Definition
program =
    definition.Simple (record { name = codes "n"; values = []; strings = [] })
    ∷ definition.Function (record {
      name = codes "main";
      parameters = 0;
      frame = 0;
      targets = [];
      strings = [];
      code = instr.Pop ∷ instr.Return ∷ [];
    })
    ∷ []

-- Each line has the number of its place's line.
lines_told : told_from nothing_told program (8 ∷ 9 ∷ [])
    ([] ∷ (at 0 (flaw.Lacks 0 1) ∷ at 1 flaw.Unreached ∷ []) ∷ [])
    ≡ record {
      text =
          codes "in main     place    0  line    8  takes 1 of 0 operands\n"
          ++ codes "in main     place    1  line    9  no way comes here\n";
      can_be_stuck = true;
    }
unfolding digits
lines_told = refl

-- What can't be stuck is told, too.
harmless_told : Telling.can_be_stuck (told_from nothing_told program [] ([] ∷ (at 1 flaw.Unreached ∷ []) ∷ [])) ≡ false
harmless_told = refl

statuses : map verified_status (true ∷ false ∷ []) ≡ 1 ∷ 0 ∷ []
statuses = refl
