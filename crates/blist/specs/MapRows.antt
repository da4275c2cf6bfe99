-- Closed facts: the layout of a small program, with the most words that are shown, and one word more.
use Rattle.std.specs.Prelude.{◌≡◌, List, [], ◌∷◌, ◌++◌, codes, refl}
use Rattle.std.specs.Fmt.{digits}
use Rattle.blang.specs.declared.code.Definition.{Definition}
use Rattle.blang.specs.declared.code.Definition.TheVariants as definition
use Rattle.blang.specs.declared.code.Instr.TheVariants as instr
use Rattle.blang.specs.declared.code.Ival.TheVariants as ival
use Rattle.blang.specs.Machine.{image_of}
use Rattle.blist.specs.declared.layout.TheConstants.{HEADING}
use Rattle.blist.specs.Maps.{map_text}

-- main(){} n 5; v[6] 1; w[5];
abbrev program : List Definition
program =
    definition.Function (record {
      name = codes "main";
      parameters = 0;
      frame = 0;
      targets = [];
      strings = [];
      code = instr.Constant 0 ∷ instr.Return ∷ [];
    })
    ∷ definition.Simple (record { name = codes "n"; values = ival.Number 5 ∷ []; strings = [] })
    ∷ definition.Vector (record { name = codes "v"; words = 6; values = ival.Number 1 ∷ []; strings = [] })
    ∷ definition.Vector (record { name = codes "w"; words = 5; values = []; strings = [] }) ∷ []

small_map : map_text (image_of program) program
    ≡ HEADING.now
    ++ codes "     7  main      function      1  7\n"
    ++ codes "     8  n         simple        1  5\n"
    ++ codes "     9  v         vector        7  10 1 0 0 0 0 ..\n"
    ++ codes "    16  w         vector        6  17 0 0 0 0 0\n"
    ++ codes "data end 22\n"
unfolding digits
small_map = refl
