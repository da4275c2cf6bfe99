use Rattle.std.proofs.Common.{◌≡◌, map, take}
use Rattle.std.specs.Prelude.{option_map}
use Rattle.blang.specs.Layout.{data_end, shape_of}
use Rattle.btools.specs.Functions.{function_with, functions_of}
use Rattle.btools.specs.ProgramLines.{lined_functions, lines_with}
use Rattle.btools.proofs.ProgramLines.{lines_left}
use Rattle.bhost.specs.FoundFunctions.{columned_found, lined_found, placed_found}
use Rattle.bhost.proofs.found.function_at.Given as goal

-- what was found among the definitions so far, and where the next one lies
abbrev pub invariant-loop-definition : goal.invariant-loop-definition
invariant-loop-definition l = record {
  address : l.address ≡ data_end (map shape_of (take l.definition-index l.definition-items));
  function : option_map placed_found l.found ≡ function_with (functions_of (take l.definition-index l.definition-items)) l.strings;
  lines : option_map lined_found l.found ≡ lines_with (lined_functions (take l.definition-index l.definition-items) l.program.names.lines.items) l.strings;
  left : l.lines ≡ lines_left (take l.definition-index l.definition-items) l.program.names.lines.items;
  columns : option_map columned_found l.found ≡ lines_with (lined_functions (take l.definition-index l.definition-items) l.program.columns.items) l.strings;
  columns_left : l.columns ≡ lines_left (take l.definition-index l.definition-items) l.program.columns.items;
}
