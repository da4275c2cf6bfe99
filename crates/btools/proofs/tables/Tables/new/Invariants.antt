use Rattle.std.proofs.Common.{◌≡◌, ◌≤◌, map, take}
use Rattle.std.specs.List.{All}
use Rattle.blang.specs.Layout.{data_end, shape_of}
use Rattle.btools.specs.Functions.{functions_of, placed_entry}
use Rattle.btools.specs.ProgramLines.{columned_entry, lined_entry, lined_functions}
use Rattle.btools.proofs.ProgramLines.{lines_left}
use Rattle.btools.proofs.Searching.{Ascend}
use Rattle.btools.proofs.tables.Tables.new.Given as goal

-- the functions so far, and where the next definition lies
abbrev pub invariant-loop-definition : goal.invariant-loop-definition
invariant-loop-definition l = record {
  address : l.address ≡ data_end (map shape_of (take l.definition-index l.definition-items));
  entries : map placed_entry l.entries.items ≡ functions_of (take l.definition-index l.definition-items);
  lines : map lined_entry l.entries.items ≡ lined_functions (take l.definition-index l.definition-items) l.program.names.lines.items;
  left : l.lines ≡ lines_left (take l.definition-index l.definition-items) l.program.names.lines.items;
  columns : map columned_entry l.entries.items ≡ lined_functions (take l.definition-index l.definition-items) l.program.columns.items;
  columns_left : l.columns ≡ lines_left (take l.definition-index l.definition-items) l.program.columns.items;
  ascend : Ascend l.entries.items;
  below : All (λ e. e.strings ≤ l.address) l.entries.items;
}
