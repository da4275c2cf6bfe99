use Rattle.std.proofs.Common.{◌≡◌, ◌++◌}
use Rattle.std.specs.List.{flat_map, range_with_len}
use Rattle.bsources.specs.Files.{files_shown}
use Rattle.bcount.specs.Tables.{heading_of, row_after}
use Rattle.bcount.proofs.Rows.{IsRest}
use Rattle.bcount.proofs.table.table_text.Given as goal

abbrev pub invariant-loop-index : goal.invariant-loop-index
invariant-loop-index l = record {
  rows : l.text ≡ heading_of l.table.style ++ flat_map (row_after l.table.style (files_shown l.table.files) l.table.source.now l.table.lines.now) (range_with_len 0 l.index);
  rest : IsRest l.table.source.now l.index l.rest;
}
