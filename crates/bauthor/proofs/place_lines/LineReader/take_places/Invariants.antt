use Rattle.std.proofs.Common.{◌≡◌, ◌≤◌, ◌-◌, ◌++◌, List}
use Rattle.bauthor.specs.LineFiles.{places_from}
use Rattle.bauthor.specs.Readers.{lines_by}
use Rattle.bauthor.specs.declared.fault.LineWanted.{LineWanted}
use Rattle.bauthor.proofs.place_lines.LineReader.take_places.Given as goal

abbrev pub invariant-loop-place : goal.invariant-loop-place
invariant-loop-place l = record {
  within : l.place ≤ l.places;
  on : (more : List LineWanted) → lines_by l.fn.self (places_from l.last l.name 0 l.places ++ more)
      ≡ lines_by l.self (places_from l.last l.name l.place (l.places - l.place) ++ more);
}
