use Rattle.std.proofs.Common.{◌≡◌, ◌++◌, List, drop}
use Rattle.bauthor.specs.LineFiles.{lines_wanted}
use Rattle.bauthor.specs.Readers.{lines_by}
use Rattle.bauthor.specs.declared.fault.LineWanted.{LineWanted}
use Rattle.bauthor.proofs.place_lines.LineReader.take_all.Given as goal

abbrev pub invariant-loop-definition : goal.invariant-loop-definition
invariant-loop-definition l = (more : List LineWanted)
    → lines_by l.fn.self (lines_wanted l.last l.definitions ++ more)
    ≡ lines_by l.self (lines_wanted l.last (drop l.definition-index l.definitions) ++ more)
