use Rattle.std.proofs.Common.{◌≡◌, ◌++◌, List, drop}
use Rattle.bauthor.specs.NameFiles.{names_wanted}
use Rattle.bauthor.specs.Readers.{read_by}
use Rattle.bauthor.specs.declared.fault.Wanted.{Wanted}
use Rattle.bauthor.proofs.reading.Reader.take_all.Given as goal

abbrev pub invariant-loop-definition : goal.invariant-loop-definition
invariant-loop-definition l = (more : List Wanted)
    → read_by l.fn.self (names_wanted l.definitions ++ more)
    ≡ read_by l.self (names_wanted (drop l.definition-index l.definitions) ++ more)
