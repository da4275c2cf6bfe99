use Rattle.std.proofs.Common.{◌≡◌, ◌≤◌, ◌-◌, ◌++◌, List}
use Rattle.bauthor.specs.NameFiles.{labels_from}
use Rattle.bauthor.specs.Readers.{read_by}
use Rattle.bauthor.specs.declared.fault.Wanted.{Wanted}
use Rattle.bauthor.proofs.reading.Reader.take_labels.Given as goal

abbrev pub invariant-loop-label : goal.invariant-loop-label
invariant-loop-label l = record {
  within : l.label ≤ l.labels;
  on : (more : List Wanted) → read_by l.fn.self (labels_from l.function 0 l.labels ++ more)
      ≡ read_by l.self (labels_from l.function l.label (l.labels - l.label) ++ more);
}
