use Rattle.std.proofs.Common.{◌≡◌, ◌≤◌, ◌-◌, ◌++◌, List}
use Rattle.bauthor.specs.NameFiles.{words_from}
use Rattle.bauthor.specs.Readers.{read_by}
use Rattle.bauthor.specs.declared.fault.Wanted.{Wanted}
use Rattle.bauthor.proofs.reading.Reader.take_words.Given as goal

abbrev pub invariant-loop-word : goal.invariant-loop-word
invariant-loop-word l = record {
  within : l.word ≤ l.frame;
  on : (more : List Wanted) → read_by l.fn.self (words_from l.function 0 l.frame ++ more)
      ≡ read_by l.self (words_from l.function l.word (l.frame - l.word) ++ more);
}
