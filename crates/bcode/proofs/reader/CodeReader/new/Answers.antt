use Rattle.bcode.proofs.ReaderLaws.{is_open_new}
use Rattle.bcode.proofs.reader.CodeReader.new.Goals as goal

pub invariant_of-result : goal.invariant_of-result
invariant_of-result g c e = rw (c.new.ensures, c.of.ensures) (is_open_new _)
