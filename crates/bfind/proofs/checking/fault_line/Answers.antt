use Rattle.bfind.proofs.checking.fault_line.Goals as goal

pub returns : goal.returns
returns c = rw (c.new-line.ensures, c.as_bytes.ensures.value) at c.in_ok-push_all.ensures
