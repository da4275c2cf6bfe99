use Rattle.std.proofs.Common.{arith}
use Rattle.bcode.proofs.StreamLaws.{ahead_shorter, ahead_fits, ahead_reads, ahead_falls}
use Rattle.bcode.proofs.stream.Stream.read.Goals as goal

pub overflow_sub-count : goal.overflow_sub-count
overflow_sub-count g c = ahead_shorter c.requires.exact c.requires.shape _ _ c.ahead-ahead.ensures _ _ c.in-Some.ensures

pub take-requires : goal.take-requires
take-requires g c = ahead_fits c.requires.exact c.requires.shape _ _ c.ahead-ahead.ensures _ _ c.in-Some.ensures

pub invariant_of-self : goal.invariant_of-self
invariant_of-self g c =
    let falls = ahead_falls c.requires.exact c.requires.shape _ _ c.ahead-ahead.ensures _ _ c.in-Some.ensures c.take.ensures.takes in
    let before = c.self.invariant in
    omega arith

pub returns : goal.returns
returns g c = rw (← c.self.view_is) (ahead_reads c.requires.exact c.requires.shape _ _ c.ahead-ahead.ensures _ _ c.in-Some.ensures c.take.ensures.takes _ c.take.ensures.same)
