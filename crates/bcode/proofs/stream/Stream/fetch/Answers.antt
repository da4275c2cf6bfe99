use Rattle.std.proofs.Common.{arith}
use Rattle.bcode.proofs.StreamLaws.{stream_reads, stream_falls, stream_refuses, stream_breaks}
use Rattle.bcode.proofs.stream.Stream.fetch.Goals as goal

pub returns-in_err-read_line : goal.returns-in_err-read_line
returns-in_err-read_line g c =
    rw (← c.self.view_is) (stream_breaks c.requires.shape _ c.in_err-read_line.ensures.gives c.in_err-read_line.ensures.same _ c.from_residual.ensures.1)

pub returns-in_default : goal.returns-in_default
returns-in_default g c = rw (← c.self.view_is) (stream_refuses c.requires.exact c.requires.shape _ c.in_ok-read_line.ensures.gives c.in_ok-read_line.ensures.same c.in_ok-read_line.ensures.few (rw c.as_slice.ensures.value at c.in_default.ensures))

pub invariant_of-self-2 : goal.invariant_of-self-2
invariant_of-self-2 g c =
    let falls = stream_falls c.requires.exact c.requires.shape c.self.inside.line c.in_ok-read_line.ensures.gives c.in_ok-read_line.ensures.same _ _ (rw c.as_slice.ensures.value at c.in-Some.ensures) in
    let before = c.self.invariant in
    omega arith

pub returns : goal.returns
returns g c = rw (← c.self.view_is) (stream_reads c.requires.exact c.requires.shape _ c.in_ok-read_line.ensures.gives c.in_ok-read_line.ensures.same _ _ (rw c.as_slice.ensures.value at c.in-Some.ensures))
