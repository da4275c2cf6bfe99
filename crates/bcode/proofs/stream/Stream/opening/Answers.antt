use Rattle.std.proofs.Common.{arith}
use Rattle.bcode.proofs.StreamLaws.{stream_reads, stream_falls, stream_refuses, stream_breaks, opening-exact, opening-shape, opening-some, opening-none}
use Rattle.bcode.proofs.stream.Stream.opening.Goals as goal

pub returns-in_err-read_line : goal.returns-in_err-read_line
returns-in_err-read_line g c =
    rw (← c.self.view_is) (stream_breaks opening-shape _ c.in_err-read_line.ensures.gives c.in_err-read_line.ensures.same _ c.from_residual.ensures.1)

pub returns-then-not-starts_with : goal.returns-then-not-starts_with
returns-then-not-starts_with g c =
    let none = opening-none c.read_line.new.line.items _ (rw c.as_slice.ensures.value at c.starts_with.ensures.value) c.if-not-starts_with.true in
    rw (← c.self.view_is) (stream_refuses opening-exact opening-shape _ c.in_ok-read_line.ensures.gives c.in_ok-read_line.ensures.same c.in_ok-read_line.ensures.few none)

pub invariant_of-self-2 : goal.invariant_of-self-2
invariant_of-self-2 g c =
    let some = opening-some c.read_line.new.line.items _ (rw c.as_slice.ensures.value at c.starts_with.ensures.value) c.if-not-starts_with.false in
    let falls = stream_falls opening-exact opening-shape c.self.inside.line c.in_ok-read_line.ensures.gives c.in_ok-read_line.ensures.same _ _ some in
    let before = c.self.invariant in
    omega arith

pub returns : goal.returns
returns g c =
    let some = opening-some c.read_line.new.line.items _ (rw c.as_slice.ensures.value at c.starts_with.ensures.value) c.if-not-starts_with.false in
    rw (← c.self.view_is) (stream_reads opening-exact opening-shape _ c.in_ok-read_line.ensures.gives c.in_ok-read_line.ensures.same _ _ some)
