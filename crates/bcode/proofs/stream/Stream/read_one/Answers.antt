use Rattle.std.proofs.Common.{arith, ◌≡◌, ◌<◌, Err, refl}
use Rattle.bcode.specs.declared.code_stop.CodeStop.TheVariants as stop
use Rattle.bcode.proofs.CopyLaws.{one_taken, one_exit, one_put, one_found, none_first, one_at_most, run_refused}
use Rattle.bcode.proofs.StreamLaws.{stream_reads, stream_falls, stream_refuses, stream_breaks}
use Rattle.bcode.proofs.stream.Stream.read_one.Goals as goal

pub returns-in_err-read_line : goal.returns-in_err-read_line
returns-in_err-read_line g c =
    rw (← c.self.view_is) (one_exit _ _ _ _ _ _ _ _ _ stop.Device c.from_residual.ensures.1 (stream_breaks c.requires.shape.shape _ c.in_err-read_line.ensures.gives c.in_err-read_line.ensures.same (Err stop.Device) refl))

pub returns-in_err-count : goal.returns-in_err-count
returns-in_err-count g c =
    let h = c.in_err-count.ensures.1 in
    let one = one_found c.requires.shape.exact c.as_slice.ensures.value h.few h.some h.found in
    rw (← c.self.view_is) (run_refused _ _ _ _ _ _ _ _ _ c.from_residual-in_err-count.ensures.1
    (one_at_most _ _ _ c.requires.some (stream_reads c.requires.shape.exact c.requires.shape.shape c.self.inside.line c.in_ok-read_line.ensures.gives c.in_ok-read_line.ensures.same _ _ one.1)))

pub returns-then-count-eq0 : goal.returns-then-count-eq0
returns-then-count-eq0 g c =
    let zero : c.in_ok-count.count ≡ 0 = omega (arith, c.if-count-eq0.true) in
    rw (← c.self.view_is) (stream_refuses c.requires.shape.exact c.requires.shape.shape _ c.in_ok-read_line.ensures.gives c.in_ok-read_line.ensures.same c.in_ok-read_line.ensures.few (none_first (g.F.LineForm.reader c.args.form) c.as_slice.ensures.value zero c.in_ok-count.ensures.1 c.in_ok-count.ensures.2.0))

pub invariant_of-self-2 : goal.invariant_of-self-2
invariant_of-self-2 g c =
    let some : 0 < c.in_ok-count.count = omega (arith, c.if-count-eq0.false) in
    let one = one_found c.requires.shape.exact c.as_slice.ensures.value c.in_ok-count.ensures.0 some c.in_ok-count.ensures.2.0 in
    let falls = stream_falls c.requires.shape.exact c.requires.shape.shape c.self.inside.line c.in_ok-read_line.ensures.gives c.in_ok-read_line.ensures.same _ _ one.1 in
    let before = c.self.invariant in
    omega arith

pub returns : goal.returns
returns g c =
    let some : 0 < c.in_ok-count.count = omega (arith, c.if-count-eq0.false) in
    let one = one_put _ _ c.requires.shape.exact c.as_slice.ensures.value c.in_ok-count.ensures.0 some c.in_ok-count.ensures.2 in
    rw (← c.self.view_is) (one_taken _ c.requires.some
    (stream_reads c.requires.shape.exact c.requires.shape.shape _ c.in_ok-read_line.ensures.gives c.in_ok-read_line.ensures.same _ _ one.2) one.1)
