use Rattle.std.specs.Map.{keys_of}
use Rattle.bparse.specs.Locals.{locals_in}
use Rattle.bparse.specs.Steps.{point}
use Rattle.bparse.specs.Compilers.{compiler_start}
use Rattle.bparse.proofs.SinceSteps.{of_source, goes_on_open, written_now, stopped_now}
use Rattle.bparse.proofs.compiler.Compiler.next_definition.Goals as goal

pub compile_next-requires-clause-source : goal.compile_next-requires-clause-source
compile_next-requires-clause-source g c = of_source _ (c.self.invariant c.if-self.false).0

pub compile_next-requires-clause-new : goal.compile_next-requires-clause-new
compile_next-requires-clause-new g c = (c.self.invariant c.if-self.false).1

pub compile_next-requires-clause-open : goal.compile_next-requires-clause-open
compile_next-requires-clause-open g c = (c.self.invariant c.if-self.false).2

pub invariant_of-self : goal.invariant_of-self
invariant_of-self g c = λ e.
    let i = c.self.inside in
    let n = c.compile_next.new in (
      goes_on_open (compiler_start i.edition (g.I.ByteIn.incoming i.first_input.value) (g.I.ByteIn.lender i.first_input.value) (g.O.CodeOut.outgoing i.first_out.value) (g.O.CodeOut.lender i.first_out.value))
          (point i.parser.tokens (locals_in i.parser.draft) (keys_of i.names) (g.O.CodeOut.outgoing i.out)) (point n.parser.tokens (locals_in n.parser.draft) (keys_of n.names) (g.O.CodeOut.outgoing n.out)) (g.O.CodeOut.lender i.out) (g.O.CodeOut.lender n.out) i.is_begun i.is_closed c.if-self.false (c.self.invariant c.if-self.false).0
          _ c.in-Ok.ensures.gives c.in-Ok.ensures.ready,
      λ begun. cc,
      λ _. c.in-Ok.ensures.open,
    )

pub returns-in-Ok-clause-gives : goal.returns-in-Ok-clause-gives
returns-in-Ok-clause-gives g c =
    let i = c.self.inside in
    let n = c.compile_next.new in
    written_now (compiler_start i.edition (g.I.ByteIn.incoming i.first_input.value) (g.I.ByteIn.lender i.first_input.value) (g.O.CodeOut.outgoing i.first_out.value) (g.O.CodeOut.lender i.first_out.value))
    (point i.parser.tokens (locals_in i.parser.draft) (keys_of i.names) (g.O.CodeOut.outgoing i.out)) (point n.parser.tokens (locals_in n.parser.draft) (keys_of n.names) (g.O.CodeOut.outgoing n.out)) (g.O.CodeOut.lender i.out) (g.O.CodeOut.lender n.out) i.is_begun i.is_closed c.if-self.false (c.self.invariant c.if-self.false).0
    c.args.self.now c.self.view_is _ c.in-Ok.ensures.gives

pub returns-in-Err-clause-gives : goal.returns-in-Err-clause-gives
returns-in-Err-clause-gives g c =
    let i = c.self.inside in
    let n = c.compile_next.new in
    stopped_now (compiler_start i.edition (g.I.ByteIn.incoming i.first_input.value) (g.I.ByteIn.lender i.first_input.value) (g.O.CodeOut.outgoing i.first_out.value) (g.O.CodeOut.lender i.first_out.value))
    (point i.parser.tokens (locals_in i.parser.draft) (keys_of i.names) (g.O.CodeOut.outgoing i.out)) (point n.parser.tokens (locals_in n.parser.draft) (keys_of n.names) (g.O.CodeOut.outgoing n.out)) (g.O.CodeOut.lender i.out) (g.O.CodeOut.lender n.out) i.is_begun i.is_closed c.if-self.false (c.self.invariant c.if-self.false).0
    c.args.self.now c.self.view_is c.in-Err.step c.in-Err.ensures.gives
