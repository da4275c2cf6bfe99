use Rattle.bparse.specs.Compilers.{compiler_start}
use Rattle.bparse.proofs.SinceSteps.{is_open_new}
use Rattle.bparse.proofs.compiler.Compiler.with_edition.Goals as goal

pub invariant_of-result : goal.invariant_of-result
invariant_of-result g c = λ e. (
  rw (c.of.ensures, c.of-2.ensures, c.new.ensures.tokens, c.new.ensures.draft, c.new-2.ensures)
      (is_open_new (compiler_start c.args.edition (g.I.ByteIn.incoming c.args.input) (g.I.ByteIn.lender c.args.input) (g.O.CodeOut.outgoing c.args.out) (g.O.CodeOut.lender c.args.out))),
  λ _. c.requires,
  λ begun. cc,
)
