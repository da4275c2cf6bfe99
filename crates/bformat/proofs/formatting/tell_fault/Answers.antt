use Rattle.btools.proofs.Compiled.{compiled}
use Rattle.bformat.proofs.formatting.tell_fault.Goals as goal

pub returns-clause-compiled : goal.returns-clause-compiled
returns-clause-compiled g c = (
  c.compile_edition.new.code.bytes,
  compiled c.args.edition c.args.source.now _ c.new.result _ c.new-code.result c.compile_edition.new.code _ c.compile_edition.result c.new.ensures c.new-code.ensures
      c.compile_edition.ensures.compiles,
)
