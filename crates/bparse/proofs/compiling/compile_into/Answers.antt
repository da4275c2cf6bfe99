use Rattle.std.proofs.Common.{rules, ap}
use Rattle.bparse.proofs.compiling.compile_into.Goals as goal

pub returns-clause-gives : goal.returns-clause-gives
returns-clause-gives g c = record {
  first = c.with_edition-compiler.result;
  last = c.compile_all-last.new.compiler;
  gives = c.compile_all-last.ensures.gives;
  edition_is = ap (λ x. x.first.edition) c.with_edition-compiler.ensures;
  source = ap (λ x. x.first.source) c.with_edition-compiler.ensures;
  code = ap (λ x. x.first.out) c.with_edition-compiler.ensures;
  source_after = search rules;
  code_after = search rules;
}
