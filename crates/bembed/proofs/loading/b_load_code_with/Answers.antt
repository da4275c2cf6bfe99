use Rattle.std.proofs.Common.{[], refl, rules}
use Rattle.blang.specs.Compiles.{line_of}
use Rattle.btools.specs.Origins.{Code}
use Rattle.bembed.specs.Sessions.{text_given}
use Rattle.bembed.proofs.Over.{loads_into}
use Rattle.bembed.proofs.loading.b_load_code_with.Goals as goal

pub returns-clause-loads : goal.returns-clause-loads
returns-clause-loads c none = record {
  no_output = record { same = refl; none = search rules };
  loads = loads_into (Code (text_given c.args.code.now c.args.lines.now c.args.names.now)) [] c.load_text.new.host line_of
      c.new-line.result c.load_text.new.diag _ _
      (record {
        before = c.new-line.ensures.before;
        empty = c.new-line.ensures.empty;
        same = c.load_text.ensures.diag_lender;
        after = search rules;
        told = search rules;
        size = search rules;
      })
      (rw (c.given_in.ensures, c.given_in-2.ensures) at c.load_text.ensures.loads);
}
