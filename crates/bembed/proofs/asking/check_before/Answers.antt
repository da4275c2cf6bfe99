use Rattle.std.proofs.Common.{subst}
use Rattle.bsources.specs.Files.{Files}
use Rattle.bcheck.specs.Checks.{Checks}
use Rattle.bcheck.specs.declared.form.FindingForm.TheVariants as form
use Rattle.bembed.proofs.asking.check_before.Goals as goal

pub returns-clause-checks : goal.returns-clause-checks
returns-clause-checks g c alone =
    subst (λ (files : Files). Checks (record {
      edition = c.args.edition;
      form = form.Json;
      files = files;
      source = c.args.source.now;
      out = g.O.ByteOut.outgoing c.args.out.now;
      out_after = g.O.ByteOut.outgoing c.check.new.out;
      status = c.check.result;
    })) (λ i. record { first = c.new-first.ensures i; rest = (alone i).files }) c.check.ensures.checks
