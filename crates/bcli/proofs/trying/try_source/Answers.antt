use Rattle.std.proofs.Common.{List, ℕ, subst, ◌∙◌}
use Rattle.blang.specs.Reports.{Reported}
use Rattle.bcli.proofs.trying.try_source.Goals as goal

pub returns-clause-tries : goal.returns-clause-tries
returns-clause-tries g c = record {
  checked = c.check-checked.result;
  out = g.O.ByteOut.outgoing c.check-checked.new.out;
  checks = c.check-checked.ensures.checks;
  ran = c.run_checked-ran.result;
  line = g.D.ByteOut.outgoing c.run_checked-ran.new.diag;
  runs = c.run_checked-ran.ensures.runs;
  next = subst (λ (t : List ℕ). Reported t c.run_checked-ran.result (g.D.ByteOut.outgoing c.run_checked-ran.new.diag) (g.D.ByteOut.outgoing c.tell.new.out) c.tell.result)
      (c.as_bytes.ensures.value ∙ c.next_text-next.ensures) c.tell.ensures.told;
}
