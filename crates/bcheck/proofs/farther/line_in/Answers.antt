use Rattle.std.proofs.Common.{subst}
use Rattle.bcheck.specs.Checks.{with_newline}
use Rattle.bcheck.specs.Findings.{IsStopOf}
use Rattle.bcheck.proofs.MendSteps.{stops_on}
use Rattle.bcheck.proofs.farther.line_in.Goals as goal

pub returns-in-Faulty : goal.returns-in-Faulty
returns-in-Faulty c =
    λ edition before rest h.
    stops_on c.in-Faulty.field-0 c.in-Faulty.diagnostic edition before rest (subst (λ v. IsStopOf edition (with_newline before rest) v) c.in-Faulty.is h)
