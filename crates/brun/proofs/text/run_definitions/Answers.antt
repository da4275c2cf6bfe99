use Rattle.std.proofs.Common.{sym, ◌∙◌, refl}
use Rattle.bmach.proofs.LoadedRuns.{run_of_loaded}
use Rattle.brun.specs.Runs.{refused, ran}
use Rattle.brun.proofs.Endings.{gives_own_status}
use Rattle.brun.proofs.RunSteps.{first_fault}
use Rattle.brun.proofs.text.run_definitions.Goals as goal

pub returns-in-Some-clause-runs : goal.returns-in-Some-clause-runs
returns-in-Some-clause-runs g c =
    let numbered = sym c.number_of.ensures ∙ c.in-Some.is in
    refused c.in-Err.fault c.in-Some.number (first_fault c.in-Err.fault _ c.in-Some.number numbered c.in-Err.ensures.err) numbered (record { unread = refl; silent = refl }) c.write_report.ensures.gives

pub returns-clause-runs : goal.returns-clause-runs
returns-clause-runs g c =
    let gives = run_of_loaded c.args.definitions.items c.in-Ok.image c.in-Ok.ensures.ok c.args.steps _ _ _ _ c.run-outcome.result c.run-outcome.ensures.gives in
    ran c.run-outcome.result c.in-Ok.ensures.loads gives (gives_own_status _ _ _ _ _ _ c.run-outcome.result gives) c.finish.ensures.gives
