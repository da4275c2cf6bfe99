use Rattle.bcheck.proofs.AddedFindings.{clean_further, faulty_further, unloaded_further}
use Rattle.bcheck.proofs.explain.push_further.Goals as goal

pub returns-in-Faulty : goal.returns-in-Faulty
returns-in-Faulty c = faulty_further c.args.setting.now c.args.verdict.now _ _ _ _ c.push_after.result c.in-Faulty.is c.push_after.ensures

pub returns-in-Clean : goal.returns-in-Clean
returns-in-Clean c = clean_further c.args.setting.now c.args.verdict.now _ c.in-Clean.is

pub returns-in-Unloaded : goal.returns-in-Unloaded
returns-in-Unloaded c = unloaded_further c.args.setting.now c.args.verdict.now _ _ c.in-Unloaded.is
