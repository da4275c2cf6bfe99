use Rattle.bemit.proofs.SwitchLemmas.{arms-begin}
use Rattle.bemit.proofs.switches.begun_switches_have_no_arms.Goals as goal

pub returns : goal.returns
returns c = arms-begin
