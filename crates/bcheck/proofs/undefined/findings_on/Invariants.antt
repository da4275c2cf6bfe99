use Rattle.std.proofs.Common.{take, vec_items}
use Rattle.std.specs.List.{AllZip}
use Rattle.bcheck.specs.Findings.{TellsOf}
use Rattle.bcheck.specs.Mentions.{subjects}
use Rattle.bcheck.proofs.undefined.findings_on.Given as goal

abbrev pub invariant-loop-mention : goal.invariant-loop-mention
invariant-loop-mention l = AllZip (TellsOf l.fn.source.text.now) (subjects (take l.mention-index l.mentions)) (vec_items l.found)
