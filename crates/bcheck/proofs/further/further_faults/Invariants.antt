use Rattle.std.proofs.Common.{vec_items}
use Rattle.bcheck.proofs.SectionSteps.{SoFar}
use Rattle.bcheck.proofs.further.further_faults.Given as goal

abbrev pub invariant-loop-index : goal.invariant-loop-index
invariant-loop-index l = SoFar l.fn.setting.source.edition l.fn.setting.source.text.now (vec_items l.places) l.index (vec_items l.found)
