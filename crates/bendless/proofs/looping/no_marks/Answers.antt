use Rattle.std.proofs.Common.{◌∙◌, ◌-◌, ◌++◌, false, replicate, take}
use Rattle.bendless.proofs.looping.no_marks.Goals as goal

pub returns : goal.returns
returns c = c.in_ok-resize.ensures.items ∙ (λ k. take 65536 (c.new-marks.ensures.items k) ++ replicate (65536 - c.new-marks.ensures.len k) false)
