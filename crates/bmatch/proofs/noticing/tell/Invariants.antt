use Rattle.std.proofs.Common.{◌≡◌, ◌++◌, drop, map}
use Rattle.bmatch.specs.Notices.{notice_of}
use Rattle.bmatch.proofs.noticing.tell.Given as goal

abbrev pub invariant-loop-binds : goal.invariant-loop-binds
invariant-loop-binds l = l.found.items ++ map (notice_of l.tree l.rule) (drop l.binds-index l.held) ≡ l.initial.found.items ++ map (notice_of l.tree l.rule) l.held
