use Rattle.std.proofs.Common.{◌≡◌, ◌++◌, drop}
use Rattle.bendless.specs.Idle.{external_names}
use Rattle.bendless.specs.Loops.{noted_of}
use Rattle.bendless.proofs.idle.push_external_names.Given as goal

-- what the definitions so far have not yet told, those that are left tell
abbrev pub invariant-loop-definition : goal.invariant-loop-definition
invariant-loop-definition l =
    l.text ++ external_names (noted_of l.notes) l.address (drop l.definition-index l.definitions)
    ≡ l.fn.text ++ external_names (noted_of l.notes) 7 l.definitions
