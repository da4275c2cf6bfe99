use Rattle.std.proofs.Common.{◌≡◌, ◌++◌, map, take, vec_items}
use Rattle.bcheck.specs.Mentions.{subjects}
use Rattle.bcheck.specs.UndefinedNames.{subject_of}
use Rattle.bcheck.proofs.mention.push_mentions.Given as goal

abbrev pub invariant-loop-name : goal.invariant-loop-name
invariant-loop-name l = subjects (vec_items l.found) ≡ subjects (vec_items l.fn.found) ++ map (subject_of l.heading l.own) (take l.name-index l.names)
