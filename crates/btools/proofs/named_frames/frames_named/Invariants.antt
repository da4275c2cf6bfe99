use Rattle.std.proofs.Common.{◌≡◌, ◌++◌, drop, map}
use Rattle.btools.specs.NamedFrames.{frames_named, function_names}
use Rattle.btools.proofs.named_frames.frames_named.Given as goal

-- the frames so far, and those of the definitions that are left
abbrev pub invariant-loop-definition : goal.invariant-loop-definition
invariant-loop-definition l =
    map function_names l.frames.items ++ frames_named (drop l.definition-index l.definitions) l.rest
    ≡ frames_named l.definitions l.lines
