use Rattle.std.proofs.Common.{◌≡◌, ◌++◌, drop}
use Rattle.std.specs.Prelude.{filter_map}
use Rattle.btools.specs.NamedFrames.{label_of}
use Rattle.btools.proofs.named_frames.labels_named.Given as goal

abbrev pub invariant-loop-line : goal.invariant-loop-line
invariant-loop-line l =
    l.labels.items ++ filter_map label_of (drop l.line-index l.lines) ≡ filter_map label_of l.lines
