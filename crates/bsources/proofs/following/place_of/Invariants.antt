use Rattle.std.proofs.Common.{◌-◌, ◌≡◌, ◌<◌, ◌≤◌, ◌⊎◌, List, get_or}
use Rattle.bsources.specs.OwnLines.{ends_of, start_of}
use Rattle.bsources.specs.declared.following.LaterFile.{LaterFile}
use Rattle.bsources.proofs.following.place_of.Given as goal

abbrev pub invariant-loop-low : goal.invariant-loop-low
invariant-loop-low l =
    let files : List LaterFile = l.fn.files in
    (l.low ≤ l.high) × (l.high ≤ l.fn.last) × ((l.low ≡ 0) ⊎ (start_of (ends_of files) l.low < l.fn.line))
    × ((l.high ≡ l.fn.last) ⊎ (l.fn.line ≤ get_or (ends_of files) l.high 0))

abbrev pub decreases-loop-low : goal.decreases-loop-low
decreases-loop-low l = l.high - l.low
