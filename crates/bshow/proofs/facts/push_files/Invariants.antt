use Rattle.std.proofs.Common.{◌≡◌, ◌++◌, codes, take}
use Rattle.std.specs.List.{flat_map}
use Rattle.bsources.specs.Files.{file_shown, later_shown}
use Rattle.bshow.specs.Facts.{file_text}
use Rattle.bshow.proofs.facts.push_files.Given as goal

abbrev pub invariant-loop-later : goal.invariant-loop-later
invariant-loop-later l =
    l.text ≡ (l.fn.text ++ (codes "[" ++ file_text (file_shown l.fn.files.first))) ++ flat_map (λ f. file_text (later_shown f)) (take l.later-index l.later-items)
