use Rattle.std.proofs.Common.{◌≡◌, ◌-◌, ◌++◌}
use Rattle.std.specs.List.{flat_map, range_with_len}
use Rattle.bfind.specs.Finds.{notice_text, places_text, telling_of}
use Rattle.bfind.proofs.telling.places_text.Given as goal

abbrev pub invariant-loop-index : goal.invariant-loop-index
invariant-loop-index l =
    l.text ++ flat_map (notice_text (telling_of l.setting) l.found) (range_with_len l.index (l.index-end - l.index)) ≡ places_text (telling_of l.setting) l.found
