use Rattle.std.proofs.Common.{◌≡◌, ◌++◌, take}
use Rattle.std.specs.List.{flat_map}
use Rattle.bnaming.specs.Fragments.{fragment_text}
use Rattle.bnaming.proofs.fragments.push_all.Given as goal

abbrev pub invariant-loop-part : goal.invariant-loop-part
invariant-loop-part l = l.text ≡ l.fn.text ++ flat_map fragment_text (take l.part-index l.parts)
