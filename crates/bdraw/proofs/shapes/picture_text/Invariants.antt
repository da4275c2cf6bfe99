use Rattle.std.proofs.Common.{◌≡◌, ◌++◌, take}
use Rattle.std.specs.List.{flat_map}
use Rattle.bdraw.specs.Shapes.{beginning, shape_text, title_text}
use Rattle.bdraw.proofs.shapes.picture_text.Given as goal

abbrev pub invariant-loop-shape : goal.invariant-loop-shape
invariant-loop-shape l = l.text ≡ beginning l.height ++ title_text l.title ++ flat_map shape_text (take l.shape-index l.shapes)
