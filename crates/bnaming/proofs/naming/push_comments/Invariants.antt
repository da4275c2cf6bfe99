use Rattle.std.proofs.Common.{◌≡◌, ◌++◌, take}
use Rattle.std.specs.List.{flat_map}
use Rattle.bsources.specs.Files.{files_shown}
use Rattle.bnaming.specs.Texts.{comment_text}
use Rattle.bnaming.proofs.naming.push_comments.Given as goal

abbrev pub invariant-loop-comment : goal.invariant-loop-comment
invariant-loop-comment l = l.text ≡ l.fn.text ++ flat_map (comment_text (files_shown l.files)) (take l.comment-index l.comments)
