use Rattle.std.proofs.Common.{◌≡◌, ◌++◌, take}
use Rattle.bshow.specs.Rows.{others_text}
use Rattle.bshow.proofs.rows.push_others.Given as goal

abbrev pub invariant-loop-word : goal.invariant-loop-word
invariant-loop-word l = l.text ≡ l.fn.text ++ others_text (take l.word-index l.words)
