use Rattle.std.proofs.Common.{◌≡◌, ◌++◌, OnOk, subst}
use Rattle.bcheck.specs.Checks.{edits_text}
use Rattle.bcheck.specs.Pieces.{edit_text}
use Rattle.bcheck.proofs.AddedFindings.{first_and_others}
use Rattle.bcheck.proofs.pieces.push_edits.Goals as goal

pub returns-in-len1-up : goal.returns-in-len1-up
returns-in-len1-up c =
    subst (λ es. OnOk c.push_list.result (c.push_list.new.text ≡ c.args.text.now ++ edits_text edit_text es)) (first_and_others c.args.edits.now _ c.in-len1-up.len_at_least) c.push_list.ensures
