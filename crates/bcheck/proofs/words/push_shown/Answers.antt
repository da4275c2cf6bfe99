use Rattle.std.proofs.Common.{[], ◌++◌, refl}
use Rattle.std.specs.List.{flat_map}
use Rattle.bcheck.specs.Checks.{shown_text}
use Rattle.bcheck.proofs.AddedFindings.{on_ok}
use Rattle.bcheck.proofs.OnLine.{both_on_line, shown_on_line, words_on_line}
use Rattle.bcheck.proofs.words.push_shown.Goals as goal

pub returns : goal.returns
returns c = λ h.
    let words = c.args.words.now in
    on_ok c.push_all.result _ _ (λ e.
    words_on_line c.args.text.now (flat_map shown_text words ++ []) _ h
    (both_on_line (flat_map shown_text words) [] (shown_on_line words) refl) e)
    c.push_all.ensures
