use Rattle.std.proofs.Common.{[], ◌++◌, codes, decimal, refl}
use Rattle.std.specs.List.{flat_map}
use Rattle.bcheck.specs.Checks.{shown_text}
use Rattle.bcheck.proofs.AddedFindings.{on_ok}
use Rattle.bcheck.proofs.OnLine.{digits_on_line, both_on_line, shown_on_line, words_on_line}
use Rattle.bcheck.proofs.words.push_line_of.Goals as goal

pub returns : goal.returns
returns c = λ h.
    let line = c.args.at.line in
    let name = c.as_bytes.result.now in
    on_ok c.push_all.result _ _ (λ e.
    words_on_line c.args.text.now (decimal line ++ (codes " of " ++ (flat_map shown_text name ++ []))) _ h
    (both_on_line (decimal line) (codes " of " ++ (flat_map shown_text name ++ [])) (digits_on_line line) (both_on_line (codes " of ") (flat_map shown_text name ++ []) refl (both_on_line (flat_map shown_text name) [] (shown_on_line name) refl))) e)
    c.push_all.ensures
