use Rattle.std.proofs.Common.{◌≡◌, ◌∙◌, ◌<◌, ◌++◌, IsTrue, ap, drop, length, refl, rules, subst, sym, take}
use Rattle.std.proofs.lemmas.List.{take-append-drop}
use Rattle.bsources.specs.Files.{files_shown, own_line}
use Rattle.blang.specs.Cut.{line_number_after}
use Rattle.bplaces.specs.Columns.{column_after}
use Rattle.bcheck.specs.Checks.{goes_on, is_in_line}
use Rattle.bcheck.proofs.AddedFindings.{less}
use Rattle.bcheck.proofs.EditSteps.{here_is, makes_is, same_change, same_line, same_words, split_is, unit_end_is, unit_is}
use Rattle.bcheck.proofs.OnLine.{both}
use Rattle.bcheck.proofs.TokenPlaces.{several_is}
use Rattle.bcheck.proofs.edit.edit_of.Goals as goal

pub returns-clause-edit : goal.returns-clause-edit
returns-clause-edit c =
    let source = c.args.source.now in
    let files = files_shown c.args.files.now in
    let start = c.args.proposal.now.start in
    let len = c.args.proposal.now.len in
    let before = c.parts.result.0.now in
    let rest = c.parts.result.1.now in
    let old = c.parts-2.result.0.now in
    let after = c.parts-2.result.1.now in
    let b = c.split_at.result.0.now in
    let left = c.split_at.result.1.now in
    let right = c.split_at-2.result.0.now in
    let tail = c.split_at-2.result.1.now in
    let text = c.as_slice-text.result.now in
    let e1 = c.parts.ensures.before in
    let e2 = c.parts.ensures.rest in
    let e3 = c.parts-2.ensures.before in
    let e4 = c.parts-2.ensures.rest in
    let e5 : b ++ left ≡ before = rw (c.split_at.ensures.front, c.split_at.ensures.back) (take-append-drop _ before) in
    let e6 : right ++ tail ≡ after = rw (c.split_at-2.ensures.front, c.split_at-2.ensures.back) (take-append-drop _ after) in
    let here = here_is source before rest old after b left right tail text start len e1 e2 e3 e4 e5 e6 in
    let line : c.position-line.result.0 ≡ line_number_after 1 (b ++ left) = c.position-line.ensures.line ∙ ap (line_number_after 1) (sym here) in
    let column : c.position-line.result.1 ≡ column_after 1 (b ++ left) = c.position-line.ensures.column ∙ ap (column_after 1) (sym here) in
    let at = c.own_line.ensures ∙ ap (own_line files) line in
    let cut : c.goes_on.result ≡ goes_on tail = c.goes_on.ensures in
    let short : length left < c.position-line.result.1 = search rules in
    let shown : IsTrue (is_in_line right) = search rules in
    record {
      parts = record {
        before = b;
        left = left;
        old = old;
        right = right;
        after = tail;
        split = split_is source before rest old after b left right tail text start len e1 e2 e3 e4 e5 e6;
        from_line = less _ _ (subst (λ n. length left < n) column short);
        in_line = both (is_in_line old) (is_in_line right) (search rules) shown;
        text = text;
        on_line = search rules;
        differs = search rules;
      };
      makes = makes_is source before rest old after b left right tail text start len e1 e2 e3 e4 e5 e6 ∙ ap (λ t. take start source ++ (t ++ drop len (drop start source))) c.as_slice-text.ensures;
      object =
          same_words _ _ _ _ _ _ _ _ _ _ _ _ (length old) text (several_is c.args.files.now.rest.now.files c.is_empty.result c.is_empty.ensures) at column
          (unit_is source before rest old after b left right tail text start len e1 e2 e3 e4 e5 e6 c.position-line.result.2 c.position-line.ensures.units)
          (unit_end_is source before rest old after b left right tail text start len e1 e2 e3 e4 e5 e6 c.position-line.result.2 c.along.result c.position-line.ensures.units c.along.ensures)
          (ap length (sym e5));
      line = same_line _ _ left text right _ _ at cut;
      told = same_change _ _ _ _ left text right _ _ at column cut;
      start = ap length (sym e5);
      len = refl;
      text = refl;
    }
