use Rattle.std.proofs.Common.{◌∙◌, ◌++◌, List, ℕ, ap, codes, decimal}
use Rattle.btools.specs.Columns.{right}
use Rattle.btools.specs.SourceLines.{line_at, shown_line}
use Rattle.btools.proofs.AddedTexts.{piece}
use Rattle.bwhere.proofs.loading.push_line.Goals as goal

pub returns : goal.returns
returns c =
    let start = c.args.text.now in
    let head = codes "at     line " in
    let number = right 4 (decimal c.args.number) in
    let shown = shown_line (line_at c.args.code.now c.args.number) in
    let t3 = c.push-2.new.self in
    let p2 = piece start c.push.new.self c.push_right_number.new.self head number c.in_ok-push.ensures c.in_ok-push_right_number.ensures in
    let p3 = piece start c.push_right_number.new.self t3 (head ++ number) (codes "\n    ") p2 c.in_ok-push-2.ensures in
    let p4 = piece start t3 c.push_source_line.new.text (head ++ number ++ codes "\n    ") shown p3 (c.in_ok-push_source_line.ensures ∙ ap (λ (l : List ℕ). t3 ++ shown_line l) c.line_at.ensures) in
    piece start c.push_source_line.new.text c.push-3.new.self (head ++ number ++ codes "\n    " ++ shown) (codes "\n") p4 c.in_ok-push-3.ensures
