use Rattle.std.proofs.Common.{◌∙◌, ◌++◌, Bool, List, [], ℕ, ap, codes, sym, if◌then◌else◌}
use Rattle.std.proofs.lemmas.Bool.{ne_eqb}
use Rattle.std.proofs.lemmas.Result.{on_ok_weaker}
use Rattle.btools.specs.SourceLines.{line_at, mark_under, shown_line}
use Rattle.btools.proofs.AddedTexts.{piece}
use Rattle.btrace.proofs.places.push_source_row.Goals as goal

pub returns : goal.returns
returns c =
    let old = c.args.text.now in
    let shown = shown_line (line_at c.args.source.now c.args.line) in
    let mark = mark_under c.args.column in
    let t2 = c.push_source_line.new.text in
    let p2 = piece old c.push.new.self t2 (codes "    ") shown c.in_ok-push.ensures
    (c.in_ok-push_source_line.ensures ∙ ap (λ (l : List ℕ). c.push.new.self ++ shown_line l) c.line_at.ensures) in
    let p3 = piece old t2 c.push_mark.new.text (codes "    " ++ shown) mark p2 c.in_ok-push_mark.ensures in
    on_ok_weaker c.push-2.result (λ end. piece old c.push_mark.new.text c.push-2.new.self (codes "    " ++ shown ++ mark) (codes "\n") p3 end
    ∙ ap (λ (b : Bool). old ++ (if b then [] else codes "    " ++ shown ++ mark ++ codes "\n")) (sym (ne_eqb c.args.line 0 c.if-line-eq0.false))) c.push-2.ensures
