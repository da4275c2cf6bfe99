use Rattle.std.proofs.Common.{◌≡◌, ◌∙◌, ◌++◌, ap, append-nil, arith, codes, sym}
use Rattle.std.specs.List.{flat_map}
use Rattle.std.proofs.lemmas.List.{take_all}
use Rattle.bcheck.specs.Pieces.{edit_text}
use Rattle.bcheck.proofs.AddedFindings.{adds_list, item_more, on_ok}
use Rattle.bcheck.proofs.pieces.push_list.Goals as goal

pub loop-edit-init : goal.loop-edit-init
loop-edit-init c = c.in_ok-push_edit.ensures ∙ ap (λ t. t ++ edit_text c.args.first.now) c.in_ok-push.ensures ∙ sym (append-nil ((c.args.text.now ++ codes ",\"edits\":[") ++ edit_text c.args.first.now))

pub loop-edit-preserved : goal.loop-edit-preserved
loop-edit-preserved c =
    item_more (λ x. codes "," ++ edit_text x) ((c.args.text.now ++ codes ",\"edits\":[") ++ edit_text c.args.first.now) c.loop-edit.text c.push_next.new.text c.args.others.now c.loop-edit.edit-index _ c.loop-edit-test.true c.loop-edit.invariant c.in_ok-push_next.ensures

pub returns : goal.returns
returns c =
    let first = edit_text c.args.first.now in
    let begun = codes ",\"edits\":[" in
    let others = flat_map (λ x. codes "," ++ edit_text x) c.args.others.now in
    let all : c.loop-edit.text ≡ ((c.args.text.now ++ begun) ++ first) ++ others =
    c.loop-edit.invariant ∙ ap (λ es. ((c.args.text.now ++ begun) ++ first) ++ flat_map (λ x. codes "," ++ edit_text x) es) (take_all c.loop-edit.edit-index c.args.others.now (omega arith)) in
    on_ok c.push-2.result _ _ (λ e. e ∙ ap (λ t. t ++ codes "]") all ∙ adds_list c.args.text.now begun first others (codes "]")) c.push-2.ensures
