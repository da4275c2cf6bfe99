use Rattle.std.proofs.Common.{◌∙◌, ◌++◌, ap, append_assoc, append-nil, arith, codes, get_or, sym}
use Rattle.std.specs.List.{flat_map}
use Rattle.std.proofs.lemmas.List.{get_or_default, take_all}
use Rattle.std.proofs.lemmas.List.Folds.{flat_map-map}
use Rattle.std.proofs.lemmas.Result.{on_ok_weaker}
use Rattle.btools.proofs.AddedTexts.{each_more, piece}
use Rattle.bsources.specs.Files.{file_shown, later_shown}
use Rattle.bshow.specs.Facts.{file_text}
use Rattle.bshow.proofs.facts.push_files.Goals as goal

pub loop-later-init : goal.loop-later-init
loop-later-init c =
    piece c.args.text.now c.push.new.self c.push_file.new.text (codes "[") (file_text (file_shown c.args.files.first)) c.in_ok-push.ensures c.in_ok-push_file.ensures ∙ sym (append-nil _)

pub loop-later-preserved : goal.loop-later-preserved
loop-later-preserved c =
    let rest = c.files-later-items.result.now in
    let i = c.loop-later.later-index in
    each_more (λ f. file_text (later_shown f)) (c.args.text.now ++ (codes "[" ++ file_text (file_shown c.args.files.first))) c.loop-later.text _ rest i (get_or rest i _)
    c.loop-later-test.true (get_or_default rest i _ _ c.loop-later-test.true) c.loop-later.invariant c.in_ok-push_file-2.ensures

pub returns : goal.returns
returns c =
    let first = file_text (file_shown c.args.files.first) in
    let rest = c.files-later-items.result.now in
    let begun = codes "[" ++ first in
    let all = c.loop-later.invariant ∙ ap (λ fs. (c.args.text.now ++ begun) ++ flat_map (λ f. file_text (later_shown f)) fs) (take_all c.loop-later.later-index rest (omega arith))
    ∙ append_assoc c.args.text.now begun (flat_map (λ f. file_text (later_shown f)) rest)
    ∙ ap (λ t. c.args.text.now ++ (begun ++ t)) (sym (flat_map-map file_text later_shown rest) ∙ ap (flat_map file_text) c.files-later-items.ensures) in
    on_ok_weaker c.push-2.result (λ end. piece _ _ _ _ _ all end) c.push-2.ensures
