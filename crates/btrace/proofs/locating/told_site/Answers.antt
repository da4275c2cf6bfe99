use Rattle.std.proofs.Common.{◌≡◌, ◌∙◌, ◌++◌, List, ℕ, ap, codes, decimal}
use Rattle.btools.proofs.AddedTexts.{piece}
use Rattle.btrace.specs.Locates.{explanation, meaning_text, site_line, told_site}
use Rattle.btrace.specs.Loops.{loop_text}
use Rattle.btrace.specs.RowTexts.{legend_of, site_text, source_text}
use Rattle.btrace.proofs.PlaceParts.{told_parts}
use Rattle.btrace.proofs.locating.told_site.Goals as goal

pub returns : goal.returns
returns c =
    let start = c.new-text.result in
    let stop = c.args.stop in
    let source = c.args.source.now in
    let legend = legend_of c.args.legend.now in
    let site = site_text legend stop.call in
    let shown = source_text legend source stop.call in
    let again = c.args.again.now in
    let means = meaning_text stop.outcome again in
    let placed = codes "at     " ++ site in
    let stepped = placed ++ codes "  step " in
    let whole = stepped ++ decimal stop.steps in
    let line = site_line legend stop.call stop.steps in
    let named = line ++ shown ++ codes "  means: " in
    let t5 = c.push-3.new.self in
    let t7 = c.push-4.new.self in
    let p2 = piece start c.push.new.self c.push_site.new.text (codes "at     ") site c.in_ok-push.ensures c.in_ok-push_site.ensures in
    let p3 = piece start c.push_site.new.text c.push-2.new.self placed (codes "  step ") p2 c.in_ok-push-2.ensures in
    let p4 = piece start c.push-2.new.self c.push_number.new.self stepped (decimal stop.steps) p3 c.in_ok-push_number.ensures in
    let p5 : t5 ≡ start ++ line = piece start c.push_number.new.self t5 whole (codes "\n") p4 c.in_ok-push-3.ensures in
    let p6 = piece start t5 c.push_source.new.text line shown p5 c.in_ok-push_source.ensures in
    let p7 = piece start c.push_source.new.text t7 (line ++ shown) (codes "  means: ") p6 c.in_ok-push-4.ensures in
    let p8 = piece start t7 c.push_meaning.new.text named means p7 c.in_ok-push_meaning.ensures in
    let p9 = piece start c.push_meaning.new.text c.push-5.new.self (named ++ means) (codes "\n") p8 c.in_ok-push-5.ensures in
    let before = line ++ explanation legend source stop.outcome again stop.call in
    let p10 : c.push-5.new.self ≡ start ++ before =
    p9 ∙ ap (λ (t : List ℕ). start ++ t) (told_parts line shown (codes "  means: ") means (codes "\n")) in
    piece start c.push-5.new.self c.push_loop.new.text before (loop_text legend source again) p10 c.in_ok-push_loop.ensures
    ∙ ap (λ (t : List ℕ). t ++ told_site legend source stop.outcome stop.call stop.steps again) c.new-text.ensures
