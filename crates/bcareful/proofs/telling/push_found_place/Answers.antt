use Rattle.std.proofs.Common.{◌+◌, ◌++◌, codes, decimal}
use Rattle.std.proofs.lemmas.Result.{on_ok_weaker}
use Rattle.btools.proofs.AddedTexts.{piece}
use Rattle.btrace.specs.RowTexts.{legend_of, site_text, source_text}
use Rattle.bcareful.proofs.telling.push_found_place.Goals as goal

pub returns : goal.returns
returns c =
    let start = c.args.text.now in
    let legend = legend_of c.args.legend.now in
    let call = c.args.found.call in
    let site = site_text legend call in
    let shown = source_text legend c.args.source.now call in
    let x1 = codes "at     " in
    let x2 = x1 ++ site in
    let x3 = x2 ++ codes "  step " in
    let x4 = x3 ++ decimal (c.args.found.made + 1) in
    let x5 = x4 ++ codes "\n" in
    let p2 = piece start c.push.new.self c.push_site.new.text x1 site c.in_ok-push.ensures c.in_ok-push_site.ensures in
    let p3 = piece start c.push_site.new.text c.push-2.new.self x2 (codes "  step ") p2 c.in_ok-push-2.ensures in
    let p4 = piece start c.push-2.new.self c.push_number.new.self x3 (decimal (c.args.found.made + 1)) p3 c.in_ok-push_number.ensures in
    let p5 = piece start c.push_number.new.self c.push-3.new.self x4 (codes "\n") p4 c.in_ok-push-3.ensures in
    let p6 = piece start c.push-3.new.self c.push_source.new.text x5 shown p5 c.in_ok-push_source.ensures in
    on_ok_weaker c.push-4.result (λ end. piece start c.push_source.new.text c.push-4.new.self (x5 ++ shown) (codes "  means: ") p6 end) c.push-4.ensures
