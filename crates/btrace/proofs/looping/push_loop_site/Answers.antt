use Rattle.std.proofs.Common.{◌++◌, codes}
use Rattle.std.proofs.lemmas.Result.{on_ok_weaker}
use Rattle.btools.proofs.AddedTexts.{piece}
use Rattle.btrace.specs.RowTexts.{legend_of, site_text, source_text}
use Rattle.btrace.proofs.looping.push_loop_site.Goals as goal

pub returns : goal.returns
returns c =
    let old = c.args.text.now in
    let legend = legend_of c.args.legend.now in
    let call = c.args.call in
    let first = codes "loop   " in
    let site = site_text legend call in
    let shown = source_text legend c.args.source.now call in
    let p2 = piece old c.push.new.self c.push_site.new.text first site c.in_ok-push.ensures c.in_ok-push_site.ensures in
    let p3 = piece old c.push_site.new.text c.push-2.new.self (first ++ site) (codes "\n") p2 c.in_ok-push-2.ensures in
    on_ok_weaker c.push_source.result (λ end. piece old c.push-2.new.self c.push_source.new.text (first ++ site ++ codes "\n") shown p3 end) c.push_source.ensures
