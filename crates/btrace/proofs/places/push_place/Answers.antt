use Rattle.std.proofs.Common.{◌++◌, codes}
use Rattle.std.proofs.lemmas.Result.{on_ok_weaker}
use Rattle.btools.proofs.AddedTexts.{piece}
use Rattle.btrace.specs.RowTexts.{first_words, has_more, legend_of, site_text, words_text}
use Rattle.btrace.proofs.places.push_place.Goals as goal

pub returns : goal.returns
returns g c =
    let shown = site_text (legend_of c.args.legend.now) c.args.call in
    let words = words_text (first_words c.args.stepper.now.store c.args.call) (has_more c.args.call) in
    let both = piece c.args.text.now c.push_site.new.text c.push_words.new.text shown words c.in_ok-push_site.ensures c.in_ok-push_words.ensures in
    on_ok_weaker c.push.result (λ end. piece c.args.text.now c.push_words.new.text c.push.new.self (shown ++ words) (codes "\n") both end) c.push.ensures
