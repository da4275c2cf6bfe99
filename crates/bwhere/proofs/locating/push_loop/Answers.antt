use Rattle.std.proofs.Common.{◌≡◌, ◌∙◌, ◌++◌, ap, codes}
use Rattle.std.proofs.lemmas.Result.{on_ok_weaker}
use Rattle.bendless.specs.Tellings.{repeat_text}
use Rattle.btools.proofs.AddedTexts.{piece}
use Rattle.bwhere.specs.Sites.{Site, site_among, site_shown}
use Rattle.bwhere.specs.Wheres.{site_line_text, site_of, code_site_text}
use Rattle.bwhere.proofs.locating.push_loop.Goals as goal

pub returns : goal.returns
returns c =
    let old = c.args.text.now in
    let code = c.args.code.now in
    let ds = c.args.definitions.now in
    let r = c.args.repeat in
    let place = r.call.place in
    let site = site_of code ds r.call.strings in
    let same : site_shown c.site_of-site.result ≡ site =
    c.site_of-site.ensures ∙ ap (λ n. site_among 7 n r.call.strings ds) c.lines_before.ensures in
    let again = repeat_text r in
    let mid = codes "\nloop   " in
    let p2 = piece old c.push_repeat.new.text c.push.new.self again mid c.in_ok-push_repeat.ensures c.in_ok-push.ensures in
    let p3 = piece old c.push.new.self c.push_site.new.text (again ++ mid) (code_site_text site place) p2
    (c.in_ok-push_site.ensures ∙ ap (λ (s : Site). c.push.new.self ++ code_site_text s place) same) in
    on_ok_weaker c.push_site_line.result
    (λ end. piece old c.push_site.new.text c.push_site_line.new.text (again ++ mid ++ code_site_text site place) (site_line_text code site place) p3
    (end ∙ ap (λ (s : Site). c.push_site.new.text ++ site_line_text code s place) same)) c.push_site_line.ensures
