use Rattle.std.proofs.Common.{◌∙◌, ◌++◌, ap, codes, sym}
use Rattle.std.proofs.lemmas.Result.{on_ok_weaker}
use Rattle.bnaming.specs.Texts.{content_text, member_text}
use Rattle.bnaming.proofs.telling.push_content.Goals as goal

pub returns-in-Begins : goal.returns-in-Begins
returns-in-Begins c =
    let old = c.args.text.now in
    on_ok_weaker c.push_member.result (λ e.
    e ∙ ap (λ w. old ++ member_text (codes "{\"begins\":\"") w) c.construct_word.ensures
    ∙ ap (λ t. old ++ content_text t c.args.bound.now) (sym c.in-Begins.is))
    c.push_member.ensures

pub returns-in-Ends : goal.returns-in-Ends
returns-in-Ends c =
    on_ok_weaker c.push.result (λ e. e ∙ ap (λ t. c.args.text.now ++ content_text t c.args.bound.now) (sym c.in-Ends.is)) c.push.ensures

pub returns-in-Other : goal.returns-in-Other
returns-in-Other c =
    let old = c.args.text.now in
    on_ok_weaker c.push_member-in-Other.result (λ e.
    e ∙ ap (λ w. old ++ member_text (codes "{\"token\":\"") w) c.token_word.ensures
    ∙ ap (λ t. old ++ content_text t c.args.bound.now) (sym c.in-Other.is))
    c.push_member-in-Other.ensures
