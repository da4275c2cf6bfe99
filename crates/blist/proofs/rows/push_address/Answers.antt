use Rattle.std.proofs.Common.{◌≡◌, ◌++◌, ◌-◌, ◌∙◌, List, ℕ, ap, decimal, length}
use Rattle.std.proofs.lemmas.Result.{on_ok_weaker}
use Rattle.blist.proofs.AddedRows.{address_added}
use Rattle.blist.proofs.rows.push_address.Goals as goal

pub returns : goal.returns
returns c =
    let number = decimal c.args.address in
    let digits : c.as_bytes-digits.result.now ≡ number = c.as_bytes-digits.ensures.value ∙ c.format.ensures.text in
    let blanks : c.saturating_sub.result ≡ 5 - length number = c.saturating_sub.ensures ∙ ap (λ (d : List ℕ). 5 - length d) digits in
    on_ok_weaker c.push-2.result (λ e. address_added c.args.text.now c.push_blanks.new.self c.push.new.self c.push-2.new.self number c.saturating_sub.result blanks
    c.in_ok-push_blanks.ensures c.in_ok-push.ensures (e ∙ ap (λ (d : List ℕ). c.push.new.self ++ d) digits)) c.push-2.ensures
