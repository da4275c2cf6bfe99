use Rattle.std.proofs.Common.{◌∙◌, ap, length, subst, sym}
use Rattle.std.proofs.lemmas.Option.{slice_get-get_or}
use Rattle.blint.specs.Noticed.{notice_at}
use Rattle.blint.proofs.FirstNotices.{said_of}
use Rattle.blint.proofs.ToldSteps.{ToldUpTo, all_below, up_to_more, up_to_none}
use Rattle.blint.proofs.telling.told.Goals as goal

pub loop-token-init : goal.loop-token-init
loop-token-init c = record {
  firsts = c.in_ok-firsts.ensures;
  told = λ rising. subst (ToldUpTo _ _ _ 0) (sym c.new-cautions.ensures.items) (up_to_none _ _ _);
}

pub loop-token-preserved : goal.loop-token-preserved
loop-token-preserved c =
    let i = c.loop-token.invariant in
    let n = c.loop-token.token in
    let ns = c.args.notices.now in
    let said = c.notice_at-notice.ensures ∙ ap (λ l. notice_at l n) (c.as_slice.ensures.value ∙ i.firsts) ∙ said_of ns (length c.args.tokens.now.places.now) n c.loop-token-test.true in
    record {
      firsts = i.firsts;
      told = λ rising. up_to_more _ _ ns n _ _ _ _ _ _ _ rising (slice_get-get_or _ _ _ c.loop-token-test.true) c.due-warning.ensures c.warning_of.ensures said c.in_ok-rest.ensures c.in_ok-tell_due.ensures (i.told rising);
    }

pub returns : goal.returns
returns c rising = all_below _ _ _ c.loop-token.token _ _ _ c.loop-token-test.false c.in_ok-tell_others.ensures (c.loop-token.invariant.told rising)
