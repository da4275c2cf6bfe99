use Rattle.std.proofs.Common.{◌∙◌, ◌-◌, nat_lt, ap, arith, sym, length, take}
use Rattle.bparse.specs.Locals.{NamedWord, table_words}
use Rattle.bparse.proofs.LocalLaws.{no_word_more, word_more}
use Rattle.btools.proofs.FrameNames.{last_apart, none_left, one_found, shorter, turned, words_so_far}
use Rattle.btools.proofs.names.words_of.Goals as goal

pub offset_bounds-rest-rest : goal.offset_bounds-rest-rest
offset_bounds-rest-rest c = omega (arith, c.loop-rest.invariant.1)

pub loop-rest-preserved-in_ok-push : goal.loop-rest-preserved-in_ok-push
loop-rest-preserved-in_ok-push c =
    let rest = c.loop-rest.rest.now in
    let before = take (length rest - 1) rest in
    let apart = last_apart rest c.entry-item.result c.in-len1-up.len_at_least c.entry-item.is in
    let found = c.loop-rest.words.items in
    let offset = c.in-Automatic.offset in
    let word : NamedWord = record { name = c.entry-item.result.name; offset = offset; is_vector = nat_lt 1 (c.loop-rest.end - offset) } in (
      ap (words_so_far (table_words before offset)) c.in_ok-push.ensures.items
          ∙ one_found (table_words before offset) word found _ (λ i. record { name = c.name.ensures i; offset = offset; is_vector = nat_lt 1 (c.saturating_sub.ensures i) })
          ∙ ap (λ ws. words_so_far ws found) (sym (word_more before c.entry-item.result c.loop-rest.end offset c.kind.result c.kind.ensures c.in-Automatic.is) ∙ ap (λ ns. table_words ns c.loop-rest.end) apart)
          ∙ c.loop-rest.invariant.0,
      shorter rest c.loop-rest.invariant.1,
    )

pub loop-rest-preserved : goal.loop-rest-preserved
loop-rest-preserved c =
    let rest = c.loop-rest.rest.now in
    let before = take (length rest - 1) rest in
    let apart = last_apart rest c.entry-item.result c.in-len1-up.len_at_least c.entry-item.is in (
      ap (λ ws. words_so_far ws c.loop-rest.words.items) (sym (no_word_more before c.entry-item.result c.loop-rest.end c.kind.result c.kind.ensures c.in_default-kind.not-Automatic) ∙ ap (λ ns. table_words ns c.loop-rest.end) apart)
          ∙ c.loop-rest.invariant.0,
      shorter rest c.loop-rest.invariant.1,
    )

pub returns : goal.returns
returns c = turned _ c.loop-rest.words.items c.reverse.new.self.items c.reverse.ensures.items
    (sym (ap (λ ns. words_so_far (table_words ns c.loop-rest.end) c.loop-rest.words.items) (none_left c.loop-rest.rest.now c.in_default.len_below)) ∙ c.loop-rest.invariant.0)
