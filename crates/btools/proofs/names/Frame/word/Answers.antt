use Rattle.std.proofs.Common.{◌∙◌, ap, map, sym, nat_lt}
use Rattle.std.specs.Option.{option_map}
use Rattle.bparse.specs.Locals.{NamedWord}
use Rattle.btools.specs.FrameNames.{is_shown_at, name_shown, word_seen}
use Rattle.btools.proofs.Finding.{found, missed}
use Rattle.btools.proofs.names.Frame.word.Goals as goal

pub returns-then-is_shown_at : goal.returns-then-is_shown_at
returns-then-is_shown_at c =
    ap (option_map (λ (w : NamedWord). (w.name, nat_lt w.offset c.args.offset)))
    (found word_seen (is_shown_at c.args.offset) c.as_slice-word-items.result.now c.loop-word.word-index c.word-item.result c.loop-word-test.true c.word-item.is c.loop-word.invariant
    (sym c.is_shown_at.ensures ∙ c.if-is_shown_at.true))
    ∙ ap (λ ws. name_shown (map word_seen ws) c.args.offset) c.as_slice-word-items.ensures.value

pub loop-word-preserved : goal.loop-word-preserved
loop-word-preserved c =
    missed word_seen (is_shown_at c.args.offset) c.as_slice-word-items.result.now c.loop-word.word-index c.word-item.result c.loop-word-test.true c.word-item.is c.loop-word.invariant
    (sym c.is_shown_at.ensures ∙ c.if-is_shown_at.false)
