use Rattle.std.proofs.Common.{◌≡◌, ◌∙◌, ℕ, below_more, drop, false, sym, take}
use Rattle.bcheck.specs.UndefinedNames.{is_word_at}
use Rattle.bcheck.proofs.named.first_word.Goals as goal

pub loop-start-preserved : goal.loop-start-preserved
loop-start-preserved c =
    let source = c.args.source.now in
    let IsNone : ℕ → Type 0 = λ n. is_word_at c.args.name.now (take n source) (drop n source) ≡ false in
    below_more IsNone c.loop-start.start c.loop-start.invariant (sym c.is_word_at.ensures ∙ c.if-is_word_at.false)
