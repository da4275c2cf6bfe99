use Rattle.std.proofs.Common.{◌≡◌, ◌∙◌, ◌*◌, ℕ, true, arith, sym, subst}
use Rattle.bpages.specs.PagedStores.{paged_words}
use Rattle.bsession.specs.Sessions.{has_word}
use Rattle.bsession.proofs.HeldPages.{no_word_first, no_word_next, unmade_page, word_there}
use Rattle.bsession.proofs.pages.has_word.Goals as goal

pub returns-then-not-has_page : goal.returns-then-not-has_page
returns-then-not-has_page c =
    sym (unmade_page c.args.store.now c.args.page c.ranges.page.fits (sym c.has_page.ensures ∙ c.if-not-has_page.true))

pub loop-index-init : goal.loop-index-init
loop-index-init c = no_word_first (paged_words c.args.store.now) (c.from-first.result * 256)

pub loop-index-preserved : goal.loop-index-preserved
loop-index-preserved c =
    no_word_next (paged_words c.args.store.now) (c.from-first.result * 256) c.loop-index.index c.loop-index.invariant
    (sym c.get.ensures.value ∙ c.if-get-ne0.false)

pub returns-then-get-ne0 : goal.returns-then-get-ne0
returns-then-get-ne0 c =
    let words = paged_words c.args.store.now in
    let from = c.from-first.ensures in
    let first : c.from-first.result * 256 ≡ 256 * c.args.page = omega (arith, from) in
    let value = c.get.ensures.value in
    let lt = c.loop-index-test.true in
    sym (subst (λ (k : ℕ). has_word words k 256 ≡ true) first
    (word_there words (c.from-first.result * 256) c.loop-index.index 256 (λ blank. c.if-get-ne0.true (value ∙ blank)) lt))
