use Rattle.std.proofs.Common.{◌∙◌, ◌+◌, ap, arith, sym}
use Rattle.bpages.specs.PagedStores.{paged_words}
use Rattle.bword.specs.Words.{flag_of}
use Rattle.bsession.proofs.HeldPages.{few_pages, one_page, pages_first}
use Rattle.bsession.proofs.pages.pages_held.Goals.{then-has_word, else-has_word}
use Rattle.bsession.proofs.pages.pages_held.Goals as goal

pub loop-page-init : goal.loop-page-init
loop-page-init c = sym (pages_first (paged_words c.args.store.now))

pub overflow_add-held : goal.overflow_add-held
overflow_add-held c =
    let held = c.loop-page.invariant in
    let few = few_pages (paged_words c.args.store.now) c.loop-page.page in
    let lt = c.loop-page-test.true in
    omega (arith, held, few, lt)

pub loop-page-preserved : goal.loop-page-preserved
loop-page-preserved c =
    let words = paged_words c.args.store.now in
    let page = c.loop-page.page in
    let next = one_page words page c.loop-page.held c.has_word.result c.loop-page.invariant c.has_word.ensures in
    elim c.if-has_word.branch [
      | then-has_word w ↦ w.held-is ∙ ap (λ b. c.loop-page.held + flag_of b) (sym w.if-has_word.true) ∙ next
      | else-has_word w ↦ w.held-is ∙ (let none = ap flag_of w.if-has_word.false in omega (arith, none)) ∙ next
    ]
