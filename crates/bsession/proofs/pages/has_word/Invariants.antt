use Rattle.std.proofs.Common.{◌≡◌, false}
use Rattle.bpages.specs.PagedStores.{paged_words}
use Rattle.bsession.specs.Sessions.{has_word}
use Rattle.bsession.proofs.pages.has_word.Given as goal

abbrev pub invariant-loop-index : goal.invariant-loop-index
invariant-loop-index l = has_word (paged_words l.store) l.first l.index ≡ false
