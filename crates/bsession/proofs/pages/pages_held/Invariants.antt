use Rattle.std.proofs.Common.{◌≡◌}
use Rattle.bpages.specs.PagedStores.{paged_words}
use Rattle.bsession.specs.Sessions.{pages_with_words}
use Rattle.bsession.proofs.pages.pages_held.Given as goal

abbrev pub invariant-loop-page : goal.invariant-loop-page
invariant-loop-page l = l.held ≡ pages_with_words (paged_words l.store) l.page
