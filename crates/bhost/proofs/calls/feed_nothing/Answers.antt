use Rattle.std.proofs.Common.{subst, sym, ℕ}
use Rattle.std.specs.Prelude.{⊤}
use Rattle.bhost.specs.Statuses.{Answers}
use Rattle.bhost.specs.declared.desk.Deed.TheVariants as deed
use Rattle.bhost.proofs.Refusing.{refused}
use Rattle.bhost.proofs.calls.feed_nothing.Goals as goal

pub returns-clause-feeds : goal.returns-clause-feeds
returns-clause-feeds c bytes some =
    let program = c.args.host.now.read in let old = c.args.host.now.run in let new = c.ask-desk.new.self.run in
    subst (λ (status : ℕ). Answers deed.Feed bytes program old new status (λ _ _. ⊤)) (sym c.unfed_status.ensures)
    (refused program old new bytes c.ask-desk.result.bytes.items c.ask-desk.result.answer some
    (rw c.new.ensures.items at c.ask-desk.ensures.acts))
