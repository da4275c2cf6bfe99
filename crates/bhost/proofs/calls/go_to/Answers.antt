use Rattle.std.proofs.Common.{ℕ, List, inr, subst}
use Rattle.bhost.specs.Deeds.{ActsIfReady}
use Rattle.bhost.specs.declared.desk.Deed.TheVariants as deed
use Rattle.bhost.proofs.calls.go_to.Goals as goal

pub returns-clause-goes : goal.returns-clause-goes
returns-clause-goes c =
    let desk = c.ask-desk.result in
    let old = c.args.host.now in
    let new = c.ask-desk.new.self in
    let acts =
    subst (λ (bytes : List ℕ). ActsIfReady (deed.ContinueTo c.in-Ok.list c.args.steps) bytes old.read old.run new.run desk.bytes.items desk.answer)
    c.new.ensures.items c.ask-desk.ensures.acts in
    inr (
      c.in-Ok.list,
      c.in-Ok.ensures.listed,
      (desk.bytes.items, desk.answer, acts, c.status_of.ensures, c.value_of.ensures),
    )
