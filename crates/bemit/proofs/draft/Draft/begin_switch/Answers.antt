use Rattle.std.proofs.Common.{◌≡◌, ◌<◌, ◌∷◌, None, not, length, ap, ◌∙◌, sym, subst, ltb-true}
use Rattle.bemit.specs.Drafts.{most_switches}
use Rattle.bemit.specs.Switches.{AreNumbered}
use Rattle.bemit.proofs.SwitchLemmas.{numbered-begin}
use Rattle.bemit.proofs.DraftLemmas.{no_fault, begun-is}
use Rattle.bemit.proofs.draft.Draft.begin_switch.Goals as goal

pub invariant_of-self-else-not-begin : goal.invariant_of-self-else-not-begin
invariant_of-self-else-not-begin c =
    let room : length c.self.inside.switches < most_switches = ltb-true _ _ (sym c.begin.ensures.room ∙ c.if-not-begin.false) in
    let new = c.begin.ensures.begun c.if-not-begin.false ∙ ap (λ n. n ∷ c.self.inside.switches) c.next_number-number.ensures in (
      c.self.invariant.0,
      subst (λ l. AreNumbered l c.self.inside.buffer.cases c.self.inside.buffer.defaults) (sym new) (numbered-begin c.self.inside.switches c.self.inside.buffer.cases c.self.inside.buffer.defaults c.self.invariant.1 room),
    )

pub returns-else-not-begin : goal.returns-else-not-begin
returns-else-not-begin c =
    let room : length c.self.inside.switches < most_switches = ltb-true _ _ (sym c.begin.ensures.room ∙ c.if-not-begin.false) in
    let new = c.begin.ensures.begun c.if-not-begin.false ∙ ap (λ n. n ∷ c.self.inside.switches) c.next_number-number.ensures in
    let none : c.self.inside.fault ≡ None = no_fault c.self.inside.fault (c.is_none.ensures ∙ ap not c.if-is_none.true) in
    rw (← c.self.view_is, new)
    (begun-is c.self.inside.fault c.self.inside.is_over c.self.inside.buffer c.self.inside.scope c.self.inside.values.items c.self.inside.frame c.self.inside.loops c.self.inside.switches none c.self.invariant.1 room)
