use Rattle.std.proofs.Common.{◌≡◌, None, not, ap, ◌∙◌, sym, subst}
use Rattle.blang.specs.Scan.{rest_of}
use Rattle.bemit.specs.Buffers.{Buffer}
use Rattle.bemit.specs.Switches.{AreNumbered}
use Rattle.bemit.proofs.DraftLemmas.{no_fault, innermost-first, IsSound-arms, numbered-ended, ended-is}
use Rattle.bemit.proofs.draft.Draft.end_switch.Goals as goal

pub invariant_of-self : goal.invariant_of-self
invariant_of-self c =
    let there = innermost-first c.self.inside.switches c.in-Some.switch (sym c.end.ensures.number ∙ c.in-Some.is) in
    let left = c.end.ensures.rest ∙ ap rest_of there.1 in
    let rest = c.take_default.ensures.rest in (
      IsSound-arms c.self.inside.scope c.self.inside.buffer c.take_default.new.self c.self.inside.values.items c.self.inside.frame c.self.inside.is_over c.self.invariant.0 (ap (λ (b : Buffer). b.code) rest) (ap (λ (b : Buffer). b.strings) rest),
      subst (λ l. AreNumbered l c.take_default.new.self.cases c.take_default.new.self.defaults) (sym left)
          (numbered-ended c.in-Some.switch c.self.inside.switches there.0 c.self.inside.buffer c.take_default.new.self there.1 c.self.invariant.1 rest),
    )

pub returns-in-Some : goal.returns-in-Some
returns-in-Some c =
    let none : c.self.inside.fault ≡ None = no_fault c.self.inside.fault (c.is_none.ensures ∙ ap not c.if-is_none.true) in
    let there = innermost-first c.self.inside.switches c.in-Some.switch (sym c.end.ensures.number ∙ c.in-Some.is) in
    let left = c.end.ensures.rest ∙ ap rest_of there.1 in
    rw (← c.self.view_is, there.1, left, c.take_default.ensures.rest)
    (ended-is c.self.inside.fault c.self.inside.is_over c.self.inside.buffer c.self.inside.scope c.self.inside.values.items c.self.inside.frame c.self.inside.loops c.in-Some.switch there.0 none (rw there.1 at c.self.invariant.1))
