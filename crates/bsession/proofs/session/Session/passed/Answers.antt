use Rattle.std.proofs.Common.{◌≡◌, ◌∙◌, ◌≤◌, ℕ, List, None, Some, ap, arith, drop, length, subst, sym}
use Rattle.std.proofs.lemmas.Bool.{ltb-false}
use Rattle.std.specs.FinSet as set
use Rattle.bmach.specs.Stepping.{operands_held}
use Rattle.bpages.specs.PagedStores.{pages_of}
use Rattle.bsession.proofs.HeldPages.{no_more_than_made}
use Rattle.bsession.proofs.session.Session.passed.Goals.{else-made-self-via-then-made-self+else-pages_held-self, else-made-self-via-else-made-self}
use Rattle.bsession.specs.Sessions.{PassesAt, SessionView, pages_held, session_view, state_of}
use Rattle.bsession.specs.declared.session.Held.TheVariants as held
use Rattle.bsession.specs.declared.session.Stand.{Stand}
use Rattle.bsession.proofs.session.Session.passed.Goals as goal

pub returns-then-pages_held-self : goal.returns-then-pages_held-self
returns-then-pages_held-self c =
    let s = c.self.inside in
    let more = c.if-pages_held-self.true in
    let count : c.pages_held.result ≡ pages_held c.in-Goes.stepper.store = c.pages_held.ensures ∙ ap pages_held c.store-store.ensures in
    subst (λ (h : SessionView). PassesAt h.state h (Some held.Pages)) c.self.view_is
    (subst (λ (t : Stand). PassesAt (state_of t) (session_view t s.input s.out.bytes s.taken s.steps s.limits) (Some held.Pages)) (sym c.in-Goes.is)
    (omega (arith, more, count)))

pub returns : goal.returns
returns c =
    let s = c.self.inside in
    let few : operands_held c.in-Goes.stepper ≤ s.limits.operands =
    ltb-false s.limits.operands (operands_held c.in-Goes.stepper) (sym c.has_operands_above.ensures ∙ c.if-has_operands_above.false) in
    let pages : pages_held c.in-Goes.stepper.store ≤ s.limits.pages = elim c.else-made-self.branch [
      | else-made-self-via-then-made-self+else-pages_held-self w ↦
          let few = w.if-pages_held-self.false in
          let count : w.pages_held.result ≡ pages_held c.in-Goes.stepper.store = w.pages_held.ensures ∙ ap pages_held c.store-store.ensures in
          omega (arith, few, count)
      | else-made-self-via-else-made-self w ↦
          let few = w.if-made-self.false in
          let made = c.made.ensures.count in
          let no_more : pages_held c.in-Goes.stepper.store ≤ set.len (pages_of c.store-store.result.now) =
          subst (λ (ws : List ℕ). pages_held ws ≤ set.len (pages_of c.store-store.result.now)) c.store-store.ensures (no_more_than_made c.store-store.result.now) in
          omega (arith, few, made, no_more)
    ] in
    let short = c.if-output-self.false in
    let output : c.output.result.now ≡ drop s.taken s.out.bytes = c.output.ensures ∙ sym (ap (λ (h : SessionView). h.output) c.self.view_is) in
    let size = ap length output in
    subst (λ (h : SessionView). PassesAt h.state h None) c.self.view_is
    (subst (λ (t : Stand). PassesAt (state_of t) (session_view t s.input s.out.bytes s.taken s.steps s.limits) None) (sym c.in-Goes.is)
    (record {
      operands = few;
      pages = pages;
      output = omega (arith, short, size);
    }))
