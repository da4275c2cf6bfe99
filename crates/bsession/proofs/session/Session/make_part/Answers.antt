use Rattle.std.proofs.Common.{◌≡◌, ◌∙◌, ℕ, ◌+◌, ap, arith, drop, length, min, refl, subst, sym}
use Rattle.bword.specs.ByteEnds.{outgoing_of}
use Rattle.bmach.specs.Slices.{SliceGives}
use Rattle.bmach.specs.Stepping.{Paused}
use Rattle.bsession.specs.Sessions.{Goes, SessionState, SessionView, SliceComesTo, allowed, counted, end_of, fed_incoming, session_view, state_after, state_of}
use Rattle.bsession.specs.declared.session.Stand.{Stand}
use Rattle.bsession.specs.declared.session.SliceEnd.TheVariants as end
use Rattle.bsession.proofs.Parts.{none_made}
use Rattle.bsession.proofs.Sessions.{IsKnown, same_mark, slice_gives}
use Rattle.bsession.proofs.session.Session.make_part.Goals as goal

pub invariant_of-self : goal.invariant_of-self
invariant_of-self c = c.self.invariant

pub returns : goal.returns
returns c p is =
    let first = c.in-Goes.stepper in
    let s = c.self.inside in
    let q = c.slice-stop.new.self in
    let stop = c.slice-stop.result in
    let f = s.input in
    let g = c.slice-stop.new.input in
    let o = s.out in
    let w = c.slice-stop.new.out in
    let n = c.args.steps in
    let known : IsKnown g = record { over = c.known.ensures.over; failed = c.known.ensures.failed } in
    let old : SessionView = record { state = Goes first; unread = f.unread; is_closed = f.is_closed; output = drop s.taken o.bytes; steps = s.steps; limits = s.limits } in
    let old_is : old ≡ c.args.self.now =
    ap (λ (t : Stand). session_view t f o.bytes s.taken s.steps s.limits) (sym c.in-Goes.is) ∙ c.self.view_is in
    let goes : Goes first ≡ Goes p = ap (λ (h : SessionView). h.state) old_is ∙ is in
    let first_is : first ≡ p = cc in
    let most : c.min-most.result ≡ allowed old n = let a = c.min.ensures in let b = c.min-most.ensures in omega (arith, a, b) in
    let gives = subst (λ (m : ℕ). SliceGives first q m (fed_incoming f) (fed_incoming g) (outgoing_of o) (outgoing_of w) stop stop.outcome) most c.slice-stop.ensures.gives in
    let comes = slice_gives first q f g o w s.taken s.steps n s.limits stop c.self.invariant known (same_mark f g c.slice-stop.ensures.input) c.slice-stop.ensures.image stop.outcome refl (let some = c.if-most-eq0.false in omega (arith, some, most)) gives in
    let steps : s.steps + c.counted.result ≡ s.steps + counted stop.outcome stop.steps (allowed old n) =
    ap (λ m. s.steps + m) (c.counted.ensures ∙ ap (counted stop.outcome stop.steps) most) in
    subst (λ (h : SessionView). SliceComesTo p h
    (record { state = state_of c.end_part.new.stand; unread = g.unread; is_closed = g.is_closed; output = drop c.taken_of-self-inside.result w.bytes; steps = s.steps + c.counted.result; limits = s.limits }) n (end_of stop.outcome)) old_is
    (subst (λ (p : Paused). SliceComesTo p old
    (record { state = state_of c.end_part.new.stand; unread = g.unread; is_closed = g.is_closed; output = drop c.taken_of-self-inside.result w.bytes; steps = s.steps + c.counted.result; limits = s.limits }) n (end_of stop.outcome)) first_is
    (subst (λ (t : SessionState). SliceComesTo first old
    (record { state = t; unread = g.unread; is_closed = g.is_closed; output = drop c.taken_of-self-inside.result w.bytes; steps = s.steps + c.counted.result; limits = s.limits }) n (end_of stop.outcome)) (sym (c.end_part.ensures q refl))
    (subst (λ (k : ℕ). SliceComesTo first old
    (record { state = state_after stop.outcome stop q; unread = g.unread; is_closed = g.is_closed; output = drop k w.bytes; steps = s.steps + c.counted.result; limits = s.limits }) n (end_of stop.outcome)) (sym c.taken_of-self-inside.ensures)
    (subst (λ (m : ℕ). SliceComesTo first old
    (record { state = state_after stop.outcome stop q; unread = g.unread; is_closed = g.is_closed; output = drop (min s.taken (length w.bytes)) w.bytes; steps = m; limits = s.limits }) n (end_of stop.outcome)) (sym steps) comes))))

pub returns-then-most-eq0 : goal.returns-then-most-eq0
returns-then-most-eq0 c p is =
    let old = c.args.self.now in
    let n = c.args.steps in
    let steps : c.self.inside.steps ≡ old.steps = ap (λ (h : SessionView). h.steps) c.self.view_is in
    let none : 0 ≡ allowed old n = let a = c.min.ensures in let b = c.min-most.ensures in let nothing = c.if-most-eq0.true in omega (arith, a, b, nothing, steps) in
    none_made p old n end.Limit is (none, (p, is))
