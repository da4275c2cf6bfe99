use Rattle.std.proofs.Common.{◌≡◌, ◌∙◌, ◌+◌, ◌<◌, ◌≤◌, List, ℕ, [], ◌++◌, ap, append-nil, append_assoc, arith, drop, get_or, length, subst, sym, take, take_all}
use Rattle.std.proofs.lemmas.List.{get_or_read}
use Rattle.bword.specs.ByteEnds.{Writes}
use Rattle.bword.proofs.Putting.{Writes-append}
use Rattle.bwatch.specs.Trails.{trail_text}
use Rattle.bwatch.proofs.Telling.{around, begun_off, broken_off, one_text, told_last, was_written, whole}
use Rattle.bwatch.proofs.trail.Trail.tell.Goals as goal

pub loop-index-init : goal.loop-index-init
loop-index-init g c =
    let old = g.O.ByteOut.outgoing c.args.out.now in
    let new = g.O.ByteOut.outgoing c.tell-told.new.out in
    let wrote = was_written c.as_slice.result.now old new c.tell-told.result c.tell-told.ensures.told c.if-told-ne-DONE.false in
    (subst (λ (xs : List ℕ). Writes old xs new) (c.as_slice.ensures ∙ sym (append-nil c.args.self.now.text)) wrote, c.tell-told.ensures.same)

pub loop-index-preserved : goal.loop-index-preserved
loop-index-preserved g c =
    let text = c.args.self.now.text in
    let items = c.args.self.now.last.items in
    let i = c.loop-index.index in
    let old = g.O.ByteOut.outgoing c.args.out.now in
    let mid = g.O.ByteOut.outgoing c.loop-index.out in
    let new = g.O.ByteOut.outgoing c.tell-told-in-loop-index.new.out in
    let line = c.as_slice-in-loop-index.result.now in
    let within : i < length items = omega (arith, c.loop-index-test.true, c.len-index-end.ensures, c.args.self.now.last.ok.0) in
    let is : line ≡ get_or items i [] = c.as_slice-in-loop-index.ensures ∙ get_or_read items _ _ within c.index.ensures [] in
    let wrote = was_written line mid new c.tell-told-in-loop-index.result c.tell-told-in-loop-index.ensures.told c.if-told-ne-DONE-2.false in (
      subst (λ (xs : List ℕ). Writes old xs new) (ap (λ x. (text ++ whole (take i items)) ++ x) is ∙ one_text text items i within) (Writes-append c.loop-index.invariant.0 wrote),
      c.tell-told-in-loop-index.ensures.same ∙ c.loop-index.invariant.1,
    )

pub returns-then-told-ne-DONE-clause-told : goal.returns-then-told-ne-DONE-clause-told
returns-then-told-ne-DONE-clause-told g c =
    let told = c.args.self.now in
    let after = whole told.last.items ++ told.row in
    begun_off c.as_slice.result.now after (trail_text told) (g.O.ByteOut.outgoing c.args.out.now) (g.O.ByteOut.outgoing c.tell-told.new.out) c.tell-told.result
    (ap (λ x. x ++ after) c.as_slice.ensures ∙ sym (append_assoc told.text (whole told.last.items) told.row)) c.tell-told.ensures.told c.if-told-ne-DONE.true

pub returns-then-told-ne-DONE-2-clause-told : goal.returns-then-told-ne-DONE-2-clause-told
returns-then-told-ne-DONE-2-clause-told g c =
    let told = c.args.self.now in
    let items = told.last.items in
    let i = c.loop-index.index in
    let before = told.text ++ whole (take i items) in
    let line = c.as_slice-in-loop-index.result.now in
    let after = whole (drop (i + 1) items) ++ told.row in
    let within : i < length items = omega (arith, c.loop-index-test.true, c.len-index-end.ensures, told.last.ok.0) in
    let is : line ≡ get_or items i [] = c.as_slice-in-loop-index.ensures ∙ get_or_read items _ _ within c.index.ensures [] in
    broken_off before line after (trail_text told) (g.O.ByteOut.outgoing c.args.out.now) (g.O.ByteOut.outgoing c.loop-index.out) (g.O.ByteOut.outgoing c.tell-told-in-loop-index.new.out) c.tell-told-in-loop-index.result
    (ap (λ x. (before ++ x) ++ after) is ∙ around told.text items i told.row within) c.loop-index.invariant.0 c.tell-told-in-loop-index.ensures.told c.if-told-ne-DONE-2.true

pub returns-clause-told : goal.returns-clause-told
returns-clause-told g c =
    let told = c.args.self.now in
    let items = told.last.items in
    let i = c.loop-index.index in
    let long : length items ≤ i = omega (arith, c.loop-index-test.false, c.len-index-end.ensures, told.last.ok.0) in
    let same : (told.text ++ whole (take i items)) ++ c.as_slice-2.result.now ≡ trail_text told = ap (λ xs. (told.text ++ whole xs) ++ c.as_slice-2.result.now) (take_all i items long) ∙ ap (λ x. (told.text ++ whole items) ++ x) c.as_slice-2.ensures in
    told_last (told.text ++ whole (take i items)) c.as_slice-2.result.now (trail_text told) (g.O.ByteOut.outgoing c.args.out.now) (g.O.ByteOut.outgoing c.loop-index.out) (g.O.ByteOut.outgoing c.tell.new.out) c.tell.result
    same c.loop-index.invariant.0 c.tell.ensures.told
