use Rattle.std.proofs.Common.{◌≡◌, ◌+◌, ◌%◌, ◌∙◌, ◌∷◌, [], ℕ, List, ap, drop, length, refl, subst, if◌then◌else◌}
use Rattle.std.proofs.Math.Seq.{drop-append_seam}
use Rattle.std.proofs.lemmas.Result.{on_ok_weaker}
use Rattle.bshow.specs.Steps.{DidSo}
use Rattle.bshow.proofs.Recorded.{hidden_seen, shown_seen}
use Rattle.bshow.proofs.recorder.RecorderOnlooker.after.Goals as goal

pub returns-then-not-self : goal.returns-then-not-self
returns-then-not-self g c first sights at has run =
    let t = c.args.self.now in
    let read : List ℕ = if t.hears then c.operand.result % 256 ∷ [] else [] in
    hidden_seen first t (record t { calls = c.follow_calls.new.calls; calls_at = c.args.made + 1; output = c.push.new.self; heard = c.push_heard.new.heard }) c.args.stepper.now sights c.args.made c.args.written.now read
    refl refl refl c.in_ok-follow_calls.ensures refl c.in_ok-push.ensures c.in_ok-push_heard.ensures (ap (λ w. if t.hears then w % 256 ∷ [] else []) c.operand.ensures) at run (has run) c.if-not-self.true refl

pub returns : goal.returns
returns g c =
    let t = c.args.self.now in
    let read : List ℕ = if t.hears then c.operand.result % 256 ∷ [] else [] in
    let new = record t { calls = c.follow_calls.new.calls; calls_at = c.args.made + 1; output = c.push.new.self; heard = c.push_heard.new.heard; rows = c.keep.new.self } in
    let heard : c.since-read.result.now ≡ read =
    c.since-read.ensures ∙ (λ i. drop (length (c.as_slice-heard.ensures i)) ((c.as_slice.ensures ∙ c.in_ok-push_heard.ensures) i)) ∙ drop-append_seam t.heard read in
    on_ok_weaker c.keep.result (λ keeps first sights at has run.
    shown_seen first t new c.args.stepper.now sights c.args.made c.args.written.now read
    refl refl refl c.in_ok-follow_calls.ensures refl c.in_ok-push.ensures c.in_ok-push_heard.ensures (ap (λ w. if t.hears then w % 256 ∷ [] else []) c.operand.ensures) at run (has run) c.if-not-self.false
    c.did.new.self (subst (λ r. DidSo t.rows.step c.args.stepper.now.store r c.args.written.now c.did.new.self) heard c.in_ok-did.ensures) keeps) c.keep.ensures
