use Rattle.std.proofs.Common.{◌≡◌, ◌∙◌, true, false, refl, sym}
use Rattle.std.proofs.lemmas.Result.{on_ok_weaker}
use Rattle.bshow.specs.Steps.{may_show}
use Rattle.bshow.proofs.Recorded.{awaited}
use Rattle.bshow.proofs.recorder.RecorderOnlooker.before.Goals as goal

pub returns-then-self : goal.returns-then-self
returns-then-self g c =
    let t = c.args.self.now in
    let rows = record t.rows { step = c.see.new.self } in
    on_ok_weaker c.see.result (λ seen first sights at has.
    awaited first t (record t { shows = c.may_show-self.result; hears = c.calls_getchar-self.result; rows = rows }) c.args.stepper.now sights c.args.made (record { tables = refl; which = refl; program = refl; page = refl; last = refl; calls = refl; calls_at = refl; heard = refl; output = refl })
    c.may_show-self.ensures c.calls_getchar-self.ensures (λ shown. seen) at has) c.see.ensures

pub returns-else-self : goal.returns-else-self
returns-else-self g c first sights at has =
    let t = c.args.self.now in
    let hidden : may_show t.which c.args.made ≡ false = sym c.may_show-self.ensures ∙ c.if-self.false in
    awaited first t (record t { shows = c.may_show-self.result; hears = c.calls_getchar-self.result }) c.args.stepper.now sights c.args.made (record { tables = refl; which = refl; program = refl; page = refl; last = refl; calls = refl; calls_at = refl; heard = refl; output = refl })
    c.may_show-self.ensures c.calls_getchar-self.ensures (λ shown. absurd (true_false (sym shown ∙ hidden))) at has
  where
    true_false : true ≡ false → ⊥
    true_false e = cc
