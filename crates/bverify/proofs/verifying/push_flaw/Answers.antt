use Rattle.std.proofs.Common.{◌≡◌, ◌++◌, sym, subst}
use Rattle.std.specs.Prelude.{OnOk}
use Rattle.bverify.specs.Verifies.{flaw_text}
use Rattle.bverify.proofs.verifying.push_flaw.Goals as goal

pub returns-in-Differs : goal.returns-in-Differs
returns-in-Differs c =
    subst (λ f. OnOk c.push_differing.result (c.push_differing.new.text ≡ c.args.text.now ++ flaw_text f)) (sym c.in-Differs.is) c.push_differing.ensures

pub returns-in-Leaves : goal.returns-in-Leaves
returns-in-Leaves c =
    subst (λ f. OnOk c.push_leaving.result (c.push_leaving.new.text ≡ c.args.text.now ++ flaw_text f)) (sym c.in-Leaves.is) c.push_leaving.ensures

pub returns-in-Unreached : goal.returns-in-Unreached
returns-in-Unreached c =
    subst (λ f. OnOk c.push-in-Unreached.result (c.push-in-Unreached.new.self ≡ c.args.text.now ++ flaw_text f)) (sym c.in-Unreached.is) c.push-in-Unreached.ensures
