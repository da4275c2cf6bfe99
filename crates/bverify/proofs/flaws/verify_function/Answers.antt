use Rattle.std.proofs.Common.{◌≡◌, ◌≤◌, Some, false, ap, ◌∙◌, length, subst}
use Rattle.std.specs.Prelude.{IfOk}
use Rattle.blang.specs.CodeParts.{Function}
use Rattle.bverify.specs.Depths.{AreClosed, Depths, Fits, depth_at}
use Rattle.bverify.specs.Flaws.{some_can_be_stuck}
use Rattle.bverify.proofs.flaws.verify_function.Goals as goal

pub returns-clause-fits : goal.returns-clause-fits
returns-clause-fits c =
    let targets = c.deref.ensures.value ∙ ap (λ f. Function.targets f) c.parts-parts.ensures.same in
    let code = c.deref-2.ensures.value ∙ ap (λ f. Function.code f) c.parts-parts.ensures.same in
    subst (λ t. IfOk c.verify_code.result (λ v. some_can_be_stuck v.flaws.items ≡ false → Fits t c.args.function.now.code v.depths.items)) targets
    (subst (λ k. IfOk c.verify_code.result (λ v. some_can_be_stuck v.flaws.items ≡ false → Fits c.deref.result.now k v.depths.items)) code c.verify_code.ensures.fits)

pub returns-clause-never_idly : goal.returns-clause-never_idly
returns-clause-never_idly c =
    let targets = c.deref.ensures.value ∙ ap (λ f. Function.targets f) c.parts-parts.ensures.same in
    let code = c.deref-2.ensures.value ∙ ap (λ f. Function.code f) c.parts-parts.ensures.same in
    subst (λ t. IfOk c.verify_code.result (λ v. (depths : Depths) → Fits t c.args.function.now.code depths → some_can_be_stuck v.flaws.items ≡ false)) targets
    (subst (λ k. IfOk c.verify_code.result (λ v. (depths : Depths) → Fits c.deref.result.now k depths → some_can_be_stuck v.flaws.items ≡ false)) code c.verify_code.ensures.never_idly)

pub returns-clause-begun : goal.returns-clause-begun
returns-clause-begun c =
    let code = c.deref-2.ensures.value ∙ ap (λ f. Function.code f) c.parts-parts.ensures.same in
    subst (λ k. IfOk c.verify_code.result (λ v. 1 ≤ length k → depth_at v.depths.items 0 ≡ Some 0)) code
    c.verify_code.ensures.begun

pub returns-clause-closed : goal.returns-clause-closed
returns-clause-closed c =
    let targets = c.deref.ensures.value ∙ ap (λ f. Function.targets f) c.parts-parts.ensures.same in
    let code = c.deref-2.ensures.value ∙ ap (λ f. Function.code f) c.parts-parts.ensures.same in
    subst (λ t. IfOk c.verify_code.result (λ v. AreClosed t c.args.function.now.code v.depths.items)) targets
    (subst (λ k. IfOk c.verify_code.result (λ v. AreClosed c.deref.result.now k v.depths.items)) code
    c.verify_code.ensures.closed)
