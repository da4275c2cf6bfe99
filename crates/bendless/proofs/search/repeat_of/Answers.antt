use Rattle.std.proofs.Common.{◌≡◌, List, ℕ, ◌++◌, [], subst, true}
use Rattle.std.specs.Prelude.{IfSome}
use Rattle.blang.specs.Machine.{run}
use Rattle.bendless.specs.Repeats.{Repeats}
use Rattle.bendless.proofs.search.repeat_of.Goals as goal

pub returns-in_ok-store-in-Limit-Whole-clause-repeats : goal.returns-in_ok-store-in-Limit-Whole-clause-repeats
returns-in_ok-store-in-Limit-Whole-clause-repeats c =
    subst (λ (bytes : List ℕ). IfSome c.find_repeat.result (λ r. (more : List ℕ) → (c.args.read.now.is_over ≡ true → more ≡ []) → Repeats (run c.args.image.now (bytes ++ more)) r))
    c.as_slice.ensures.value c.find_repeat.ensures
