-- Closed facts: which answers end a stream of code, and that a code text is not refused.
use Rattle.std.specs.Prelude.{◌≡◌, ℕ, true, false, List, [], ◌∷◌, map, replicate, codes, All, refl}
use Rattle.std.proofs.Common.{ap, arith}
use Rattle.bword.specs.declared.edition.Edition.TheVariants as editions
use Rattle.blang.specs.declared.code.Definition.{Definition}
use Rattle.blang.specs.declared.code.Definition.TheVariants as definition
use Rattle.blang.specs.Text.{IsCodeText, IsWithinRanges}
use Rattle.bcode.specs.Readers.{is_last_step}
use Rattle.bcode.specs.declared.code_step.CodeStep.TheVariants as step
use Rattle.bcode.specs.declared.fault.CodeFault.{CodeFault}
use Rattle.bcode.specs.declared.fault.CodeFault.TheVariants as fault

-- all but a definition
last_steps : map is_last_step (
    step.End ∷ step.Fault fault.Memory ∷ step.Fault (fault.Line 1) ∷ step.Device ∷ step.Closed ∷ []
    ) ≡ replicate 5 true
last_steps = refl

not_last : is_last_step (step.Definition (definition.Simple record { name = []; values = []; strings = [] })) ≡ false
not_last = refl

abbrev line_of : CodeFault → ℕ
line_of (fault.Line n) = 1
line_of fault.Memory = 0

-- what is the text of definitions, as this one is, isn't refused for a line
not_refused : (n : ℕ) → ((ds : List Definition) → IsCodeText (codes "E\n") ds → fault.Line n ≡ fault.Memory) → ⊥
not_refused n only =
    let within : All IsWithinRanges [] = λ k d none. absurd (omega (arith, none)) in
    let same : 1 ≡ 0 = ap line_of (only [] (editions.One, record { within = within; spelled = refl })) in
    omega (arith, same)
