-- The program of a run that never ends wants more fuel at every number.
use Rattle.std.proofs.Common.{◌≡◌, refl, subst, map}
use Rattle.blang.specs.Code.{code_of}
use Rattle.blang.specs.Layout.{World, Ending}
use Rattle.blang.specs.Machine.{State, Halted, image_of}
use Rattle.blang.specs.Value.{Answer, Gives, Ends, Wants}
use Rattle.blang.specs.Meaning.{meant}
use Rattle.bmean.specs.Laws.{OfCode, MeantIsDone}
use Rattle.bendless.specs.Endless.{IsRunning, WantsForEver}
use Rattle.bendless.proofs.Again.{never_ends}

-- an answer that is no end wants more fuel
wants_unless : (a : Answer ⊥) → ((e : Ending) (w : World) → a ≡ Ends e w → ⊥) → (w : World) × (a ≡ Wants w)
wants_unless (Gives v w) no_end = elim v [ ]
wants_unless (Ends e w) no_end = elim (no_end e w refl) [ ]
wants_unless (Wants w) no_end = (w, refl)

halted_or_running : (s : State) (e : Ending) (w : World) → s ≡ Halted e w → IsRunning s → ⊥
halted_or_running s e w halted runs = subst IsRunning halted runs

pub wants_for_ever : OfCode MeantIsDone → OfCode WantsForEver
wants_for_ever done ds loads input m n again k =
    wants_unless (meant ds input k)
    (λ e w ends.
    let halts = done ds loads input k e w ends in
    halted_or_running _ e w halts.1 (never_ends (image_of (map code_of ds)) input m n again halts.0))
