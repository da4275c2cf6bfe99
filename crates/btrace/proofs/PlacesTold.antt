-- The place that is told of a run is the one where the machine was.
use Rattle.std.proofs.Common.{◌≡◌, ◌∙◌, ℕ, zero, suc, ◌+◌, ◌-◌, ◌≤◌, ⊎_elim, List, [], ◌++◌, None, Option, Some, ap, arith, refl, subst, sym}
use Rattle.std.proofs.lemmas.Bool.{cases_order}
use Rattle.btools.specs.Origins.{Origin}
use Rattle.blang.specs.declared.code.Definition.{Definition}
use Rattle.blang.specs.declared.run.Outcome.{Outcome}
use Rattle.blang.specs.declared.run.Outcome.TheVariants as outcome
use Rattle.blang.specs.declared.run.Trap.{Trap}
use Rattle.blang.specs.declared.status.TheConstants.{LIMIT, TRAP}
use Rattle.blang.specs.Machine.{Halted, Image, Running, State, Stuck, image_of, machine, machine_started, steps}
use Rattle.blang.specs.Layout.{first_world}
use Rattle.blang.specs.Reports.{RunEnds, state_outcome}
use Rattle.bmach.specs.Stops.{EndsAt, RunsCall, active_of}
use Rattle.bmach.specs.declared.machine.Active.{Active}
use Rattle.bmach.proofs.Running.{steps_add}
use Rattle.bsources.specs.Files.{Files}
use Rattle.btools.specs.Programs.{located_status}
use Rattle.btrace.specs.Locates.{told_site}
use Rattle.std.specs.Prelude.{IfSome}
use Rattle.bendless.specs.declared.endless.Endless.{Endless}
use Rattle.bendless.specs.Repeats.{RunsForEver}
use Rattle.btrace.specs.PlacesTold.{PlacesTold, TellsPlaceOf}
use Rattle.btrace.specs.RowTexts.{legend_in}
use Rattle.btrace.proofs.TraceExcluded.{Stops, limit_is, line_in, stops_so}

-- a machine that runs a call runs one alone
one_call : (s : State) (a b : Active) → RunsCall s a → RunsCall s b → a ≡ b
one_call s a b h k =
    let same : Running h.call h.below h.world ≡ Running k.call k.below k.world = sym h.state_is ∙ k.state_is in
    let call : h.call ≡ k.call = cc in
    sym h.active_is ∙ ap active_of call ∙ k.active_is

runs_on : (s : State) (a : Active) (kind : Trap) → RunsCall s a → state_outcome s ≡ outcome.Trap kind → ⊥
runs_on s a kind h over = let bad : outcome.Limit ≡ outcome.Trap kind = ap state_outcome (sym h.state_is) ∙ over in cc

-- after a trap the machine stays as it is
stays : (image : Image) (n : ℕ) (s : State) (kind : Trap) → state_outcome s ≡ outcome.Trap kind → steps image n s ≡ s
stays image zero s kind over = refl
stays image (suc n) (Running call below w) kind over = cc
stays image (suc n) (Halted e w) kind over = stays image n (Halted e w) kind over
stays image (suc n) (Stuck w) kind over = stays image n (Stuck w) kind over

stays_on : (ds : List Definition) (input : List ℕ) (made n : ℕ) (kind : Trap) → made ≤ n → state_outcome (machine ds input made) ≡ outcome.Trap kind → state_outcome (machine ds input n) ≡ outcome.Trap kind
stays_on ds input made n kind within over =
    let I = image_of ds in
    let all : made + (n - made) ≡ n = omega (arith, within) in
    ap state_outcome (ap (machine ds input) (sym all) ∙ steps_add I made (n - made) (machine_started I I.main (first_world I input)) ∙ stays I (n - made) (machine ds input made) kind over) ∙ over

-- no two steps of a run are traps
one_trap : (ds : List Definition) (input : List ℕ) (m n : ℕ) (a b : Active) (k l : Trap) → RunsCall (machine ds input m) a → RunsCall (machine ds input n) b
    → state_outcome (machine ds input (m + 1)) ≡ outcome.Trap k → state_outcome (machine ds input (n + 1)) ≡ outcome.Trap l → m ≡ n
one_trap ds input m n a b k l runs others first second =
    ⊎_elim (λ e. e)
    (⊎_elim
    (λ less. absurd (runs_on (machine ds input n) b k others (stays_on ds input (m + 1) n k (omega (arith, less)) first)))
    (λ more. absurd (runs_on (machine ds input m) a l runs (stays_on ds input (n + 1) m l (omega (arith, more)) second))))
    (cases_order m n)

trap_is : (result : Outcome) → located_status result ≡ Some 130 → (kind : Trap) × (result ≡ outcome.Trap kind)
trap_is (outcome.Exit n) e = cc
trap_is (outcome.Trap kind) e = (kind, refl)
trap_is outcome.Limit e = let bad : ◌≡◌ {A = ℕ} 131 130 = cc in absurd (omega (arith, bad))
trap_is outcome.Device e = cc
trap_is outcome.Memory e = cc

module _ (origin : Origin) (source : List ℕ) (files : Files) (ds : List Definition) (n : ℕ) (ends : RunEnds) (text : List ℕ) where
  at_limit : (call : Active) → ((input : List ℕ) → RunsCall (machine ds input n) call) → Stops files origin source ds n ends text 131 → (again : Option Endless) × TellsPlaceOf origin source files ds n ends text (line_in files outcome.Limit) outcome.Limit call n again
  at_limit call runs s =
      let limit = limit_is files s.result s.located in
      let e = subst (λ x. EndsAt (machine ds s.input) n x s.active s.made) limit s.stops in
      let same = one_call (machine ds s.input n) s.active call e.0 (runs s.input) in (
        s.again,
        (
          s.places,
          s.lined,
          s.text_is ∙ (λ i. line_in files (limit i) ++ told_site (legend_in ds s.places files) source (limit i) (same i) (e.1 i) s.again),
        ),
      )

  endless_told : Stops files origin source ds n ends text 131 → (call : Active) × (again : Option Endless) × TellsPlaceOf origin source files ds n ends text (line_in files outcome.Limit) outcome.Limit call n again × IfSome again (λ e. RunsForEver (machine ds) ends.input ends.input_after)
  endless_told s =
      let limit = limit_is files s.result s.located in
      let e = subst (λ x. EndsAt (machine ds s.input) n x s.active s.made) limit s.stops in (
        s.active,
        s.again,
        (
          s.places,
          s.lined,
          s.text_is ∙ (λ i. line_in files (limit i) ++ told_site (legend_in ds s.places files) source (limit i) s.active (e.1 i) s.again),
        ),
        s.endless,
      )

  -- a run with a trap doesn't run for ever
  none_again : (again : Option Endless) (last : ℕ) (kind : Trap) → ((input : List ℕ) → state_outcome (machine ds input last) ≡ outcome.Trap kind) → IfSome again (λ e. RunsForEver (machine ds) ends.input ends.input_after) → again ≡ None
  none_again None last kind over endless = refl
  none_again (Some r) last kind over endless =
      let runs = endless.runs [] (λ e. refl) last in
      let bad : outcome.Limit ≡ outcome.Trap kind = sym runs ∙ over (endless.taken ++ []) in
      cc

  at_trap : (call : Active) (last : ℕ) (kind : Trap) → ((input : List ℕ) → RunsCall (machine ds input last) call) → ((input : List ℕ) → state_outcome (machine ds input (last + 1)) ≡ outcome.Trap kind)
      → Stops files origin source ds n ends text 130 → TellsPlaceOf origin source files ds n ends text (line_in files (outcome.Trap kind)) (outcome.Trap kind) call (last + 1) None
  at_trap call last kind runs over s =
      let t = trap_is s.result s.located in
      let e = subst (λ x. EndsAt (machine ds s.input) n x s.active s.made) t.1 s.stops in
      let here : e.0 ≡ last = one_trap ds s.input e.0 last s.active call t.0 kind e.2 (runs s.input) e.3 (over s.input) in
      let same = one_call (machine ds s.input last) s.active call (subst (λ m. RunsCall (machine ds s.input m) s.active) here e.2) (runs s.input) in
      let result : s.result ≡ outcome.Trap kind = t.1 ∙ sym (subst (λ m. state_outcome (machine ds s.input (m + 1)) ≡ outcome.Trap t.0) here e.3) ∙ over s.input in
      let made : s.made ≡ last + 1 = e.4 ∙ ap (λ m. m + 1) here in
      let none = none_again s.again (last + 1) kind over s.endless in (
        s.places,
        s.lined,
        s.text_is ∙ (λ i. line_in files (result i) ++ told_site (legend_in ds s.places files) source (result i) (same i) (made i) (none i)),
      )

pub places_told : PlacesTold
places_told origin source files ds n ends text = record {
  at_limit = λ call runs h. at_limit origin source files ds n ends text call runs
      (stops_so files origin source ds h.compiles n ends LIMIT (omega arith) h.begins text h.before h.after h.some h.locates);
  never_ends = λ h. endless_told origin source files ds n ends text
      (stops_so files origin source ds h.compiles n ends LIMIT (omega arith) h.begins text h.before h.after h.some h.locates);
  at_trap = λ call last kind within runs over h. at_trap origin source files ds n ends text call last kind runs over
      (stops_so files origin source ds h.compiles n ends TRAP (omega arith) h.begins text h.before h.after h.some h.locates);
}
