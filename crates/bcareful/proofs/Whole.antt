-- What comes of a program that is run carefully.
use Rattle.std.specs.Prelude.{IfSome}
use Rattle.std.proofs.Common.{◌≡◌, ◌∙◌, ◌+◌, ◌<◌, ◌^◌, ℕ, List, [], Option, ap, arith, false, refl, subst, sym, true}
use Rattle.bword.specs.ByteEnds.{Incoming, Outgoing}
use Rattle.blang.specs.declared.code.Definition.{Definition}
use Rattle.blang.specs.declared.run.Outcome.TheVariants as outcome
use Rattle.blang.specs.Machine.{Image, Loaded, States}
use Rattle.blang.specs.Reports.{Reported, RunEnds}
use Rattle.bmach.specs.Stepping.{IsUnstarted, Paused}
use Rattle.bmach.specs.declared.machine.Stop.{Stop}
use Rattle.bendless.specs.Repeats.{IsEndless}
use Rattle.bendless.specs.declared.endless.Endless.{Endless}
use Rattle.btools.specs.Functions.{functions_of}
use Rattle.btools.specs.Origins.{NamesOf, PlacesOf, ProgramOf, SourcePlaces}
use Rattle.btools.specs.Programs.{steps_from}
use Rattle.btools.specs.declared.names.Frame.{Frame}
use Rattle.btrace.specs.RowTexts.{Legend, legend_in}
use Rattle.bwatch.specs.Sights.{Sight, sight_at}
use Rattle.bwatch.proofs.Origins.{loaded_in}
use Rattle.bcareful.specs.Things.{Atlas, atlas_in}
use Rattle.bcareful.specs.Carefuls.{CarefulGives, IsClean, IsFound}
use Rattle.bcareful.specs.Runs.{CarefulAsked, Runs, finds_wraps, found, stays, unfound, warned}
use Rattle.bcareful.specs.Tellings.{Tells, TellsOver, careful_text}
use Rattle.bcareful.specs.Warned.{WarnGives, told_after}
use Rattle.bcareful.specs.declared.watching.Ended.TheVariants as ended
use Rattle.bcareful.specs.declared.watching.Found.{Found}
use Rattle.bcareful.proofs.Loaded.{clean_alike, found_alike, gives_alike, warned_alike}

-- a step after the one at which a run stays is one that can be counted
pub counted : (a : Atlas) (functions : List Loaded) (states : States) (n : ℕ) (i j : Incoming) (p : Paused) (f : Found) → n < 2 ^ 64 → IsFound a functions states n i j p f → f.made + 1 < 2 ^ 64
counted a functions states n i j p f fits is =
    let lt : f.made < n = (is.stays [] (λ over. refl)).within in
    omega (arith, lt, fits)

module _ (asked : CarefulAsked) (source : List ℕ) (ends : RunEnds) (status : ℕ) (ds : List Definition) (image : Image) (frames : List Frame) (places : SourcePlaces) (p now : Paused) (is : ProgramOf asked.origin source ds image) (named : NamesOf asked.origin source frames)
    (lined : PlacesOf asked.origin source places) (begins : IsUnstarted image p) (a : Atlas) (whole : a ≡ atlas_in ds frames (finds_wraps asked.care)) (legend : Legend) (same : legend ≡ legend_in ds places asked.files) where
  abbrev n : ℕ
  n = asked.steps

  abbrev b : Atlas
  b = atlas_in ds frames (finds_wraps asked.care)

  abbrev l : Legend
  l = legend_in ds places asked.files

  -- that a run never ends
  abbrev Again : Option Endless → Type 0
  Again again = IfSome again (IsEndless ds image (functions_of ds) frames ends.input ends.input_after)

  -- a run without a finding
  pub unfound_whole : (stop : Stop) (again : Option Endless) → stays asked.care ≡ true → IsClean a p.image.functions (steps_from p) n ends.input ends.input_after ends.out ends.out_after stop
      → Again again → TellsOver legend source stop again ends.line ends.line_after status → Runs asked source ends status
  unfound_whole stop again staying clean comes told =
      let g : IsClean b p.image.functions (steps_from p) n ends.input ends.input_after ends.out ends.out_after stop =
      subst (λ (x : Atlas). IsClean x p.image.functions (steps_from p) n ends.input ends.input_after ends.out ends.out_after stop) whole clean in
      unfound ds image frames places stop again is named lined staying (clean_alike ds image p (loaded_in asked.origin source ds image is) begins b n ends.input ends.input_after ends.out ends.out_after stop g) comes
      (subst (λ (x : Legend). TellsOver x source stop again ends.line ends.line_after status) same told)

  -- one that stays at a finding
  pub found_whole : (f : Found) → stays asked.care ≡ true → CarefulGives a p.image.functions (steps_from p) n ends.input ends.input_after ends.out ends.out_after now (ended.Found f)
      → ((output : List ℕ) → Tells (careful_text a legend source (sight_at now output) f) ends.line ends.line_after status) → Runs asked source ends status
  found_whole f staying gives told =
      let g : CarefulGives b p.image.functions (steps_from p) n ends.input ends.input_after ends.out ends.out_after now (ended.Found f) =
      subst (λ (x : Atlas). CarefulGives x p.image.functions (steps_from p) n ends.input ends.input_after ends.out ends.out_after now (ended.Found f)) whole gives in
      let here = found_alike ds image p (loaded_in asked.origin source ds image is) begins b n ends.input ends.input_after now f g.1 in
      found ds image frames places f (careful_text a legend source (sight_at now []) f) is named lined staying
      (record {
        now = now;
        gives = gives_alike ds image p (loaded_in asked.origin source ds image is) begins b n ends.input ends.input_after ends.out ends.out_after outcome.Limit g.0;
        is = here;
        tells = λ more can. (λ k. careful_text (whole k) (same k) source (sight_at now []) f)
            ∙ ap (λ (s : Sight). careful_text b l source s f) (sym (here.stays more can).seen);
      })
      (told [])

  -- one that goes on
  pub warned_whole : (stop : Stop) (again : Option Endless) (text : List ℕ) (told : Outgoing) (answer : ℕ) → stays asked.care ≡ false
      → WarnGives a legend source p.image.functions (steps_from p) n ends.input ends.input_after ends.out ends.out_after stop text
      → Again again → TellsOver legend source stop again ends.line told answer → Reported (told_after answer text) answer told ends.line_after status → Runs asked source ends status
  warned_whole stop again text told answer going gives comes over reported =
      let g : WarnGives b l source p.image.functions (steps_from p) n ends.input ends.input_after ends.out ends.out_after stop text =
      subst (λ (x : Legend). WarnGives b x source p.image.functions (steps_from p) n ends.input ends.input_after ends.out ends.out_after stop text) same
      (subst (λ (x : Atlas). WarnGives x legend source p.image.functions (steps_from p) n ends.input ends.input_after ends.out ends.out_after stop text) whole gives) in
      warned ds image frames places stop again text told answer is named lined going (warned_alike ds image p (loaded_in asked.origin source ds image is) begins b l source n ends.input ends.input_after ends.out ends.out_after stop text g) comes
      (subst (λ (x : Legend). TellsOver x source stop again ends.line told answer) same over) reported
