use Rattle.std.proofs.Common.{◌≡◌, ◌∙◌, List, Some, ap, inl, inr, refl, subst, sym, ℕ}
use Rattle.bcode.specs.Faults.{IsFaultOf}
use Rattle.bcode.specs.declared.fault.CodeFault.{CodeFault}
use Rattle.bcode.specs.declared.fault.CodeFault.TheVariants as code_fault
use Rattle.blang.specs.Layout.{load_fault}
use Rattle.blang.specs.Reports.{HasNotRun, RunEnds}
use Rattle.blang.specs.Text.{IsCodeText}
use Rattle.blang.specs.declared.code.Definition.{Definition}
use Rattle.blang.specs.declared.run.LoadFault.{LoadFault}
use Rattle.blang.specs.declared.run.LoadFault.TheVariants as fault
use Rattle.blang.specs.Machine.{run}
use Rattle.bendless.proofs.Recordings.{comes_back}
use Rattle.bendless.proofs.Searching.{store_fits}
use Rattle.bmach.specs.Loading.{IsFault}
use Rattle.btools.specs.Programs.{load_line}
use Rattle.btools.proofs.Functions.{data_fit}
use Rattle.bwhere.specs.Wheres.{LocatesCode, TellsOrNone, TellsUnloaded, TellsUnread, located, no_memory, not_begun, told_code_site, unlocated, unloaded, unread}
use Rattle.btools.proofs.Stopped.{no_other, not_none, runs_whole, stops_run}
use Rattle.bwhere.proofs.locating.locate_code.Goals as goal
use Rattle.bwhere.proofs.locating.locate_code.Goals.{in_default-located_status-2, in_default-located_status}

module _ (steps : ℕ) (text : List ℕ) (ends : RunEnds) (status : ℕ) (quiet : HasNotRun ends) where
  not_read : (f : CodeFault) → IsFaultOf text f → ((ds : List Definition) → IsCodeText text ds → f ≡ code_fault.Memory)
      → TellsUnread text f ends.line ends.line_after status → LocatesCode steps text ends status
  not_read (code_fault.Line n) is only told =
      unread n is (λ ds h. let bad : code_fault.Line n ≡ code_fault.Memory = only ds h in cc) quiet told
  not_read code_fault.Memory is only told = no_memory (inl is) quiet told.0 told.1

  not_loaded : (ds : List Definition) (f : LoadFault) → IsCodeText text ds → IsFault f (load_fault ds)
      → TellsUnloaded text f (load_line f) ends.line ends.line_after status → LocatesCode steps text ends status
  not_loaded ds fault.Memory is first told = no_memory (inr (ds, is)) quiet told.0 told.1
  not_loaded ds (fault.Duplicate name) is first told = unloaded ds (fault.Duplicate name) is first quiet told
  not_loaded ds fault.TooLarge is first told = unloaded ds fault.TooLarge is first quiet told
  not_loaded ds (fault.Undefined name) is first told = unloaded ds (fault.Undefined name) is first quiet told
  not_loaded ds fault.NoMain is first told = unloaded ds fault.NoMain is first quiet told

pub tell_place-requires : goal.tell_place-requires
tell_place-requires g c =
    let loads = subst (λ (ds : List Definition). load_fault ds ≡ _) (c.deref.ensures.value ∙ sym c.deref-in-Some.ensures.value) c.in-Ok-load_slice.ensures.loads in
    data_fit c.deref-in-Some.result.now loads

pub returns-in-Err-clause-locates : goal.returns-in-Err-clause-locates
returns-in-Err-clause-locates g c =
    not_read c.args.steps c.args.code.now _ c.tell_unread.result (record { unread = refl; silent = refl }) c.in-Err.fault c.in-Err.ensures.fault c.in-Err.ensures.only c.tell_unread.ensures.tells

pub returns-in-Err-load_slice-clause-locates : goal.returns-in-Err-load_slice-clause-locates
returns-in-Err-load_slice-clause-locates g c =
    let is = subst (IsCodeText c.args.code.now) (sym c.deref.ensures.value) c.in-Ok.ensures.ok in
    not_loaded c.args.steps c.args.code.now _ c.tell_unloaded.result (record { unread = refl; silent = refl }) c.deref.result.now c.in-Err-load_slice.fault is c.in-Err-load_slice.ensures.err c.tell_unloaded.ensures.tells

pub returns-in-Err-begin-clause-locates : goal.returns-in-Err-begin-clause-locates
returns-in-Err-begin-clause-locates g c =
    let is = subst (IsCodeText c.args.code.now) (sym c.deref.ensures.value) c.in-Ok.ensures.ok in
    not_begun c.deref.result.now c.in-Ok-load_slice.image c.in-Err-begin.outcome is c.in-Ok-load_slice.ensures.loads c.in-Ok-load_slice.ensures.ok c.in-Err-begin.ensures c.finish.ensures.gives (record { unread = refl; silent = refl })

pub repeat_of-again-requires : goal.repeat_of-again-requires
repeat_of-again-requires g c =
    store_fits c.deref.result.now c.in-Ok-load_slice.image c.in-Ok-load_slice.ensures.loads c.in-Ok-load_slice.ensures.ok

pub returns-in-Some-clause-locates : goal.returns-in-Some-clause-locates
returns-in-Some-clause-locates g c =
    let ds = c.deref.result.now in
    let is = subst (IsCodeText c.args.code.now) (sym c.deref.ensures.value) c.in-Ok.ensures.ok in
    let ran = c.run_recorded-ran in
    let stop = ran.result.stop in
    let again = c.repeat_of-again in
    let image = c.in-Ok-load_slice.image in
    let loaded = c.in-Ok-load_slice.ensures.ok in
    located ds image stop.outcome (g.D.ByteOut.outgoing c.finish-told.new.diag) c.finish-told.result stop.call stop.steps again.result loaded is c.in-Ok-load_slice.ensures.loads
    (runs_whole ds image c.in-Ok-begin.stepper loaded c.in-Ok-begin.ensures c.args.steps _ _ stop.outcome _ _ ran.ensures.gives)
    c.finish-told.ensures.gives (sym c.located_status.ensures ∙ c.in-Some.is ∙ ap Some c.if-status-told.true)
    (stops_run ds image c.in-Ok-begin.stepper loaded c.in-Ok-begin.ensures c.args.steps _ _ stop.outcome stop.call stop.steps ran.ensures.stops)
    (comes_back (run image) _ _ ran.result.record again.result ran.ensures.records again.ensures.whole again.ensures.repeats)
    (subst (λ (es : List Definition). TellsOrNone (told_code_site c.args.code.now es stop.outcome stop.call stop.steps again.result) c.finish-told.result (g.D.ByteOut.outgoing c.finish-told.new.diag) (g.D.ByteOut.outgoing c.tell_place.new.diag) c.tell_place.result)
    (c.deref-in-Some.ensures.value ∙ sym c.deref.ensures.value) c.tell_place.ensures.tells)

pub returns-clause-locates : goal.returns-clause-locates
returns-clause-locates g c =
    let ds = c.deref.result.now in
    let is = subst (IsCodeText c.args.code.now) (sym c.deref.ensures.value) c.in-Ok.ensures.ok in
    let outcome = c.run_recorded-ran.result.stop.outcome in
    let gives = runs_whole ds c.in-Ok-load_slice.image c.in-Ok-begin.stepper c.in-Ok-load_slice.ensures.ok c.in-Ok-begin.ensures c.args.steps _ _ outcome _ _ c.run_recorded-ran.ensures.gives in
    elim c.match-located_status.branch [
      | in_default-located_status-2 w ↦
          rw w.result-is
          (unlocated ds outcome is c.in-Ok-load_slice.ensures.loads gives c.finish-told.ensures.gives
          (no_other _ _ _ (sym c.located_status.ensures ∙ w.in-Some.is) w.if-status-told.false))
      | in_default-located_status w ↦
          rw w.result-is
          (unlocated ds outcome is c.in-Ok-load_slice.ensures.loads gives c.finish-told.ensures.gives
          (not_none _ _ (sym c.located_status.ensures ∙ w.in_default-located_status.is)))
    ]
