-- How a source comes to be a program, or to its fault.
use Rattle.std.proofs.Common.{◌≡◌, ◌∙◌, ℕ, List, [], ◌++◌, Bool, true, false, None, Result, Ok, Err, IfOk, ap, refl, sym, subst, ◌⊎◌, inl, inr}
use Rattle.std.specs.Prelude.{MatchResult}
use Rattle.bword.specs.declared.edition.Edition.{Edition}
use Rattle.bword.specs.ByteEnds.{Unread, incoming_of}
use Rattle.bword.proofs.Remaining.{rest_after}
use Rattle.bword.proofs.Taking.{Took-append}
use Rattle.bcode.specs.declared.fault.CodeFault.TheVariants as code_fault
use Rattle.blang.specs.declared.code.Definition.{Definition}
use Rattle.blang.specs.declared.token.Diagnostic.{Diagnostic}
use Rattle.blang.specs.Compiles.{CompilesTo}
use Rattle.blang.specs.Cut.{tokens_from}
use Rattle.bgrammar.proofs.GoesLaws.{each_source_comes}
use Rattle.bparse.specs.CodeLists.{ListGives, kept_of}
use Rattle.bparse.specs.Compilers.{Compiler, CompilerGives}
use Rattle.bparse.specs.declared.step.Step.{Step}
use Rattle.bparse.specs.declared.step.Step.TheVariants as step
use Rattle.bparse.proofs.CompileSteps.{answers, compiles_between, device, last_not_closed, last_not_written}
use Rattle.blang.specs.Layout.{load_fault}
use Rattle.bmach.specs.Resolved.{IsLoadedFrom}
use Rattle.btools.specs.Programs.{HasFault, HasNoProgram, IsCodeOf, IsThisProgram, LoadGives, WasCompiled, nothing_written}
use Rattle.btools.specs.declared.program.Program.{Program}
use Rattle.btools.specs.declared.program.ProgramFault.{ProgramFault}
use Rattle.btools.specs.declared.program.ProgramFault.TheVariants as why
use Rattle.btools.proofs.Compiled as compiled
use Rattle.btools.proofs.Compiled.{follows}
use Rattle.bmach.proofs.MachineExcluded.{not_grown}

-- a wrong line is no want of memory
pub no_line : (n : ℕ) → code_fault.Line n ≡ code_fault.Memory → ⊥
no_line n e = cc

-- a compiler of this source that has read it from its beginning
abbrev Reads : Edition → List ℕ → Compiler → Type 0
Reads edition source c =
    (c.first.edition ≡ edition) × (c.first.source ≡ incoming_of (record { left = source; is_over = false }))

-- the diagnostic with which a compiler of a source stops is the one that the source comes to
stopped : (edition : Edition) (source : List ℕ) (old new : Compiler) (fault : Diagnostic) → Reads edition source old → CompilerGives old (step.Fault fault) new → HasFault edition source fault
stopped edition source old new fault reads gives r g =
    let since = gives.0.since in
    let s = gives.1 gives.0.before since in
    let rest = rest_after old.first.source new.tokens.source.end (since.taken ++ s.taken) source (Took-append since.took s.took) (ap (λ i. i.left) reads.1)
    (λ over. absurd (never old.first.source.is_over over (ap (λ i. i.is_over) reads.1))) in
    let goes : CompilesTo [] (tokens_from old.first.edition 1 ((since.taken ++ s.taken) ++ rest.more)) r =
    subst (λ e. CompilesTo [] (tokens_from e 1 ((since.taken ++ s.taken) ++ rest.more)) r) (sym reads.0) (subst (λ t. CompilesTo [] (tokens_from edition 1 t) r) (sym rest.whole) g) in
    (s.comes rest.more rest.follows r goes).1
  where
    never : (b : Bool) → b ≡ true → b ≡ false → ⊥
    never b p q = cc

-- what compiling a source over memory answers, and the definitions that it gives
module _ (edition : Edition) (source : List ℕ) (first following : Unread) (answer : Step) (ds : List Definition) (is : first ≡ record { left = source; is_over = false })
    (h : ListGives edition (incoming_of first) answer (incoming_of following) ds) where
  gives : ListGives edition (incoming_of (record { left = source; is_over = false })) answer (incoming_of following) ds
  gives = subst (λ (i : Unread). ListGives edition (incoming_of i) answer (incoming_of following) ds) is h

  -- the definitions are those of the source
  pub code_whole : answer ≡ step.Finished → IsCodeOf edition source ds
  code_whole end =
      let all = gives.all end nothing_written in
      let taken = all.compiles.taken in
      let follow = follows source following taken all.compiles.took in
      subst (λ t. IsCodeOf edition t ds) (sym all.compiles.took.bytes)
      (λ r g. ((all.compiles.compiled refl following.left follow r g).clean, sym (all.code refl following.left follow r g)))

  pub fault_whole : (d : Diagnostic) → answer ≡ step.Fault d → HasFault edition source d
  fault_whole d faulty =
      let h = answers faulty gives.gives in
      let l = h.gives in
      stopped edition source l.old h.last d (ap (λ x. x.edition) l.keeps_old.first ∙ h.edition_is, ap (λ x. x.source) l.keeps_old.first ∙ h.source) l.gives

  -- no device fails over memory
  no_device : answer ≡ step.Device → ⊥
  no_device fails =
      let some = each_source_comes [] edition 1 source in
      let kept = kept_of gives.list in
      let failed : WasCompiled edition source nothing_written nothing_written kept.bytes 133 = record {
        following = following;
        kept = kept;
        code_is = refl;
        compiles = compiles_between nothing_written nothing_written (answers fails gives.gives) (λ first last l. device first last _ _ l refl);
      } in
      not_grown 0 0 refl refl (compiled.device edition source some.0 some.1 nothing_written nothing_written kept.bytes failed)

  -- what comes last is nothing else than the end, a fault or refused memory
  pub never_so : (answer ≡ step.Written) ⊎ ((answer ≡ step.Device) ⊎ (answer ≡ step.Closed)) → ⊥
  never_so (inl written) = last_not_written (answers written gives.gives).gives
  never_so (inr (inl device)) = no_device device
  never_so (inr (inr closed)) = last_not_closed (answers closed gives.gives).gives

-- definitions of a source that are loaded
pub loaded : (edition : Edition) (source : List ℕ) (ds : List Definition) (r : Result Program ProgramFault) → IsCodeOf edition source ds → LoadGives ds r → MatchResult r (IsThisProgram edition source) (HasNoProgram edition source)
loaded edition source ds (Ok p) is gives = record {
  code = subst (IsCodeOf edition source) (sym gives.0) is;
  loads = subst (λ (x : List Definition). load_fault x ≡ None) (sym gives.0) gives.1;
  loaded = subst (λ (x : List Definition). IsLoadedFrom x p.image) (sym gives.0) gives.2;
}
loaded edition source ds (Err (why.Faulty d)) is gives = absurd gives
loaded edition source ds (Err (why.Unread n)) is gives = absurd gives
loaded edition source ds (Err (why.Unlined n w)) is gives = absurd gives
loaded edition source ds (Err (why.Unnamed n w)) is gives = absurd gives
loaded edition source ds (Err (why.Unloaded f)) is gives = (ds, is, gives)
loaded edition source ds (Err why.Memory) is gives = tt

pub if_ok : {X E : Type 0} (r : Result X E) (P Q : X → Type 0) → ((x : X) → P x → Q x) → IfOk r P → IfOk r Q
if_ok (Ok x) P Q f h = f x h
if_ok (Err e) P Q f h = h
