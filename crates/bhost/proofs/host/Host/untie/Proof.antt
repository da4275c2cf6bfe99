-- `untie` ends the lifetime that the program was lent for.
use Rattle.core.specs.Prelude.{IsSome}
use Rattle.std.proofs.Common.{◌≡◌, List, [], ◌∷◌, ◌++◌, refl, sym, subst}
use mir.Val.{Val}
use base.Logic.{SProp, ent, id⊢}
use base.Fml.{ftrue, fsep}
use prog.Wp.{WpFn}
use contract.Monad.{fact}
use contract.Running.{tables}
use types.Kit.{‵, raw, ◌⊛◌, ◌$◌, ◌∵◌, !, qed, move, keep, drop, use1, join, split, fsplit, fjoin, rewrite, suffices, done}
use types.Part.{whole, sub, agg}
use types.Run.{stop, fld, no_more, and_then, of_opd, returns, enter}
use types.ByLocal.{alloc_all, pass_all, free_all, look_at, get, get_in, sets}
use types.Tokens.{lft_end, lent_back}
use denote.Exit.{yes}
use denote.RawPtr.{ptr_val}
use denote.Signature.{plain}
use denote.Steps.{heard, nothing}
use denote.Triple.Walked.{says, Stays, stay_dropped, walk_of, ends_at, Goes-dropped}
use Rattle.core.proofs.alloc.Calls.{handle_tells}
use Rattle.core.specs.declared.option.Option.{Option}
use Rattle.core.specs.declared.option.Option.TheVariants.{Some, None}
use Rattle.std.proofs.raw_atomic.Walks.{proved_at}
use Rattle.std_heap.specs.contracts.Global as Heap
use Rattle.bhost.specs.Blocks.{chunk}
use Rattle.bhost.specs.Places.{placed_owns}
use Rattle.bhost.specs.Hosts.{LoadedValue}
use Rattle.bhost.specs.contracts.loaded.LoadedProgram as LoadedProgram
use Rattle.bhost.specs.contracts.host.Host as host
use Rattle.bhost.specs.contracts.host.Host.untie as f
use Rattle.bhost.proofs.Hosting.{word, al, ptr_good, both_good, place_good, some_of, host_out, place_in, OfPlace}
use Rattle.bhost.proofs.host.Host.untie.Statement.{statement}
use Rattle.bhost.proofs.host.Host.untie.Code as code

abbrev stayed : Stays f.ended.signature.params f.ended.kept
stayed = (stay_dropped (plain (λ _. host.the_row)) yes, (stay_dropped (plain (λ _. Heap.the_row)) yes, tt))

pub untie_spec : {M : Type 1} → statement M
untie_spec 𝓤 𝓛 𝓜 𝓡 wired =
    let c = f.clauses 𝓛 𝓜.mem 𝓡.returns in let H = 𝓛.H in let 𝓣 = tables 𝓤 H 𝓜 𝓡 𝓡.env in
    proved_at 𝓛 f.ended stayed c 𝓜 𝓡
    (Goes-dropped 𝓛 0 (plain (λ _. host.the_row)) yes (λ κs x w. refl), (Goes-dropped 𝓛 0 (plain (λ _. Heap.the_row)) yes (λ κs x w. refl), tt))
    f.Key.name code.function (code.unfolded 𝓤 H 𝓜 𝓡 wired) (λ z are.
    let h = z.0.3.0 in let a = z.0.3.1.0 in let vs : List Val = z.0.4.0 in let us : List Val = z.0.4.1.0 in
    let Post : Val → SProp 𝓤 = (walk_of 𝓛 f.ended stayed c).post z in
    let Run : List Val → SProp 𝓤 = λ ws. WpFn 𝓤 H 𝓣.C 𝓣.Λ code.function ws Post in
    let made : (OfPlace LoadedProgram.the_row).Denot = record { at = h.program; alloc = a; value = h.read } in
    qed 𝓛 ((‵ ftrue ⊛ ‵ (fsep ((host.the_row).own_val h vs) (fsep ((Heap.the_row).own_val a us) ftrue))) ∷ (raw (fact 𝓤 (h.run ≡ None)) ⊛ raw (fact 𝓤 (IsSome h.read))) ∷ []) ∵
    move ! (1 ∷ []) $ split ! $ heard ! (h.run ≡ None) (λ none. heard ! (IsSome h.read) (λ is. let there = some_of h.read is in let x : LoadedValue = there.0 in
    split ! $ drop ! $ fsplit ! $
    rewrite ! 0 (λ (o : Option LoadedValue). ‵ ((host.the_row).own_val (record { session = h.session; program = h.program; run = h.run; read = o }) vs)) there.1 refl $
    host_out ! h x vs (λ α ev.
    move ! (2 ∷ []) $ fsplit ! $ handle_tells al ! a us (λ hv eu fits. keep ! (2 ∷ 0 ∷ []) $
    let v = word (ptr_val h.session) (ptr_val h.program) in let w = word (ptr_val h.program) hv in
    suffices ! (Run (v ∷ hv ∷ [])) (subst (λ (ws : List Val). ent 𝓤 (Run (v ∷ hv ∷ [])) (Run ws)) (sym (λ i. ev i ++ (eu i ++ []))) (id⊢ 𝓤 (Run (v ∷ hv ∷ [])))) $
    enter ! 𝓣.C 𝓣.Λ code.function (v ∷ hv ∷ []) Post $ alloc_all ! (λ ls. pass_all ! refl (both_good h.session h.program, (fits, tt)) $
    -- the lifetime ends, and what was lent comes back
    fsplit ! $ lft_end ! tt $ move ! (1 ∷ []) $ fsplit ! $ move ! (2 ∷ 0 ∷ []) $ lent_back ! tt $
    move ! (1 ∷ []) $ fsplit ! $ drop ! $ move ! (1 ∷ 0 ∷ []) $ fjoin ! $
    use1 𝓛 (‵ (placed_owns (λ σ p. chunk σ p) LoadedProgram.the_row h.program (Some x))) (id⊢ 𝓤 _) $
    rewrite ! 0 (λ (o : Option LoadedValue). ‵ (placed_owns (λ σ p. chunk σ p) LoadedProgram.the_row h.program o)) (sym there.1) refl $ place_in LoadedProgram.the_row ! hv made $
    sets ! (of_opd ! (get_in ! (fld ! refl (stop !)) (sub ! 1 refl (whole !)))) refl (ptr_good h.program) $
    sets ! (of_opd ! (get ! refl)) refl (ptr_good h.program) $
    sets ! (agg ! (and_then ! (get ! refl) (and_then ! (get ! refl) (no_more !)))) refl (place_good h.program hv fits) $
    returns ! (look_at ! 0 refl) $ free_all ! refl $ keep ! (0 ∷ []) $
    suffices ! _ (ends_at 𝓛 f.ended stayed c z w made (tt, (tt, tt)) (tt, (tt, tt))) $ says ! refl $
    nothing ! $ nothing ! $ fjoin ! $ nothing ! $ fjoin ! $ join ! $ nothing ! $ join ! $ done !))))))
