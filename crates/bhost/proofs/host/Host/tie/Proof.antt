-- `tie` lends the program for a lifetime of its own.
use Rattle.core.specs.Prelude.{IsSome}
use Rattle.std.proofs.Common.{List, [], ◌∷◌, ◌++◌, refl, w64, sym, subst}
use base.Fraction.{full_share}
use mir.Val.{Val, vint}
use base.Logic.{SProp, ent, id⊢}
use base.Fml.{ftrue, fsep, flft}
use prog.Wp.{WpFn}
use contract.BorrowLft.{⊑_static, ⊑_refl}
use contract.Monad.{fact}
use contract.Running.{tables}
use types.Kit.{‵, raw, ◌⊛◌, later, ◌$◌, ◌∵◌, !, qed, move, keep, drop, use2, join, split, fsplit, fjoin, rewrite, await, suffices, feq_i, done}
use types.Part.{whole, sub, agg}
use types.Run.{stop, fld, lit, no_more, and_then, of_opd, returns, enter}
use types.ByLocal.{alloc_all, pass_all, free_all, look_at, get, get_in, sets}
use types.Tokens.{lft_new, bor_new}
use denote.Exit.{yes}
use denote.RattleType.{RattleType}
use denote.RawPtr.{Ptr, null_ptr, ptr_val}
use denote.Signature.{plain}
use denote.Steps.{heard, nothing}
use denote.Struct.Lending.{lent_at, Lends-lies}
use Rattle.core.proofs.mem.Facts.{says_two}
use denote.Triple.Walked.{Stays, stay_dropped, walk_of, ends_at, Goes-dropped}
use Rattle.core.specs.declared.option.Option.{Option}
use Rattle.core.specs.declared.option.Option.TheVariants.{Some, None}
use Rattle.std.proofs.raw_atomic.Walks.{proved_at}
use Rattle.bhost.specs.Blocks.{chunk}
use Rattle.bhost.specs.Places.{placed_owns}
use Rattle.bhost.specs.contracts.loaded.LoadedProgram as LoadedProgram
use Rattle.bhost.specs.contracts.host.Host as host
use Rattle.bhost.specs.contracts.host.Host.tie as f
use Rattle.bhost.proofs.Hosting.{word, ptr_good, both_good, place_good, some_of, host_in, place_out, OfPlace}
use Rattle.bhost.proofs.host.Host.tie.Statement.{statement}
use Rattle.bhost.proofs.host.Host.tie.Code as code
use Rattle.bhost.proofs.loaded.LoadedProgram.TheLaws as laws

abbrev stayed : Stays f.ended.signature.params f.ended.kept
stayed = (stay_dropped (plain (λ _. OfPlace LoadedProgram.the_row)) yes, tt)

pub tie_spec : {M : Type 1} → statement M
tie_spec 𝓤 𝓛 𝓜 𝓡 wired =
    let c = f.clauses 𝓛 𝓜.mem 𝓡.returns in let H = 𝓛.H in let 𝓣 = tables 𝓤 H 𝓜 𝓡 𝓡.env in let R : RattleType = LoadedProgram.the_row in
    proved_at 𝓛 f.ended stayed c 𝓜 𝓡 (Goes-dropped 𝓛 0 (plain (λ _. OfPlace R)) yes (λ κs x w. refl), tt)
    f.Key.name code.function (code.unfolded 𝓤 H 𝓜 𝓡 wired) (λ z are.
    let d = z.0.3.0 in let vs : List Val = z.0.4.0 in let p : Ptr = d.at in
    let Post : Val → SProp 𝓤 = (walk_of 𝓛 f.ended stayed c).post z in
    let Run : List Val → SProp 𝓤 = λ ws. WpFn 𝓤 H 𝓣.C 𝓣.Λ code.function ws Post in
    qed 𝓛 ((‵ ftrue ⊛ ‵ (fsep ((OfPlace R).own_val d vs) ftrue)) ∷ raw (fact 𝓤 (IsSome d.value)) ∷ []) ∵
    move ! (1 ∷ []) $ heard ! (IsSome d.value) (λ is. let there = some_of d.value is in let x : R.Denot = there.0 in
    split ! $ drop ! $ fsplit ! $ place_out R ! d vs (λ hv ev fits. keep ! (0 ∷ []) $
    rewrite ! 0 (λ (o : Option R.Denot). ‵ (placed_owns (λ σ q. chunk σ q) R p o)) there.1 refl $
    let v = word (ptr_val p) hv in let w = word (vint w64 0) (ptr_val p) in
    suffices ! (Run (v ∷ [])) (subst (λ (ws : List Val). ent 𝓤 (Run (v ∷ [])) (Run ws)) (sym (λ i. ev i ++ [])) (id⊢ 𝓤 (Run (v ∷ [])))) $
    enter ! 𝓣.C 𝓣.Λ code.function (v ∷ []) Post $ alloc_all ! (λ ls. pass_all ! refl (place_good p hv fits, tt) $
    -- a lifetime begins, and the program is lent for it
    fsplit ! $ lft_new ! tt (λ a. let made : host.the_row.Denot = record { session = null_ptr; program = p; run = None; read = Some x } in
    move ! (1 ∷ []) $ bor_new ! tt (a ∷ []) $ move ! (0 ∷ 2 ∷ []) $
    use2 𝓛 (later (‵ (lent_at R p x (a ∷ [])) ⊛ ‵ (flft (a ∷ []) full_share)))
    (Lends-lies 𝓛 R [] p x (laws.the_row_laws.shares 𝓛 x) (a ∷ []) ((a ∷ [], full_share) ∷ []) (⊑_static (a ∷ [])) (⊑_refl (a ∷ []))) $ await ! tt $ split ! $
    -- [the program, lent; the lifetime; what gives it back; the right to free it]
    move ! (0 ∷ 3 ∷ []) $ fjoin ! $ move ! (2 ∷ 0 ∷ []) $ fjoin ! $ move ! (1 ∷ 0 ∷ []) $ fjoin ! $ feq_i ! Ptr null_ptr null_ptr refl $ move ! (1 ∷ 0 ∷ []) $
    sets ! (of_opd ! (get_in ! (fld ! refl (stop !)) (sub ! 0 refl (whole !)))) refl (ptr_good p) $
    sets ! (of_opd ! (get ! refl)) refl (ptr_good p) $
    sets ! (agg ! (and_then ! (lit ! tt) (and_then ! (get ! refl) (no_more !)))) refl (both_good null_ptr p) $
    host_in ! a made x $
    returns ! (look_at ! 0 refl) $ free_all ! refl $ keep ! (0 ∷ []) $
    suffices ! _ (ends_at 𝓛 f.ended stayed c z w made (tt, tt) (tt, tt)) $ says_two ! (refl, sym there.1) $
    nothing ! $ nothing ! $ fjoin ! $ join ! $ nothing ! $ join ! $ done !)))))
