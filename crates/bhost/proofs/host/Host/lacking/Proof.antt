-- `lacking` compares the two pointers with null.
use Rattle.core.specs.Prelude.{IsSome, is_none}
use Rattle.std.proofs.Common.{◌≡◌, List, [], ◌∷◌, ◌++◌, refl, sym, subst, lit<}
use mathlib.Core.Bool.{Bool, true, false, ◌&&◌}
use mir.Syntax.{ty_ptr, ptr_eq}
use mir.Val.{Val, vstruct, vcons, vnil, of_list, has_ty, vbool, vnull, op2_val}
use base.Logic.{SProp, ent, emp, guard_i, id⊢}
use base.Fml.{ftrue, fsep, feq}
use prog.Wp.{WpFn}
use contract.Monad.{fact, fact_i, fact_use}
use contract.Running.{tables}
use types.Logic.{Logic, sem}
use types.Kit.{‵, raw, ◌⊛◌, given, ◌$◌, ◌∵◌, !, qed, move, keep, drop, use0, use1, split, join, fsplit, fjoin, fpick, fpack, feq_i, feq_l, learn, suffices, done}
use types.Part.{whole, sub, agg}
use types.Run.{stop, fld, lit, bin, no_more, and_then, of_opd, returns, enter}
use types.ByLocal.{alloc_all, pass_all, free_all, look_at, get, get_in, sets, is}
use seplogic.Ra.Ura.{Ura}
use denote.Builtin.{RawPtr, bool}
use denote.Exit.{yes}
use denote.RattleType.{RattleType, Valss, owns}
use denote.RawPtr.{Ptr, block_ptr, null_ptr, ptr_val, InBlock, Testable, tests_null, lies_in_block}
use base.Fraction.{full_share}
use denote.Signature.{plain}
use denote.Steps.{heard, nothing}
use denote.Struct.Lending.{in_block_says}
use denote.Struct.Struct.{within}
use denote.Struct.Owning.{shape, to}
use denote.Triple.Walked.{Stays, stay_dropped, walk_of, ends_at, Goes-dropped}
use Rattle.core.proofs.mem.Facts.{says_three}
use Rattle.core.specs.declared.option.Option.{Option}
use Rattle.core.specs.declared.option.Option.TheVariants.{Some, None}
use Rattle.std.proofs.raw_atomic.Walks.{proved_at}
use Rattle.std.proofs.GlobalToken.{dealloc_token-Testable}
use Rattle.std.specs.Box.Ownership.{box_owns}
use Rattle.std_alloc.proofs.ResultValues.{and_tt}
use Rattle.bhost.specs.Blocks.{chunk}
use Rattle.bhost.specs.Places.{placed_owns}
use Rattle.bhost.specs.Hosts.{LoadedValue, SessionValue, for_life, host_owns}
use Rattle.bhost.specs.contracts.host.Host as host
use Rattle.bhost.specs.contracts.host.Host.lacking as f
use Rattle.bhost.proofs.Hosting.{word, ptr_good, both_good, host_word}
use Rattle.bhost.proofs.host.Host.lacking.Statement.{statement}
use Rattle.bhost.proofs.host.Host.lacking.Code as code

-- whether a pointer is null
abbrev none_at : Ptr → Bool
none_at null_ptr = true
none_at (block_ptr b o) = false

compared : (p : Ptr) → op2_val ptr_eq (ptr_val p) vnull ≡ vbool (none_at p)
compared null_ptr = refl
compared (block_ptr b o) = refl

not_none : (p : Ptr) → InBlock p → none_at p ≡ false
not_none (block_ptr b o) t = refl
not_none null_ptr t = absurd t

-- a pointer may be compared, and is null where nothing is there
abbrev Tells : {A : Type 0} → Ptr → Option A → Type 0
Tells p o = Testable p × (none_at p ≡ is_none o)

abbrev Known : Ptr → Option SessionValue → Ptr → Option LoadedValue → Type 0
Known s run p read = Testable s × Tells p read × (IsSome read → none_at s ≡ is_none run)

module _ {M : Type 1} {𝓤 : Ura M} (𝓛 : Logic 𝓤) where
  placed_says : (R : RattleType) (s : Ptr) (o : Option R.Denot)
      → ent 𝓤 (sem 𝓛 (placed_owns (λ σ q. chunk σ q) R s o)) (fact 𝓤 (Tells s o))
  placed_says R s None =
      qed 𝓛 (‵ (feq Ptr s null_ptr) ∷ []) ∵ feq_l ! (λ e.
      use0 𝓛 (raw (fact 𝓤 (Tells {A = R.Denot} s None))) (fact_i 𝓤 (Tells {A = R.Denot} s None) (emp 𝓤) (subst (λ (q : Ptr). Tells {A = R.Denot} q None) (sym e) (lit< tt, refl))) $ done !)
  placed_says R s (Some x) =
      qed 𝓛 (‵ (box_owns (λ σ q. chunk σ q) R s x) ∷ []) ∵ fsplit ! $
      use1 𝓛 (raw (fact 𝓤 (InBlock s))) (lies_in_block 𝓛 R full_share s x) $ heard ! (InBlock s) (λ inb.
      use1 𝓛 (raw (fact 𝓤 (Testable s))) (dealloc_token-Testable 𝓛 _ _ s) $ heard ! (Testable s) (λ t.
      use0 𝓛 (raw (fact 𝓤 (Tells s (Some x)))) (fact_i 𝓤 (Tells s (Some x)) (emp 𝓤) (t, not_none s inb)) $ done !))

  knows : (s : Ptr) (run : Option SessionValue) (p : Ptr) (read : Option LoadedValue)
      → ent 𝓤 (sem 𝓛 (host_owns s run p read)) (fact 𝓤 (Known s run p read))
  knows s run p None =
      qed 𝓛 (‵ (fsep (feq Ptr s null_ptr) (feq Ptr p null_ptr)) ∷ []) ∵ fsplit ! $ feq_l ! (λ es. feq_l ! (λ ep.
      use0 𝓛 (raw (fact 𝓤 (Known s run p None))) (fact_i 𝓤 (Known s run p None) (emp 𝓤)
      (subst (λ (q : Ptr). Testable q) (sym es) (lit< tt), (subst (λ (q : Ptr). Tells {A = LoadedValue} q None) (sym ep) (lit< tt, refl)), λ is. let e = is in cc)) $ done !))
  knows s run p (Some x) =
      qed 𝓛 (‵ (host_owns s run p (Some x)) ∷ []) ∵ fpick ! (λ a. fsplit ! $ fsplit ! $ drop ! $ fsplit ! $ drop ! $ fsplit ! $ fsplit ! $
      use1 𝓛 (raw (fact 𝓤 (InBlock p))) (in_block_says 𝓛 p) $ heard ! (InBlock p) (λ inb. drop ! $
      use1 𝓛 (raw (fact 𝓤 (Testable p))) (dealloc_token-Testable 𝓛 _ _ p) $ heard ! (Testable p) (λ t.
      use1 𝓛 (raw (fact 𝓤 (Tells s run))) (placed_says (for_life (a ∷ [])) s run) $ heard ! (Tells s run) (λ told.
      use0 𝓛 (raw (fact 𝓤 (Known s run p (Some x)))) (fact_i 𝓤 (Known s run p (Some x)) (emp 𝓤) (told.0, (t, not_none p inb), λ is. told.1)) $ done !))))

abbrev stayed : Stays f.ended.signature.params f.ended.kept
stayed = (stay_dropped (plain (λ _. host.the_row)) yes, tt)

pub lacking_spec : {M : Type 1} → statement M
lacking_spec 𝓤 𝓛 𝓜 𝓡 wired =
    let c = f.clauses 𝓛 𝓜.mem 𝓡.returns in let H = 𝓛.H in let 𝓣 = tables 𝓤 H 𝓜 𝓡 𝓡.env in
    proved_at 𝓛 f.ended stayed c 𝓜 𝓡 (Goes-dropped 𝓛 0 (plain (λ _. host.the_row)) yes (λ κs x w. refl), tt)
    f.Key.name code.function (code.unfolded 𝓤 H 𝓜 𝓡 wired) (λ z are.
    let h = z.0.3.0 in let vs : List Val = z.0.4.0 in let s : Ptr = h.session in let p : Ptr = h.program in
    let Post : Val → SProp 𝓤 = (walk_of 𝓛 f.ended stayed c).post z in
    let Run : List Val → SProp 𝓤 = λ ws. WpFn 𝓤 H 𝓣.C 𝓣.Λ code.function ws Post in
    let held = host_owns s h.run p h.read in let K : Type 0 = Known s h.run p h.read in
    qed 𝓛 ((‵ ftrue ⊛ ‵ (fsep ((host.the_row).own_val h vs) ftrue)) ∷ raw (emp 𝓤) ∷ []) ∵ split ! $ drop ! $ fsplit ! $
    host_word ! h vs (λ ev.
    use1 𝓛 (given K (‵ held)) (fact_use 𝓤 K (knows 𝓛 s h.run p h.read) (guard_i 𝓤 K (sem 𝓛 held))) $ learn ! (λ known. keep ! (0 ∷ []) $
    let v = word (ptr_val s) (ptr_val p) in let x = none_at p in let y = none_at s in
    suffices ! (Run (v ∷ [])) (subst (λ (ws : List Val). ent 𝓤 (Run (v ∷ [])) (Run ws)) (sym (λ i. ev i ++ [])) (id⊢ 𝓤 (Run (v ∷ [])))) $
    enter ! 𝓣.C 𝓣.Λ code.function (v ∷ []) Post $ alloc_all ! (λ ls. pass_all ! refl (both_good s p, tt) $
    sets ! (of_opd ! (get_in ! (fld ! refl (stop !)) (sub ! 0 refl (whole !)))) refl (ptr_good s) $
    sets ! (of_opd ! (get_in ! (fld ! refl (stop !)) (sub ! 1 refl (whole !)))) refl (ptr_good p) $
    sets ! (is ! (bin ! (get ! refl) (lit ! tt) (tests_null p known.1.0)) (compared p)) refl (tt, tt) $
    sets ! (is ! (bin ! (get ! refl) (lit ! tt) (tests_null s known.0)) (compared s)) refl (tt, tt) $
    sets ! (agg ! (and_then ! (get ! refl) (and_then ! (get ! refl) (no_more !)))) refl (both_good s p) $
    sets ! (agg ! (and_then ! (get ! refl) (and_then ! (get ! refl) (and_then ! (get ! refl) (no_more !))))) refl
    (and_tt (has_ty ty_ptr (ptr_val s) && (has_ty ty_ptr (ptr_val p) && true)) (both_good s p).0, ((both_good s p).1, (tt, (tt, tt)))) $
    let a : Val = ptr_val s in let b : Val = ptr_val p in
    nothing ! $ feq_i ! (List Val) (b ∷ []) (b ∷ []) refl $ fjoin ! $ feq_i ! (List Val) (a ∷ []) (a ∷ []) refl $ fjoin ! $
    feq_i ! (List Val) (v ∷ []) (v ∷ []) refl $ fjoin ! $
    fpack ! (Valss (RawPtr ∷ RawPtr ∷ [])) (within (shape host.the_type) (to host.the_type h) (v ∷ [])) (a ∷ [], (b ∷ [], tt)) $ fjoin ! $
    use1 𝓛 (‵ ((host.the_row).own_val h (v ∷ []))) (id⊢ 𝓤 _) $
    returns ! (look_at ! 0 refl) $ free_all ! refl $ keep ! (0 ∷ []) $
    let out : Val = vstruct (vcons v (vcons (vbool x) (vcons (vbool y) vnil))) in let Rows : List RattleType = host.the_row ∷ bool ∷ bool ∷ [] in
    nothing ! $ feq_i ! (List Val) (vbool y ∷ []) (vbool y ∷ []) refl $ fjoin ! $ feq_i ! (List Val) (vbool x ∷ []) (vbool x ∷ []) refl $ fjoin ! $ move ! (1 ∷ 0 ∷ []) $ fjoin ! $
    feq_i ! (List Val) (out ∷ []) (out ∷ []) refl $ fjoin ! $
    fpack ! (Valss Rows) (λ uss. fsep (feq (List Val) (out ∷ []) (vstruct (of_list (uss.0 ++ (uss.1.0 ++ (uss.1.1.0 ++ [])))) ∷ [])) (owns Rows (h, (x, (y, tt))) uss)) (v ∷ [], (vbool x ∷ [], (vbool y ∷ [], tt))) $
    suffices ! _ (ends_at 𝓛 f.ended stayed c z out (h, x, y) (tt, tt) (tt, tt)) $ says_three ! (refl, known.1.1, known.2) $
    nothing ! $ nothing ! $ fjoin ! $ join ! $ nothing ! $ join ! $ done !))))
