-- `act` has the deed done for the lifetime that the program is lent for.
use Rattle.core.specs.Prelude.{IsSome}
use Rattle.std.proofs.Common.{◌≡◌, ℕ, List, [], ◌∷◌, ◌++◌, refl, sym, subst, ap, ◌∙◌}
use base.Fraction.{full_share}
use mir.Val.{Val, vstruct, of_list, has_ty, vptr}
use base.Logic.{SProp, ent, emp, id⊢}
use base.Fml.{feq, ftrue, fsep, flft}
use prog.Wp.{WpFn}
use contract.Monad.{fact, fact_i}
use contract.Running.{tables}
use types.Kit.{fjoin3, fpick, fpack, feq_i, feq_l, ‵, raw, ◌⊛◌, some, later, at_ret, ◌$◌, ◌∵◌, !, qed, move, keep, drop, use0, use1, join, split, fsplit, fjoin, pick, rewrite, await, suffices, done}
use types.Part.{whole, sub, agg}
use types.Run.{stop, fld, addr, no_more, and_then, of_opd, first, blocks, exec, returns, enter}
use types.ByLocal.{alloc_all, pass_all, free_all, look_at, get, get_in, through, sets, sets_last, lands_as, env}
use contract.Lifetimes.{Lfts}
use denote.Exit.{Last, left, yes}
use denote.Param.Mute.{blank}
use lib.Dec.{T}
use denote.RattleType.{RattleType, Valss, owns}
use denote.RawPtr.{Ptr, InBlock, block_ptr, block_of, count_of, at_block, ptr_val}
use denote.Signature.{plain}
use denote.SharingLaws.{contraction}
use denote.Opens.{hide}
use denote.Struct.Tuple.{Tuple}
use denote.Triple.Call.{calls_at}
use denote.Triple.Clauses.{Lasts, lasts}
use denote.Triple.Spec.{triple_of}
use mathlib.Core.Bool.{true, ◌&&◌}
use mir.Syntax.{ty_ptr}
use Rattle.std.specs.Global.{Vec}
use Rattle.core.proofs.alloc.Shapes.{after}
use Rattle.core.proofs.atomic.Steps.{fm}
use Rattle.core.proofs.alloc.Calls.{Al, α, Goes-blank}
use denote.Steps.{heard, nothing, only}
use denote.Struct.Lending.{lent_at, lent_at_shr_laws, in_block_says}
use Rattle.core.proofs.mem.Facts.{says_two}
use denote.Triple.Walked.{Stays, stay_dropped, walk_of, ends_at, Goes-dropped}
use Rattle.core.proofs.alloc.Calls.{handle_tells}
use Rattle.core.specs.declared.option.Option.{Option}
use Rattle.core.specs.declared.option.Option.TheVariants.{Some}
use Rattle.std.proofs.raw_atomic.Walks.{proved_at}
use Rattle.std_heap.specs.contracts.Global as Heap
use Rattle.bhost.specs.Deeds.{Acts, Allows}
use Rattle.bhost.specs.declared.desk.Answer.{Answer}
use Rattle.bhost.specs.declared.desk.Deed.{Deed}
use Rattle.bhost.specs.declared.desk.Deed.TheVariants as deed
use Rattle.bhost.specs.Hosts.{LoadedValue, for_life}
use Rattle.bhost.specs.contracts.loaded.LoadedProgram as LoadedProgram
use Rattle.bhost.specs.contracts.host.Host as host
use Rattle.bhost.specs.contracts.host.Host.act as f
use Rattle.bhost.proofs.Hosting.{word, al, ptr_good, both_good, place_good, some_of, pair_tt, host_out, host_in, place_out, place_in, OfPlace}
use Rattle.bhost.proofs.host.Host.act.Statement.{statement}
use Rattle.bhost.proofs.host.Host.act.Code as code
use Rattle.bhost.specs.contracts.desk.Desk as Desk
use Rattle.bhost.specs.contracts.acting.act_on as callee
use Rattle.bhost.proofs.acting.act_on.Met.{met}
use Rattle.bhost.proofs.loaded.LoadedProgram.TheLaws as laws
use Rattle.bhost.proofs.desk.Desk.TheLaws as desk_laws

abbrev stayed : Stays f.ended.signature.params f.ended.kept
stayed = (stay_dropped (plain (λ _. host.the_row)) yes, (stay_dropped (plain (λ _. Heap.the_row)) yes, (stay_dropped (plain (λ _. Desk.the_row)) yes, tt)))

-- the desk, where what a value is stored as is asked for
abbrev dk : Al
dk = record { row = Desk.the_row; laws = desk_laws.the_row_laws; g = record { dealloc_token = λ x σ p. ftrue }; d = al.d; drops = al.drops }

-- a desk that is used up leaves nothing, whatever deed is on it
desk_blank : (κs : Lfts 0) (alloc : (Heap.the_row).Denot) (it : Deed) (bytes : Vec ℕ) (told : Answer)
    → let x : (Desk.the_row).Denot = record { alloc = alloc; deed = it; bytes = bytes; answer = told } in
    (w : Last (((plain {n = 0} (λ _. Desk.the_row)).row κs).exit yes) x)
    → T (blank (left (((plain {n = 0} (λ _. Desk.the_row)).row κs).exit yes) x w))
desk_blank κs alloc deed.Begin bytes told w = tt
desk_blank κs alloc (deed.Continue steps) bytes told w = tt
desk_blank κs alloc (deed.ContinueTo list steps) bytes told w = tt
desk_blank κs alloc (deed.Limit limits) bytes told w = tt
desk_blank κs alloc deed.Feed bytes told w = tt
desk_blank κs alloc deed.Close bytes told w = tt
desk_blank κs alloc (deed.Take count) bytes told w = tt
desk_blank κs alloc deed.Look bytes told w = tt
desk_blank κs alloc (deed.Frame number) bytes told w = tt
desk_blank κs alloc (deed.Read address) bytes told w = tt
desk_blank κs alloc (deed.Store address word) bytes told w = tt
desk_blank κs alloc (deed.Name strings) bytes told w = tt
desk_blank κs alloc (deed.Tell query) bytes told w = tt
desk_blank κs alloc deed.Copy bytes told w = tt
desk_blank κs alloc (deed.Swap number) bytes told w = tt
desk_blank κs alloc (deed.Forget number) bytes told w = tt
desk_blank κs alloc deed.End bytes told w = tt

-- what is known of it at its end: nothing, by each deed
desk_last : (κs : Lfts 0) (alloc : (Heap.the_row).Denot) (it : Deed) (bytes : Vec ℕ) (told : Answer)
    → Last (((plain {n = 0} (λ _. Desk.the_row)).row κs).exit yes) (record { alloc = alloc; deed = it; bytes = bytes; answer = told })
desk_last κs alloc deed.Begin bytes told = (tt, (tt, (tt, tt)))
desk_last κs alloc (deed.Continue steps) bytes told = (tt, (tt, (tt, tt)))
desk_last κs alloc (deed.ContinueTo list steps) bytes told =
    (tt, (((tt, (tt, (tt, (tt, (tt, tt))))), tt), (tt, tt)))
desk_last κs alloc (deed.Limit limits) bytes told = (tt, (tt, (tt, tt)))
desk_last κs alloc deed.Feed bytes told = (tt, (tt, (tt, tt)))
desk_last κs alloc deed.Close bytes told = (tt, (tt, (tt, tt)))
desk_last κs alloc (deed.Take count) bytes told = (tt, (tt, (tt, tt)))
desk_last κs alloc deed.Look bytes told = (tt, (tt, (tt, tt)))
desk_last κs alloc (deed.Frame number) bytes told = (tt, (tt, (tt, tt)))
desk_last κs alloc (deed.Read address) bytes told = (tt, (tt, (tt, tt)))
desk_last κs alloc (deed.Store address word) bytes told = (tt, (tt, (tt, tt)))
desk_last κs alloc (deed.Name strings) bytes told = (tt, (tt, (tt, tt)))
desk_last κs alloc (deed.Tell query) bytes told = (tt, (tt, (tt, tt)))
desk_last κs alloc deed.Copy bytes told = (tt, (tt, (tt, tt)))
desk_last κs alloc (deed.Swap number) bytes told = (tt, (tt, (tt, tt)))
desk_last κs alloc (deed.Forget number) bytes told = (tt, (tt, (tt, tt)))
desk_last κs alloc deed.End bytes told = (tt, (tt, (tt, tt)))

pub act_spec : {M : Type 1} → statement M
act_spec 𝓤 𝓛 𝓜 𝓡 wired =
    let c = f.clauses 𝓛 𝓜.mem 𝓡.returns in let H = 𝓛.H in let 𝓣 = tables 𝓤 H 𝓜 𝓡 𝓡.env in let R : RattleType = LoadedProgram.the_row in
    proved_at 𝓛 f.ended stayed c 𝓜 𝓡 (
      Goes-dropped 𝓛 0 (plain (λ _. host.the_row)) yes (λ κs x w. refl),
      (
        Goes-dropped 𝓛 0 (plain (λ _. Heap.the_row)) yes (λ κs x w. refl),
        (Goes-blank 𝓛 0 (plain (λ _. Desk.the_row)) yes (λ κs x w. desk_blank κs x.alloc x.deed x.bytes x.answer w), tt),
      ),
    )
    f.Key.name code.function (code.unfolded 𝓤 H 𝓜 𝓡 wired) (λ z are.
    let h = z.0.3.0 in let g = z.0.3.1.0 in let d = z.0.3.1.1.0 in
    let vs : List Val = z.0.4.0 in let us : List Val = z.0.4.1.0 in let ds : List Val = z.0.4.1.1.0 in
    let p : Ptr = h.program in let b = block_of p in let o = count_of p in
    let Post : Val → SProp 𝓤 = (walk_of 𝓛 f.ended stayed c).post z in
    let Run : List Val → SProp 𝓤 = λ ws. WpFn 𝓤 H 𝓣.C 𝓣.Λ code.function ws Post in
    let Asked : Type 0 = Allows d.deed h.run in
    let k = triple_of 𝓛 callee.signature (callee.spec 𝓛 𝓜.mem 𝓡.returns) in
    qed 𝓛 ((‵ ftrue ⊛ ‵ (fsep ((host.the_row).own_val h vs) (fsep ((Heap.the_row).own_val g us) (fsep ((Desk.the_row).own_val d ds) ftrue)))) ∷ (raw (fact 𝓤 (IsSome h.read)) ⊛ raw (fact 𝓤 Asked)) ∷ []) ∵
    move ! (1 ∷ []) $ split ! $ heard ! (IsSome h.read) (λ is. heard ! Asked (λ asked. let there = some_of h.read is in let x : LoadedValue = there.0 in
    split ! $ drop ! $ fsplit ! $
    rewrite ! 0 (λ (s : Option LoadedValue). ‵ ((host.the_row).own_val (record { session = h.session; program = h.program; run = h.run; read = s }) vs)) there.1 refl $
    host_out ! h x vs (λ life ev.
    let κ = life ∷ [] in let S = for_life κ in let L = lent_at R p x κ in
    move ! (2 ∷ []) $ fsplit ! $ handle_tells al ! g us (λ hv eu fa. move ! (1 ∷ []) $ fsplit ! $ handle_tells dk ! d ds (λ dv ed fd.
    move ! (3 ∷ []) $ fsplit ! $ move ! (1 ∷ []) $ fsplit ! $ move ! (1 ∷ []) $ fsplit ! $
    use1 𝓛 (‵ L ⊛ ‵ L) (contraction 𝓛 (lent_at R p x) (lent_at_shr_laws R laws.the_row_laws.shr_laws p x) κ) $ split ! $
    fsplit ! $ use1 𝓛 (raw (fact 𝓤 (InBlock p))) (in_block_says 𝓛 p) $ heard ! (InBlock p) (λ inb. hide ! $
    -- [the program behind a reference; the program, lent; the right to free it; what gives it back; the lifetime; the desk; nothing; the allocator; the place]
    let at : p ≡ block_ptr b o = at_block p inb in
    let pl : (OfPlace S).Denot = record { at = h.session; alloc = g; value = h.run } in
    let pw = word (ptr_val h.session) hv in
    move ! (8 ∷ 7 ∷ []) $ place_in S ! hv pl $
    move ! (1 ∷ []) $ feq_i ! (List Val) (vptr b o ∷ []) (vptr b o ∷ []) refl $ fjoin ! $ move ! (6 ∷ 7 ∷ []) $ fjoin ! $
    move ! (1 ∷ 0 ∷ []) $ fjoin ! $ move ! (1 ∷ 0 ∷ []) $ fjoin ! $ nothing ! $ move ! (5 ∷ 0 ∷ []) $ join ! $ join ! $
    use0 𝓛 (raw (fact 𝓤 Asked)) (fact_i 𝓤 Asked (emp 𝓤) asked) $ move ! (1 ∷ 0 ∷ []) $ join ! $
    let y : k.Ghost = (((κ, tt), (full_share, tt), tt, (pl, (record { ref_ptr = (b, o); now = x }, (d, tt))), (pw ∷ [], (vptr b o ∷ [], (dv ∷ [], tt)))), tt) in
    use1 𝓛 (raw (k.pre y)) (id⊢ 𝓤 _) $
    let v = word (ptr_val h.session) (vptr b o) in
    let ev' : vs ≡ v ∷ [] = ev ∙ ap (λ (q : Ptr). word (ptr_val h.session) (ptr_val q) ∷ []) at in
    suffices ! (Run (v ∷ hv ∷ dv ∷ [])) (subst (λ (ws : List Val). ent 𝓤 (Run (v ∷ hv ∷ dv ∷ [])) (Run ws)) (sym (λ i. ev' i ++ (eu i ++ (ed i ++ [])))) (id⊢ 𝓤 (Run (v ∷ hv ∷ dv ∷ [])))) $
    enter ! 𝓣.C 𝓣.Λ code.function (v ∷ hv ∷ dv ∷ []) Post $ alloc_all ! (λ ls. pass_all ! refl (both_good h.session (block_ptr b o), (fa, (fd, tt))) $
    let Ev = env (code.function).locals ls in
    sets ! (of_opd ! (get_in ! (fld ! refl (stop !)) (sub ! 0 refl (whole !)))) refl (ptr_good h.session) $
    sets ! (of_opd ! (get_in ! (fld ! refl (stop !)) (sub ! 1 refl (whole !)))) refl (tt, tt) $
    sets ! (of_opd ! (get ! refl)) refl (ptr_good h.session) $ sets ! (of_opd ! (get ! refl)) refl (ptr_good h.session) $ sets ! (of_opd ! (get ! refl)) refl fa $
    sets ! (agg ! (and_then ! (get ! refl) (and_then ! (get ! refl) (no_more !)))) refl (place_good h.session hv fa) $
    sets ! (of_opd ! (get ! refl)) refl (place_good h.session hv fa) $
    first ! $ blocks ! $ sets ! (of_opd ! (get ! refl)) refl (tt, tt) $ sets ! (of_opd ! (get ! refl)) refl (tt, tt) $
    sets_last ! (addr ! (through ! refl (stop !))) refl (tt, tt) $
    exec ! 𝓣.C 𝓣.Λ Ev (after 8 (code.function).body) (at_ret Ev Post) $
    sets ! (of_opd ! (get ! refl)) refl (tt, tt) $ sets ! (of_opd ! (get ! refl)) refl fd $
    calls_at ! (fm 𝓛 𝓜 𝓡) k (met 𝓤 𝓛 𝓜 𝓡 (code.calls-bhost::acting::act_on 𝓡.env wired)) y (and_then ! (get ! refl) (and_then ! (get ! refl) (and_then ! (get ! refl) (no_more !)))) (λ u.
    use1 𝓛 (later (some (λ (r : (OfPlace S).Denot × (Desk.the_row).Denot). ((‵ (flft κ full_share) ⊛ ‵ ftrue) ⊛ ‵ ((Tuple (OfPlace S ∷ Desk.the_row ∷ [])).own_val r (u ∷ []))) ⊛
    some (λ (ws : Lasts callee.ended (κ, tt) y.0.3). ‵ (lasts callee.ended (κ, tt) y.0.3 ws) ⊛ raw (fact 𝓤 (Acts d.deed d.bytes.items (Some x) h.run r.0.value r.1.bytes.items r.1.answer)))))) (id⊢ 𝓤 (k.post y u)) $
    await ! tt $ pick ! (λ r. split ! $ move ! (1 ∷ []) $ pick ! (λ _. split ! $ drop ! $ heard ! (Acts d.deed d.bytes.items (Some x) h.run r.0.value r.1.bytes.items r.1.answer) (λ same. split ! $ move ! (1 ∷ []) $
    fpick ! (λ vss. fsplit ! $ feq_l ! (λ eo. fsplit ! $ place_out S ! r.0 vss.0 (λ hw ep fw. move ! (2 ∷ []) $ fsplit ! $ handle_tells dk ! r.1 vss.1.0 (λ dw edw fdw.
    -- [the desk; nothing; the place; the allocator; the tokens; the program, lent; the right to free it; what gives it back]
    move ! (4 ∷ []) $ split ! $ move ! (6 ∷ 7 ∷ []) $ fjoin ! $ move ! (7 ∷ 0 ∷ []) $ fjoin ! $ move ! (1 ∷ 0 ∷ []) $ fjoin ! $ move ! (0 ∷ 4 ∷ []) $
    let q : Ptr = r.0.at in let made : (host.the_row).Denot = record { session = q; program = p; run = r.0.value; read = Some x } in
    let w = word (ptr_val q) (vptr b o) in let pg = place_good q hw fw in let tg = both_good q (block_ptr b o) in
    lands_as ! (ap only (eo ∙ (λ j. vstruct (of_list (ep j ++ (edw j ++ []))) ∷ []))) refl
    (pair_tt (has_ty ty_ptr (ptr_val q) && (has_ty (α al) hw && true)) (has_ty (α dk) dw) pg.0 fdw.0, (pg.1, (fdw.1, tt))) $
    sets ! (of_opd ! (get_in ! (fld ! refl (stop !)) (sub ! 0 refl (whole !)))) refl pg $
    sets ! (of_opd ! (get_in ! (fld ! refl (stop !)) (sub ! 1 refl (whole !)))) refl fdw $
    sets ! (of_opd ! (get_in ! (fld ! refl (stop !)) (sub ! 0 refl (whole !)))) refl (ptr_good q) $
    sets ! (of_opd ! (get ! refl)) refl (ptr_good q) $ sets ! (of_opd ! (get ! refl)) refl (ptr_good q) $ sets ! (of_opd ! (get ! refl)) refl (ptr_good q) $
    sets ! (of_opd ! (get ! refl)) refl (tt, tt) $
    sets ! (agg ! (and_then ! (get ! refl) (and_then ! (get ! refl) (no_more !)))) refl tg $
    sets ! (of_opd ! (get ! refl)) refl fdw $
    sets ! (agg ! (and_then ! (get ! refl) (and_then ! (get ! refl) (no_more !)))) refl
    (pair_tt (has_ty ty_ptr (ptr_val q) && true) (has_ty (α dk) dw) tg.0 fdw.0, (tg.1, (fdw.1, tt))) $
    host_in ! life made x $ rewrite ! 0 (λ (s : Ptr). ‵ ((host.the_row).own_val made (word (ptr_val q) (ptr_val s) ∷ []))) at refl $
    returns ! (look_at ! 0 refl) $ free_all ! refl $ keep ! (0 ∷ 2 ∷ []) $
    let out = word w dw in let Rows : List RattleType = host.the_row ∷ Desk.the_row ∷ [] in
    nothing ! $ move ! (1 ∷ 2 ∷ 0 ∷ []) $ fjoin3 ! $ feq_i ! (List Val) (out ∷ []) (out ∷ []) refl $ fjoin ! $
    fpack ! (Valss Rows) (λ uss. fsep (feq (List Val) (out ∷ []) (vstruct (of_list (uss.0 ++ (uss.1.0 ++ []))) ∷ [])) (owns Rows (made, (r.1, tt)) uss)) (w ∷ [], (dw ∷ [], tt)) $
    suffices ! _ (ends_at 𝓛 f.ended stayed c z out (made, r.1) (tt, (tt, (desk_last _ d.alloc d.deed d.bytes d.answer, tt))) (tt, (tt, (tt, tt)))) $ says_two ! (sym there.1, subst (λ (s : Option LoadedValue). Acts d.deed d.bytes.items s h.run r.0.value r.1.bytes.items r.1.answer) (sym there.1) same) $
    nothing ! $ nothing ! $ fjoin ! $ nothing ! $ fjoin ! $ nothing ! $ fjoin ! $ join ! $ nothing ! $ join ! $ done !))))))))))))))))
