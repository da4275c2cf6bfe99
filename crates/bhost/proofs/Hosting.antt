-- What a host and a place own, taken apart and put together.
use Rattle.std.proofs.Common.{◌≡◌, ℕ, List, [], ◌∷◌, ◌++◌, refl, ◌∙◌, lit<, ◌&&◌, true}
use mathlib.Core.Bool.{Bool, false}
use lib.Dec.{T}
use seplogic.Ra.Ura.{Ura}
use mir.Syntax.{impl, tnil, dnil, ty_ptr}
use mir.Val.{Val, vstruct, vcons, vnil, of_list, has_ty, WT}
use base.Fml.{fsep}
use types.Logic.{Logic}
use types.Kit.{Item, Goal, Seq, Step, step, ‵, ◌$◌, move, drop, fsplit, fjoin, fpick, fpack, feq_i, feq_l}
use denote.RattleType.{RattleType, Valss}
use denote.Builtin.{RawPtr}
use denote.RawPtr.{Ptr, block_ptr, null_ptr, ptr_val}
use denote.Steps.{nothing}
use denote.Struct.Struct.{within}
use denote.Struct.Owning.{shape, to}
use Rattle.core.proofs.alloc.Calls.{Al, Fits, α, handle_tells}
use Rattle.core.specs.Prelude.{IsSome}
use Rattle.core.specs.declared.option.Option.{Option}
use Rattle.core.specs.declared.option.Option.TheVariants.{None, Some}
use Rattle.std_alloc.proofs.ResultValues.{and_tt}
use Rattle.std_heap.specs.contracts.Global as Heap
use Rattle.std_heap.specs.declared.Global.{Global}
use Rattle.std_heap.specs.contracts.GlobalAllocator.TheImpl.{ghosts, dict}
use Rattle.std_heap.proofs.Global.TheLaws as heap
use Rattle.bhost.specs.Blocks.{chunk}
use Rattle.bhost.specs.Places.{placed_owns}
use Rattle.bhost.specs.Hosts.{LoadedValue, for_life, host_owns, lends_for}
use Rattle.bhost.specs.contracts.place.Place as place
use Rattle.bhost.specs.contracts.host.Host as host
use Rattle.bhost.specs.declared.place.Place.{Place}
use Rattle.bhost.specs.declared.host.Host.{Host}

pub some_of : {A : Type 0} (o : Option A) → IsSome o → (x : A) × (o ≡ Some x)
some_of None is = let e = is in cc
some_of (Some x) is = (x, refl)

pub pair_tt : (x y : Bool) → T x → T y → T (x && (y && true))
pair_tt true true s t = tt
pair_tt true false s t = absurd t
pair_tt false y s t = absurd s

abbrev pub word : Val → Val → Val
word v w = vstruct (vcons v (vcons w vnil))

abbrev pub al : Al
al = record { row = Heap.the_row; laws = heap.the_row_laws; g = ghosts; d = dict; drops = impl [] tnil dnil }

-- a host, with this program in its place
abbrev pub with_program : Host → LoadedValue → Host
with_program h x = record { session = h.session; program = h.program; run = h.run; read = Some x }

pub ptr_good : (p : Ptr) → T (has_ty ty_ptr (ptr_val p)) × WT (ptr_val p)
ptr_good (block_ptr b o) = (tt, tt)
ptr_good null_ptr = (tt, record { fits = lit< tt })

abbrev pub OfPlace : RattleType → RattleType
OfPlace R = place.the_row R Heap.the_row ghosts

pub both_good : (p q : Ptr) → T (has_ty ty_ptr (ptr_val p) && (has_ty ty_ptr (ptr_val q) && true)) × WT (word (ptr_val p) (ptr_val q))
both_good (block_ptr b o) (block_ptr b' o') = (tt, (tt, (tt, tt)))
both_good (block_ptr b o) null_ptr = (tt, (tt, (record { fits = lit< tt }, tt)))
both_good null_ptr (block_ptr b' o') = (tt, (record { fits = lit< tt }, (tt, tt)))
both_good null_ptr null_ptr = (tt, (record { fits = lit< tt }, (record { fits = lit< tt }, tt)))

pub place_good : (p : Ptr) (hv : Val) → Fits al hv
    → T (has_ty ty_ptr (ptr_val p) && (has_ty (α al) hv && true)) × WT (word (ptr_val p) hv)
place_good (block_ptr b o) hv fits = (and_tt (has_ty (α al) hv) fits.0, (tt, (fits.1, tt)))
place_good null_ptr hv fits = (and_tt (has_ty (α al) hv) fits.0, (record { fits = lit< tt }, (fits.1, tt)))

module _ {M : Type 1} {𝓤 : Ura M} {𝓛 : Logic 𝓤} {K : Type 0} {Γ : List (Item 𝓤)} {G : Goal 𝓤 𝓛.H} where
  pub host_word : K → (h : Host) (vs : List Val)
      → (vs ≡ word (ptr_val h.session) (ptr_val h.program) ∷ []
      → Seq K 𝓛 (‵ (host_owns h.session h.run h.program h.read) ∷ Γ) G)
      → Seq K 𝓛 (‵ ((host.the_row).own_val h vs) ∷ Γ) G
  host_word t h vs k =
      fsplit t $ fpick t (λ vss. fsplit t $ feq_l t (λ ev. fsplit t $ feq_l t (λ es. fsplit t $ feq_l t (λ ei. drop t $
      k (ev ∙ (λ j. vstruct (of_list (es j ++ (ei j ++ []))) ∷ []))))))

  pub host_out : K → (h : Host) (x : LoadedValue) (vs : List Val)
      → ((a : ℕ) → vs ≡ word (ptr_val h.session) (ptr_val h.program) ∷ []
      → Seq K 𝓛 (‵ (lends_for a h.program x) ∷ ‵ (placed_owns (λ σ p. chunk σ p) (for_life (a ∷ [])) h.session h.run) ∷ Γ) G)
      → Seq K 𝓛 (‵ ((host.the_row).own_val (with_program h x) vs) ∷ Γ) G
  host_out t h x vs k = host_word t (with_program h x) vs (λ is. fpick t (λ a. fsplit t $ k a is))

  pub host_in : K → (a : ℕ) (h : Host) (x : LoadedValue)
      → Step K 𝓛 (‵ ((host.the_row).own_val (with_program h x) (word (ptr_val h.session) (ptr_val h.program) ∷ [])) ∷ Γ) G
      (‵ (lends_for a h.program x) ∷ ‵ (placed_owns (λ σ p. chunk σ p) (for_life (a ∷ [])) h.session h.run) ∷ Γ) G
  host_in t a h x = step (λ s. let v : Val = ptr_val h.session in let w : Val = ptr_val h.program in
      fjoin t $ fpack t ℕ (λ a. fsep (lends_for a h.program x) (placed_owns (λ σ p. chunk σ p) (for_life (a ∷ [])) h.session h.run)) a $
      nothing t $ feq_i t (List Val) (w ∷ []) (w ∷ []) refl $ fjoin t $ feq_i t (List Val) (v ∷ []) (v ∷ []) refl $ fjoin t $
      feq_i t (List Val) (word v w ∷ []) (word v w ∷ []) refl $ fjoin t $
      fpack t (Valss (RawPtr ∷ RawPtr ∷ [])) (within (shape host.the_type) (to host.the_type (with_program h x)) (word v w ∷ [])) (v ∷ [], (w ∷ [], tt)) $ fjoin t $ s)

  module _ (R : RattleType) where
    pub place_out : K → (d : Place R.Denot Global) (vs : List Val)
        → ((hv : Val) → vs ≡ word (ptr_val d.at) hv ∷ [] → Fits al hv
        → Seq K 𝓛 (‵ (placed_owns (ghosts.dealloc_token d.alloc) R d.at d.value) ∷ ‵ ((Heap.the_row).own_val d.alloc (hv ∷ [])) ∷ Γ) G)
        → Seq K 𝓛 (‵ ((OfPlace R).own_val d vs) ∷ Γ) G
    place_out t d vs k =
        fsplit t $ fpick t (λ vss. fsplit t $ feq_l t (λ ev. fsplit t $ feq_l t (λ ep. fsplit t $ handle_tells al t d.alloc vss.1.0 (λ hv ea fits.
        move t (1 ∷ []) $ drop t $ move t (1 ∷ []) $ k hv (ev ∙ (λ j. vstruct (of_list (ep j ++ (ea j ++ []))) ∷ [])) fits))))

    pub place_in : K → (hv : Val) (d : Place R.Denot Global)
        → Step K 𝓛 (‵ ((OfPlace R).own_val d (word (ptr_val d.at) hv ∷ [])) ∷ Γ) G
        (‵ (placed_owns (ghosts.dealloc_token d.alloc) R d.at d.value) ∷ ‵ ((Heap.the_row).own_val d.alloc (hv ∷ [])) ∷ Γ) G
    place_in t hv d = step (λ s. let v : Val = ptr_val d.at in
        nothing t $ move t (2 ∷ 0 ∷ []) $ fjoin t $ feq_i t (List Val) (v ∷ []) (v ∷ []) refl $ fjoin t $
        feq_i t (List Val) (word v hv ∷ []) (word v hv ∷ []) refl $ fjoin t $
        fpack t (Valss (RawPtr ∷ Heap.the_row ∷ [])) (within (shape (place.the_type R Heap.the_row ghosts)) (to (place.the_type R Heap.the_row ghosts) d) (word v hv ∷ [])) (v ∷ [], (hv ∷ [], tt)) $ fjoin t $ s)
