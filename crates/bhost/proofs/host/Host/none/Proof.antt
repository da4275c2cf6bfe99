-- `none` makes a host that owns nothing.
use Rattle.std.proofs.Common.{List, [], ◌∷◌, refl, w64}
use mir.Val.{Val, vint}
use base.Logic.{SProp, emp, id⊢}
use base.Fml.{ftrue}
use contract.Running.{tables}
use types.Kit.{‵, raw, ◌⊛◌, ◌$◌, ◌∵◌, !, qed, drop, use1, join, split, fjoin, fpack, feq_i, suffices, done}
use types.Part.{agg}
use types.Run.{lit, no_more, and_then, returns, enter}
use types.ByLocal.{alloc_all, pass_all, free_all, look_at, sets}
use denote.RattleType.{Valss}
use denote.Builtin.{RawPtr}
use denote.RawPtr.{Ptr, null_ptr}
use denote.Steps.{nothing}
use denote.Struct.Struct.{within}
use denote.Struct.Owning.{shape, to}
use denote.Triple.Walked.{Stays, walk_of, ends_at}
use Rattle.core.proofs.mem.Facts.{says_two}
use Rattle.core.specs.declared.option.Option.TheVariants.{None}
use Rattle.std.proofs.raw_atomic.Walks.{proved_at}
use Rattle.bhost.proofs.Hosting.{word, both_good}
use Rattle.bhost.specs.contracts.host.Host as host
use Rattle.bhost.specs.contracts.host.Host.none as f
use Rattle.bhost.proofs.host.Host.none.Statement.{statement}
use Rattle.bhost.proofs.host.Host.none.Code as code

pub none_spec : {M : Type 1} → statement M
none_spec 𝓤 𝓛 𝓜 𝓡 wired =
    let c = f.clauses 𝓛 𝓜.mem 𝓡.returns in let H = 𝓛.H in let 𝓣 = tables 𝓤 H 𝓜 𝓡 𝓡.env in let hs : Stays f.ended.signature.params f.ended.kept = tt in
    proved_at 𝓛 f.ended hs c 𝓜 𝓡 tt f.Key.name code.function (code.unfolded 𝓤 H 𝓜 𝓡 wired) (λ z are.
    let made : (host.the_row).Denot = record { session = null_ptr; program = null_ptr; run = None; read = None } in
    let v : Val = vint w64 0 in let w = word v v in let Post : Val → SProp 𝓤 = (walk_of 𝓛 f.ended hs c).post z in
    qed 𝓛 ((‵ ftrue ⊛ ‵ ftrue) ∷ raw (emp 𝓤) ∷ []) ∵ split ! $ drop ! $ drop ! $ drop ! $
    enter ! 𝓣.C 𝓣.Λ code.function [] Post $ alloc_all ! (λ ls. pass_all ! refl tt $
    sets ! (agg ! (and_then ! (lit ! tt) (and_then ! (lit ! tt) (no_more !)))) refl (both_good null_ptr null_ptr) $
    returns ! (look_at ! 0 refl) $ free_all ! refl $
    feq_i ! Ptr null_ptr null_ptr refl $ feq_i ! Ptr null_ptr null_ptr refl $ fjoin ! $ nothing ! $ feq_i ! (List Val) (v ∷ []) (v ∷ []) refl $ fjoin ! $ feq_i ! (List Val) (v ∷ []) (v ∷ []) refl $ fjoin ! $
    feq_i ! (List Val) (w ∷ []) (w ∷ []) refl $ fjoin ! $
    fpack ! (Valss (RawPtr ∷ RawPtr ∷ [])) (within (shape host.the_type) (to host.the_type made) (w ∷ [])) (v ∷ [], (v ∷ [], tt)) $ fjoin ! $
    use1 𝓛 (‵ ((host.the_row).own_val made (w ∷ []))) (id⊢ 𝓤 _) $
    suffices ! _ (ends_at 𝓛 f.ended hs c z w made tt tt) $ says_two ! (refl, refl) $
    nothing ! $ join ! $ nothing ! $ join ! $ done !))
