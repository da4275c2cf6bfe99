-- A box and its place own the same. What each call about the two begins with, at any type.
use mathlib.Core.List.{List, ◌∷◌}
use seplogic.Ra.Ura.{Ura}
use base.Fml.{ftrue, flft}
use base.Logic.{id⊢}
use contract.BorrowLft.{◌⊑◌}
use contract.Lifetimes.{Lfts, Shares}
use contract.Monad.{fact}
use types.Logic.{Logic}
use types.Kit.{Goal, Item, Step, step, ‵, raw, ◌⊛◌, ◌$◌, use1}
use denote.RattleType.{RattleType}
use mir.Val.{Val}
use Rattle.core.specs.declared.option.Option.TheVariants.{Some}
use Rattle.std_alloc.proofs.BoxSteps.Form.{Bx, B, D, P, R}
use Rattle.bhost.specs.contracts.place.Place as place

module _ (E : Bx) where
  abbrev pub Row : RattleType
  Row = place.the_row (R E) (P E) E.al.g

  -- the place of a box's block
  abbrev pub at_place : D E → (Row).Denot
  at_place b = record { at = b.ptr; alloc = b.alloc; value = Some b.value }

  module _ {M : Type 1} {𝓤 : Ura M} where
    -- that the lifetimes of the two types are not over, and that theirs outlive them
    abbrev pub tokens : Lfts 2 → Shares 2 → Item 𝓤
    tokens κs qs = ‵ (flft κs.0 qs.0) ⊛ ‵ (flft κs.1.0 qs.1.0) ⊛ ‵ ftrue

    abbrev pub alive : Lfts 2 → Item 𝓤
    alive κs = raw (fact 𝓤 (κs.0 ⊑ E.row.lives)) ⊛ raw (fact 𝓤 (κs.1.0 ⊑ E.al.row.lives)) ⊛ ‵ ftrue

    module _ {𝓛 : Logic 𝓤} {K : Type 0} {Γ : List (Item 𝓤)} {G : Goal 𝓤 𝓛.H} where
      -- a box by value is its place, and the other way round
      pub box_placed : K → (b : D E) (vs : List Val) → Step K 𝓛 (‵ ((Row).own_val (at_place b) vs) ∷ Γ) G (‵ ((B E).own_val b vs) ∷ Γ) G
      box_placed t b vs = step (λ s. use1 𝓛 (‵ ((Row).own_val (at_place b) vs)) (id⊢ 𝓤 _) $ s)

      pub place_boxed : K → (b : D E) (vs : List Val) → Step K 𝓛 (‵ ((B E).own_val b vs) ∷ Γ) G (‵ ((Row).own_val (at_place b) vs) ∷ Γ) G
      place_boxed t b vs = step (λ s. use1 𝓛 (‵ ((B E).own_val b vs)) (id⊢ 𝓤 _) $ s)
