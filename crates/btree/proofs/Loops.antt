-- The loops of a reader end one construct after another.
use Rattle.std.proofs.Common.{◌≡◌, ◌∙◌, ap, append_assoc, false, true, length, List, [], ◌∷◌, ◌++◌, ◌<◌, arith, Some, refl, sym}
use Rattle.btree.specs.declared.tags.Tag.{Tag}
use Rattle.btree.specs.declared.tags.Construct.{Construct}
use Rattle.btree.specs.declared.tags.Construct.TheVariants as construct
use Rattle.btree.specs.declared.tags.Phase.TheVariants as phase
use Rattle.btree.specs.declared.reading.Reader.{Reader}
use Rattle.btree.specs.declared.sorts.Sort.{Sort}
use Rattle.btree.specs.declared.sorts.Sort.TheVariants as sort
use Rattle.btree.specs.Machine.{Turn, begin, close, closings, over, top_of, turn}
use Rattle.btree.specs.Reading.{EndedOne, after_over, end_tags, is_in_block, is_over, takes_else}

-- What is still to be made, now and before.
pub record Goes (old : Reader) (t : Turn) (now : Reader) (u : Turn) : Type 0 where
  pub tags : old.tags.items ++ t.tags ≡ now.tags.items ++ u.tags
  pub phase : t.phase ≡ u.phase
  pub opens : t.opens ≡ u.opens

-- the end of a construct, and then this
abbrev pub ended : Construct → Turn → Turn
ended c t = turn (end_tags c ++ t.tags) t.phase t.opens

-- a list whose top has a quality has a top
pub has_top : (l : List Construct) (s : Sort) → is_over (top_of l) s ≡ true → (c : Construct) × ((opens : List Construct) × (l ≡ c ∷ opens))
has_top [] s e = cc
has_top (x ∷ l) s e = (x, (l, refl))

pub has_inner : (l : List Construct) → is_in_block (top_of l) ≡ true → (c : Construct) × ((opens : List Construct) × (l ≡ c ∷ opens))
has_inner [] e = cc
has_inner (x ∷ l) e = (x, (l, refl))

ends_over : (c : Construct) (opens : List Construct) (s n : Sort) → is_over (Some c) s ≡ true → over (c ∷ opens) s n ≡ ended c (over opens s n)
ends_over construct.Block opens s n e = cc
ends_over construct.If opens sort.Else n e = cc
ends_over construct.If opens _ n e = refl
ends_over construct.Parens opens s n e = refl
ends_over _ opens s n e = refl

ends_close : (c : Construct) (opens : List Construct) → is_in_block (Some c) ≡ true → close (c ∷ opens) ≡ ended c (close opens)
ends_close construct.Block opens e = cc
ends_close construct.Parens opens e = refl
ends_close _ opens e = refl

ends_closings : (c : Construct) (opens : List Construct) → is_over (Some c) sort.Other ≡ true → closings (c ∷ opens) ≡ end_tags c ++ closings opens
ends_closings construct.Block opens e = cc
ends_closings construct.Parens opens e = refl
ends_closings _ opens e = refl

-- one construct after another
module _ (old now new : Reader) (t : Turn) (c : Construct) (opens : List Construct) (is : now.opens ≡ c ∷ opens) (h : EndedOne now new) where
  further : (u v w : Turn) → Goes old t now u → u ≡ ended c v → v ≡ w → Goes old t new w
  further u v w g e f =
      let done = h c opens is in
      record {
        tags = g.tags ∙ ap (λ (x : Turn). now.tags.items ++ x.tags) e
            ∙ sym (append_assoc now.tags.items (end_tags c) v.tags)
            ∙ ap (λ (l : List Tag). l ++ v.tags) (sym done.2)
            ∙ ap (λ (x : Turn). new.tags.items ++ x.tags) f;
        phase = g.phase ∙ ap (λ (x : Turn). x.phase) e ∙ ap (λ (x : Turn). x.phase) f;
        opens = g.opens ∙ ap (λ (x : Turn). x.opens) e ∙ ap (λ (x : Turn). x.opens) f;
      }

  pub over_on : (s n : Sort) → is_over (top_of now.opens) s ≡ true → Goes old t now (over now.opens s n) → Goes old t new (over new.opens s n)
  over_on s n e g =
      further (over now.opens s n) (over opens s n) (over new.opens s n) g
      (ap (λ l. over l s n) is ∙ ends_over c opens s n (sym (ap (λ l. is_over (top_of l) s) is) ∙ e))
      (ap (λ l. over l s n) (sym (h c opens is).0))

  pub close_on : is_in_block (top_of now.opens) ≡ true → Goes old t now (close now.opens) → Goes old t new (close new.opens)
  close_on e g =
      further (close now.opens) (close opens) (close new.opens) g
      (ap close is ∙ ends_close c opens (sym (ap (λ l. is_in_block (top_of l)) is) ∙ e))
      (ap close (sym (h c opens is).0))

  pub closings_on : (tags : List Tag) → is_over (top_of now.opens) sort.Other ≡ true
      → tags ≡ now.tags.items ++ closings now.opens → tags ≡ new.tags.items ++ closings new.opens
  closings_on tags e g =
      let done = h c opens is in
      g ∙ ap (λ l. now.tags.items ++ l) (ap closings is ∙ ends_closings c opens (sym (ap (λ l. is_over (top_of l) sort.Other) is) ∙ e))
      ∙ sym (append_assoc now.tags.items (end_tags c) (closings opens))
      ∙ ap (λ l. l ++ closings opens) (sym done.2)
      ∙ ap (λ l. new.tags.items ++ closings l) (sym done.0)

  pub fewer : length new.opens < length now.opens
  fewer = let done = h c opens is in omega (arith, ap length is, ap length done.0)

pub begins_after : (opens : List Construct) (s n : Sort) → takes_else (top_of opens) s ≡ false → after_over opens s n ≡ begin opens s n
begins_after [] s n e = refl
begins_after (construct.If ∷ opens) sort.Else n e = cc
begins_after (construct.If ∷ opens) _ n e = refl
begins_after (_ ∷ opens) s n e = refl
