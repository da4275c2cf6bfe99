-- From what is open before a walk to what is open after it, with a tag for each token.
use Rattle.std.proofs.Common.{◌≡◌, ◌∙◌, ap, append_assoc, List, [], ◌∷◌, ◌++◌, ℕ, Option, Some, None, refl, sym}
use Rattle.blang.specs.declared.token.Placed.{Placed}
use Rattle.blang.specs.declared.token.Token.TheVariants as token
use Rattle.blang.specs.Trees.{Constant, Declared, Expr, Identifier, Ival, Ival_constant, Ival_text, Ival_name, Number, Character, constant_token}
use Rattle.blang.specs.Walk.{Event, Said, Walk, ◌▸◌, name, plain, walk, walk_commas, walk_declared, walk_list, walk_parenthesized, walk_size, walk_value}
use Rattle.btree.specs.declared.tags.Construct.{Construct}
use Rattle.btree.specs.declared.tags.Construct.TheVariants as construct
use Rattle.btree.specs.declared.tags.Phase.{Phase}
use Rattle.btree.specs.declared.tags.Phase.TheVariants as phase
use Rattle.btree.specs.declared.sorts.Sort.{Sort}
use Rattle.btree.specs.declared.sorts.Sort.TheVariants as sort
use Rattle.btree.specs.Machine.{Turn, run, sort_of, token_in, unparen}
use Rattle.btree.specs.Tags.{tokens}
use Rattle.btree.proofs.Passing.{in_parens, passes, sorts}

pub record Moves (w : Walk) (p : Phase) (opens : List Construct) (q : Phase) (after : List Construct) : Type 0 where
  pub goes : (rest : List Sort) → run p opens (sorts w ++ rest) ≡ tokens w ++ run q after rest

pub moved : {v w : Walk} {p q r : Phase} {opens middle after : List Construct}
    → Moves v p opens q middle → Moves w q middle r after → Moves (v ▸ w) p opens r after
moved {v} {w} {p} {q} {r} {opens} {middle} {after} f g = record {
  goes = λ rest. ap (run p opens) (append_assoc (sorts v) (sorts w) rest) ∙ f.goes (sorts w ++ rest)
      ∙ ap (λ l. tokens v ++ l) (g.goes rest) ∙ sym (append_assoc (tokens v) (tokens w) (run r after rest));
}

-- a condition in its parentheses
pub tested : (e : Expr) (c : Construct) (opens : List Construct)
    → unparen (construct.Parens ∷ c ∷ opens) ≡ token_in phase.Start (c ∷ opens)
    → Moves (walk_parenthesized e) phase.Condition (c ∷ opens) phase.Start (c ∷ opens)
tested e c opens h =
    let opening : Moves (plain token.OpenParen) phase.Condition (c ∷ opens) phase.Condition (construct.Parens ∷ c ∷ opens) = record { goes = λ rest. refl } in
    let within : Moves (walk e) phase.Condition (construct.Parens ∷ c ∷ opens) phase.Condition (construct.Parens ∷ c ∷ opens) =
    record { goes = (passes e).goes phase.Condition (construct.Parens ∷ c ∷ opens) (in_parens (c ∷ opens)) } in
    let closing : Moves (plain token.CloseParen) phase.Condition (construct.Parens ∷ c ∷ opens) phase.Start (c ∷ opens) =
    record { goes = λ rest. ap (λ (t : Turn). t.tags ++ run t.phase t.opens rest) h } in
    moved opening (moved within closing)

-- names and constants end nothing
pub data Bears : Phase → Type 0 where
  bears_inside : Bears phase.Inside
  bears_condition : Bears phase.Condition

pub record Quiet (w : Walk) : Type 0 where
  pub stays : (p : Phase) → Bears p → (opens : List Construct) → Moves w p opens p opens

quiet_both : {v w : Walk} → Quiet v → Quiet w → Quiet (v ▸ w)
quiet_both f g = record { stays = λ p b opens. moved (f.stays p b opens) (g.stays p b opens) }

goes_other : (p : Placed) → sort_of p.token ≡ sort.Other → (q : Phase) → Bears q → (opens : List Construct) → Moves (Said p) q opens q opens
goes_other p e _ bears_inside opens = record { goes = λ rest. rw e refl }
goes_other p e _ bears_condition opens = record { goes = λ rest. rw e refl }

pub quiet_other : (p : Placed) → sort_of p.token ≡ sort.Other → Quiet (Said p)
quiet_other p e = record { stays = goes_other p e }

goes_name : (w : Identifier) (e : Event) (q : Phase) → Bears q → (opens : List Construct) → Moves (name w e) q opens q opens
goes_name w e _ bears_inside opens = record { goes = λ rest. refl }
goes_name w e _ bears_condition opens = record { goes = λ rest. refl }

pub quiet_name : (w : Identifier) (e : Event) → Quiet (name w e)
quiet_name w e = record { stays = goes_name w e }

module _ {A : Type 0} (say : A → Walk) (quiet : (x : A) → Quiet (say x)) where
  quiet_commas : (xs : List A) → Quiet (walk_commas say xs)
  quiet_commas [] = record { stays = λ p b opens. record { goes = λ rest. refl } }
  quiet_commas (x ∷ xs) = quiet_both (quiet_other _ refl) (quiet_both (quiet x) (quiet_commas xs))

  pub quiet_list : (xs : List A) → Quiet (walk_list say xs)
  quiet_list [] = record { stays = λ p b opens. record { goes = λ rest. refl } }
  quiet_list (x ∷ xs) = quiet_both (quiet x) (quiet_commas xs)

pub quiet_size : (size : Option ℕ) → Quiet (walk_size size)
quiet_size None = record { stays = λ p b opens. record { goes = λ rest. refl } }
quiet_size (Some n) = quiet_other _ refl

pub quiet_declared : (d : Declared) → Quiet (walk_declared d)
quiet_declared d = quiet_both (quiet_name d.word _) (quiet_size d.size)

quiet_constant : (c : Constant) → Quiet (plain (constant_token c))
quiet_constant (Number n) = quiet_other _ refl
quiet_constant (Character n) = quiet_other _ refl

goes_text : (bytes : List ℕ) (offset : ℕ) (q : Phase) → Bears q → (opens : List Construct) → Moves (walk_value (Ival_text bytes offset)) q opens q opens
goes_text bytes offset _ bears_inside opens = record { goes = λ rest. refl }
goes_text bytes offset _ bears_condition opens = record { goes = λ rest. refl }

goes_value_name : (w : Identifier) (q : Phase) → Bears q → (opens : List Construct) → Moves (walk_value (Ival_name w)) q opens q opens
goes_value_name w _ bears_inside opens = record { goes = λ rest. refl }
goes_value_name w _ bears_condition opens = record { goes = λ rest. refl }

pub quiet_value : (v : Ival) → Quiet (walk_value v)
quiet_value (Ival_constant c) = quiet_constant c
quiet_value (Ival_text bytes offset) = record { stays = goes_text bytes offset }
quiet_value (Ival_name w) = record { stays = goes_value_name w }
