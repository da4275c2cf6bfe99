-- What stands within constructs alone makes a tag for each token.
use Rattle.std.proofs.Common.{◌≡◌, ◌∙◌, ap, append_assoc, false, List, [], ◌∷◌, ◌++◌, ℕ, refl, sym, true}
use Rattle.blang.specs.declared.token.Placed.{Placed}
use Rattle.blang.specs.declared.token.Token.TheVariants as token
use Rattle.blang.specs.Trees.{Identifier, Expr, Arguments, Named, Literal, Text, Grouped, Indexed, Called, Postfixed, Prefixed, Binary, Conditional, Assigned, No_arguments, Another, Number, Character, PrefixOp, Negate, PostIncrement, PostDecrement, mark, constant_token, Constant, prefix_token, postfix_token, PostfixOp}
use Rattle.blang.specs.Cut.{placed}
use Rattle.blang.specs.Walk.{Event, LvalueWanted, Mention, Walk, prefix_events, text, NothingHere, Said, TextHere, Noted, Level, ◌▸◌, plain, level, name, walk, walk_arguments, comma_before_next, callee}
use Rattle.btree.specs.declared.tags.Tag.TheVariants as tag
use Rattle.btree.specs.declared.tags.Construct.{Construct}
use Rattle.btree.specs.declared.tags.Construct.TheVariants as construct
use Rattle.btree.specs.declared.tags.Phase.{Phase}
use Rattle.btree.specs.declared.tags.Phase.TheVariants as phase
use Rattle.btree.specs.declared.sorts.Sort.{Sort}
use Rattle.btree.specs.declared.sorts.Sort.TheVariants as sort
use Rattle.btree.specs.Machine.{heading_or, run, sort_of, token_in}
use Rattle.btree.specs.Tags.{tokens}

-- the tokens of a walk
abbrev pub sorts : Walk → List Sort
sorts (Said p) = sort_of p.token ∷ []
sorts (TextHere t) = sort.Other ∷ []
sorts (Level opening inside after) = sort_of opening.token ∷ sorts inside
sorts (v ▸ w) = sorts v ++ sorts w
sorts _ = []

-- where the tokens of an expression end nothing
pub data Carries : Phase → List Construct → Type 0 where
  in_construct : (c : Construct) (opens : List Construct)
      → heading_or phase.Inside (c ∷ opens) ≡ token_in phase.Inside (c ∷ opens) → Carries phase.Inside (c ∷ opens)
  in_parens : (opens : List Construct) → Carries phase.Condition (construct.Parens ∷ opens)

pub record Passes (w : Walk) : Type 0 where
  pub goes : (p : Phase) (opens : List Construct) → Carries p opens → (rest : List Sort)
      → run p opens (sorts w ++ rest) ≡ tokens w ++ run p opens rest

pub nothing : Passes NothingHere
nothing = record { goes = λ p opens c rest. refl }

pub noted : (e : Event) → Passes (Noted e)
noted e = record { goes = λ p opens c rest. refl }

pub both : {v w : Walk} → Passes v → Passes w → Passes (v ▸ w)
both {v} {w} f g = record {
  goes = λ p opens c rest. ap (run p opens) (append_assoc (sorts v) (sorts w) rest) ∙ f.goes p opens c (sorts w ++ rest)
      ∙ ap (λ l. tokens v ++ l) (g.goes p opens c rest) ∙ sym (append_assoc (tokens v) (tokens w) (run p opens rest));
}

-- a token with which nothing begins or ends, whatever the phase
module _ (s : Sort) where
  abbrev pub IsPassed : Type 0
  IsPassed = (p : Phase) (opens : List Construct) → Carries p opens → (ss : List Sort)
      → run p opens (s ∷ ss) ≡ tag.Token ∷ run p opens ss

pub passed_other : IsPassed sort.Other
passed_other _ _ (in_construct c opens h) ss = refl
passed_other _ _ (in_parens opens) ss = refl

pub passed_name : IsPassed sort.Name
passed_name _ _ (in_construct c opens h) ss = refl
passed_name _ _ (in_parens opens) ss = refl

pub passed_colon : IsPassed sort.Colon
passed_colon _ _ (in_construct c opens h) ss = rw h refl
passed_colon _ _ (in_parens opens) ss = refl

pub said : (p : Placed) → IsPassed (sort_of p.token) → Passes (Said p)
said p h = record { goes = h }

pub opened : (p : Placed) {w : Walk} (after : List Event) → IsPassed (sort_of p.token) → Passes w → Passes (Level p w after)
opened p {w} after h g = record {
  goes = λ q opens c rest. h q opens c (sorts w ++ rest) ∙ ap (λ l. tag.Token ∷ l) (g.goes q opens c rest);
}

pub other : (p : Placed) → sort_of p.token ≡ sort.Other → Passes (Said p)
other p e = said p (λ q opens c ss. rw e (passed_other q opens c ss))

-- parentheses
through : (w : Walk) → Passes w → (p : Phase) (opens : List Construct) → Carries p opens → (rest : List Sort)
    → run p opens ((sort.OpenParen ∷ sorts w ++ sort.CloseParen ∷ []) ++ rest) ≡ (tag.Token ∷ tokens w ++ tag.Token ∷ []) ++ run p opens rest
through w f _ _ (in_construct c opens h) rest =
    ap (run phase.Inside (c ∷ opens)) (append_assoc (sort.OpenParen ∷ sorts w) (sort.CloseParen ∷ []) rest)
    ∙ ap (λ l. tag.Token ∷ l) (f.goes phase.Inside (c ∷ opens) (in_construct c opens h) (sort.CloseParen ∷ rest))
    ∙ sym (append_assoc (tag.Token ∷ tokens w) (tag.Token ∷ []) (run phase.Inside (c ∷ opens) rest))
through w f _ _ (in_parens opens) rest =
    ap (run phase.Condition (construct.Parens ∷ opens)) (append_assoc (sort.OpenParen ∷ sorts w) (sort.CloseParen ∷ []) rest)
    ∙ ap (λ l. tag.Token ∷ l) (f.goes phase.Condition (construct.Parens ∷ construct.Parens ∷ opens) (in_parens (construct.Parens ∷ opens)) (sort.CloseParen ∷ rest))
    ∙ sym (append_assoc (tag.Token ∷ tokens w) (tag.Token ∷ []) (run phase.Condition (construct.Parens ∷ opens) rest))

pub in_parentheses : {w : Walk} → Passes w → Passes (level token.OpenParen w ▸ plain token.CloseParen)
in_parentheses {w} f = record { goes = through w f }

pub passes_name : (w : Identifier) (e : Event) → Passes (name w e)
passes_name w e = record { goes = λ p opens c rest. passed_name p opens c rest }

passes_constant : (c : Constant) → Passes (plain (constant_token c))
passes_constant (Number n) = other _ refl
passes_constant (Character n) = other _ refl

passes_text : (bytes : List ℕ) (offset : ℕ) → Passes (text bytes offset)
passes_text bytes offset = record { goes = passed_other }

pub prefix_sort : (op : PrefixOp) → sort_of (prefix_token op) ≡ sort.Other
prefix_sort Negate = refl
prefix_sort _ = refl

pub postfix_sort : (op : PostfixOp) → sort_of (postfix_token op) ≡ sort.Other
postfix_sort PostIncrement = refl
postfix_sort PostDecrement = refl

passes_comma : (args : Arguments) → Passes (comma_before_next args)
passes_comma No_arguments = nothing
passes_comma (Another before e) = other (mark token.Comma) refl

passes_callee : (e : Expr) → Passes (walk e) → Passes (callee e (walk e))
passes_callee (Named w) f = passes_name w (Mention true w)
passes_callee _ f = f

passed_open : (op : PrefixOp) → IsPassed (sort_of (prefix_token op))
passed_open op p opens c ss = rw (prefix_sort op) (passed_other p opens c ss)

mutual
  pub passes : (e : Expr) → Passes (walk e)
  passes (Named w) = passes_name w (Mention false w)
  passes (Literal c) = passes_constant c
  passes (Text bytes offset) = passes_text bytes offset
  passes (Grouped e) = in_parentheses (passes e)
  passes (Indexed e f) =
      both (passes e) (both (opened (mark token.OpenBracket) [] passed_other (passes f)) (other (mark token.CloseBracket) refl))
  passes (Called e args) = both (passes_callee e (passes e)) (in_parentheses (passes_arguments args))
  passes (Postfixed op line e) =
      both (passes e) (both (noted (LvalueWanted line e)) (other (placed (postfix_token op) line) (postfix_sort op)))
  passes (Prefixed op line e) =
      opened (placed (prefix_token op) line) (prefix_events op line e) (passed_open op) (passes e)
  passes (Binary op line e f) = both (passes e) (both (other (placed (token.Operator op) line) refl) (passes f))
  passes (Conditional e f g) =
      both (passes e)
      (opened (mark token.Question) [] passed_other (both (passes f) (both (said (mark token.Colon) passed_colon) (passes g))))
  passes (Assigned op line e f) =
      both (passes e)
      (both (noted (LvalueWanted line e)) (opened (placed (token.Assign op) line) [] passed_other (passes f)))

  pub passes_arguments : (args : Arguments) → Passes (walk_arguments args)
  passes_arguments No_arguments = nothing
  passes_arguments (Another before e) = both (passes_arguments before) (both (passes_comma before) (passes e))
