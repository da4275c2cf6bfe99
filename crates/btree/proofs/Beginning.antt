-- How statements and expressions begin: with no else, and with no name before a colon.
use Rattle.std.proofs.Common.{◌≡◌, ap, append_assoc, false, List, [], ◌∷◌, ◌++◌, refl, subst, sym, true, Bool}
use Rattle.blang.specs.Trees.{Expr, Named, Literal, Text, Grouped, Indexed, Called, Postfixed, Prefixed, Binary, Conditional, Assigned, Number, Character, Constant, PostfixOp, constant_token, postfix_token, Headed, Evaluate, Stmt, Auto, Heading}
use Rattle.blang.specs.Walk.{callee, plain, walk, walk_arguments, walk_heading, walk_statement}
use Rattle.btree.specs.declared.tags.Tag.TheVariants as tag
use Rattle.btree.specs.declared.tags.Construct.{Construct}
use Rattle.btree.specs.declared.tags.Construct.TheVariants as construct
use Rattle.btree.specs.declared.tags.Phase.TheVariants as phase
use Rattle.btree.specs.declared.sorts.Sort.{Sort}
use Rattle.btree.specs.declared.sorts.Sort.TheVariants as sort
use Rattle.btree.specs.Machine.{Turn, begin_name, begins, first, run, sort_of}
use Rattle.btree.proofs.Passing.{postfix_sort, prefix_sort, sorts}

abbrev pub is_else : Sort → Bool
is_else sort.Else = true
is_else _ = false

abbrev pub is_colon : Sort → Bool
is_colon sort.Colon = true
is_colon _ = false

-- A plain statement begins with these tokens.
pub record Opens (ss : List Sort) : Type 0 where
  pub begun : (c : Construct) (opens : List Construct)
      → run phase.Start (c ∷ opens) ss ≡ tag.Begins construct.Plain ∷ run phase.Inside (construct.Plain ∷ c ∷ opens) ss
  pub no_else : is_else (first ss) ≡ false

no_label : (c : Construct) (opens : List Construct) (next : Sort) → is_colon next ≡ false
    → begin_name (c ∷ opens) next ≡ begins construct.Plain phase.Inside (c ∷ opens)
no_label c opens sort.Colon e = cc
no_label c opens _ e = refl

name_first : (rest : List Sort) → is_colon (first rest) ≡ false → Opens (sort.Name ∷ rest)
name_first rest h = record {
  begun = λ c opens. ap (λ (t : Turn). t.tags ++ run t.phase t.opens rest) (no_label c opens (first rest) h);
  no_else = refl;
}

other_first : (rest : List Sort) → Opens (sort.Other ∷ rest)
other_first rest = record { begun = λ c opens. refl; no_else = refl }

paren_first : (rest : List Sort) → Opens (sort.OpenParen ∷ rest)
paren_first rest = record { begun = λ c opens. refl; no_else = refl }

on : (a b rest : List Sort) → Opens (a ++ (b ++ rest)) → Opens ((a ++ b) ++ rest)
on a b rest h = subst Opens (sym (append_assoc a b rest)) h

constant_first : (c : Constant) (rest : List Sort) → Opens (sorts (plain (constant_token c)) ++ rest)
constant_first (Number n) rest = other_first rest
constant_first (Character n) rest = other_first rest

postfix_colon : (op : PostfixOp) → is_colon (sort_of (postfix_token op)) ≡ false
postfix_colon op = ap is_colon (postfix_sort op)

callee_sorts : (e : Expr) → sorts (callee e (walk e)) ≡ sorts (walk e)
callee_sorts (Named w) = refl
callee_sorts _ = refl

pub opens : (e : Expr) (rest : List Sort) → is_colon (first rest) ≡ false → Opens (sorts (walk e) ++ rest)
opens (Named w) rest h = name_first rest h
opens (Literal c) rest h = constant_first c rest
opens (Text bytes offset) rest h = other_first rest
opens (Grouped e) rest h = paren_first _
opens (Indexed e f) rest h = on (sorts (walk e)) _ rest (opens e _ refl)
opens (Called e args) rest h =
    let given = sort.OpenParen ∷ (sorts (walk_arguments args) ++ sort.CloseParen ∷ []) in
    on (sorts (callee e (walk e))) given rest (subst (λ (a : List Sort). Opens (a ++ (given ++ rest))) (sym (callee_sorts e)) (opens e (given ++ rest) refl))
opens (Postfixed op line e) rest h = on (sorts (walk e)) (sort_of (postfix_token op) ∷ []) rest (opens e _ (postfix_colon op))
opens (Prefixed op line e) rest h = subst (λ s. Opens (s ∷ sorts (walk e) ++ rest)) (sym (prefix_sort op)) (other_first _)
opens (Binary op line e f) rest h = on (sorts (walk e)) _ rest (opens e _ refl)
opens (Conditional e f g) rest h = on (sorts (walk e)) _ rest (opens e _ refl)
opens (Assigned op line e f) rest h = on (sorts (walk e)) _ rest (opens e _ refl)

heading_first : (h : Heading) (rest : List Sort) → is_else (first (sorts (walk_heading h) ++ rest)) ≡ false
heading_first (Auto ds) rest = refl
heading_first _ rest = refl

pub begins_well : (s : Stmt) (rest : List Sort) → is_else (first (sorts (walk_statement s) ++ rest)) ≡ false
begins_well (Headed h s) rest =
    subst (λ (ss : List Sort). is_else (first ss) ≡ false) (sym (append_assoc (sorts (walk_heading h)) (sorts (walk_statement s)) rest)) (heading_first h _)
begins_well (Evaluate e) rest = (on (sorts (walk e)) (sort.Semicolon ∷ []) rest (opens e _ refl)).no_else
begins_well _ rest = refl
