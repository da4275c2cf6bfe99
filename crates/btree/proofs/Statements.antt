-- The tags of a statement's tokens are those of its tree.
use Rattle.std.proofs.Common.{◌≡◌, ◌∙◌, ap, append_assoc, false, true, List, [], ◌∷◌, ◌++◌, refl, sym}
use Rattle.std.proofs.lemmas.Bool.{both_ways}
use Rattle.blang.specs.Trees.{Expr, Heading, Auto, Extrn, Label, Case, Default, Number, Character, Stmt, Headed, Compound, If, IfElse, While, Switch, Goto, Break, Return, ReturnValue, Evaluate, Empty, Stmts, Nothing, More}
use Rattle.blang.specs.Walk.{Walk, walk, walk_body, walk_declared, walk_heading, walk_import, walk_parenthesized, walk_statement}
use Rattle.blang.specs.WellFormed.{BodyBinds, StatementBinds, is_open}
use Rattle.btree.specs.declared.tags.Tag.{Tag}
use Rattle.btree.specs.declared.tags.Tag.TheVariants as tag
use Rattle.btree.specs.declared.tags.Construct.{Construct}
use Rattle.btree.specs.declared.tags.Construct.TheVariants as construct
use Rattle.btree.specs.declared.tags.Phase.TheVariants as phase
use Rattle.btree.specs.declared.sorts.Sort.{Sort}
use Rattle.btree.specs.declared.sorts.Sort.TheVariants as sort
use Rattle.btree.specs.Machine.{Turn, after_end, first, over, run, unparen, token_in}
use Rattle.btree.specs.Tags.{body_tags, in_braces, statement_tags, tokens, within}
use Rattle.btree.proofs.Beginning.{begins_well, is_else, opens}
use Rattle.btree.proofs.Moving.{Moves, bears_inside, quiet_declared, quiet_list, quiet_name, tested}
use Rattle.btree.proofs.Passing.{Passes, in_construct, in_parentheses, passes, sorts}

-- what stands after a construct
pub within_then : (c : Construct) (m r : List Tag) → within c m ++ r ≡ tag.Begins c ∷ (m ++ tag.Ends ∷ r)
within_then c m r = ap (λ l. tag.Begins c ∷ l) (append_assoc m (tag.Ends ∷ []) r)

-- what is over ends
plain_over : (outer : List Construct) (rest : List Sort) → run phase.Over (construct.Plain ∷ outer) rest ≡ tag.Ends ∷ run phase.Over outer rest
plain_over outer [] = refl
plain_over outer (s ∷ ss) = refl

while_over : (outer : List Construct) (rest : List Sort) → run phase.Over (construct.While ∷ outer) rest ≡ tag.Ends ∷ run phase.Over outer rest
while_over outer [] = refl
while_over outer (s ∷ ss) = refl

switch_over : (outer : List Construct) (rest : List Sort) → run phase.Over (construct.Switch ∷ outer) rest ≡ tag.Ends ∷ run phase.Over outer rest
switch_over outer [] = refl
switch_over outer (s ∷ ss) = refl

else_over : (outer : List Construct) (rest : List Sort) → run phase.Over (construct.IfElse ∷ outer) rest ≡ tag.Ends ∷ run phase.Over outer rest
else_over outer [] = refl
else_over outer (s ∷ ss) = refl

pub definition_over : (outer : List Construct) (rest : List Sort) → run phase.Over (construct.Definition ∷ outer) rest ≡ tag.Ends ∷ run phase.Over outer rest
definition_over outer [] = refl
definition_over outer (s ∷ ss) = refl

no_else_turn : (outer : List Construct) (s next : Sort) → is_else s ≡ false → over (construct.If ∷ outer) s next ≡ after_end (over outer s next)
no_else_turn outer sort.Else next e = cc
no_else_turn outer _ next e = refl

if_over : (outer : List Construct) (rest : List Sort) → is_else (first rest) ≡ false → run phase.Over (construct.If ∷ outer) rest ≡ tag.Ends ∷ run phase.Over outer rest
if_over outer [] e = refl
if_over outer (s ∷ ss) e = ap (λ (t : Turn). t.tags ++ run t.phase t.opens ss) (no_else_turn outer s (first ss) e)

-- in a block a statement begins wherever one is over
start_is_over : (outer : List Construct) (ss : List Sort) → run phase.Start (construct.Block ∷ outer) ss ≡ run phase.Over (construct.Block ∷ outer) ss
start_is_over outer [] = refl
start_is_over outer (s ∷ ss) = refl

-- up to the ; of a plain statement
ended : {w : Walk} → Passes w → (outer : List Construct) (rest : List Sort)
    → run phase.Inside (construct.Plain ∷ outer) ((sorts w ++ sort.Semicolon ∷ []) ++ rest)
    ≡ (tokens w ++ tag.Token ∷ []) ++ tag.Ends ∷ run phase.Over outer rest
ended {w} f outer rest =
    ap (run phase.Inside (construct.Plain ∷ outer)) (append_assoc (sorts w) (sort.Semicolon ∷ []) rest)
    ∙ f.goes phase.Inside (construct.Plain ∷ outer) (in_construct construct.Plain outer refl) (sort.Semicolon ∷ rest)
    ∙ ap (λ l. tokens w ++ tag.Token ∷ l) (plain_over outer rest)
    ∙ sym (append_assoc (tokens w) (tag.Token ∷ []) (tag.Ends ∷ run phase.Over outer rest))

parenthesized : (e : Expr) → Passes (walk_parenthesized e)
parenthesized e = record { goes = (in_parentheses (passes e)).goes }

-- Headings
module _ (c : Construct) (outer : List Construct) (rest : List Sort) where
  abbrev declares : (w : Walk) → Type 0
  declares w =
      run phase.Inside (construct.Heading ∷ c ∷ outer) ((sorts w ++ sort.Semicolon ∷ []) ++ rest)
      ≡ (tokens w ++ tag.Token ∷ []) ++ tag.Ends ∷ run phase.Start (c ∷ outer) rest

  declared : {w : Walk} → Moves w phase.Inside (construct.Heading ∷ c ∷ outer) phase.Inside (construct.Heading ∷ c ∷ outer) → declares w
  declared {w} f =
      ap (run phase.Inside (construct.Heading ∷ c ∷ outer)) (append_assoc (sorts w) (sort.Semicolon ∷ []) rest)
      ∙ f.goes (sort.Semicolon ∷ rest)
      ∙ sym (append_assoc (tokens w) (tag.Token ∷ []) (tag.Ends ∷ run phase.Start (c ∷ outer) rest))

  heading : (h : Heading) → run phase.Start (c ∷ outer) (sorts (walk_heading h) ++ rest)
      ≡ within construct.Heading (tokens (walk_heading h)) ++ run phase.Start (c ∷ outer) rest
  heading (Auto ds) =
      ap (λ l. tag.Begins construct.Heading ∷ tag.Token ∷ l) (declared ((quiet_list walk_declared quiet_declared ds).stays phase.Inside bears_inside (construct.Heading ∷ c ∷ outer)))
      ∙ sym (within_then construct.Heading (tokens (walk_heading (Auto ds))) _)
  heading (Extrn names) =
      ap (λ l. tag.Begins construct.Heading ∷ tag.Token ∷ l) (declared ((quiet_list walk_import (λ w. quiet_name w _) names).stays phase.Inside bears_inside (construct.Heading ∷ c ∷ outer)))
      ∙ sym (within_then construct.Heading (tokens (walk_heading (Extrn names))) _)
  heading (Label w) = refl
  heading (Case line (Number n)) = refl
  heading (Case line (Character n)) = refl
  heading (Default line) = refl

-- Statements
abbrev pub IsTagged : Stmt → Type 0
IsTagged s =
    (c : Construct) (outer : List Construct) (rest : List Sort) → (is_open s ≡ true → is_else (first rest) ≡ false)
    → run phase.Start (c ∷ outer) (sorts (walk_statement s) ++ rest) ≡ statement_tags s ++ run phase.Over (c ∷ outer) rest

abbrev AreTagged : Stmts → Type 0
AreTagged body =
    (outer : List Construct) (rest : List Sort) → is_else (first rest) ≡ false
    → run phase.Over (construct.Block ∷ outer) (sorts (walk_body body) ++ rest) ≡ body_tags body ++ run phase.Over (construct.Block ∷ outer) rest

braced : (body : Stmts) → AreTagged body → (outer : List Construct) (rest : List Sort)
    → tag.Begins construct.Block ∷ tag.Token ∷ run phase.Start (construct.Block ∷ outer) ((sorts (walk_body body) ++ sort.CloseBrace ∷ []) ++ rest)
    ≡ in_braces (body_tags body) ++ run phase.Over outer rest
braced body f outer rest =
    ap (λ l. tag.Begins construct.Block ∷ tag.Token ∷ l)
    (start_is_over outer _
    ∙ ap (run phase.Over (construct.Block ∷ outer)) (append_assoc (sorts (walk_body body)) (sort.CloseBrace ∷ []) rest)
    ∙ f outer (sort.CloseBrace ∷ rest) refl
    ∙ sym (append_assoc (body_tags body) (tag.Token ∷ []) (tag.Ends ∷ run phase.Over outer rest)))
    ∙ sym (within_then construct.Block (tag.Token ∷ (body_tags body ++ tag.Token ∷ [])) (run phase.Over outer rest))

-- a plain statement whose first token was taken
plainly : {w : Walk} → Passes w → (c : Construct) (outer : List Construct) (rest : List Sort)
    → tag.Begins construct.Plain ∷ run phase.Inside (construct.Plain ∷ c ∷ outer) ((sorts w ++ sort.Semicolon ∷ []) ++ rest)
    ≡ within construct.Plain (tokens w ++ tag.Token ∷ []) ++ run phase.Over (c ∷ outer) rest
plainly {w} f c outer rest =
    ap (λ l. tag.Begins construct.Plain ∷ l) (ended f (c ∷ outer) rest)
    ∙ sym (within_then construct.Plain (tokens w ++ tag.Token ∷ []) (run phase.Over (c ∷ outer) rest))

-- a statement after a condition
module _ (k : Construct) (e : Expr) (s : Stmt) (outer : List Construct)
    (h : unparen (construct.Parens ∷ k ∷ outer) ≡ token_in phase.Start (k ∷ outer)) (tagged : IsTagged s) where
  conditional : (rest : List Sort) → (is_open s ≡ true → is_else (first rest) ≡ false)
      → run phase.Condition (k ∷ outer) ((sorts (walk_parenthesized e) ++ sorts (walk_statement s)) ++ rest)
      ≡ tokens (walk_parenthesized e) ++ (statement_tags s ++ run phase.Over (k ∷ outer) rest)
  conditional rest o =
      ap (run phase.Condition (k ∷ outer)) (append_assoc (sorts (walk_parenthesized e)) (sorts (walk_statement s)) rest)
      ∙ (tested e k outer h).goes (sorts (walk_statement s) ++ rest)
      ∙ ap (λ l. tokens (walk_parenthesized e) ++ l) (tagged k outer rest o)

-- two parts of a construct, and what stands after it
two_parts : (k : Construct) (a b r : List Tag)
    → tag.Begins k ∷ tag.Token ∷ (a ++ (b ++ tag.Ends ∷ r)) ≡ within k (tag.Token ∷ (a ++ b)) ++ r
two_parts k a b r =
    ap (λ l. tag.Begins k ∷ tag.Token ∷ l) (sym (append_assoc a b (tag.Ends ∷ r)))
    ∙ sym (within_then k (tag.Token ∷ (a ++ b)) r)

mutual
  pub tagged : (s : Stmt) → StatementBinds s → IsTagged s
  tagged (Headed h s) binds c outer rest o =
      ap (run phase.Start (c ∷ outer)) (append_assoc (sorts (walk_heading h)) (sorts (walk_statement s)) rest)
      ∙ heading c outer (sorts (walk_statement s) ++ rest) h
      ∙ ap (λ l. within construct.Heading (tokens (walk_heading h)) ++ l) (tagged s binds.1 c outer rest o)
      ∙ sym (append_assoc (within construct.Heading (tokens (walk_heading h))) (statement_tags s) (run phase.Over (c ∷ outer) rest))
  tagged (Compound body) binds c outer rest o = braced body (all_tagged body binds) (c ∷ outer) rest
  tagged (If e s) binds c outer rest o =
      ap (λ l. tag.Begins construct.If ∷ tag.Token ∷ l)
      (conditional construct.If e s (c ∷ outer) refl (tagged s binds.1) rest (λ is. o refl)
      ∙ ap (λ l. tokens (walk_parenthesized e) ++ (statement_tags s ++ l)) (if_over (c ∷ outer) rest (o refl)))
      ∙ two_parts construct.If (tokens (walk_parenthesized e)) (statement_tags s) (run phase.Over (c ∷ outer) rest)
  tagged (IfElse e s other) binds c outer rest o =
      let taken = sorts (walk_statement s) in
      let more = sort.Else ∷ sorts (walk_statement other) in
      ap (λ l. tag.Begins construct.If ∷ tag.Token ∷ l)
      (ap (run phase.Condition (construct.If ∷ c ∷ outer))
      (append_assoc (sorts (walk_parenthesized e)) (taken ++ more) rest
      ∙ ap (λ l. sorts (walk_parenthesized e) ++ l) (append_assoc taken more rest)
      ∙ sym (append_assoc (sorts (walk_parenthesized e)) taken (more ++ rest)))
      ∙ conditional construct.If e s (c ∷ outer) refl (tagged s binds.2) (more ++ rest) (λ is. absurd (both_ways (is_open s) binds.0 is))
      ∙ ap (λ l. tokens (walk_parenthesized e) ++ (statement_tags s ++ tag.Token ∷ l))
      (tagged other binds.3 construct.IfElse (c ∷ outer) rest o
      ∙ ap (λ l. statement_tags other ++ l) (else_over (c ∷ outer) rest))
      ∙ ap (λ l. tokens (walk_parenthesized e) ++ l)
      (sym (append_assoc (statement_tags s) (tag.Token ∷ statement_tags other) (tag.Ends ∷ run phase.Over (c ∷ outer) rest))))
      ∙ two_parts construct.If (tokens (walk_parenthesized e)) (statement_tags s ++ tag.Token ∷ statement_tags other) (run phase.Over (c ∷ outer) rest)
  tagged (While e s) binds c outer rest o =
      ap (λ l. tag.Begins construct.While ∷ tag.Token ∷ l)
      (conditional construct.While e s (c ∷ outer) refl (tagged s binds.1) rest o
      ∙ ap (λ l. tokens (walk_parenthesized e) ++ (statement_tags s ++ l)) (while_over (c ∷ outer) rest))
      ∙ two_parts construct.While (tokens (walk_parenthesized e)) (statement_tags s) (run phase.Over (c ∷ outer) rest)
  tagged (Switch e body) binds c outer rest o =
      let block = sort.OpenBrace ∷ (sorts (walk_body body) ++ sort.CloseBrace ∷ []) in
      ap (λ l. tag.Begins construct.Switch ∷ tag.Token ∷ l)
      (ap (run phase.Inside (construct.Switch ∷ c ∷ outer)) (append_assoc (sorts (walk e)) block rest)
      ∙ (passes e).goes phase.Inside (construct.Switch ∷ c ∷ outer) (in_construct construct.Switch (c ∷ outer) refl) (block ++ rest)
      ∙ ap (λ l. tokens (walk e) ++ l)
      (braced body (all_tagged body binds.1) (construct.Switch ∷ c ∷ outer) rest
      ∙ ap (λ l. in_braces (body_tags body) ++ l) (switch_over (c ∷ outer) rest)))
      ∙ two_parts construct.Switch (tokens (walk e)) (in_braces (body_tags body)) (run phase.Over (c ∷ outer) rest)
  tagged (Goto e) binds c outer rest o =
      ap (λ l. tag.Begins construct.Plain ∷ tag.Token ∷ l) (ended (passes e) (c ∷ outer) rest)
      ∙ sym (within_then construct.Plain (tag.Token ∷ (tokens (walk e) ++ tag.Token ∷ [])) (run phase.Over (c ∷ outer) rest))
  tagged (Break line) binds c outer rest o =
      ap (λ l. tag.Begins construct.Plain ∷ tag.Token ∷ tag.Token ∷ l) (plain_over (c ∷ outer) rest)
  tagged Return binds c outer rest o =
      ap (λ l. tag.Begins construct.Plain ∷ tag.Token ∷ tag.Token ∷ l) (plain_over (c ∷ outer) rest)
  tagged (ReturnValue e) binds c outer rest o =
      ap (λ l. tag.Begins construct.Plain ∷ tag.Token ∷ l) (ended (parenthesized e) (c ∷ outer) rest)
      ∙ sym (within_then construct.Plain (tag.Token ∷ (tokens (walk_parenthesized e) ++ tag.Token ∷ [])) (run phase.Over (c ∷ outer) rest))
  tagged (Evaluate e) binds c outer rest o =
      ap (run phase.Start (c ∷ outer)) (append_assoc (sorts (walk e)) (sort.Semicolon ∷ []) rest)
      ∙ (opens e (sort.Semicolon ∷ rest) refl).begun c outer
      ∙ ap (λ l. tag.Begins construct.Plain ∷ run phase.Inside (construct.Plain ∷ c ∷ outer) l) (sym (append_assoc (sorts (walk e)) (sort.Semicolon ∷ []) rest))
      ∙ plainly (passes e) c outer rest
  tagged Empty binds c outer rest o =
      ap (λ l. tag.Begins construct.Plain ∷ tag.Token ∷ l) (plain_over (c ∷ outer) rest)

  all_tagged : (body : Stmts) → BodyBinds body → AreTagged body
  all_tagged Nothing binds outer rest h = refl
  all_tagged (More before s) binds outer rest h =
      ap (run phase.Over (construct.Block ∷ outer)) (append_assoc (sorts (walk_body before)) (sorts (walk_statement s)) rest)
      ∙ all_tagged before binds.0 outer (sorts (walk_statement s) ++ rest) (begins_well s rest)
      ∙ ap (λ l. body_tags before ++ l)
      (sym (start_is_over outer (sorts (walk_statement s) ++ rest)) ∙ tagged s binds.1 construct.Block outer rest (λ is. h))
      ∙ sym (append_assoc (body_tags before) (statement_tags s) (run phase.Over (construct.Block ∷ outer) rest))
