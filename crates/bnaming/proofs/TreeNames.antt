-- The names of a program's tokens are those of its trees.
use Rattle.std.proofs.Common.{◌≡◌, ◌∙◌, ap, append-nil, append_assoc, false, true, Bool, List, [], ◌∷◌, ◌++◌, ℕ, Option, Some, None, refl, sym}
use Rattle.std.specs.Prelude.{flat_map}
use Rattle.std.specs.List.{filter_map}
use Rattle.std.proofs.lemmas.List.Elements.{filter_map-append}
use Rattle.blang.specs.declared.token.Placed.{Placed}
use Rattle.blang.specs.declared.token.Token.TheVariants as token
use Rattle.blang.specs.declared.token.Keyword.TheVariants as keyword
use Rattle.blang.specs.Cut.{placed}
use Rattle.blang.specs.Trees.{Identifier, Expr, Arguments, Named, Literal, Text, Grouped, Indexed, Called, Postfixed, Prefixed, Binary, Conditional, Assigned, No_arguments, Another, Number, Character, PrefixOp, Negate, Not, Indirection, Address, PreIncrement, PreDecrement, PostIncrement, PostDecrement, mark, constant_token, Constant, prefix_token, postfix_token, PostfixOp}
use Rattle.blang.specs.Trees.{Heading, Auto, Extrn, Label, Case, Default, Declared, Stmt, Headed, Compound, If, IfElse, While, Switch, Goto, Break, Return, ReturnValue, Evaluate, Empty, Stmts, Nothing, More}
use Rattle.blang.specs.Walk.{Event, LoopBegins, LoopEnds, LvalueWanted, Mention, SwitchBegins, SwitchEnds, Walk, prefix_events, text, NothingHere, Said, TextHere, Noted, Level, ◌▸◌, plain, level, name, walk, walk_arguments, comma_before_next, callee, events_in}
use Rattle.blang.specs.Walk.{walk_body, walk_commas, walk_declared, walk_heading, walk_import, walk_list, walk_parenthesized, walk_size, walk_statement}
use Rattle.blex.specs.declared.lexeme.Lexeme.{Lexeme}
use Rattle.blex.specs.declared.lexeme.Lexeme.TheVariants as lexeme
use Rattle.blex.specs.Lexemes.{lexeme_of}
use Rattle.btree.specs.declared.tags.Tag.{Tag}
use Rattle.btree.specs.declared.tags.Tag.TheVariants as tag
use Rattle.btree.specs.declared.tags.Construct.{Construct}
use Rattle.btree.specs.declared.tags.Construct.TheVariants as construct
use Rattle.btree.specs.Tags.{body_tags, in_braces, statement_tags, tokens, within}
use Rattle.bnaming.specs.declared.roles.Mode.{Mode}
use Rattle.bnaming.specs.declared.roles.Mode.TheVariants as mode
use Rattle.bnaming.specs.declared.roles.Role.TheVariants as role
use Rattle.bnaming.specs.Roles.{mode_after, mode_in}
use Rattle.bnaming.specs.Rows.{content_of, is_paren}
use Rattle.bnaming.specs.Laws.{NamedAs, content_name, event_name}

abbrev pub list_of : Option NamedAs → List NamedAs
list_of None = []
list_of (Some n) = n ∷ []

abbrev pub is_before : List Lexeme → Bool
is_before [] = false
is_before (l ∷ ls) = is_paren l

-- the names of tokens with these tags
abbrev pub names_from : Mode → List Lexeme → List Tag → List NamedAs
names_from m ls [] = []
names_from m ls (tag.Begins c ∷ tags) = names_from (mode_in c) ls tags
names_from m ls (tag.Ends ∷ tags) = names_from mode.Statement ls tags
names_from m [] (tag.Token ∷ tags) = names_from m [] tags
names_from m (l ∷ ls) (tag.Token ∷ tags) =
    list_of (content_name (content_of m l (is_before ls))) ++ names_from (mode_after m l (is_before ls)) ls tags

-- the tokens of a walk
abbrev pub lexes : Walk → List Lexeme
lexes (Said p) = lexeme_of p.token ∷ []
lexes (TextHere t) = lexeme.String ∷ []
lexes (Level opening inside after) = lexeme_of opening.token ∷ lexes inside
lexes (v ▸ w) = lexes v ++ lexes w
lexes _ = []

-- the names that a scan finds in it
abbrev pub found : Walk → List NamedAs
found w = filter_map event_name (events_in w)

-- From a mode on, these tokens and tags have these names, and another mode comes after them.
pub record Says (m : Mode) (own : List Lexeme) (these : List Tag) (names : List NamedAs) (n : Mode) : Type 0 where
  pub goes : (ls : List Lexeme) (tags : List Tag) → names_from m (own ++ ls) (these ++ tags) ≡ names ++ names_from n ls tags

pub says_both : {m n o : Mode} {k l : List Lexeme} {s t : List Tag} {a b : List NamedAs} → Says m k s a n → Says n l t b o → Says m (k ++ l) (s ++ t) (a ++ b) o
says_both {m} {n} {o} {k} {l} {s} {t} {a} {b} f g = record {
  goes = λ ls tags. ap (λ x. names_from m x ((s ++ t) ++ tags)) (append_assoc k l ls)
      ∙ ap (λ x. names_from m (k ++ (l ++ ls)) x) (append_assoc s t tags)
      ∙ f.goes (l ++ ls) (t ++ tags) ∙ ap (λ x. a ++ x) (g.goes ls tags)
      ∙ sym (append_assoc a b (names_from o ls tags));
}

pub says_within : (c : Construct) {l m n : Mode} {k : List Lexeme} {s : List Tag} {a : List NamedAs} → l ≡ mode_in c → Says l k s a n → Says m k (within c s) a mode.Statement
says_within c {l} {m} {n} {k} {s} {a} e f = record {
  goes = λ ls tags. ap (λ x. names_from (mode_in c) (k ++ ls) x) (append_assoc s (tag.Ends ∷ []) tags)
      ∙ ap (λ y. names_from y (k ++ ls) (s ++ tag.Ends ∷ tags)) (sym e)
      ∙ f.goes ls (tag.Ends ∷ tags);
}

pub says_as : {m n : Mode} {k : List Lexeme} {s : List Tag} {a b : List NamedAs} → a ≡ b → Says m k s a n → Says m k s b n
says_as {m} {n} e f = record { goes = λ ls tags. f.goes ls tags ∙ ap (λ x. x ++ names_from n ls tags) e }

-- one token
pub token_says : (m : Mode) (l : Lexeme) (n : Mode) (a : List NamedAs) → ((b : Bool) → list_of (content_name (content_of m l b)) ≡ a) → ((b : Bool) → mode_after m l b ≡ n)
    → Says m (l ∷ []) (tag.Token ∷ []) a n
token_says m l n a h k = record {
  goes = λ ls tags. ap (λ x. x ++ names_from (mode_after m l (is_before ls)) ls tags) (h (is_before ls)) ∙ ap (λ y. a ++ names_from y ls tags) (k (is_before ls));
}

-- a token of a statement that is no name
pub other_says : (l : Lexeme) → ((b : Bool) → list_of (content_name (content_of mode.Statement l b)) ≡ []) → Says mode.Statement (l ∷ []) (tag.Token ∷ []) [] mode.Statement
other_says l h = token_says mode.Statement l mode.Statement [] h (λ b. refl)

-- In a statement, a walk has the names that the scan finds.
pub record Told (w : Walk) : Type 0 where
  pub says : Says mode.Statement (lexes w) (tokens w) (found w) mode.Statement

pub told_both : {v w : Walk} → Told v → Told w → Told (v ▸ w)
told_both {v} {w} f g = record { says = says_as (sym (filter_map-append event_name (events_in v) (events_in w))) (says_both f.says g.says) }

pub told_nothing : Told NothingHere
told_nothing = record { says = record { goes = λ ls tags. refl } }

-- a token that is no name
pub told_other : (p : Placed) → ((b : Bool) → list_of (content_name (content_of mode.Statement (lexeme_of p.token) b)) ≡ []) → Told (Said p)
told_other p h = record { says = other_says (lexeme_of p.token) h }

told_constant : (c : Constant) → Told (plain (constant_token c))
told_constant (Number n) = told_other _ (λ b. refl)
told_constant (Character n) = told_other _ (λ b. refl)

told_postfix : (op : PostfixOp) (line : ℕ) → Told (Said (placed (postfix_token op) line))
told_postfix PostIncrement line = told_other _ (λ b. refl)
told_postfix PostDecrement line = told_other _ (λ b. refl)

told_text : (bytes : List ℕ) (offset : ℕ) → Told (text bytes offset)
told_text bytes offset = record { says = record { goes = λ ls tags. refl } }

told_mention : (called : Bool) (w : Identifier) → Told (name w (Mention called w))
told_mention called w = record { says = record { goes = λ ls tags. refl } }

told_wanted : (line : ℕ) (e : Expr) → Told (Noted (LvalueWanted line e))
told_wanted line e = record { says = record { goes = λ ls tags. refl } }

-- a token with a level in it, after which no name comes
told_level : (p : Placed) {w : Walk} (after : List Event) → ((b : Bool) → list_of (content_name (content_of mode.Statement (lexeme_of p.token) b)) ≡ []) → filter_map event_name after ≡ [] → Told w → Told (Level p w after)
told_level p {w} after h none f = record {
  says = says_as (sym (append-nil (found w)) ∙ ap (λ l. found w ++ l) (sym none) ∙ sym (filter_map-append event_name (events_in w) after))
      (says_both (other_says (lexeme_of p.token) h) f.says);
}

told_prefixed : (op : PrefixOp) (line : ℕ) (e : Expr) → Told (walk e) → Told (Level (placed (prefix_token op) line) (walk e) (prefix_events op line e))
told_prefixed Negate line e f = told_level _ [] (λ b. refl) refl f
told_prefixed Not line e f = told_level _ [] (λ b. refl) refl f
told_prefixed Indirection line e f = told_level _ [] (λ b. refl) refl f
told_prefixed Address line e f = told_level _ (LvalueWanted line e ∷ []) (λ b. refl) refl f
told_prefixed PreIncrement line e f = told_level _ (LvalueWanted line e ∷ []) (λ b. refl) refl f
told_prefixed PreDecrement line e f = told_level _ (LvalueWanted line e ∷ []) (λ b. refl) refl f

told_parens : {w : Walk} → Told w → Told (level token.OpenParen w ▸ plain token.CloseParen)
told_parens f = told_both (told_level (mark token.OpenParen) [] (λ b. refl) refl f) (told_other (mark token.CloseParen) (λ b. refl))

told_comma : (args : Arguments) → Told (comma_before_next args)
told_comma No_arguments = told_nothing
told_comma (Another before e) = told_other _ (λ b. refl)

told_callee : (e : Expr) → Told (walk e) → Told (callee e (walk e))
told_callee (Named w) f = told_mention true w
told_callee _ f = f

mutual
  pub told : (e : Expr) → Told (walk e)
  told (Named w) = told_mention false w
  told (Literal c) = told_constant c
  told (Text bytes offset) = told_text bytes offset
  told (Grouped e) = told_parens (told e)
  told (Indexed e f) = told_both (told e) (told_both (told_level (mark token.OpenBracket) [] (λ b. refl) refl (told f)) (told_other (mark token.CloseBracket) (λ b. refl)))
  told (Called e args) = told_both (told_callee e (told e)) (told_parens (told_arguments args))
  told (Postfixed op line e) = told_both (told e) (told_both (told_wanted line e) (told_postfix op line))
  told (Prefixed op line e) = told_prefixed op line e (told e)
  told (Binary op line e f) = told_both (told e) (told_both (told_other (placed (token.Operator op) line) (λ b. refl)) (told f))
  told (Conditional e f g) =
      told_both (told e)
      (told_level (mark token.Question) [] (λ b. refl) refl (told_both (told f) (told_both (told_other (mark token.Colon) (λ b. refl)) (told g))))
  told (Assigned op line e f) =
      told_both (told e) (told_both (told_wanted line e) (told_level (placed (token.Assign op) line) [] (λ b. refl) refl (told f)))

  pub told_arguments : (args : Arguments) → Told (walk_arguments args)
  told_arguments No_arguments = told_nothing
  told_arguments (Another before e) = told_both (told_arguments before) (told_both (told_comma before) (told e))

-- the elements of a list, with commas between them, each of which has these names in a mode
module _ {A : Type 0} (say : A → Walk) (m : Mode) (names : A → List NamedAs)
    (each : (x : A) → Says m (lexes (say x)) (tokens (say x)) (names x) m) (comma : Says m (lexeme.Comma ∷ []) (tag.Token ∷ []) [] m) where
  says_commas : (xs : List A) → Says m (lexes (walk_commas say xs)) (tokens (walk_commas say xs)) (flat_map names xs) m
  says_commas [] = record { goes = λ ls tags. refl }
  says_commas (x ∷ xs) = says_both comma (says_both (each x) (says_commas xs))

  pub says_list : (xs : List A) → Says m (lexes (walk_list say xs)) (tokens (walk_list say xs)) (flat_map names xs) m
  says_list [] = record { goes = λ ls tags. refl }
  says_list (x ∷ xs) = says_both (each x) (says_commas xs)

events_of : (v w : Walk) → found (v ▸ w) ≡ found v ++ found w
events_of v w = filter_map-append event_name (events_in v) (events_in w)

-- what a scan finds in such a list
module _ {A : Type 0} (say : A → Walk) where
  found_commas : (xs : List A) → found (walk_commas say xs) ≡ flat_map (λ x. found (say x)) xs
  found_commas [] = refl
  found_commas (x ∷ xs) = events_of (say x) (walk_commas say xs) ∙ ap (λ l. found (say x) ++ l) (found_commas xs)

  pub found_list : (xs : List A) → found (walk_list say xs) ≡ flat_map (λ x. found (say x)) xs
  found_list [] = refl
  found_list (x ∷ xs) = events_of (say x) (walk_commas say xs) ∙ ap (λ l. found (say x) ++ l) (found_commas xs)

-- headings
abbrev heading_ends : Heading → Mode
heading_ends (Auto ds) = mode.Automatics
heading_ends (Extrn names) = mode.Imports
heading_ends h = mode.Statement

says_size : (size : Option ℕ) → Says mode.Automatics (lexes (walk_size size)) (tokens (walk_size size)) (found (walk_size size)) mode.Automatics
says_size None = record { goes = λ ls tags. refl }
says_size (Some n) = record { goes = λ ls tags. refl }

says_declared : (d : Declared) → Says mode.Automatics (lexes (walk_declared d)) (tokens (walk_declared d)) (found (walk_declared d)) mode.Automatics
says_declared d =
    let own : Says mode.Automatics (lexeme.Name d.word.text ∷ []) (tag.Token ∷ []) ((role.Automatic, d.word.text) ∷ []) mode.Automatics = record { goes = λ ls tags. refl } in
    says_both own (says_size d.size)

says_import : (w : Identifier) → Says mode.Imports (lexes (walk_import w)) (tokens (walk_import w)) (found (walk_import w)) mode.Imports
says_import w = record { goes = λ ls tags. refl }

-- a token of a heading, what is declared in it, and its ;
says_heading : (n : Mode) (k : Lexeme) (w : Walk) → Says mode.Heading (k ∷ []) (tag.Token ∷ []) [] n → Says n (lexes w) (tokens w) (found w) n → Says n (lexeme.Semicolon ∷ []) (tag.Token ∷ []) [] n
    → Says mode.Heading (k ∷ (lexes w ++ lexeme.Semicolon ∷ [])) (tag.Token ∷ (tokens w ++ tag.Token ∷ [])) (filter_map event_name (events_in w ++ [])) n
says_heading n k w first f last =
    says_as (append-nil (found w) ∙ ap (filter_map event_name) (sym (append-nil (events_in w)))) (says_both first (says_both f last))

heading : (h : Heading) → Says mode.Heading (lexes (walk_heading h)) (tokens (walk_heading h)) (found (walk_heading h)) (heading_ends h)
heading (Auto ds) =
    says_heading mode.Automatics (lexeme.Keyword keyword.Auto) (walk_list walk_declared ds) (record { goes = λ ls tags. refl })
    (says_as (sym (found_list walk_declared ds)) (says_list walk_declared mode.Automatics (λ d. found (walk_declared d)) says_declared (record { goes = λ ls tags. refl }) ds))
    (record { goes = λ ls tags. refl })
heading (Extrn names) =
    says_heading mode.Imports (lexeme.Keyword keyword.Extrn) (walk_list walk_import names) (record { goes = λ ls tags. refl })
    (says_as (sym (found_list walk_import names)) (says_list walk_import mode.Imports (λ w. found (walk_import w)) says_import (record { goes = λ ls tags. refl }) names))
    (record { goes = λ ls tags. refl })
heading (Label w) = record { goes = λ ls tags. refl }
heading (Case line (Number n)) = record { goes = λ ls tags. refl }
heading (Case line (Character n)) = record { goes = λ ls tags. refl }
heading (Default line) = record { goes = λ ls tags. refl }

-- In any mode, a statement has the names that the scan finds.
abbrev pub IsTold : Stmt → Type 0
IsTold s = (m : Mode) → Says m (lexes (walk_statement s)) (statement_tags s) (found (walk_statement s)) mode.Statement

abbrev AreTold : Stmts → Type 0
AreTold body = Says mode.Statement (lexes (walk_body body)) (body_tags body) (found (walk_body body)) mode.Statement

-- what stands in braces
braced : (body : Stmts) → AreTold body → (m : Mode) → Says m (lexeme.OpenBrace ∷ (lexes (walk_body body) ++ lexeme.CloseBrace ∷ [])) (in_braces (body_tags body)) (found (walk_body body)) mode.Statement
braced body f m =
    says_within construct.Block {l = mode.Statement} refl
    (says_both (other_says lexeme.OpenBrace (λ b. refl))
    (says_as (append-nil (found (walk_body body))) (says_both f (other_says lexeme.CloseBrace (λ b. refl)))))

parenthesized : (e : Expr) → Told (walk_parenthesized e)
parenthesized e = told_both (told_other (mark token.OpenParen) (λ b. refl)) (told_both (told e) (told_other (mark token.CloseParen) (λ b. refl)))

semicolon : Told (plain token.Semicolon)
semicolon = told_other (mark token.Semicolon) (λ b. refl)

-- a statement that is one construct with nothing in it
plainly : {w : Walk} → Told w → (m : Mode) → Says m (lexes w) (within construct.Plain (tokens w)) (found w) mode.Statement
plainly f m = says_within construct.Plain {l = mode.Statement} refl f.says

-- what opens a construct, and what a scan finds after it
constructed : (c : Construct) (k : Lexeme) {l : List Lexeme} {s : List Tag} {a : List NamedAs} → mode.Statement ≡ mode_in c → ((b : Bool) → list_of (content_name (content_of mode.Statement k b)) ≡ [])
    → Says mode.Statement l s a mode.Statement → (m : Mode) → Says m (k ∷ l) (within c (tag.Token ∷ s)) a mode.Statement
constructed c k e h f m = says_within c e (says_both (other_says k h) f)

followed : (es after : List Event) (names : List NamedAs) → filter_map event_name es ≡ names → filter_map event_name after ≡ [] → names ≡ filter_map event_name (es ++ after)
followed es after names e none =
    sym e ∙ sym (append-nil (filter_map event_name es)) ∙ ap (λ l. filter_map event_name es ++ l) (sym none) ∙ sym (filter_map-append event_name es after)

mutual
  pub is_told : (s : Stmt) → IsTold s
  is_told (Headed h s) = λ m. says_as (sym (events_of (walk_heading h) (walk_statement s))) (says_both (says_within construct.Heading refl (heading h)) (is_told s mode.Statement))
  is_told (Compound body) = λ m.
      says_as (followed (events_in (walk_body body)) [] (found (walk_body body)) refl refl ∙ ap (filter_map event_name) (sym (append-nil (events_in (walk_body body) ++ []))))
      (braced body (are_told body) m)
  is_told (If e s) =
      let p = walk_parenthesized e in
      constructed construct.If (lexeme.Keyword keyword.If) refl (λ b. refl)
      (says_as (followed (events_in (p ▸ walk_statement s)) [] (found p ++ found (walk_statement s)) (events_of p (walk_statement s)) refl)
      (says_both (parenthesized e).says (is_told s mode.Statement)))
  is_told (IfElse e s other) =
      let p = walk_parenthesized e in
      let more = plain (token.Keyword keyword.Else) ▸ walk_statement other in
      constructed construct.If (lexeme.Keyword keyword.If) refl (λ b. refl)
      (says_as (followed (events_in (p ▸ walk_statement s ▸ more)) [] (found p ++ (found (walk_statement s) ++ found more))
      (events_of p (walk_statement s ▸ more) ∙ ap (λ l. found p ++ l) (events_of (walk_statement s) more)) refl)
      (says_both (parenthesized e).says (says_both (is_told s mode.Statement) (says_both (other_says (lexeme.Keyword keyword.Else) (λ b. refl)) (is_told other mode.Statement)))))
  is_told (While e s) =
      let p = walk_parenthesized e in
      constructed construct.While (lexeme.Keyword keyword.While) refl (λ b. refl)
      (says_as (followed (events_in (p ▸ Noted LoopBegins ▸ walk_statement s)) (LoopEnds ∷ []) (found p ++ found (walk_statement s)) (events_of p (Noted LoopBegins ▸ walk_statement s)) refl)
      (says_both (parenthesized e).says (is_told s mode.Statement)))
  is_told (Switch e body) =
      let inside = plain token.OpenBrace ▸ Noted SwitchBegins ▸ walk_body body ▸ plain token.CloseBrace in
      constructed construct.Switch (lexeme.Keyword keyword.Switch) refl (λ b. refl)
      (says_as (followed (events_in (walk e ▸ inside)) (SwitchEnds ∷ []) (found (walk e) ++ found (walk_body body))
      (events_of (walk e) inside ∙ ap (λ es. found (walk e) ++ filter_map event_name es) (append-nil (events_in (walk_body body)))) refl)
      (says_both (told e).says (braced body (are_told body) mode.Statement)))
  is_told (Goto e) = plainly (told_both (told_other (mark (token.Keyword keyword.Goto)) (λ b. refl)) (told_both (told e) semicolon))
  is_told (Break line) = λ m. record { goes = λ ls tags. refl }
  is_told Return = λ m. record { goes = λ ls tags. refl }
  is_told (ReturnValue e) = plainly (told_both (told_other (mark (token.Keyword keyword.Return)) (λ b. refl)) (told_both (parenthesized e) semicolon))
  is_told (Evaluate e) = plainly (told_both (told e) semicolon)
  is_told Empty = λ m. record { goes = λ ls tags. refl }

  pub are_told : (body : Stmts) → AreTold body
  are_told Nothing = record { goes = λ ls tags. refl }
  are_told (More before s) = says_as (sym (events_of (walk_body before) (walk_statement s))) (says_both (are_told before) (is_told s mode.Statement))
