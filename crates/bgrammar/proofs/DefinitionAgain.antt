-- The spelling of a well-formed definition is read as that definition, and an open one goes on with an else.
use Rattle.std.proofs.Common.{◌≡◌, ℕ, zero, suc, ◌+◌, List, [], ◌∷◌, ◌++◌, Bool, true, false, sym, ap, ◌∙◌, refl, append_assoc, Option, Some, None}
use Rattle.blang.specs.declared.token.Token.TheVariants as token
use Rattle.blang.specs.declared.token.Keyword.TheVariants as keyword
use Rattle.blang.specs.declared.token.Placed.{Placed}
use Rattle.blang.specs.Trees.{mark, Identifier, Number, name_token, Stmt, Headed, Compound, If, IfElse, While, Empty, keyword_mark, Ival, Ival_constant, Ival_text, Definition, Simple, Vector, Function}
use Rattle.bgrammar.specs.Spelling.{list_spelling, spell_heading, spell_condition, spell_statement}
use Rattle.blang.specs.Walk.{spell_definition, walk_commas, walk_list, walk_size, walk_value, walk_values, walk_parameter, walk_statement, walk_definition}
use Rattle.blang.specs.WellFormed.{IsFormed}
use Rattle.blang.specs.declared.limits.TheConstants.{MAX_NESTING}
use Rattle.bgrammar.specs.Fitting.{words, EachAfter, statement_words, Sits, IvalFits}
use Rattle.bgrammar.specs.Reading.{Got, ◌>>=◌, first, expect}
use Rattle.bgrammar.specs.ExpressionReader.{is_close_paren, is_close_bracket}
use Rattle.blang.specs.WellFormed as statement
use Rattle.bgrammar.specs.StatementReader.{is_semicolon, is_else, name, size}
use Rattle.bgrammar.specs.DefinitionReader.{ival, valued, vector, function_body, function, after_name, definition, is_open_definition}
use Rattle.bgrammar.proofs.CommaLaws.{list_again}
use Rattle.bgrammar.proofs.StatementFine.{name_fine}
use Rattle.bgrammar.proofs.Forms.{onto, onto_is}
use Rattle.bgrammar.proofs.StatementAgain.{each_any, statement_read_again}
use Rattle.bgrammar.proofs.DefinitionFine.{ival_fine}
use Rattle.bgrammar.proofs.Fitting.{formed_in, in_formed}

ival_again : (before : List Ival) (v : Ival) (rest : List Placed) → IvalFits before v → ival before (onto (walk_value v) rest) ≡ Got v rest
ival_again before (Ival_text bytes offset) rest f = ap (λ o. Got (Ival_text bytes o) rest) (sym f)
ival_again before (Ival_constant (Number n)) rest f = refl
ival_again before _ rest f = refl

ival_no_semicolon : (v : Ival) (rest : List Placed) → is_semicolon (first (onto (walk_value v) rest)) ≡ false
ival_no_semicolon (Ival_constant (Number n)) rest = refl
ival_no_semicolon _ rest = refl

valued_again : (made : List Ival → Definition) (values : List Ival) → EachAfter IvalFits [] values → (rest : List Placed) → valued made (onto (walk_values values) rest) ≡ Got (made values) rest
valued_again made [] f rest = refl
valued_again made (v ∷ values) f rest =
    rw (ival_no_semicolon v (onto (walk_commas walk_value values) (mark token.Semicolon ∷ rest)))
    (ap (λ x. x >>= λ values r. expect is_semicolon r >>= λ o. Got (made values)) (list_again ival walk_value IvalFits ival_fine (λ t. Unit {0}) tt (λ before a rest p n. ival_again before a rest p) (v ∷ values) (mark token.Semicolon ∷ rest) tt f tt refl))

size_again : (n : Option ℕ) (rest : List Placed) → size (onto (walk_size n) (mark token.CloseBracket ∷ rest)) ≡ Got n (mark token.CloseBracket ∷ rest)
size_again None rest = refl
size_again (Some n) rest = refl

vector_again : (w : Identifier) (n : Option ℕ) (values : List Ival) → EachAfter IvalFits [] values → (rest : List Placed) → vector w (onto (walk_size n) (mark token.CloseBracket ∷ onto (walk_values values) rest)) ≡ Got (Vector w n values) rest
vector_again w n values f rest = ap (λ x. x >>= λ n r. expect is_close_bracket r >>= λ o. valued (Vector w n)) (size_again n (onto (walk_values values) rest)) ∙ valued_again (Vector w n) values f rest

body_again : (w : Identifier) (parameters : List Identifier) (body : Stmt) → Sits body MAX_NESTING 0 → (rest : List Placed) → (statement.is_open body ≡ true → is_else (first rest) ≡ false) → function_body w parameters (onto (walk_statement body) rest) ≡ Got (Function w parameters body) rest
body_again w parameters body f rest n = ap (λ x. x >>= λ s. Got (Function w parameters s)) (statement_read_again body MAX_NESTING 0 f rest n)

function_again : (w : Identifier) (parameters : List Identifier) (body : Stmt) → Sits body MAX_NESTING 0 → (rest : List Placed) → (statement.is_open body ≡ true → is_else (first rest) ≡ false) → function w (onto (walk_list walk_parameter parameters) (mark token.CloseParen ∷ onto (walk_statement body) rest)) ≡ Got (Function w parameters body) rest
function_again w [] body f rest n = body_again w [] body f rest n
function_again w (p ∷ parameters) body f rest n =
    ap (λ x. x >>= λ parameters r. expect is_close_paren r >>= λ o. function_body w parameters) (list_again (λ before. name) walk_parameter (λ before w. Unit {0}) (λ before. name_fine) (λ t. Unit {0}) tt (λ before w rest p n. refl) (p ∷ parameters) (mark token.CloseParen ∷ onto (walk_statement body) rest) tt (each_any [] (p ∷ parameters)) tt refl)
    ∙ body_again w (p ∷ parameters) body f rest n

simple_again : (w : Identifier) (values : List Ival) → EachAfter IvalFits [] values → (rest : List Placed) → after_name w (onto (walk_values values) rest) ≡ Got (Simple w values) rest
simple_again w (Ival_constant (Number n) ∷ values) f rest = valued_again (Simple w) (Ival_constant (Number n) ∷ values) f rest
simple_again w [] f rest = refl
simple_again w (v ∷ values) f rest = valued_again (Simple w) (v ∷ values) f rest

again : (d : Definition) → IsFormed d → (rest : List Placed) → (is_open_definition d ≡ true → is_else (first rest) ≡ false) → definition (onto (walk_definition d) rest) ≡ Got d rest
again (Simple w values) f rest n = simple_again w values (formed_in (Simple w values) f) rest
again (Vector w size values) f rest n = vector_again w size values (formed_in (Vector w size values) f) rest
again (Function w parameters body) f rest n = function_again w parameters body (formed_in (Function w parameters body) f) rest n

pub definition_again : (d : Definition) → IsFormed d → (rest : List Placed) → (is_open_definition d ≡ true → is_else (first rest) ≡ false) → definition (spell_definition d ++ rest) ≡ Got d rest
definition_again d f rest n = ap definition (sym (onto_is (walk_definition d) rest)) ∙ again d f rest n

-- where an else could go on, the statement with it
abbrev Longer : Stmt → ℕ → ℕ → Type 0
Longer s room off = (s2 : Stmt) × Sits s2 room off × (spell_statement s2 ≡ spell_statement s ++ (keyword_mark keyword.Else ∷ mark token.Semicolon ∷ []))

abbrev else_empty : List Placed
else_empty = keyword_mark keyword.Else ∷ mark token.Semicolon ∷ []

with_else : (s : Stmt) (room off : ℕ) → Sits s room off → statement.is_open s ≡ true → Longer s room off
with_else (Headed h s) room off f o = let i = with_else s room off f.1 o in (Headed h i.0, (f.0, i.1), ap (λ l. spell_heading h ++ l) i.2 ∙ sym (append_assoc (spell_heading h) (spell_statement s) else_empty))
with_else (While e s) zero off f o = absurd f
with_else (While e s) (suc k) off f o = let i = with_else s k (off + words e) f.1 o in (While e i.0, (f.0, i.1), ap (λ l. keyword_mark keyword.While ∷ (spell_condition e ++ l)) i.2 ∙ ap (λ l. keyword_mark keyword.While ∷ l) (sym (append_assoc (spell_condition e) (spell_statement s) else_empty)))
with_else (If e s) zero off f o = absurd f
with_else (If e s) (suc k) off f o = go (statement.is_open s) refl (λ h. with_else s k (off + words e) f.1 h)
  where
    go : (b : Bool) → statement.is_open s ≡ b → (statement.is_open s ≡ true → Longer s k (off + words e)) → Longer (If e s) (suc k) off
    go true h ih = let i = ih h in (If e i.0, (f.0, i.1), ap (λ l. keyword_mark keyword.If ∷ (spell_condition e ++ l)) i.2 ∙ ap (λ l. keyword_mark keyword.If ∷ l) (sym (append_assoc (spell_condition e) (spell_statement s) else_empty)))
    go false h ih = (IfElse e s Empty, (h, (f.0, f.1, tt)), ap (λ l. keyword_mark keyword.If ∷ l) (sym (append_assoc (spell_condition e) (spell_statement s) else_empty)))
with_else (IfElse e s other) zero off f o = absurd f.1
with_else (IfElse e s other) (suc k) off f o = let i = with_else other k (off + words e + statement_words s) f.1.2 o in (IfElse e s i.0, (f.0, (f.1.0, f.1.1, i.1)), ap (λ l. keyword_mark keyword.If ∷ (spell_condition e ++ (spell_statement s ++ (keyword_mark keyword.Else ∷ l)))) i.2 ∙ ap (λ l. keyword_mark keyword.If ∷ (spell_condition e ++ l)) (sym (append_assoc (spell_statement s) (keyword_mark keyword.Else ∷ spell_statement other) else_empty)) ∙ ap (λ l. keyword_mark keyword.If ∷ l) (sym (append_assoc (spell_condition e) (spell_statement s ++ (keyword_mark keyword.Else ∷ spell_statement other)) else_empty)))
with_else (Compound ss) room off f o = cc
with_else _ room off f o = cc

pub definition_longer : (d : Definition) → IsFormed d → is_open_definition d ≡ true → (d2 : Definition) × IsFormed d2 × (spell_definition d2 ≡ spell_definition d ++ (keyword_mark keyword.Else ∷ mark token.Semicolon ∷ []))
definition_longer (Simple w values) f o = cc
definition_longer (Vector w size values) f o = cc
definition_longer (Function w parameters body) f o = let i = with_else body MAX_NESTING 0 (formed_in (Function w parameters body) f) o in (Function w parameters i.0, in_formed (Function w parameters i.0) i.1, ap (λ l. name_token w ∷ mark token.OpenParen ∷ (list_spelling walk_parameter parameters ++ (mark token.CloseParen ∷ l))) i.2 ∙ ap (λ l. name_token w ∷ mark token.OpenParen ∷ l) (sym (append_assoc (list_spelling walk_parameter parameters) (mark token.CloseParen ∷ spell_statement body) else_empty)))
