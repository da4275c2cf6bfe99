-- A definition that is read is spelled by the tokens that it took, and is well formed.
use Rattle.std.proofs.Common.{◌≡◌, ℕ, List, [], ◌∷◌, ◌++◌, Bool, true, false, sym, ap, ◌∙◌, refl, subst, append_assoc, Option}
use Rattle.blang.specs.declared.token.Token.{Token}
use Rattle.blang.specs.declared.token.Token.TheVariants as token
use Rattle.blang.specs.declared.token.Placed.{Placed}
use Rattle.blang.specs.Trees.{mark, kept, kept_tokens, Identifier, name_token, Stmt, Ival, Definition, Simple, Vector, Function}
use Rattle.bgrammar.specs.Spelling.{list_spelling, size_spelling, name_spelling, spell_statement, ival_spelling, spell_values}
use Rattle.blang.specs.Walk.{spell_definition, walk_value, walk_parameter}
use Rattle.blang.specs.Cut.{placed}
use Rattle.bgrammar.specs.Reading.{Read, Got, Stop, ◌>>=◌, first, expect}
use Rattle.bgrammar.specs.ExpressionReader.{is_close_paren, is_close_bracket}
use Rattle.blang.specs.WellFormed.{IsNonempty, IsFormed}
use Rattle.blang.specs.declared.limits.TheConstants.{MAX_NESTING}
use Rattle.bgrammar.specs.Fitting.{EachAfter, Sits, values_words, IvalFits}
use Rattle.bgrammar.specs.Commas.{list_reader}
use Rattle.bgrammar.specs.StatementReader.{is_semicolon, is_else, name, size, statement}
use Rattle.bgrammar.specs.DefinitionReader.{ival_at, ival, valued, vector, function_body, function, after_name_at, after_name, definition, is_open_definition}
use Rattle.bgrammar.proofs.ExpressionSound.{Sound, by_first}
use Rattle.bgrammar.proofs.Forms.{close_paren, close_bracket, semicolon}
use Rattle.bgrammar.proofs.FormLaws.{expect_mark}
use Rattle.bgrammar.proofs.StatementSound.{Spelled, statement_sound, name_sound, size_sound}
use Rattle.bgrammar.proofs.CommaLaws.{list_sound}
use Rattle.bgrammar.proofs.Fitting.{in_formed}

ival_sound_at : (before : List Ival) (t : Token) (line : ℕ) (ts : List Placed) → Sound ival_spelling (IvalFits before) (kept_tokens (placed t line ∷ ts)) (ival_at (values_words before) t (placed t line ∷ ts))
ival_sound_at before (token.Number n) line ts = (refl, tt)
ival_sound_at before (token.Character n) line ts = (refl, tt)
ival_sound_at before (token.String s) line ts = (refl, refl)
ival_sound_at before (token.Name x) line ts = (refl, tt)
ival_sound_at before _ line ts = tt

ival_sound : (before : List Ival) (ts : List Placed) → Sound ival_spelling (IvalFits before) (kept_tokens ts) (ival before ts)
ival_sound before ts = by_first (λ ts. Sound ival_spelling (IvalFits before) (kept_tokens ts) (ival before ts)) tt (ival_sound_at before) ts

-- the tokens are its spelling; and where an else could still be its own, none comes
abbrev pub SpelledDefinition : List Placed → Read Definition → Type 0
SpelledDefinition whole (Got d rest) = (whole ≡ spell_definition d ++ kept_tokens rest) × IsFormed d × (is_open_definition d ≡ true → is_else (first rest) ≡ false)
SpelledDefinition whole (Stop rest) = Unit {0}

valued_sound : (pre : List Placed) (made : List Ival → Definition) → ((values : List Ival) → spell_definition (made values) ≡ pre ++ spell_values values) → ((values : List Ival) → EachAfter IvalFits [] values → IsFormed (made values)) → ((values : List Ival) → is_open_definition (made values) ≡ false) → (ts : List Placed) (b : Bool) → is_semicolon (first ts) ≡ b → SpelledDefinition (pre ++ kept_tokens ts) (valued made ts)
valued_sound pre made shape formed shut [] true h = cc
valued_sound pre made shape formed shut (t ∷ ts) true h = rw h (ap (λ x. pre ++ (x ∷ kept_tokens ts)) (ap (λ x. kept (placed x t.line)) (semicolon.only t.token h)) ∙ sym (append_assoc pre (mark token.Semicolon ∷ []) (kept_tokens ts)) ∙ ap (λ l. l ++ kept_tokens ts) (sym (shape [])), formed [] tt, λ n. let m : true ≡ false = sym n ∙ shut [] in cc)
valued_sound pre made shape formed shut ts false h = rw h (go (list_reader ival ts) (list_sound ival walk_value IvalFits ival_sound ts))
  where
    go : (x : Read (List Ival)) → Sound (list_spelling walk_value) (λ xs. IsNonempty xs × EachAfter IvalFits [] xs) (kept_tokens ts) x → SpelledDefinition (pre ++ kept_tokens ts) (x >>= λ values r. expect is_semicolon r >>= λ o. Got (made values))
    go (Stop r) s = tt
    go (Got values r) s = expect_mark (SpelledDefinition (pre ++ kept_tokens ts)) (λ r. tt) semicolon (λ y. Got (made values) y) r
        (λ r2 e. let eq = s.0 ∙ ap (λ l. list_spelling walk_value values ++ l) e in (ap (λ l. pre ++ l) (eq ∙ sym (append_assoc (list_spelling walk_value values) (mark token.Semicolon ∷ []) (kept_tokens r2))) ∙ sym (append_assoc pre (spell_values values) (kept_tokens r2)) ∙ ap (λ l. l ++ kept_tokens r2) (sym (shape values)), formed values s.1.1, λ n. let m : true ≡ false = sym n ∙ shut values in cc))

vector_sound : (w : Identifier) (ts : List Placed) → SpelledDefinition (name_token w ∷ mark token.OpenBracket ∷ kept_tokens ts) (vector w ts)
vector_sound w ts = go (size ts) (size_sound ts)
  where
    go : (x : Read (Option ℕ)) → Sound size_spelling (λ n. Unit {0}) (kept_tokens ts) x → SpelledDefinition (name_token w ∷ mark token.OpenBracket ∷ kept_tokens ts) (x >>= λ n r. expect is_close_bracket r >>= λ o. valued (Vector w n))
    go (Stop r) s = tt
    go (Got n r) s = expect_mark (SpelledDefinition (name_token w ∷ mark token.OpenBracket ∷ kept_tokens ts)) (λ r. tt) close_bracket (valued (Vector w n)) r
        (λ r2 e. let eq = s.0 ∙ ap (λ l. size_spelling n ++ l) e in subst (λ l. SpelledDefinition l (valued (Vector w n) r2)) (ap (λ l. name_token w ∷ mark token.OpenBracket ∷ l) (append_assoc (size_spelling n) (mark token.CloseBracket ∷ []) (kept_tokens r2) ∙ sym eq))
        (valued_sound (name_token w ∷ mark token.OpenBracket ∷ (size_spelling n ++ (mark token.CloseBracket ∷ []))) (Vector w n) (λ values. ap (λ l. name_token w ∷ mark token.OpenBracket ∷ l) (sym (append_assoc (size_spelling n) (mark token.CloseBracket ∷ []) (spell_values values)))) (λ values f. in_formed (Vector w n values) f) (λ values. refl) r2 (is_semicolon (first r2)) refl))

body_sound : (w : Identifier) (parameters : List Identifier) (ts : List Placed) → SpelledDefinition (name_token w ∷ mark token.OpenParen ∷ (list_spelling walk_parameter parameters ++ (mark token.CloseParen ∷ kept_tokens ts))) (function_body w parameters ts)
body_sound w parameters ts = go (statement MAX_NESTING 0 ts) (statement_sound MAX_NESTING 0 ts)
  where
    go : (x : Read Stmt) → Spelled (λ s. Sits s MAX_NESTING 0) (kept_tokens ts) x → SpelledDefinition (name_token w ∷ mark token.OpenParen ∷ (list_spelling walk_parameter parameters ++ (mark token.CloseParen ∷ kept_tokens ts))) (x >>= λ s. Got (Function w parameters s))
    go (Stop r) p = tt
    go (Got s r) p = (ap (λ l. name_token w ∷ mark token.OpenParen ∷ l) (ap (λ l. list_spelling walk_parameter parameters ++ (mark token.CloseParen ∷ l)) p.0 ∙ sym (append_assoc (list_spelling walk_parameter parameters) (mark token.CloseParen ∷ spell_statement s) (kept_tokens r))), in_formed (Function w parameters s) p.1, p.2)

function_sound : (w : Identifier) (ts : List Placed) (b : Bool) → is_close_paren (first ts) ≡ b → SpelledDefinition (name_token w ∷ mark token.OpenParen ∷ kept_tokens ts) (function w ts)
function_sound w [] true h = cc
function_sound w (t ∷ ts) true h = rw h (subst (λ x. SpelledDefinition (name_token w ∷ mark token.OpenParen ∷ x ∷ kept_tokens ts) (function_body w [] ts)) (sym (ap (λ x. kept (placed x t.line)) (close_paren.only t.token h))) (body_sound w [] ts))
function_sound w ts false h = rw h (go (list_reader (λ before. name) ts) (list_sound (λ before. name) walk_parameter (λ before w. Unit {0}) (λ before. name_sound) ts))
  where
    go : (x : Read (List Identifier)) → Sound (list_spelling walk_parameter) (λ xs. IsNonempty xs × EachAfter (λ before w. Unit {0}) [] xs) (kept_tokens ts) x → SpelledDefinition (name_token w ∷ mark token.OpenParen ∷ kept_tokens ts) (x >>= λ parameters r. expect is_close_paren r >>= λ o. function_body w parameters)
    go (Stop r) s = tt
    go (Got parameters r) s = expect_mark (SpelledDefinition (name_token w ∷ mark token.OpenParen ∷ kept_tokens ts)) (λ r. tt) close_paren (function_body w parameters) r
        (λ r2 e. let eq = s.0 ∙ ap (λ l. list_spelling walk_parameter parameters ++ l) e in subst (λ l. SpelledDefinition (name_token w ∷ mark token.OpenParen ∷ l) (function_body w parameters r2)) (sym eq) (body_sound w parameters r2))

after_sound_at : (w : Identifier) (t : Token) (line : ℕ) (ts : List Placed) → SpelledDefinition (name_token w ∷ kept_tokens (placed t line ∷ ts)) (after_name_at w t (placed t line ∷ ts))
after_sound_at w token.OpenBracket line ts = vector_sound w ts
after_sound_at w token.OpenParen line ts = function_sound w ts (is_close_paren (first ts)) refl
after_sound_at w t line ts = valued_sound (name_token w ∷ []) (Simple w) (λ values. refl) (λ values f. in_formed (Simple w values) f) (λ values. refl) (placed t line ∷ ts) (is_semicolon t) refl

after_sound : (w : Identifier) (ts : List Placed) → SpelledDefinition (name_token w ∷ kept_tokens ts) (after_name w ts)
after_sound w ts = by_first (λ ts. SpelledDefinition (name_token w ∷ kept_tokens ts) (after_name w ts)) tt (after_sound_at w) ts

pub definition_sound : (ts : List Placed) → SpelledDefinition (kept_tokens ts) (definition ts)
definition_sound ts = go (name ts) (name_sound ts)
  where
    go : (x : Read Identifier) → Sound name_spelling (λ w. Unit {0}) (kept_tokens ts) x → SpelledDefinition (kept_tokens ts) (x >>= after_name)
    go (Stop r) s = tt
    go (Got w r) s = subst (λ l. SpelledDefinition l (after_name w r)) (sym s.0) (after_sound w r)
