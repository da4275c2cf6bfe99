-- What taking one token reads.
use Rattle.std.proofs.Common.{◌≡◌, ℕ, ◌<◌, ◌≤◌, Bool, true, if◌then◌else◌, List, Some, None, Ok, refl, sym, ap, ◌∙◌, ◌⊎◌, inl, inr, arith}
use Rattle.blex.specs.declared.lexeme.Lexeme.{Lexeme}
use Rattle.blex.specs.declared.lexeme.Lexeme.TheVariants as lexeme
use Rattle.blang.specs.declared.token.Token.{Token}
use Rattle.blang.specs.declared.token.Token.TheVariants as token
use Rattle.blang.specs.declared.token.Keyword.{Keyword}
use Rattle.blang.specs.declared.token.Keyword.TheVariants as keyword
use Rattle.blang.specs.declared.token.Placed.{Placed}
use Rattle.blex.specs.Lexemes.{token_of_lexeme}
use Rattle.blex.proofs.LexemeSteps.{token_here}
use Rattle.blang.specs.Trees.{Number, Character}
use Rattle.bgrammar.specs.Reading.{Got, Stop, first, line_ahead, after}
use Rattle.bgrammar.specs.StatementReader.{constant_at, name_at, size_at, step_at}
use Rattle.bgrammar.specs.DefinitionReader.{ival_at}
use Rattle.bemit.specs.Trails.{Lines, took, noted_at}
use Rattle.bread.specs.Tokens.{Tokens, work, Advances, AdvancesTo}
use Rattle.bread.specs.Parsers.{ExpectedTo}
use Rattle.bread.specs.Compiling.{FindsConstant, TookSize, TookName}
use Rattle.bread.proofs.Moving.{run_past, past}

pub less : {n : Lines} {a b : Tokens} → AdvancesTo n a b → work b < work a
less h = let k = h.falls in omega (arith, k)

number_found : {a b : Tokens} (n : ℕ) → Advances a b → first a.ahead ≡ token.Number n → FindsConstant a (Ok n) b
number_found {a} {b} n h k = record { tree = Number n; runs = run_past {g = λ v. Got (Number n) v} h (λ u e l. ap (λ t. constant_at t u) (e ∙ k)); value = refl; single = h.single; falls = less h; one = h.one; noted_is = h.noted_is }

character_found : {a b : Tokens} (n : ℕ) → Advances a b → first a.ahead ≡ token.Character n → FindsConstant a (Ok n) b
character_found {a} {b} n h k = record { tree = Character n; runs = run_past {g = λ v. Got (Character n) v} h (λ u e l. ap (λ t. constant_at t u) (e ∙ k)); value = refl; single = h.single; falls = less h; one = h.one; noted_is = h.noted_is }

-- a number or a character
pub constant_here : {l : Lexeme} {t : Token} {n : ℕ} (text : List ℕ) → token_of_lexeme l text ≡ t → (l ≡ lexeme.Number n) ⊎ (l ≡ lexeme.Character n) → (t ≡ token.Number n) ⊎ (t ≡ token.Character n)
constant_here text e (inl k) = inl (token_here text e k)
constant_here text e (inr k) = inr (token_here text e k)

found_either : {a b : Tokens} (n : ℕ) → Advances a b → (first a.ahead ≡ token.Number n) ⊎ (first a.ahead ≡ token.Character n) → FindsConstant a (Ok n) b
found_either n h (inl k) = number_found n h k
found_either n h (inr k) = character_found n h k

pub constant_found : {a b : Tokens} (l : Lexeme) (n : ℕ) → Advances a b → token_of_lexeme l a.text ≡ first a.ahead → (l ≡ lexeme.Number n) ⊎ (l ≡ lexeme.Character n) → FindsConstant a (Ok n) b
constant_found {a} {b} l n h e k = found_either n h (constant_here a.text e k)

pub both_fall : {l m n : ℕ} → m < l → n < m → n < l
both_fall h k = omega (arith, h, k)

pub falls_before : {l m n : ℕ} → m < l → n ≤ m → n < l
falls_before h k = omega (arith, h, k)

pub falls_after : {l m n : ℕ} → m ≤ l → n < m → n < l
falls_after h k = omega (arith, h, k)

pub falls_all : {l m n o : ℕ} → m < l → n ≤ m → o < n → o < l
falls_all h i k = omega (arith, h, i, k)

-- what begins with this is no name, no constant, no initial value and no heading
pub name_none : (l : Lexeme) (text : List ℕ) → ((x : List ℕ) → l ≡ lexeme.Name x → ⊥) → (u : List Placed) → name_at (token_of_lexeme l text) u ≡ Stop u
name_none (lexeme.Name x) text a u = absurd (a x refl)
name_none _ text a u = refl

pub constant_none : (l : Lexeme) (text : List ℕ) → ((x : ℕ) → l ≡ lexeme.Number x → ⊥) → ((x : ℕ) → l ≡ lexeme.Character x → ⊥) → (u : List Placed) → constant_at (token_of_lexeme l text) u ≡ Stop u
constant_none (lexeme.Number x) text a b u = absurd (a x refl)
constant_none (lexeme.Character x) text a b u = absurd (b x refl)
constant_none _ text a b u = refl

pub size_none : (l : Lexeme) (text : List ℕ) → ((x : ℕ) → l ≡ lexeme.Number x → ⊥) → (u : List Placed) → size_at (token_of_lexeme l text) u ≡ Got None u
size_none (lexeme.Number x) text a u = absurd (a x refl)
size_none _ text a u = refl

pub ival_none : (l : Lexeme) (text : List ℕ) → ((x : List ℕ) → l ≡ lexeme.Name x → ⊥) → ((x : ℕ) → l ≡ lexeme.Number x → ⊥) → ((x : ℕ) → l ≡ lexeme.Character x → ⊥) → (l ≡ lexeme.String → ⊥) → (off : ℕ) (u : List Placed) → ival_at off (token_of_lexeme l text) u ≡ Stop u
ival_none (lexeme.Name x) text a b c d off u = absurd (a x refl)
ival_none (lexeme.Number x) text a b c d off u = absurd (b x refl)
ival_none (lexeme.Character x) text a b c d off u = absurd (c x refl)
ival_none lexeme.String text a b c d off u = absurd (d refl)
ival_none _ text a b c d off u = refl

pub step_none : (l : Lexeme) (text : List ℕ) → ((x : List ℕ) → l ≡ lexeme.Name x → ⊥) → ((k : Keyword) → l ≡ lexeme.Keyword k → ⊥) → step_at None (token_of_lexeme l text) ≡ None
step_none (lexeme.Name x) text a b = absurd (a x refl)
step_none (lexeme.Keyword k) text a b = absurd (b k refl)
step_none _ text a b = refl

pub keyword_none : (k : Keyword) → (k ≡ keyword.Auto → ⊥) → (k ≡ keyword.Extrn → ⊥) → (k ≡ keyword.Case → ⊥) → (k ≡ keyword.Default → ⊥) → step_at None (token.Keyword k) ≡ None
keyword_none keyword.Auto a b c d = absurd (a refl)
keyword_none keyword.Extrn a b c d = absurd (b refl)
keyword_none keyword.Case a b c d = absurd (c refl)
keyword_none keyword.Default a b c d = absurd (d refl)
keyword_none _ a b c d = refl

-- the constant of a vector
pub size_found : {a b : Tokens} (n : ℕ) → Advances a b → first a.ahead ≡ token.Number n → TookSize a (Some n) b
size_found n h k = record { runs = run_past {g = λ v. Got (Some n) v} h (λ u e l. ap (λ t. size_at t u) (e ∙ k)); single = h.single; leads = λ u ls q. ap took q ∙ past h ls }

-- a name
pub name_found : {a b : Tokens} (x : List ℕ) (line place at : ℕ) → AdvancesTo (noted_at at (line_ahead a.ahead) a.noted) a b → at ≡ place → first a.ahead ≡ token.Name x → line ≡ line_ahead a.ahead → TookName place a (record { name = x; line = line }) b
name_found {a} x line place at h same k n = record {
  runs = run_past {g = λ v. Got (record { text = x; line = line }) v} h (λ u e l. ap (λ t. name_at t u) (e ∙ k) ∙ ap (λ m. Got (record { text = x; line = m }) (after u)) (l ∙ sym n));
  single = h.single;
  falls = less h;
  one = h.one;
  noted_is = h.noted_is ∙ ap (λ p. noted_at p (line_ahead a.ahead) a.noted) same;
}

-- a token that must come
pub token_took : {n : Lines} {a b : Tokens} (is : Token → Bool) → AdvancesTo n a b → is (first a.ahead) ≡ true → ExpectedTo n is a b
token_took is h k = record {
  runs = run_past {g = λ v. Got tt v} h (λ u e l. ap (λ b. if b then Got tt (after u) else Stop u) (ap is e ∙ k));
  single = h.single;
  falls = less h;
  one = h.one;
  noted_is = h.noted_is;
}
