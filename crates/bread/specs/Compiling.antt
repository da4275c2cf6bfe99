-- Inner words: what the calls that read statements and definitions do with the tokens and with the draft.
use Rattle.std.specs.Prelude.{◌≡◌, ℕ, ◌<◌, Bool, true, false, Option, Result, Ok, Err}
use Rattle.blang.specs.Trees.{Constant, Heading, constant_value}
use Rattle.bgrammar.specs.Reading.{Reader, Got, line_ahead}
use Rattle.bgrammar.specs.StatementReader.{name, size, constant}
use Rattle.bemit.specs.Drafts.{Draft}
use Rattle.bemit.specs.Effects.{headed}
use Rattle.bemit.specs.Trails.{Trail, took, noted_at, took_size, trailed_heading}
use Rattle.bread.specs.Tokens.{Tokens, IsLoaded, IsSingle, Moves, Runs, TokensFail, PassesNone, PassesOne, work}
use Rattle.bread.specs.declared.halt.Halt.{Halt}
use Rattle.bread.specs.declared.halt.Halt.TheVariants as halt
use Rattle.bread.specs.Parsers.{Halts, Leads}
use Rattle.bread.specs.declared.take.Word as take
use Rattle.bread.specs.Headings.{IsHeadedBy, IsUnheaded, StopsHeading}

-- Something was read, whose trail led up to here, and compiled onto a draft.
pub record PartAfter {A : Type 0} (lead : Draft → Trail → Trail) (reader : Reader A) (effect : A → Draft → Draft)
    (step : A → Draft → Trail → Trail) (start : Draft) (old new : Tokens) (draft : Draft) : Type 0 where
  pub tree : A
  pub runs : Runs old new reader (λ v. Got tree v)
  pub made : draft ≡ effect tree start
  pub leads : Leads (lead start) (step tree start) old runs.passed new

-- the trail of what begins here
abbrev pub from_here : Draft → Trail → Trail
from_here d t = t

abbrev pub PartTaken : {A : Type 0} → Reader A → (A → Draft → Draft) → (A → Draft → Trail → Trail) → Draft → Tokens
    → Tokens → Draft → Type 0
PartTaken reader effect step start old new draft = PartAfter from_here reader effect step start old new draft

-- a reader that is told nothing
abbrev pub untold : {A : Type 0} → Reader A → Unit {0} → Reader A
untold reader o = reader

-- What reads it does so, whatever it is told of what stands before, and takes a token.
abbrev pub CompilesAfter : {I A : Type 0} → (Draft → Trail → Trail) → (I → Reader A) → (A → Draft → Draft)
    → (A → Draft → Trail → Trail) → Tokens → Draft → Result (Unit {0}) Halt → Tokens → Draft → Type 0
CompilesAfter {I = I} lead reader effect step old start (Ok u) new draft =
    ((i : I) → PartAfter lead (reader i) effect step start old new draft) × IsSingle new × (work new < work old)
CompilesAfter {I = I} lead reader effect step old start (Err halt) new draft = (i : I) → Halts (reader i) old halt new

-- the same of what begins here
abbrev pub CompilesPart : {I A : Type 0} → (I → Reader A) → (A → Draft → Draft) → (A → Draft → Trail → Trail) → Tokens
    → Draft → Result (Unit {0}) Halt → Tokens → Draft → Type 0
CompilesPart reader effect step old start r new draft =
    CompilesAfter from_here reader effect step old start r new draft

-- A name was taken, of whose line is what was made from this place on.
pub record TookName (place : ℕ) (old : Tokens) (w : take.Word) (new : Tokens) : Type 0 where
  pub runs : Runs old new name (λ v. Got (record { text = w.name; line = w.line }) v)
  pub single : IsSingle new
  pub falls : work new < work old
  pub one : PassesOne old runs.passed
  pub noted_is : new.noted ≡ noted_at place (line_ahead old.ahead) old.noted

abbrev pub FindsName : ℕ → Tokens → Result take.Word Halt → Tokens → Type 0
FindsName place old (Ok w) new = TookName place old w new
FindsName place old (Err halt) new = Halts name old halt new

-- A constant was taken, if one came.
pub record TookSize (old : Tokens) (n : Option ℕ) (new : Tokens) : Type 0 where
  pub runs : Runs old new size (λ v. Got n v)
  pub single : IsSingle new
  pub leads : Leads (λ t. t) (took_size n) old runs.passed new

abbrev pub FindsSize : Tokens → Result (Option ℕ) Halt → Tokens → Type 0
FindsSize old (Ok n) new = TookSize old n new
FindsSize old (Err halt) new = Halts size old halt new

-- A constant of this value was read.
pub record TookConstant (n : ℕ) (old new : Tokens) : Type 0 where
  pub tree : Constant
  pub runs : Runs old new constant (λ v. Got tree v)
  pub value : constant_value tree ≡ n
  pub single : IsSingle new
  pub falls : work new < work old
  pub one : PassesOne old runs.passed
  pub noted_is : new.noted ≡ old.noted

abbrev pub FindsConstant : Tokens → Result ℕ Halt → Tokens → Type 0
FindsConstant old (Ok n) new = TookConstant n old new
FindsConstant old (Err halt) new = Halts constant old halt new

-- A heading was read, and compiled.
pub record TookHeading (start : Draft) (old new : Tokens) (draft : Draft) : Type 0 where
  pub heading : Heading
  pub moves : Moves old new (IsHeadedBy heading)
  pub made : draft ≡ headed heading start
  pub loaded : IsLoaded new
  pub falls : work new < work old
  pub leads : Leads (λ t. t) (λ t. trailed_heading heading start (took t)) old moves.passed new

-- No heading came.
pub record NoHeading (old new : Tokens) : Type 0 where
  pub moves : Moves old new IsUnheaded
  pub loaded : IsLoaded new
  pub none : PassesNone moves.passed
  pub noted : new.noted ≡ old.noted

-- what reads a heading, if one comes, says whether it did
abbrev pub FindsHeading : Tokens → Draft → Result Bool Halt → Tokens → Draft → Type 0
FindsHeading old start (Ok true) new draft = TookHeading start old new draft
FindsHeading old start (Ok false) new draft = NoHeading old new × (draft ≡ start)
FindsHeading old start (Err halt.Fault) new draft = Moves old new StopsHeading × IsSingle new
FindsHeading old start (Err halt.Device) new draft = TokensFail old new
