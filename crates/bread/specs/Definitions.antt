-- Inner words: what the calls that read definitions do with the tokens and with the draft.
use Rattle.std.specs.Prelude.{◌≡◌, ℕ, ◌<◌, min, Bool, List, [], length, Result, Ok, Err, if◌then◌else◌}
use Rattle.blang.specs.declared.code.Ival.{Ival}
use Rattle.blang.specs.Trees.{Identifier, Definition}
use Rattle.bgrammar.specs.Reading.{Reader, Got, ◌>>=◌, first, line_ahead, after, expect}
use Rattle.bgrammar.specs.ExpressionReader.{is_close_paren}
use Rattle.bgrammar.specs.Commas.{list_reader}
use Rattle.bgrammar.specs.StatementReader.{is_semicolon, name}
use Rattle.blang.specs.Trees as tree
use Rattle.bgrammar.specs.DefinitionReader.{ival, definition}
use Rattle.blang.specs.declared.token.Letters.TheVariants as letters
use Rattle.blang.specs.Scan.{name_fault, identifier_of}
use Rattle.bemit.specs.Drafts.{Draft, Faulty, fresh, valued, started}
use Rattle.bemit.specs.Effects.{definition_done}
use Rattle.bemit.specs.Trails.{Trail, trail, took, no_lines, noted_at, trailed_definition}
use Rattle.bread.specs.Tokens.{Tokens, IsLoaded, IsSingle, Runs, TokensFail, AdvancesTo, work}
use Rattle.bread.specs.declared.halt.Halt.{Halt}
use Rattle.bread.specs.declared.halt.Halt.TheVariants as halt
use Rattle.bread.specs.Parsers.{Halts, Leads}
use Rattle.bread.specs.declared.header.DefinitionHead.{DefinitionHead}
use Rattle.bread.specs.declared.header.HeadKind.{HeadKind}
use Rattle.bread.specs.Headers.{IsKind, Heads}

-- the current token was taken, of whose line is the value of this number, and a value added
abbrev pub TakesValue : Ival → ℕ → Tokens → Draft → Result (Unit {0}) Halt → Tokens → Draft → Type 0
TakesValue v place old start (Ok u) new draft =
    AdvancesTo (noted_at place (line_ahead old.ahead) old.noted) old new × (draft ≡ valued v start)
TakesValue v place old start (Err why) new draft = (why ≡ halt.Device) × TokensFail old new

-- a definition of this name begins, which may be defined already
abbrev pub definition_begun : Identifier → Bool → Draft
definition_begun w is_defined = if is_defined then Faulty (name_fault letters.Redeclared w) else fresh

-- initial values, perhaps none, and a semicolon
abbrev pub initial_value_list : Reader (List tree.Ival)
initial_value_list ts =
    if is_semicolon (first ts) then Got [] (after ts) else list_reader ival
    ts >>= (λ vs r. expect is_semicolon r >>= λ o. Got vs)

-- names, perhaps none, and a closing parenthesis
abbrev pub parameters : Reader (List Identifier)
parameters ts =
    if is_close_paren (first ts) then Got [] (after ts) else list_reader (λ before. name)
    ts >>= (λ ws r. expect is_close_paren r >>= λ o. Got ws)

-- A list was read, compiled and counted.
pub record TookList {A : Type 0} (reader : Reader (List A)) (effect : List A → Draft → Draft)
    (step : List A → Draft → Trail → Trail) (most : ℕ) (start : Draft) (old new : Tokens) (draft : Draft) (count : ℕ)
    : Type 0 where
  pub items : List A
  pub runs : Runs old new reader (λ v. Got items v)
  pub made : draft ≡ effect items start
  pub count_is : count ≡ min (length items) most
  pub single : IsSingle new
  pub leads : Leads (λ t. t) (step items start) old runs.passed new

abbrev pub FindsList : {A : Type 0} → Reader (List A) → (List A → Draft → Draft) → (List A → Draft → Trail → Trail) → ℕ
    → Tokens → Draft → Result ℕ Halt → Tokens → Draft → Type 0
FindsList reader effect step most old start (Ok count) new draft =
    TookList reader effect step most start old new draft count
FindsList reader effect step most old start (Err why) new draft = Halts reader old why new

-- What stands after the name of a definition, or after a token more, was read and compiled.
pub record TookKind (lead : Trail → Trail) (reader : Reader Definition) (w : Identifier) (start : Draft) (old new : Tokens) (draft : Draft)
    (kind : HeadKind) : Type 0 where
  pub tree : Definition
  pub runs : Runs old new reader (λ v. Got tree v)
  pub made : draft ≡ definition_done tree start
  pub named : identifier_of tree ≡ w
  pub kind_is : IsKind kind tree
  pub leads : Leads lead (trailed_definition tree start) old runs.passed new

-- whatever the name is
abbrev pub FindsKind : (Trail → Trail) → (Identifier → Reader Definition) → Tokens → Draft → Result HeadKind Halt
    → Tokens → Draft → Type 0
FindsKind lead reader old start (Ok kind) new draft =
    ((w : Identifier) → TookKind lead (reader w) w start old new draft kind) × IsSingle new
FindsKind lead reader old start (Err why) new draft = (w : Identifier) → Halts (reader w) old why new

-- A definition was read and compiled, after definitions of these names.
pub record TookDefinition (names : List (List ℕ)) (old : Tokens) (header : DefinitionHead) (new : Tokens) (draft : Draft) : Type
    0 where
  pub tree : Definition
  pub moves : Runs old new definition (λ v. Got tree v)
  pub heads : Heads header tree
  pub made : draft ≡ definition_done tree (started names (identifier_of tree))
  pub falls : work new < work old
  pub loaded : IsLoaded new
  pub single : IsSingle new
  pub notes : (ls : List ℕ)
      → trailed_definition tree (started names (identifier_of tree)) (took (trail (moves.passed ls) no_lines))
      ≡ trail ls new.noted

abbrev pub FindsDefinition : List (List ℕ) → Tokens → Result DefinitionHead Halt → Tokens → Draft → Type 0
FindsDefinition names old (Ok header) new draft = TookDefinition names old header new draft
FindsDefinition names old (Err why) new draft = Halts definition old why new
