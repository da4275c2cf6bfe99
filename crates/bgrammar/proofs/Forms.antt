-- A statement as a row of parts, from left to right: marks that must come, and things that are read between them.
use Rattle.std.proofs.Common.{◌≡◌, ℕ, ◌+◌, List, [], ◌∷◌, ◌++◌, Bool, true, false, sym, ap, ◌∙◌, refl, append_assoc}
use Rattle.blang.specs.declared.token.Token.{Token}
use Rattle.blang.specs.declared.token.Token.TheVariants as token
use Rattle.blang.specs.declared.token.Placed.{Placed}
use Rattle.blang.specs.Cut.{placed, string_token}
use Rattle.blang.specs.Trees.{mark, kept, Identifier, Constant, Expr, constant_token, Declared, Stmt, Empty, Stmts, Nothing}
use Rattle.blang.specs.Walk.{Walk, NothingHere, Said, TextHere, Level, ◌▸◌, tokens_in, plain, walk, walk_list, walk_declared, walk_import, walk_statement, walk_body}
use Rattle.blang.specs.WellFormed.{rvalue_rank, IsNonempty, is_open}
use Rattle.bgrammar.specs.Fitting.{words_in, Fits, Sits, AllSit}
use Rattle.bgrammar.specs.Reading.{Got, Stop, Reader, ◌>>=◌, first, expect, many}
use Rattle.bgrammar.specs.ExpressionReader.{is_close_paren, is_close_bracket, is_colon, always, Rvalue, reader}
use Rattle.bgrammar.specs.Commas.{list_reader}
use Rattle.bgrammar.specs.StatementReader as statements
use Rattle.bgrammar.specs.StatementReader.{is_open_paren, is_open_brace, is_close_brace, is_semicolon, is_else, name, constant, declared, goes_on, one_more}

-- a token that must come, and its test, which no other token passes
pub record Mark : Type 0 where
  pub it : Token
  pub is : Token → Bool
  pub found : is it ≡ true
  pub only : (t : Token) → is t ≡ true → t ≡ it
  pub unended : is token.End ≡ false
  pub unlined : (line : ℕ) → kept (placed it line) ≡ mark it

pub only_open_paren : (t : Token) → is_open_paren t ≡ true → t ≡ token.OpenParen
only_open_paren token.OpenParen h = refl
only_open_paren _ h = cc

abbrev pub open_paren : Mark
open_paren = record { it = token.OpenParen; is = is_open_paren; found = refl; only = only_open_paren; unended = refl; unlined = λ line. refl }

pub only_close_paren : (t : Token) → is_close_paren t ≡ true → t ≡ token.CloseParen
only_close_paren token.CloseParen h = refl
only_close_paren _ h = cc

abbrev pub close_paren : Mark
close_paren = record { it = token.CloseParen; is = is_close_paren; found = refl; only = only_close_paren; unended = refl; unlined = λ line. refl }

pub only_close_bracket : (t : Token) → is_close_bracket t ≡ true → t ≡ token.CloseBracket
only_close_bracket token.CloseBracket h = refl
only_close_bracket _ h = cc

abbrev pub close_bracket : Mark
close_bracket = record { it = token.CloseBracket; is = is_close_bracket; found = refl; only = only_close_bracket; unended = refl; unlined = λ line. refl }

pub only_open_brace : (t : Token) → is_open_brace t ≡ true → t ≡ token.OpenBrace
only_open_brace token.OpenBrace h = refl
only_open_brace _ h = cc

abbrev pub open_brace : Mark
open_brace = record { it = token.OpenBrace; is = is_open_brace; found = refl; only = only_open_brace; unended = refl; unlined = λ line. refl }

pub only_close_brace : (t : Token) → is_close_brace t ≡ true → t ≡ token.CloseBrace
only_close_brace token.CloseBrace h = refl
only_close_brace _ h = cc

abbrev pub close_brace : Mark
close_brace = record { it = token.CloseBrace; is = is_close_brace; found = refl; only = only_close_brace; unended = refl; unlined = λ line. refl }

pub only_colon : (t : Token) → is_colon t ≡ true → t ≡ token.Colon
only_colon token.Colon h = refl
only_colon _ h = cc

abbrev pub colon : Mark
colon = record { it = token.Colon; is = is_colon; found = refl; only = only_colon; unended = refl; unlined = λ line. refl }

pub only_semicolon : (t : Token) → is_semicolon t ≡ true → t ≡ token.Semicolon
only_semicolon token.Semicolon h = refl
only_semicolon _ h = cc

abbrev pub semicolon : Mark
semicolon = record { it = token.Semicolon; is = is_semicolon; found = refl; only = only_semicolon; unended = refl; unlined = λ line. refl }

-- a thing that is read
pub data Thing : Type 0 where
  Value : Thing
  Inner : Thing
  Body : Thing
  Declarations : Thing
  Names : Thing
  A_constant : Thing

abbrev pub Tree : Thing → Type 0
Tree Value = Expr
Tree Inner = Stmt
Tree Body = Stmts
Tree Declarations = List Declared
Tree Names = List Identifier
Tree A_constant = Constant

abbrev pub walk_of : (j : Thing) → Tree j → Walk
walk_of Value e = walk e
walk_of Inner s = walk_statement s
walk_of Body ss = walk_body ss
walk_of Declarations ds = walk_list walk_declared ds
walk_of Names ws = walk_list walk_import ws
walk_of A_constant c = plain (constant_token c)

abbrev pub words_of : (j : Thing) → Tree j → ℕ
words_of j a = words_in (walk_of j a)

abbrev pub read : statements.Level → (j : Thing) → ℕ → Reader (Tree j)
read level Value off ts = level.expr off ts
read level Inner off ts = level.stmt off ts
read level Body off ts = many (always goes_on) (one_more level off) Nothing ts
read level Declarations off ts = list_reader (λ before. declared) ts
read level Names off ts = list_reader (λ before. name) ts
read level A_constant off ts = constant ts

-- The levels and the offsets of strings fit, and there is at least one name.
abbrev pub Fit : (j : Thing) → Tree j → (room off : ℕ) → Type 0
Fit Value e room off = Fits e rvalue_rank room off
Fit Inner s room off = Sits s room off
Fit Body ss room off = AllSit ss room off
Fit Declarations ds room off = IsNonempty ds
Fit Names ws room off = IsNonempty ws
Fit A_constant c room off = Unit {0}

-- This token is not an else that would be its own.
abbrev pub Shut : (j : Thing) → Tree j → Token → Type 0
Shut Inner s t = is_open s ≡ true → is_else t ≡ false
Shut _ a t = Unit {0}

pub data Part : Type 0 where
  Sign : (m : Mark) → Part
  Item : (j : Thing) → Part

-- what is read for a row
abbrev pub Fields : List Part → Type 0
Fields [] = Unit {0}
Fields (Sign m ∷ ps) = Fields ps
Fields (Item j ∷ ps) = Tree j × Fields ps

abbrev pub walk_parts : (ps : List Part) → Fields ps → Walk
walk_parts [] x = NothingHere
walk_parts (Sign m ∷ ps) x = plain m.it ▸ walk_parts ps x
walk_parts (Item j ∷ ps) (a, x) = walk_of j a ▸ walk_parts ps x

-- the tokens of a walk, with these after them
abbrev pub onto : Walk → List Placed → List Placed
onto (Said p) rest = p ∷ rest
onto (TextHere t) rest = mark (string_token t.bytes) ∷ rest
onto (Level p w end) rest = p ∷ onto w rest
onto (v ▸ w) rest = onto v (onto w rest)
onto _ rest = rest

pub onto_is : (w : Walk) (rest : List Placed) → onto w rest ≡ tokens_in w ++ rest
onto_is (Level p w end) rest = ap (λ l. p ∷ l) (onto_is w rest)
onto_is (v ▸ w) rest = ap (onto v) (onto_is w rest) ∙ onto_is v (tokens_in w ++ rest) ∙ sym (append_assoc (tokens_in v) (tokens_in w) rest)
onto_is _ rest = refl

-- the reader of a row, and what is done with what it read
abbrev pub read_parts : {B : Type 0} → statements.Level → (ps : List Part) → (off : ℕ) → (Fields ps → Reader B) → Reader B
read_parts level [] off made ts = made tt ts
read_parts level (Sign m ∷ ps) off made ts = expect m.is ts >>= λ o. read_parts level ps off made
read_parts level (Item j ∷ ps) off made ts = read level j off ts >>= λ a. read_parts level ps (off + words_of j a) (λ x. made (a, x))

-- What was read fits, before these tokens.
abbrev pub FieldsFit : (ps : List Part) → Fields ps → (room off : ℕ) → List Placed → Type 0
FieldsFit [] x room off rest = Unit {0}
FieldsFit (Sign m ∷ ps) x room off rest = FieldsFit ps x room off rest
FieldsFit (Item j ∷ ps) (a, x) room off rest =
    Fit j a room off × Shut j a (first (onto (walk_parts ps x) rest)) × FieldsFit ps x room (off + words_of j a) rest

-- a level for rows in which no statement stands: there the only statement is the empty one
abbrev pub flat : ℕ → statements.Level
flat room = record {
  enter = λ ts. Stop ts;
  expr = λ off ts. reader room Rvalue off ts;
  stmt = λ off ts. expect is_semicolon ts >>= λ o. Got Empty;
}

-- the rows, after the first token of each
abbrev pub block_parts : List Part
block_parts = Item Body ∷ Sign close_brace ∷ []

abbrev pub tested_parts : List Part
tested_parts = Sign open_paren ∷ Item Value ∷ Sign close_paren ∷ Item Inner ∷ []

abbrev pub switch_parts : List Part
switch_parts = Item Value ∷ Sign open_brace ∷ block_parts

abbrev pub value_parts : List Part
value_parts = Item Value ∷ Sign semicolon ∷ []

-- of a return with a value, after its opening parenthesis
abbrev pub paid_parts : List Part
paid_parts = Item Value ∷ Sign close_paren ∷ Sign semicolon ∷ []

abbrev pub return_parts : List Part
return_parts = Sign open_paren ∷ paid_parts

abbrev pub end_parts : List Part
end_parts = Sign semicolon ∷ []

abbrev pub declaration_parts : List Part
declaration_parts = Item Declarations ∷ Sign semicolon ∷ []

abbrev pub import_parts : List Part
import_parts = Item Names ∷ Sign semicolon ∷ []

abbrev pub case_parts : List Part
case_parts = Item A_constant ∷ Sign colon ∷ []

abbrev pub default_parts : List Part
default_parts = Sign colon ∷ []
