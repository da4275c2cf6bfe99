-- Promise: the constructs and tokens of a source in a row, each with its places.
use Rattle.std.specs.Prelude.{ℕ, suc, pred, Bool, false, true, List, [], ◌∷◌}
use Rattle.blex.specs.declared.lexeme.Lexeme.{Lexeme}
use Rattle.blex.specs.declared.lexeme.Lexeme.TheVariants as lexeme
use Rattle.btree.specs.declared.tags.Tag.{Tag}
use Rattle.btree.specs.declared.tags.Tag.TheVariants as tag
use Rattle.bnaming.specs.declared.places.Spot.{Spot}
use Rattle.bnaming.specs.declared.reading.PlacedToken.{PlacedToken}
use Rattle.bnaming.specs.declared.roles.Mode.{Mode}
use Rattle.bnaming.specs.declared.roles.Mode.TheVariants as mode
use Rattle.bnaming.specs.declared.rows.Content.{Content}
use Rattle.bnaming.specs.declared.rows.Content.TheVariants as content
use Rattle.bnaming.specs.declared.rows.OtherToken.{OtherToken}
use Rattle.bnaming.specs.declared.rows.OtherToken.TheVariants as other
use Rattle.bnaming.specs.declared.rows.Row.{Row}
use Rattle.bnaming.specs.Roles.{mode_after, mode_in, role_in}

abbrev pub row : Content → (first end : Spot) → Row
row c first end = record { content = c; first = first; end = end }

-- where the next token begins, or else the last one ended
abbrev pub first_of : List PlacedToken → (last : Spot) → Spot
first_of [] last = last
first_of (t ∷ ts) last = t.first

abbrev pub is_paren : Lexeme → Bool
is_paren lexeme.OpenParen = true
is_paren l = false

abbrev pub is_before_paren : List PlacedToken → Bool
is_before_paren [] = false
is_before_paren (t ∷ ts) = is_paren t.lexeme

-- what a token is that is no name
abbrev pub other_of : Lexeme → OtherToken
other_of (lexeme.Keyword k) = other.Keyword
other_of (lexeme.Number n) = other.Number
other_of (lexeme.Character n) = other.Character
other_of lexeme.String = other.String
other_of lexeme.Question = other.Question
other_of lexeme.Colon = other.Colon
other_of lexeme.Comma = other.Comma
other_of lexeme.Semicolon = other.Semicolon
other_of lexeme.OpenParen = other.OpenParen
other_of lexeme.CloseParen = other.CloseParen
other_of lexeme.OpenBracket = other.OpenBracket
other_of lexeme.CloseBracket = other.CloseBracket
other_of lexeme.OpenBrace = other.OpenBrace
other_of lexeme.CloseBrace = other.CloseBrace
other_of l = other.Operator

abbrev pub content_of : Mode → Lexeme → (is_before : Bool) → Content
content_of m (lexeme.Name name) is_before = content.Name (role_in m is_before) name
content_of m l is_before = content.Other (other_of l)

-- A row for each tag, where that of a token takes the next one. There is a token for each; without one the row would be
-- that of an operator.
abbrev pub rows_from : Mode → (last : Spot) → List PlacedToken → List Tag → List Row
rows_from m last ts [] = []
rows_from m last ts (tag.Begins c ∷ tags) =
    row (content.Begins c) (first_of ts last) (first_of ts last) ∷ rows_from (mode_in c) last ts tags
rows_from m last ts (tag.Ends ∷ tags) = row content.Ends last last ∷ rows_from mode.Statement last ts tags
rows_from m last [] (tag.Token ∷ tags) = row (content.Other other.Operator) last last ∷ rows_from m last [] tags
rows_from m last (t ∷ ts) (tag.Token ∷ tags) =
    row (content_of m t.lexeme (is_before_paren ts)) t.first t.end
    ∷ rows_from (mode_after m t.lexeme (is_before_paren ts)) t.end ts tags

-- how many constructs are open after a row, of as many as were before it
abbrev pub opens_after : (opens : ℕ) → Content → ℕ
opens_after n (content.Begins c) = suc n
opens_after n content.Ends = pred n
opens_after n c = n
