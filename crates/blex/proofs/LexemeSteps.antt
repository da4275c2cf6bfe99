-- Tokens and their lexemes.
use Rattle.std.proofs.Common.{◌≡◌, ℕ, List, refl, sym, ap, ◌∙◌}
use Rattle.blex.specs.declared.lexeme.Lexeme.{Lexeme}
use Rattle.blex.specs.declared.lexeme.Lexeme.TheVariants as lexeme
use Rattle.blang.specs.declared.token.Token.{Token}
use Rattle.blex.specs.Lexemes.{lexeme_of, token_of_lexeme}

pub lexeme_back : (l : Lexeme) (text : List ℕ) → lexeme_of (token_of_lexeme l text) ≡ l
lexeme_back (lexeme.Name name) text = refl
lexeme_back _ text = refl

-- a token by its lexeme, and a lexeme by its token
pub token_here : {l m : Lexeme} {t : Token} (text : List ℕ) → token_of_lexeme l text ≡ t → l ≡ m → t ≡ token_of_lexeme m text
token_here {l} {m} {t} text e h = sym e ∙ ap (λ x. token_of_lexeme x text) h

pub lexeme_here : {t : Token} (l : Lexeme) (text : List ℕ) → token_of_lexeme l text ≡ t → l ≡ lexeme_of t
lexeme_here {t} l text e = sym (lexeme_back l text) ∙ ap lexeme_of e
