-- Closed facts: what a name is in each mode, the mode after each token, and which token each lexeme is.
use Rattle.std.specs.Prelude.{◌≡◌, true, false, List, [], ◌∷◌, ◌++◌, None, Some, codes, map, refl, replicate}
use Rattle.bword.specs.declared.operators.BinOp.TheVariants as op
use Rattle.blang.specs.declared.token.Keyword.TheVariants as keyword
use Rattle.blex.specs.declared.lexeme.Lexeme.{Lexeme}
use Rattle.blex.specs.declared.lexeme.Lexeme.TheVariants as lexeme
use Rattle.btree.specs.declared.tags.Construct.TheVariants as construct
use Rattle.bnaming.specs.declared.binding.Reach.TheVariants as reach
use Rattle.bnaming.specs.declared.roles.Mode.{Mode}
use Rattle.bnaming.specs.declared.roles.Mode.TheVariants as mode
use Rattle.bnaming.specs.declared.roles.Role.{Role}
use Rattle.bnaming.specs.declared.roles.Role.TheVariants as role
use Rattle.bnaming.specs.declared.rows.Content.TheVariants as content
use Rattle.bnaming.specs.declared.rows.OtherToken.TheVariants as other
use Rattle.bnaming.specs.Binding.{declares}
use Rattle.bnaming.specs.Roles.{defines, is_local, looks_around, mode_after, mode_in, role_in}
use Rattle.bnaming.specs.Rows.{opens_after, other_of}

abbrev modes : List Mode
modes =
    mode.Definition ∷ mode.Parameters ∷ mode.Values ∷ mode.Heading ∷ mode.Automatics ∷ mode.Imports ∷ mode.Statement
    ∷ []

abbrev roles : List Role
roles =
    role.Function ∷ role.External ∷ role.Parameter ∷ role.Automatic ∷ role.Import ∷ role.Label ∷ role.Mention
    ∷ role.Value ∷ []

-- each keyword, and then each lexeme that is none, an operator of each kind among them
abbrev keywords : List Lexeme
keywords =
    map (λ k. lexeme.Keyword k) (keyword.Auto ∷ keyword.Extrn ∷ keyword.Case ∷ keyword.If ∷ keyword.Else
    ∷ keyword.While ∷ keyword.Switch ∷ keyword.Goto ∷ keyword.Return ∷ keyword.Break ∷ keyword.Default ∷ [])

abbrev constants : List Lexeme
constants = lexeme.Number 0 ∷ lexeme.Number 65535 ∷ lexeme.Character 0 ∷ lexeme.Character 24930 ∷ lexeme.String ∷ []

abbrev operators : List Lexeme
operators =
    lexeme.Operator op.Or ∷ lexeme.Operator op.Div ∷ lexeme.Assign None ∷ lexeme.Assign (Some op.Sub) ∷ lexeme.Not
    ∷ lexeme.Increment ∷ lexeme.Decrement ∷ []

abbrev signs : List Lexeme
signs =
    lexeme.Question ∷ lexeme.Colon ∷ lexeme.Comma ∷ lexeme.Semicolon ∷ lexeme.OpenParen ∷ lexeme.CloseParen
    ∷ lexeme.OpenBracket ∷ lexeme.CloseBracket ∷ lexeme.OpenBrace ∷ lexeme.CloseBrace ∷ []

abbrev lexemes : List Lexeme
lexemes = keywords ++ constants ++ operators ++ signs

-- what a name is, with a ( after it and without one
before_paren : map (λ m. role_in m true) modes
    ≡ role.Function ∷ role.Parameter ∷ role.Value ∷ role.Label ∷ role.Automatic ∷ role.Import ∷ role.Mention ∷ []
before_paren = refl

before_others : map (λ m. role_in m false) modes
    ≡ role.External ∷ role.Parameter ∷ role.Value ∷ role.Label ∷ role.Automatic ∷ role.Import ∷ role.Mention ∷ []
before_others = refl

-- the mode at the beginning of each construct
at_constructs : map mode_in (construct.Definition ∷ construct.Block ∷ construct.If ∷ construct.IfElse ∷ construct.While
    ∷ construct.Switch ∷ construct.Heading ∷ construct.Plain ∷ construct.Parens ∷ [])
    ≡ mode.Definition ∷ replicate 5 mode.Statement ++ mode.Heading ∷ mode.Statement ∷ mode.Statement ∷ []
at_constructs = refl

-- the mode after the name of a definition
after_definition : map (λ b. mode_after mode.Definition (lexeme.Name (codes "a")) b) (true ∷ false ∷ [])
    ≡ mode.Parameters ∷ mode.Values ∷ []
after_definition = refl

-- the mode after each token of parameters, which a ) ends
after_parameters : map (λ l. mode_after mode.Parameters l true) (lexeme.Name (codes "a") ∷ lexemes)
    ≡ replicate 29 mode.Parameters ++ mode.Statement ∷ replicate 4 mode.Parameters
after_parameters = refl

-- the mode after the first token of a heading
after_heading : map (λ l. mode_after mode.Heading l false) (lexeme.Name (codes "a") ∷ lexemes)
    ≡ mode.Statement ∷ mode.Automatics ∷ mode.Imports ∷ replicate 31 mode.Statement
after_heading = refl

-- each other mode stays
after_others : map (λ m. map (λ l. mode_after m l true) (lexeme.Name (codes "a") ∷ lexemes))
    (mode.Values ∷ mode.Automatics ∷ mode.Imports ∷ mode.Statement ∷ [])
    ≡ replicate 34 mode.Values ∷ replicate 34 mode.Automatics ∷ replicate 34 mode.Imports
    ∷ replicate 34 mode.Statement ∷ []
after_others = refl

-- which roles define a name, which declare it for their definition alone, and which may be such a name
defining : map defines roles ≡ true ∷ true ∷ replicate 6 false
defining = refl

declared_locally : map is_local roles ≡ false ∷ false ∷ true ∷ true ∷ false ∷ true ∷ false ∷ false ∷ []
declared_locally = refl

looking_around : map looks_around roles ≡ false ∷ false ∷ true ∷ true ∷ false ∷ true ∷ true ∷ false ∷ []
looking_around = refl

declaring : map (λ r. map (declares r) roles) (reach.Definition ∷ reach.Source ∷ [])
    ≡ map is_local roles ∷ map defines roles ∷ []
declaring = refl

-- which token each lexeme is that is no name
tokens : map other_of lexemes
    ≡ replicate 11 other.Keyword ++ other.Number ∷ other.Number ∷ other.Character ∷ other.Character ∷ other.String
    ∷ replicate 7 other.Operator ++ other.Question ∷ other.Colon ∷ other.Comma ∷ other.Semicolon ∷ other.OpenParen
    ∷ other.CloseParen ∷ other.OpenBracket ∷ other.CloseBracket ∷ other.OpenBrace ∷ other.CloseBrace ∷ []
tokens = refl

-- how many constructs are open after a row
opened : map (λ n. opens_after n (content.Begins construct.Plain)) (0 ∷ 1 ∷ 65535 ∷ []) ≡ 1 ∷ 2 ∷ 65536 ∷ []
opened = refl

ended : map (λ n. opens_after n content.Ends) (0 ∷ 1 ∷ 2 ∷ 65536 ∷ []) ≡ 0 ∷ 0 ∷ 1 ∷ 65535 ∷ []
ended = refl

neither : map (λ c. map (λ n. opens_after n c) (0 ∷ 1 ∷ []))
    (content.Name role.Function (codes "a") ∷ content.Name role.Mention (codes "a") ∷ content.Other other.OpenBrace
    ∷ content.Other other.CloseBrace ∷ [])
    ≡ replicate 4 (0 ∷ 1 ∷ [])
neither = refl
