-- Promise: what a name is where it stands, by the constructs and tokens before it.
use Rattle.std.specs.Prelude.{Bool, false, true}
use Rattle.blang.specs.declared.token.Keyword.TheVariants as keyword
use Rattle.blex.specs.declared.lexeme.Lexeme.{Lexeme}
use Rattle.blex.specs.declared.lexeme.Lexeme.TheVariants as lexeme
use Rattle.btree.specs.declared.tags.Construct.{Construct}
use Rattle.btree.specs.declared.tags.Construct.TheVariants as construct
use Rattle.bnaming.specs.declared.roles.Mode.{Mode}
use Rattle.bnaming.specs.declared.roles.Mode.TheVariants as mode
use Rattle.bnaming.specs.declared.roles.Role.{Role}
use Rattle.bnaming.specs.declared.roles.Role.TheVariants as role

-- the mode where a construct begins; after the end of one it is that of a statement
abbrev pub mode_in : Construct → Mode
mode_in construct.Definition = mode.Definition
mode_in construct.Heading = mode.Heading
mode_in _ = mode.Statement

-- what the name of a definition is, which a ( makes a function
abbrev pub defined_as : (is_before_paren : Bool) → Role
defined_as true = role.Function
defined_as false = role.External

-- what a name is
abbrev pub role_in : Mode → (is_before_paren : Bool) → Role
role_in mode.Definition b = defined_as b
role_in mode.Parameters b = role.Parameter
role_in mode.Values b = role.Value
role_in mode.Heading b = role.Label
role_in mode.Automatics b = role.Automatic
role_in mode.Imports b = role.Import
role_in mode.Statement b = role.Mention

-- the mode after the name of a definition
abbrev pub mode_of_definition : (is_before_paren : Bool) → Mode
mode_of_definition true = mode.Parameters
mode_of_definition false = mode.Values

-- the mode after a token of parameters, which a ) ends
abbrev pub mode_of_parameters : Lexeme → Mode
mode_of_parameters lexeme.CloseParen = mode.Statement
mode_of_parameters l = mode.Parameters

-- the mode after the first token of a heading
abbrev pub mode_of_heading : Lexeme → Mode
mode_of_heading (lexeme.Keyword keyword.Auto) = mode.Automatics
mode_of_heading (lexeme.Keyword keyword.Extrn) = mode.Imports
mode_of_heading l = mode.Statement

-- the mode after a token
abbrev pub mode_after : Mode → Lexeme → (is_before_paren : Bool) → Mode
mode_after mode.Definition l b = mode_of_definition b
mode_after mode.Parameters l b = mode_of_parameters l
mode_after mode.Heading l b = mode_of_heading l
mode_after m l b = m

-- a name is defined for the whole source
abbrev pub defines : Role → Bool
defines role.Function = true
defines role.External = true
defines r = false

-- a name is declared for its definition alone
abbrev pub is_local : Role → Bool
is_local role.Parameter = true
is_local role.Automatic = true
is_local role.Label = true
is_local r = false

-- a name may be one that its definition declares: it is in none of `extrn`, initial values and the heads of definitions
abbrev pub looks_around : Role → Bool
looks_around role.Mention = true
looks_around r = is_local r
