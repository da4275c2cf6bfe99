-- A call is spelled by what is called and its arguments.
use Rattle.std.proofs.Common.{◌≡◌, [], ◌∷◌, ◌++◌, refl}
use Rattle.blang.specs.declared.token.Token.TheVariants as token
use Rattle.blang.specs.Trees.{mark, Expr, Arguments, Named, Called}
use Rattle.bgrammar.specs.Spelling.{spell, spell_arguments}

pub called_spelling : (e : Expr) (args : Arguments) → spell (Called e args) ≡ spell e ++ (mark token.OpenParen ∷ (spell_arguments args ++ (mark token.CloseParen ∷ [])))
called_spelling (Named w) args = refl
called_spelling _ args = refl
