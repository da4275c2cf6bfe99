-- Closed facts: the tags of small trees, and of tokens that are no program's.
use Rattle.std.specs.Prelude.{◌≡◌, codes, List, [], ◌∷◌, None, map, refl}
use Rattle.blang.specs.declared.token.Token.{Token}
use Rattle.blang.specs.declared.token.Token.TheVariants as token
use Rattle.blang.specs.declared.token.Keyword.TheVariants as keyword
use Rattle.blang.specs.Trees.{Compound, Default, Definition, Empty, Evaluate, Expr, Function, Headed, Identifier, If}
use Rattle.blang.specs.Trees.{IfElse, Ival_constant, Label, Literal, More, Named, Nothing, Number, Return, Simple}
use Rattle.blang.specs.Trees.{Switch, Vector, While}
use Rattle.btree.specs.declared.tags.Construct.TheVariants as construct
use Rattle.btree.specs.declared.tags.Tag.{Tag}
use Rattle.btree.specs.declared.tags.Tag.TheVariants as tag
use Rattle.btree.specs.declared.tags.Phase.TheVariants as phase
use Rattle.btree.specs.Machine.{run, sort_of}
use Rattle.btree.specs.Tags.{definition_tags, statement_tags}

abbrev a : Identifier
a = record { text = codes "a"; line = 1 }

abbrev one : Expr
one = Literal (Number 1)

abbrev t : Tag
t = tag.Token

abbrev e : Tag
e = tag.Ends

-- a 1;   a[];   a();
values : map definition_tags (Simple a (Ival_constant (Number 1) ∷ []) ∷ Vector a None [] ∷ Function a [] Empty ∷ [])
    ≡ (tag.Begins construct.Definition ∷ t ∷ t ∷ t ∷ e ∷ [])
    ∷ (tag.Begins construct.Definition ∷ t ∷ t ∷ t ∷ t ∷ e ∷ [])
    ∷ (tag.Begins construct.Definition ∷ t ∷ t ∷ t ∷ tag.Begins construct.Plain ∷ t ∷ e ∷ e ∷ []) ∷ []
values = refl

-- if(1);   if(1);else;   while(1){;;}   switch 1{}
conditions : map statement_tags (If one Empty ∷ IfElse one Empty Empty
    ∷ While one (Compound (More (More Nothing Empty) Empty)) ∷ Switch one Nothing ∷ [])
    ≡ (tag.Begins construct.If ∷ t ∷ t ∷ t ∷ t ∷ tag.Begins construct.Plain ∷ t ∷ e ∷ e ∷ [])
    ∷ (tag.Begins construct.If ∷ t ∷ t ∷ t ∷ t ∷ tag.Begins construct.Plain ∷ t ∷ e ∷ t
    ∷ tag.Begins construct.Plain ∷ t ∷ e ∷ e ∷ [])
    ∷ (tag.Begins construct.While ∷ t ∷ t ∷ t ∷ t ∷ tag.Begins construct.Block ∷ t
    ∷ tag.Begins construct.Plain ∷ t ∷ e ∷ tag.Begins construct.Plain ∷ t ∷ e ∷ t ∷ e ∷ e ∷ [])
    ∷ (tag.Begins construct.Switch ∷ t ∷ t ∷ tag.Begins construct.Block ∷ t ∷ t ∷ e ∷ e ∷ []) ∷ []
conditions = refl

-- a:return;   default:a;
headings : map statement_tags (Headed (Label a) Return ∷ Headed (Default 1) (Evaluate (Named a)) ∷ [])
    ≡ (tag.Begins construct.Heading ∷ t ∷ t ∷ e ∷ tag.Begins construct.Plain ∷ t ∷ t ∷ e ∷ [])
    ∷ (tag.Begins construct.Heading ∷ t ∷ t ∷ e ∷ tag.Begins construct.Plain ∷ t ∷ t ∷ e ∷ []) ∷ []
headings = refl

abbrev tags : List Token → List Tag
tags tokens = run phase.Start [] (map sort_of tokens)

-- }   else   a}   a(){if(   switch 1 case
of_no_program : map tags ((token.CloseBrace ∷ []) ∷ (token.Keyword keyword.Else ∷ [])
    ∷ (token.Name (codes "a") ∷ token.CloseBrace ∷ [])
    ∷ (token.Name (codes "a") ∷ token.OpenParen ∷ token.CloseParen ∷ token.OpenBrace ∷ token.Keyword keyword.If
    ∷ token.OpenParen ∷ [])
    ∷ (token.Keyword keyword.Switch ∷ token.Number 1 ∷ token.Keyword keyword.Case ∷ []) ∷ [])
    ≡ (t ∷ []) ∷ (t ∷ []) ∷ (tag.Begins construct.Definition ∷ t ∷ e ∷ t ∷ [])
    ∷ (tag.Begins construct.Definition ∷ t ∷ t ∷ t ∷ tag.Begins construct.Block ∷ t ∷ tag.Begins construct.If
    ∷ t ∷ t ∷ [])
    ∷ (tag.Begins construct.Switch ∷ t ∷ t ∷ tag.Begins construct.Heading ∷ t ∷ []) ∷ []
of_no_program = refl
