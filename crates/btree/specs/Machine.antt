-- Inner words: the tags of tokens, made from the left with one token ahead.
use Rattle.std.specs.Prelude.{List, [], ◌∷◌, ◌++◌, None, Option, Some}
use Rattle.blang.specs.declared.token.Token.{Token}
use Rattle.blex.specs.declared.lexeme.Lexeme.{Lexeme}
use Rattle.blex.specs.declared.lexeme.Lexeme.TheVariants as lexeme
use Rattle.blex.specs.Lexemes.{lexeme_of}
use Rattle.blang.specs.declared.token.Keyword.{Keyword}
use Rattle.blang.specs.declared.token.Keyword.TheVariants as keyword
use Rattle.btree.specs.declared.tags.Tag.{Tag}
use Rattle.btree.specs.declared.tags.Tag.TheVariants as tag
use Rattle.btree.specs.declared.tags.Construct.{Construct}
use Rattle.btree.specs.declared.tags.Construct.TheVariants as construct
use Rattle.btree.specs.declared.tags.Phase.{Phase}
use Rattle.btree.specs.declared.tags.Phase.TheVariants as phase
use Rattle.btree.specs.declared.sorts.Sort.{Sort}
use Rattle.btree.specs.declared.sorts.Sort.TheVariants as sort

abbrev pub sort_of_keyword : Keyword → Sort
sort_of_keyword keyword.If = sort.If
sort_of_keyword keyword.Else = sort.Else
sort_of_keyword keyword.While = sort.While
sort_of_keyword keyword.Switch = sort.Switch
sort_of_keyword keyword.Case = sort.Arm
sort_of_keyword keyword.Default = sort.Arm
sort_of_keyword keyword.Auto = sort.Declares
sort_of_keyword keyword.Extrn = sort.Declares
sort_of_keyword _ = sort.Other

abbrev pub sort_of_lexeme : Lexeme → Sort
sort_of_lexeme (lexeme.Name name) = sort.Name
sort_of_lexeme (lexeme.Keyword k) = sort_of_keyword k
sort_of_lexeme lexeme.Colon = sort.Colon
sort_of_lexeme lexeme.Semicolon = sort.Semicolon
sort_of_lexeme lexeme.OpenParen = sort.OpenParen
sort_of_lexeme lexeme.CloseParen = sort.CloseParen
sort_of_lexeme lexeme.OpenBrace = sort.OpenBrace
sort_of_lexeme lexeme.CloseBrace = sort.CloseBrace
sort_of_lexeme _ = sort.Other

abbrev pub sort_of : Token → Sort
sort_of t = sort_of_lexeme (lexeme_of t)

-- the next one; after the last one stands none with which a construct begins or ends
abbrev pub first : List Sort → Sort
first [] = sort.Other
first (s ∷ ss) = s

abbrev pub top_of : List Construct → Option Construct
top_of [] = None
top_of (c ∷ opens) = Some c

-- what a token makes: its tags, and how reading goes on in which opens constructs, the innermost one first
pub record Turn : Type 0 where
  pub tags : List Tag
  pub phase : Phase
  pub opens : List Construct

abbrev pub turn : List Tag → Phase → List Construct → Turn
turn tags p opens = record { tags = tags; phase = p; opens = opens }

-- the end of the innermost construct, and then this
abbrev pub after_end : Turn → Turn
after_end t = turn (tag.Ends ∷ t.tags) t.phase t.opens

-- a construct begins with this token
abbrev pub begins : Construct → Phase → List Construct → Turn
begins c p opens = turn (tag.Begins c ∷ tag.Token ∷ []) p (c ∷ opens)

-- a token within a construct
abbrev pub token_in : Phase → List Construct → Turn
token_in p opens = turn (tag.Token ∷ []) p opens

-- the innermost construct ends with this token
abbrev pub ends : Phase → List Construct → Turn
ends p opens = turn (tag.Token ∷ tag.Ends ∷ []) p opens

-- a } ends the innermost block, and before it what is opens in that
abbrev pub close : List Construct → Turn
close [] = token_in phase.Over []
close (construct.Block ∷ opens) = ends phase.Over opens
close (construct.Parens ∷ opens) = close opens
close (c ∷ opens) = after_end (close opens)

-- how a definition goes on after its name
abbrev pub named : (next : Sort) → Phase
named sort.OpenParen = phase.Condition
named _ = phase.Inside

-- a name before which a construct begins
abbrev pub begin_name : List Construct → (next : Sort) → Turn
begin_name [] next = begins construct.Definition (named next) []
begin_name (c ∷ opens) sort.Colon = begins construct.Heading phase.Inside (c ∷ opens)
begin_name (c ∷ opens) next = begins construct.Plain phase.Inside (c ∷ opens)

abbrev pub begin : List Construct → Sort → (next : Sort) → Turn
begin opens sort.Name next = begin_name opens next
begin opens sort.If next = begins construct.If phase.Condition opens
begin opens sort.While next = begins construct.While phase.Condition opens
begin opens sort.Switch next = begins construct.Switch phase.Inside opens
begin opens sort.Arm next = begins construct.Heading phase.Inside opens
begin opens sort.Declares next = begins construct.Heading phase.Inside opens
begin opens sort.OpenBrace next = begins construct.Block phase.Start opens
begin opens sort.CloseBrace next = close opens
begin opens sort.Semicolon next = begins construct.Plain phase.Over opens
begin opens sort.Else next = token_in phase.Start opens
begin opens _ next = begins construct.Plain phase.Inside opens

-- after a statement
abbrev pub over : List Construct → Sort → (next : Sort) → Turn
over [] s next = begin [] s next
over (construct.Block ∷ opens) s next = begin (construct.Block ∷ opens) s next
over (construct.Parens ∷ opens) s next = over opens s next
over (construct.If ∷ opens) sort.Else next = token_in phase.Start (construct.IfElse ∷ opens)
over (c ∷ opens) s next = after_end (over opens s next)

-- a ; or : that may end a heading
abbrev pub heading_or : Phase → List Construct → Turn
heading_or p (construct.Heading ∷ opens) = ends phase.Start opens
heading_or p opens = token_in p opens

-- a ) of a condition
abbrev pub unparen : List Construct → Turn
unparen (construct.Parens ∷ construct.Parens ∷ opens) = token_in phase.Condition (construct.Parens ∷ opens)
unparen (construct.Parens ∷ opens) = token_in phase.Start opens
unparen opens = token_in phase.Start opens

-- A case after what a switch looks at, where its block should be, is in it all the same. No program has one there.
abbrev pub arm_inside : List Construct → Turn
arm_inside (construct.Switch ∷ opens) = begins construct.Heading phase.Inside (construct.Switch ∷ opens)
arm_inside opens = token_in phase.Inside opens

abbrev pub inside : List Construct → Sort → Turn
inside opens sort.Semicolon = heading_or phase.Over opens
inside opens sort.Colon = heading_or phase.Inside opens
inside opens sort.OpenBrace = begins construct.Block phase.Start opens
inside opens sort.CloseBrace = close opens
inside opens sort.Arm = arm_inside opens
inside opens _ = token_in phase.Inside opens

abbrev pub condition : List Construct → Sort → Turn
condition opens sort.OpenParen = token_in phase.Condition (construct.Parens ∷ opens)
condition opens sort.CloseParen = unparen opens
condition opens sort.Semicolon = heading_or phase.Over opens
condition opens sort.OpenBrace = begins construct.Block phase.Start opens
condition opens sort.CloseBrace = close opens
condition opens _ = token_in phase.Condition opens

abbrev pub step : Phase → List Construct → Sort → (next : Sort) → Turn
step phase.Start opens s next = begin opens s next
step phase.Over opens s next = over opens s next
step phase.Inside opens s next = inside opens s
step phase.Condition opens s next = condition opens s

-- where the source ends after a statement, what waited for it ends
abbrev pub closings : List Construct → List Tag
closings [] = []
closings (construct.Block ∷ opens) = []
closings (construct.Parens ∷ opens) = closings opens
closings (c ∷ opens) = tag.Ends ∷ closings opens

abbrev pub at_end : Phase → List Construct → List Tag
at_end phase.Over opens = closings opens
at_end _ opens = []

-- the tags from here on
abbrev pub run : Phase → List Construct → List Sort → List Tag
run p opens [] = at_end p opens
run p opens (s ∷ ss) =
    let t = step p opens s (first ss) in
    t.tags ++ run t.phase t.opens ss
