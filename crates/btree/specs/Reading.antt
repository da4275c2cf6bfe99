-- Promise: the tags of tokens.
use Rattle.std.specs.Prelude.{◌≡◌, ◌≢◌, ◌∷◌, ◌++◌, Bool, List, None, Option, Some, [], false, map, true}
use Rattle.blang.specs.declared.token.Token.{Token}
use Rattle.blang.specs.Trees.{Definition, bare}
use Rattle.blang.specs.Walk.{spell_all}
use Rattle.blang.specs.WellFormed.{AllFormed}
use Rattle.btree.specs.declared.tags.Construct.{Construct}
use Rattle.btree.specs.declared.tags.Construct.TheVariants as construct
use Rattle.btree.specs.declared.tags.Tag.{Tag}
use Rattle.btree.specs.declared.tags.Tag.TheVariants as tag
use Rattle.btree.specs.declared.tags.Phase.{Phase}
use Rattle.btree.specs.declared.tags.Phase.TheVariants as phase
use Rattle.btree.specs.declared.reading.Reader.{Reader}
use Rattle.btree.specs.declared.sorts.Sort.{Sort}
use Rattle.btree.specs.declared.sorts.Sort.TheVariants as sort
use Rattle.btree.specs.Machine.{Turn, begin, ends, first, run, sort_of, token_in}
use Rattle.btree.specs.Tags.{program_tags}

-- The tags of tokens of these sorts: those of a program's tree, where the tokens are a program's; where definitions
-- stand before other tokens than an else, those of their trees come first.
pub record AreTags (sorts : List Sort) (tags : List Tag) : Type 0 where
  pub of_tree : (definitions : List Definition) → AllFormed definitions
      → sorts ≡ map sort_of (map bare (spell_all definitions)) → tags ≡ program_tags definitions
  pub of_beginning : (definitions : List Definition) (more : List Token) → AllFormed definitions
      → sorts ≡ map sort_of (map bare (spell_all definitions) ++ more) → first (map sort_of more) ≢ sort.Else
      → (later : List Tag) × (tags ≡ program_tags definitions ++ later)
  pub made : tags ≡ run phase.Start [] sorts

-- A reader has made what a token makes.
pub record Took (old : Reader) (t : Turn) (new : Reader) : Type 0 where
  pub tags : new.tags.items ≡ old.tags.items ++ t.tags
  pub phase : new.phase ≡ t.phase
  pub opens : new.opens ≡ t.opens

-- the innermost construct has ended with a token
abbrev pub Ended : Phase → Reader → Reader → Type 0
Ended p old new =
    (c : Construct) (opens : List Construct) → old.opens ≡ c ∷ opens → Took old (ends p opens) new

-- the else of an if that is innermost was taken
abbrev pub TookElse : Reader → Reader → Type 0
TookElse old new =
    (c : Construct) (opens : List Construct) → old.opens ≡ c ∷ opens
    → Took old (token_in phase.Start (construct.IfElse ∷ opens)) new

-- the tags with which a construct ends
abbrev pub end_tags : Construct → List Tag
end_tags construct.Parens = []
end_tags c = tag.Ends ∷ []

-- the innermost construct is over
abbrev pub EndedOne : Reader → Reader → Type 0
EndedOne old new =
    (c : Construct) (opens : List Construct) → old.opens ≡ c ∷ opens
    → (new.opens ≡ opens) × (new.phase ≡ old.phase) × (new.tags.items ≡ old.tags.items ++ end_tags c)

-- whether the innermost construct is over with a statement before a token
abbrev pub is_over : Option Construct → Sort → Bool
is_over None s = false
is_over (Some construct.Block) s = false
is_over (Some construct.If) sort.Else = false
is_over (Some c) s = true

-- whether it is in a block
abbrev pub is_in_block : Option Construct → Bool
is_in_block None = false
is_in_block (Some construct.Block) = false
is_in_block (Some c) = true

abbrev pub takes_else : Option Construct → Sort → Bool
takes_else (Some construct.If) sort.Else = true
takes_else _ s = false

-- how reading goes on where the innermost construct isn't over
abbrev pub after_over : List Construct → Sort → (next : Sort) → Turn
after_over (construct.If ∷ opens) sort.Else next = token_in phase.Start (construct.IfElse ∷ opens)
after_over opens s next = begin opens s next
