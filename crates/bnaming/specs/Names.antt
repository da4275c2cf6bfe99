-- Promise: what is written of the names and constructs of a source.
use Rattle.std.specs.Prelude.{◌≡◌, ◌⊎◌, ℕ, List, [], ◌∷◌, ◌++◌, map, Option}
use Rattle.std.specs.List.{filter_map, flat_map}
use Rattle.bword.specs.declared.edition.Edition.{Edition}
use Rattle.bword.specs.ByteEnds.{Outgoing}
use Rattle.blang.specs.Reports.{Reported}
use Rattle.blang.specs.declared.status.TheConstants.{DONE, MEMORY}
use Rattle.bsources.specs.Files.{Files}
use Rattle.btree.specs.Machine.{run}
use Rattle.btree.specs.declared.tags.Phase.TheVariants as phase
use Rattle.bnaming.specs.declared.reading.PlacedToken.{PlacedToken}
use Rattle.bnaming.specs.declared.roles.Mode.TheVariants as mode
use Rattle.bnaming.specs.declared.rows.Row.{Row}
use Rattle.bnaming.specs.Binding.{around_at, bound}
use Rattle.bnaming.specs.Pieces.{comment_in, pieces_of, sort_in, token_in}
use Rattle.bnaming.specs.Rows.{opens_after, rows_from}
use Rattle.bnaming.specs.Spots.{first_spot}
use Rattle.bnaming.specs.Texts.{comment_text, row_text}

-- the rows of tokens: their tags say where constructs begin and end
abbrev pub rows_of : List PlacedToken → List Row
rows_of tokens = rows_from mode.Statement first_spot tokens (run phase.Start [] (map sort_in tokens))

-- Each row with those in which a name of its definition is looked for, where this many constructs are open before the
-- first: those of the outermost construct around it.
abbrev pub arounds : (around : List Row) → (opens : ℕ) → List Row → List (Row × List Row)
arounds around opens [] = []
arounds around opens (r ∷ rs) =
    let own = around_at opens r around rs in
    (r, own) ∷ arounds own (opens_after opens r.content) rs

-- each row with the one that declares its name
abbrev pub bindings : (whole around : List Row) → (opens : ℕ) → List Row → List (Row × Option Row)
bindings whole around opens rows =
    map (λ (it : Row × List Row). (it.0, bound it.1 whole it.0.content)) (arounds around opens rows)

abbrev pub texts_of : Files → List (Row × Option Row) → List ℕ
texts_of files rows = flat_map (λ (b : Row × Option Row). row_text files b.0 b.1) rows

abbrev pub bindings_of : List Row → List (Row × Option Row)
bindings_of rows = bindings rows [] 0 rows

abbrev pub tokens_of : Edition → List ℕ → List PlacedToken
tokens_of edition source = filter_map token_in (pieces_of edition source)

-- the comments of a source, and its constructs and tokens
abbrev pub names_text : Edition → Files → List ℕ → List ℕ
names_text edition files source =
    flat_map (comment_text files) (filter_map comment_in (pieces_of edition source))
    ++ texts_of files (bindings_of (rows_of (tokens_of edition source)))

-- a source in an edition, its files, the stream before and after, and the status
pub record Naming : Type 0 where
  pub edition : Edition
  pub files : Files
  pub source : List ℕ
  pub out : Outgoing
  pub out_after : Outgoing
  pub status : ℕ

-- The text is written, or a beginning of it where the write was refused; or memory was refused, and nothing is.
abbrev pub Names : Naming → Type 0
Names n =
    Reported (names_text n.edition n.files n.source) DONE n.out n.out_after n.status
    ⊎ ((n.out_after ≡ n.out) × (n.status ≡ MEMORY))
