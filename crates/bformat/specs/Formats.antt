-- Promise: what is written of a source that is laid out: its own tokens and comments, between other blanks.
use Rattle.std.specs.Prelude.{◌≡◌, ◌≢◌, ◌≤◌, ◌*◌, ℕ, Bool, true, false, List, length, map, ◌⊎◌}
use Rattle.std.specs.List.{list_any}
use Rattle.bword.specs.declared.edition.Edition.{Edition}
use Rattle.bword.specs.ByteEnds.{Outgoing}
use Rattle.blang.specs.Cut.{tokens_from}
use Rattle.blang.specs.Reports.{Reported}
use Rattle.blang.specs.declared.status.TheConstants.{DONE, MEMORY}
use Rattle.blang.specs.declared.token.Token.{Token}
use Rattle.blang.specs.declared.token.Token.TheVariants as token
use Rattle.btools.specs.Programs.{WasCompiled}
use Rattle.bformat.specs.declared.formatting.TheConstants.{CHANGES, MOST_BYTES}
use Rattle.bformat.specs.Pieces.{pieces_of}

-- the tokens of a source, without their lines
abbrev pub tokens_of : Edition → List ℕ → List Token
tokens_of edition source = map (λ p. p.token) (tokens_from edition 1 source)

abbrev pub is_wrong : Token → Bool
is_wrong (token.Bad letters) = true
is_wrong _ = false

-- a token of the source is wrong
abbrev pub has_wrong_token : Edition → List ℕ → Bool
has_wrong_token edition source = list_any is_wrong (tokens_of edition source)

-- The text has the comments and tokens of the source, in order and each to the byte. Only what is blank between them
-- differs, and that is bounded.
pub record IsLayout (edition : Edition) (source text : List ℕ) : Type 0 where
  pub pieces : pieces_of edition text ≡ pieces_of edition source
  pub tokens : tokens_of edition text ≡ tokens_of edition source
  pub size : length text ≤ MOST_BYTES * length source

-- a source in an edition, whether it is only looked at, the two streams, before and after, and the status
pub record Format : Type 0 where
  pub edition : Edition
  pub source : List ℕ
  pub is_check : Bool
  pub out : Outgoing
  pub out_after : Outgoing
  pub line : Outgoing
  pub line_after : Outgoing
  pub status : ℕ

-- the text is written; or nothing is, and the status says whether it differs from the source
abbrev pub Shows : (is_check : Bool) → (text source : List ℕ) → Outgoing → Outgoing → (status : ℕ) → Type 0
Shows false text source out out_after status = Reported text DONE out out_after status
Shows true text source out out_after status =
    (out_after ≡ out) × (((text ≡ source) × (status ≡ DONE)) ⊎ ((text ≢ source) × (status ≡ CHANGES)))

-- What comes of a source in a style, which says what is a layout: it is laid out, and nothing is told; a token of it is
-- wrong, and its first fault is told as the compiler tells it; or memory was refused.
pub data FormatsBy (lays : Edition → List ℕ → List ℕ → Type 0) (f : Format) : Type 0 where
  laid_out : (text : List ℕ) → has_wrong_token f.edition f.source ≡ false → lays f.edition f.source text
      → Shows f.is_check text f.source f.out f.out_after f.status → f.line_after ≡ f.line → FormatsBy lays f
  faulty : (code : List ℕ) → has_wrong_token f.edition f.source ≡ true
      → WasCompiled f.edition f.source f.line f.line_after code f.status → f.out_after ≡ f.out → FormatsBy lays f
  no_memory : f.out_after ≡ f.out → f.line_after ≡ f.line → f.status ≡ MEMORY → FormatsBy lays f

-- the same in the style of the house
abbrev pub Formats : Format → Type 0
Formats = FormatsBy IsLayout
