-- Inner words: what is kept of a definition beside its code.
use Rattle.std.specs.Prelude.{◌≡◌, min, length}
use Rattle.blang.specs.Trees.{Definition, Simple, Vector, Function}
use Rattle.blang.specs.Code.{vector_words}
use Rattle.blang.specs.Scan.{identifier_of}
use Rattle.bread.specs.declared.header.TheConstants.{MOST_COUNTED}
use Rattle.bread.specs.declared.header.DefinitionHead.{DefinitionHead}
use Rattle.bread.specs.declared.header.HeadKind.{HeadKind}
use Rattle.bread.specs.declared.header.HeadKind.TheVariants as kind

abbrev pub IsKind : HeadKind → Definition → Type 0
IsKind kind.Simple (Simple w values) = Unit {0}
IsKind (kind.Vector n) (Vector w size values) = n ≡ min (vector_words size values) MOST_COUNTED
IsKind (kind.Function n) (Function w parameters body) = n ≡ min (length parameters) MOST_COUNTED
IsKind _ _ = ⊥

-- The definition has this name on this line, and is of this kind.
pub record Heads (header : DefinitionHead) (d : Definition) : Type 0 where
  pub name : header.name ≡ (identifier_of d).text
  pub line : header.line ≡ (identifier_of d).line
  pub kind : IsKind header.kind d
