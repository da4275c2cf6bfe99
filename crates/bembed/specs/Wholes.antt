-- Promise: a source in memory, with the files that follow it.
use Rattle.std.specs.Prelude.{ℕ, List, [], map, codes}
use Rattle.bword.specs.declared.edition.Edition.{Edition}
use Rattle.bsources.specs.FileLines.{Files, NamedText, file_in, file_of, joined}

-- a source by itself, named as standard input
abbrev pub alone : List ℕ → Files
alone source = record { first = file_of (codes "-") source; rest = [] }

-- the edition of a source, the bytes of it and of what follows it, and its files
pub record Whole : Type 0 where
  pub edition : Edition
  pub text : List ℕ
  pub files : Files

abbrev pub whole_of : Edition → (source : List ℕ) → List NamedText → Whole
whole_of edition source rest = record {
  edition = edition;
  text = joined source (map (λ it. it.text) rest);
  files = record { first = (alone source).first; rest = map file_in rest };
}
