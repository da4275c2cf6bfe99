-- The files that follow a source are put together one by one.
use Rattle.std.proofs.Common.{◌≡◌, ℕ, ◌+◌, ◌<◌, List, [], ◌∷◌, ◌++◌, map, take, length, arith, sym, subst}
use Rattle.std.specs.Prelude.{IsUtf8, slice_index_or}
use Rattle.std.proofs.lemmas.List.{get_or-map, length-map, map_more}
use Rattle.std.proofs.lemmas.List.Elements.{All-push}
use Rattle.bsources.specs.FileLines.{Followed, NamedText, followed}
use Rattle.bembed.specs.WithFiles.{AreNamed, text_of}
use Rattle.bembed.specs.declared.joined.NamedFile.{NamedFile}

-- these were put together
abbrev pub AreFollowed : List NamedFile → Followed → Type 0
AreFollowed files rest = AreNamed (map text_of files) × (rest ≡ followed (map text_of files))

-- one more was
pub followed_on : (files : List NamedFile) (i : ℕ) (d : NamedFile) (name : List ℕ) (rest more : Followed) → i < length files
    → AreFollowed (take i files) rest
    → (name ≡ (slice_index_or files i d).name.now) × IsUtf8 (slice_index_or files i d).name.now
    → ((texts : List NamedText) → rest ≡ followed texts
    → more ≡ followed (texts ++ record { name = name; text = (slice_index_or files i d).text.now } ∷ []))
    → AreFollowed (take (i + 1) files) more
followed_on files i d name rest more lt h named push =
    subst (λ texts. AreNamed texts × (more ≡ followed texts)) (sym (map_more text_of files i d lt)) (
      All-push (λ it. IsUtf8 it.name) (map text_of (take i files)) (text_of (slice_index_or files i d)) h.0 named.1,
      subst (λ n. more ≡ followed (map text_of (take i files) ++ record { name = n; text = (slice_index_or files i d).text.now } ∷ []))
          named.0 (push (map text_of (take i files)) h.1),
    )

-- a name that isn't UTF-8 is among them
pub unnamed : (files : List NamedFile) (i : ℕ) (d : NamedFile) → i < length files
    → (IsUtf8 (slice_index_or files i d).name.now → ⊥) → AreNamed (map text_of files) → ⊥
unnamed files i d lt wrong named = wrong
    (subst (λ it. IsUtf8 it.name) (get_or-map text_of files i d (text_of d) lt)
    (named i (text_of d) (omega (arith, lt, length-map files text_of))))
