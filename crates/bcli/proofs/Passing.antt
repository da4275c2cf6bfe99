-- What is done with the files of a search, and of a source that is checked by rules.
use Rattle.std.proofs.Common.{◌≡◌, ◌∙◌, ◌<◌, ◌+◌, ℕ, suc, List, [], ◌∷◌, ◌++◌, Bool, add-one, ap, drop, inl, inr, length, map, refl, subst, take, false, true}
use Rattle.std.specs.Prelude.{slice_index_or}
use Rattle.std.specs.Borrow.{Bor}
use Rattle.std.proofs.Math.Seq.{split_at, take-suc}
use Rattle.std.proofs.lemmas.List.{map-append}
use Rattle.clap.specs.Words.{Text}
use Rattle.bword.specs.ByteEnds.{Outgoing}
use Rattle.blang.specs.Reports.{RunEnds}
use Rattle.bsources.specs.Files.{File, Files, Followed, file_of, file_shown, followed}
use Rattle.bsources.specs.declared.files.SourceFile.{SourceFile}
use Rattle.bcommand.specs.CommandLine.{SourceAsked}
use Rattle.bcore.specs.declared.sources.Whole.{Whole}
use Rattle.bcore.specs.Reading.{HasReadSource}
use Rattle.bcore.specs.Shelves.{Holdings}
use Rattle.bcli.specs.Passes.{Passes, PassesAll, answer_of, goes_on, more, stopped}
use Rattle.bcli.specs.Serves.{ChecksFile, ChecksRead, files_read}

abbrev pub shown : List (Bor Text) → List Text
shown names = map (λ n. n.now) names

module _ (does : Text → RunEnds → ℕ → Type 0) (names : List (Bor Text)) (i : ℕ) (d : Bor Text) (lt : i < length names) (ends : RunEnds) (found now : ℕ) (out line : Outgoing)
    (before : Passes does (shown (take i names)) (record ends { out_after = out; line_after = line }) found) where
  -- one file more
  pub passes_next : does (slice_index_or names i d).now (record ends { out = out; line = line }) now → goes_on now ≡ true → (answer : ℕ) → answer ≡ answer_of found now
      → Passes does (shown (take (i + 1) names)) ends answer
  passes_next did goes answer is =
      let next : shown (take (i + 1) names) ≡ shown (take i names) ++ (slice_index_or names i d).now ∷ [] =
      rw add-one (ap shown (take-suc names i d lt) ∙ map-append (λ (n : Bor Text). n.now) (take i names) (slice_index_or names i d ∷ [])) in
      more (shown (take (i + 1) names)) ends answer (shown (take i names)) (slice_index_or names i d).now found now out line next before did goes is

  -- the last one that is looked at
  pub passes_last : does (slice_index_or names i d).now (record ends { out = out; line = line }) now → goes_on now ≡ false → PassesAll does (shown names) ends now
  passes_last did goes =
      let in_turn : shown names ≡ shown (take i names) ++ (slice_index_or names i d).now ∷ shown (drop (suc i) names) =
      ap shown (split_at names i d lt) ∙ map-append (λ (n : Bor Text). n.now) (take i names) (slice_index_or names i d ∷ drop (suc i) names) in
      stopped (shown (take i names)) (slice_index_or names i d).now (shown (drop (suc i) names)) found out line in_turn before did goes

-- the files of a source of one
pub alone : (first : SourceFile) (none : Followed) (name text : List ℕ) → file_shown first ≡ file_of name text → none ≡ followed [] → (P : Files → Type 0)
    → P (record { first = file_shown first; rest = none.files }) → P (record { first = file_of name text; rest = [] })
alone first none name text f n P h =
    subst (λ (r : List File). P (record { first = file_of name text; rest = r })) (ap (λ (x : Followed). x.files) n)
    (subst (λ (x : File). P (record { first = x; rest = none.files })) f h)

-- a source was read and then checked by rules
pub checked_source : (shelf : Holdings) (source : SourceAsked) (it : Whole) (files : Files) (given : List ℕ) (rules : Text) (for_editor : Bool) (ends : RunEnds) (status : ℕ)
    → HasReadSource shelf source it → given ≡ it.text.items → files.first ≡ file_shown it.first → files.rest ≡ it.libs.files
    → ChecksRead shelf source.edition files given rules for_editor ends status → ChecksFile shelf source rules for_editor ends status
checked_source shelf source it files given rules for_editor ends status h same first rest checks =
    let files_are : files ≡ files_read h.reads = both (first ∙ h.first) (rest ∙ ap (λ (f : Followed). f.files) h.libs) in
    inr (inr (
      h.reads,
      subst (λ (t : List ℕ). ChecksRead shelf source.edition (files_read h.reads) t rules for_editor ends status) (same ∙ h.text)
          (subst (λ (f : Files). ChecksRead shelf source.edition f given rules for_editor ends status) files_are checks),
    ))
  where
    both : {f g : Files} → f.first ≡ g.first → f.rest ≡ g.rest → f ≡ g
    both {f} {g} p q = rw (p, q) refl
