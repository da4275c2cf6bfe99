-- What was read of the files of a source.
use Rattle.std.proofs.Common.{subst, ◌≡◌, ◌<◌, ◌+◌, ℕ, suc, List, [], ◌∷◌, ◌++◌, map, take, drop, length, refl, sym, ap, ◌∙◌, add-one}
use Rattle.std.specs.Prelude.{slice_index_or}
use Rattle.std.specs.Borrow.{Bor}
use Rattle.std.proofs.Math.Seq.{split_at, take-suc}
use Rattle.std.proofs.lemmas.List.{map-append}
use Rattle.std.proofs.lemmas.List.Elements.{All-nil, All-push}
use Rattle.clap.specs.Words.{Text}
use Rattle.bsources.specs.Files.{Followed, NamedText, file_of, file_shown, followed}
use Rattle.bcommand.specs.CommandLine.{SourceAsked}
use Rattle.bcore.specs.Serves.{ReadsLibs}
use Rattle.bcore.specs.declared.shelf.FileFault.TheVariants as file_fault
use Rattle.bcore.specs.declared.sources.NamedFault.{NamedFault}
use Rattle.bcore.specs.declared.sources.Whole.{Whole}
use Rattle.bcore.specs.Reading.{HasReadLibs, HasReadSource, LibIsUnread}
use Rattle.bcore.specs.Shelves.{Holdings}

abbrev pub shown : List (Bor Text) → List Text
shown names = map (λ n. n.now) names

pub reads_none : (shelf : Holdings) (libs : Followed) → libs ≡ followed [] → HasReadLibs shelf [] libs
reads_none shelf libs is = (record { texts = []; names_are = refl; held = All-nil _ }, is)

-- one more file was read
reads_more : (shelf : Holdings) (names : List Text) (name text : List ℕ) (r : ReadsLibs shelf names) → shelf.holds name text
    → ReadsLibs shelf (names ++ name ∷ [])
reads_more shelf names name text r holds = record {
  texts = r.texts ++ record { name = name; text = text } ∷ [];
  names_are = map-append (λ (it : NamedText). it.name) r.texts (record { name = name; text = text } ∷ []) ∙ ap (λ ns. ns ++ name ∷ []) r.names_are;
  held = All-push (λ x. shelf.holds x.name x.text) r.texts (record { name = name; text = text }) r.held holds;
}

pub reads_next : (shelf : Holdings) (names : List (Bor Text)) (i : ℕ) (d : Bor Text) (text : List ℕ) (libs more : Followed) → i < length names
    → HasReadLibs shelf (shown (take i names)) libs → shelf.holds (slice_index_or names i d).now text
    → ((texts : List NamedText) → libs ≡ followed texts → more ≡ followed (texts ++ record { name = (slice_index_or names i d).now; text = text } ∷ []))
    → HasReadLibs shelf (shown (take (i + 1) names)) more
unfolding reads_more
reads_next shelf names i d text libs more lt h holds push =
    let one = (slice_index_or names i d).now in
    let next : shown (take i names) ++ one ∷ [] ≡ shown (take (i + 1) names) =
    sym (rw add-one (ap shown (take-suc names i d lt) ∙ map-append (λ (n : Bor Text). n.now) (take i names) (slice_index_or names i d ∷ []))) in
    subst (λ (ns : List Text). HasReadLibs shelf ns more) next (reads_more shelf (shown (take i names)) one text h.0 holds, push h.0.texts h.1)

-- the files before one were read, and that one could not be
pub unread_in_turn : (shelf : Holdings) (names : List (Bor Text)) (i : ℕ) (d : Bor Text) (libs : Followed) (it : NamedFault) → i < length names
    → HasReadLibs shelf (shown (take i names)) libs → it.name.now ≡ (slice_index_or names i d).now
    → (it.fault ≡ file_fault.Device → shelf.lacks it.name.now) → LibIsUnread shelf (shown names) it
unread_in_turn shelf names i d libs it lt h is why = record {
  before = shown (take i names);
  after = shown (drop (suc i) names);
  in_turn = ap shown (split_at names i d lt) ∙ map-append (λ (n : Bor Text). n.now) (take i names) (slice_index_or names i d ∷ drop (suc i) names)
      ∙ ap (λ n. shown (take i names) ++ n ∷ shown (drop (suc i) names)) (sym is);
  reads = h.0;
  reason = why;
}

-- a source was read: its first file, and those that follow it, whose bytes come after
pub source_read : (shelf : Holdings) (source : SourceAsked) (it : Whole) (text more same : List ℕ) → shelf.holds source.file text → HasReadLibs shelf source.libs it.libs
    → it.text.items ≡ text ++ more → more ≡ it.libs.text → file_shown it.first ≡ file_of source.file same → same ≡ text → HasReadSource shelf source it
source_read shelf source it text more same holds libs items rest first is = record {
  reads = record { text = text; held = holds; libs = libs.0 };
  text = items ∙ ap (λ t. text ++ t) (rest ∙ ap (λ (f : Followed). f.text) libs.1);
  first = first ∙ ap (λ t. file_of source.file t) is;
  libs = libs.1;
}
