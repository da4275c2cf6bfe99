-- What no listing and no map is.
use Rattle.std.proofs.Common.{◌≡◌, ◌∙◌, ◌+◌, ◌%◌, ℕ, zero, suc, List, [], ◌∷◌, ◌++◌, Option, Some, None, ap, ap₂, arith, refl, subst, ◌⊎◌, inl, inr}
use Rattle.std.specs.Prelude.{codes, filter, decimal, min, slice_index, unwrap_or}
use Rattle.std.specs.List.{flat_map}
use Rattle.bword.specs.declared.edition.Edition.{Edition}
use Rattle.bword.specs.ByteEnds.{Grew, Writes}
use Rattle.bmach.specs.Resolved.{IsLoadedFrom}
use Rattle.blang.specs.declared.code.Definition.{Definition}
use Rattle.blang.specs.Compiles.{Compilation, CompilesTo, line_of}
use Rattle.blang.specs.Cut.{tokens_from}
use Rattle.blang.specs.declared.run.LoadFault.{LoadFault}
use Rattle.blang.specs.declared.token.Diagnostic.{Diagnostic}
use Rattle.blang.specs.Lines.{program_lines}
use Rattle.blang.specs.Layout.{Shape, load_fault, shape_of, size_of}
use Rattle.blang.specs.Machine.{Image, image_of}
use Rattle.btools.specs.Columns.{left, right}
use Rattle.btools.specs.ProgramsExcluded.{Excluded, code_in}
use Rattle.btools.specs.Origins.{Source}
use Rattle.btools.specs.Programs.{ToldEnds, image_address, load_line}
use Rattle.btools.proofs.ProgramsExcluded.{device_grew, excluded, no_done, other_answer, was_told}
use Rattle.blist.specs.ListExcluded.{NoListings, NoMaps, WrongStatuses}
use Rattle.blist.specs.declared.layout.TheConstants as layout_texts
use Rattle.blist.specs.declared.listing.TheConstants.{HEADING, UNDEFINED}
use Rattle.btools.specs.FrameNames.{HasNames}
use Rattle.btools.specs.ProgramLines.{token_lines}
use Rattle.btools.specs.SourceLines.{source_lines}
use Rattle.btools.specs.declared.names.Frame.{Frame}
use Rattle.blist.specs.ListingTexts.{definition_rows}
use Rattle.blist.specs.Listings.{Lists, Told, is_wanted, list_text, told_of, told_rows, wanted}
use Rattle.blist.specs.Listings as listing
use Rattle.btools.specs.Functions.{kind_text}
use Rattle.blist.specs.Maps.{Maps, dots, map_row, map_text, words_from}
use Rattle.blist.specs.Maps as layout

-- the status of an unknown name is none of a source without a program
no_unknown : (s : ℕ) → s ≡ 135 → (s ≡ 1) ⊎ (s ≡ 132) ⊎ (s ≡ 133) ⊎ (s ≡ 134) → ⊥
no_unknown s is (inl a) = omega (arith, is, a)
no_unknown s is (inr (inl b)) = omega (arith, is, b)
no_unknown s is (inr (inr (inl c))) = omega (arith, is, c)
no_unknown s is (inr (inr (inr d))) = omega (arith, is, d)

-- A map looks at the words, the data end and the addresses of names alone.
module _ (image other : Image) (words : image.words ≡ other.words) (addresses : (x : List ℕ) → image_address image x ≡ image_address other x) where
  words_same : (address n : ℕ) → words_from image address n ≡ words_from other address n
  words_same address zero = refl
  words_same address (suc n) =
      ap₂ (λ before ws. before ++ codes " " ++ decimal (slice_index ws ((address + n) % 65536))) (words_same address n) words

  row_same : (d : Shape) → map_row image d ≡ map_row other d
  row_same d =
      let count = min (size_of d) layout_texts.SHOWN in
      let same = addresses d.name in
      ap₂ (λ address ws.
      right 6 (decimal address) ++ codes "  " ++ left 10 d.name ++ left 8 (kind_text d.kind) ++ right 7 (decimal (size_of d)) ++ codes " " ++ ws ++ dots (size_of d) ++ codes "\n") same
      (ap (λ address. words_from image address count) same ∙ words_same (image_address other d.name) count)

  rows_same : (ds : List Definition) → flat_map (λ d. map_row image (shape_of d)) ds ≡ flat_map (λ d. map_row other (shape_of d)) ds
  rows_same [] = refl
  rows_same (d ∷ ds) = ap₂ (λ a b. a ++ b) (row_same (shape_of d)) (rows_same ds)

-- where these definitions lie follows from the addresses of names
rows_lie : (ds : List Definition) (image : Image) → IsLoadedFrom ds image → (source : List ℕ) (ts : List Told) → flat_map (told_rows image source) ts ≡ flat_map (told_rows (image_of ds) source) ts
rows_lie ds image h source [] = refl
rows_lie ds image h source (t ∷ ts) =
    ap₂ (λ (a b : List ℕ). a ++ b) (ap (λ (a : Option ℕ). definition_rows (source_lines source) (unwrap_or a 0) t.lines t.frame t.definition) (h.addresses (shape_of t.definition).name)) (rows_lie ds image h source ts)

pub listing_same : (ds : List Definition) (image : Image) → IsLoadedFrom ds image → (source : List ℕ) (name : Option (List ℕ)) (lines : List ℕ) (frames : List Frame) → list_text image source name ds lines frames ≡ list_text (image_of ds) source name ds lines frames
listing_same ds image h source name lines frames = ap (λ rows. HEADING.now ++ rows) (rows_lie ds image h source (filter (λ t. is_wanted name t.definition) (told_of ds lines frames)))

map_same : (ds : List Definition) (image : Image) → IsLoadedFrom ds image → map_text image ds ≡ map_text (image_of ds) ds
map_same ds image h =
    ap₂ (λ rows end. layout_texts.HEADING.now ++ rows ++ codes "data end " ++ decimal end ++ codes "\n")
    (rows_same image (image_of ds) h.words (λ x. ap (λ (a : Option ℕ). unwrap_or a 0) (h.addresses x)) ds) h.data_end

module _ (edition : Edition) (source : List ℕ) (r : Compilation) (g : CompilesTo [] (tokens_from edition 1 source) r) (ends : ToldEnds) where
  abbrev code : List Definition
  code = code_in edition source r g

  told : Excluded edition source r g line_of ends.line ends.line_after
  told = excluded edition source r g line_of ends.line ends.line_after

  module _ (name : Option (List ℕ)) where
    abbrev Gives : ℕ → Type 0
    Gives status = Lists (Source edition) source name ends status

    list_done : Gives 0 → (r.stop ≡ None) × (load_fault code ≡ None) × (wanted name code ≡ [] → ⊥) × ((frames : List Frame) × HasNames edition source frames × Writes ends.out (list_text (image_of code) source name code (program_lines g.definitions (token_lines edition source)) frames) ends.out_after)
    list_done (listing.listed ds image lines frames p own named silent some report) =
        let is = told.program ds image p in
        let text = list_text image source name ds lines frames in (
          is.0,
          is.2,
          subst (λ (x : List Definition). wanted name x ≡ [] → ⊥) is.1 some,
          (
            frames,
            named,
            subst (λ t. Writes ends.out t ends.out_after)
                (listing_same ds image p.loaded source name lines frames ∙ ap (λ (x : List Definition). list_text (image_of x) source name x lines frames) is.1 ∙ ap (λ ls. list_text (image_of code) source name code ls frames) (own r g))
                (was_told text 0 ends.out ends.out_after (λ e. omega (arith, e)) (λ e. omega (arith, e)) report),
          ),
        )
    list_done (listing.unnamed ds image p suits none report same) =
        absurd (other_answer UNDEFINED.now 135 ends.line ends.line_after 0 (λ e. omega (arith, e)) (λ e. omega (arith, e)) (λ e. omega (arith, e)) report)
    list_done (listing.stopped why same) = absurd (no_done 0 refl (told.status 0 why))

    list_unknown : Gives 135 → (wanted name code ≡ []) × Writes ends.line UNDEFINED.now ends.line_after × (ends.out_after ≡ ends.out)
    list_unknown (listing.listed ds image lines frames p own named silent some report) =
        absurd (other_answer (list_text image source name ds lines frames) 0 ends.out ends.out_after 135 (λ e. omega (arith, e)) (λ e. omega (arith, e)) (λ e. omega (arith, e)) report)
    list_unknown (listing.unnamed ds image p suits none report same) =
        let is = told.program ds image p in (
          subst (λ (x : List Definition). wanted name x ≡ []) is.1 none,
          was_told UNDEFINED.now 135 ends.line ends.line_after (λ e. omega (arith, e)) (λ e. omega (arith, e)) report,
          same,
        )
    list_unknown (listing.stopped why same) = absurd (no_unknown 135 refl (told.status 135 why))

    list_statuses : WrongStatuses edition source r g ends Gives
    list_statuses = record { fault = fault; unloaded = unloaded; device = device }
      where
        fault : Gives 1 → ((d : Diagnostic) × (r.stop ≡ Some d) × Writes ends.line (line_of d) ends.line_after) × (ends.out_after ≡ ends.out)
        fault (listing.listed ds image lines frames p own named silent some report) =
            absurd (other_answer (list_text image source name ds lines frames) 0 ends.out ends.out_after 1 (λ e. omega (arith, e)) (λ e. omega (arith, e)) (λ e. omega (arith, e)) report)
        fault (listing.unnamed ds image p suits none report same) =
            absurd (other_answer UNDEFINED.now 135 ends.line ends.line_after 1 (λ e. omega (arith, e)) (λ e. omega (arith, e)) (λ e. omega (arith, e)) report)
        fault (listing.stopped why same) = (told.fault why, same)

        unloaded : Gives 132 → ((f : LoadFault) × (text : List ℕ) × (load_fault code ≡ Some f) × (load_line f ≡ Some text) × Writes ends.line text ends.line_after) × (ends.out_after ≡ ends.out)
        unloaded (listing.listed ds image lines frames p own named silent some report) =
            absurd (other_answer (list_text image source name ds lines frames) 0 ends.out ends.out_after 132 (λ e. omega (arith, e)) (λ e. omega (arith, e)) (λ e. omega (arith, e)) report)
        unloaded (listing.unnamed ds image p suits none report same) =
            absurd (other_answer UNDEFINED.now 135 ends.line ends.line_after 132 (λ e. omega (arith, e)) (λ e. omega (arith, e)) (λ e. omega (arith, e)) report)
        unloaded (listing.stopped why same) = (told.unloaded why, same)

        device : Gives 133 → Grew ends.out.failures ends.out_after.failures ⊎ Grew ends.line.failures ends.line_after.failures
        device (listing.listed ds image lines frames p own named silent some report) = inl (device_grew (list_text image source name ds lines frames) 0 ends.out ends.out_after (λ e. omega (arith, e)) report)
        device (listing.unnamed ds image p suits none report same) =
            inr (device_grew UNDEFINED.now 135 ends.line ends.line_after (λ e. omega (arith, e)) report)
        device (listing.stopped why same) = inr (told.device why)

  map_done : Maps (Source edition) source ends 0 → (r.stop ≡ None) × (load_fault code ≡ None) × Writes ends.out (map_text (image_of code) code) ends.out_after
  map_done (layout.mapped ds image p suits silent report) =
      let is = told.program ds image p in (
        is.0,
        is.2,
        subst (λ t. Writes ends.out t ends.out_after) (map_same ds image p.loaded ∙ ap (λ (x : List Definition). map_text (image_of x) x) is.1)
            (was_told (map_text image ds) 0 ends.out ends.out_after (λ e. omega (arith, e)) (λ e. omega (arith, e)) report),
      )
  map_done (layout.stopped why same) = absurd (no_done 0 refl (told.status 0 why))

  map_unknown : Maps (Source edition) source ends 135 → ⊥
  map_unknown (layout.mapped ds image p suits silent report) =
      other_answer (map_text image ds) 0 ends.out ends.out_after 135 (λ e. omega (arith, e)) (λ e. omega (arith, e)) (λ e. omega (arith, e)) report
  map_unknown (layout.stopped why same) = no_unknown 135 refl (told.status 135 why)

  map_statuses : WrongStatuses edition source r g ends (Maps (Source edition) source ends)
  map_statuses = record { fault = fault; unloaded = unloaded; device = device }
    where
      fault : Maps (Source edition) source ends 1 → ((d : Diagnostic) × (r.stop ≡ Some d) × Writes ends.line (line_of d) ends.line_after) × (ends.out_after ≡ ends.out)
      fault (layout.mapped ds image p suits silent report) =
          absurd (other_answer (map_text image ds) 0 ends.out ends.out_after 1 (λ e. omega (arith, e)) (λ e. omega (arith, e)) (λ e. omega (arith, e)) report)
      fault (layout.stopped why same) = (told.fault why, same)

      unloaded : Maps (Source edition) source ends 132 → ((f : LoadFault) × (text : List ℕ) × (load_fault code ≡ Some f) × (load_line f ≡ Some text) × Writes ends.line text ends.line_after) × (ends.out_after ≡ ends.out)
      unloaded (layout.mapped ds image p suits silent report) =
          absurd (other_answer (map_text image ds) 0 ends.out ends.out_after 132 (λ e. omega (arith, e)) (λ e. omega (arith, e)) (λ e. omega (arith, e)) report)
      unloaded (layout.stopped why same) = (told.unloaded why, same)

      device : Maps (Source edition) source ends 133 → Grew ends.out.failures ends.out_after.failures ⊎ Grew ends.line.failures ends.line_after.failures
      device (layout.mapped ds image p suits silent report) = inl (device_grew (map_text image ds) 0 ends.out ends.out_after (λ e. omega (arith, e)) report)
      device (layout.stopped why same) = inr (told.device why)

pub no_listings : NoListings
no_listings edition source r g ends name = record {
  done = list_done edition source r g ends name;
  unknown = list_unknown edition source r g ends name;
  statuses = list_statuses edition source r g ends name;
}

pub no_maps : NoMaps
no_maps edition source r g ends = record {
  done = map_done edition source r g ends;
  unknown = map_unknown edition source r g ends;
  statuses = map_statuses edition source r g ends;
}
