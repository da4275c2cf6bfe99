-- What no listing of a code text is.
use Rattle.std.proofs.Common.{◌≡◌, ◌∙◌, ◌≤◌, ℕ, List, [], Option, Some, None, ap, arith, refl, subst, sym, ◌⊎◌, inl, inr}
use Rattle.bword.specs.ByteEnds.{Grew, Writes}
use Rattle.bcode.specs.Faults.{IsFaultLine}
use Rattle.blang.specs.declared.code.Definition.{Definition}
use Rattle.blang.specs.declared.run.LoadFault.{LoadFault}
use Rattle.blang.specs.declared.run.Report.TheVariants as report
use Rattle.blang.specs.Compiles.{line_of}
use Rattle.blang.specs.Layout.{load_fault}
use Rattle.blang.specs.Machine.{image_of}
use Rattle.blang.specs.Reports.{Reported, report_text}
use Rattle.blang.specs.Text.{IsCodeText}
use Rattle.btools.specs.CodesExcluded.{ExcludedOfOther, ExcludedOfText, IsUnsuited}
use Rattle.btools.specs.NamedFrames.{HasFrames}
use Rattle.btools.specs.Origins.{Code, beside}
use Rattle.btools.specs.PlaceLines.{CodeText, HasPlaceLines}
use Rattle.btools.specs.Programs.{ToldEnds, load_line}
use Rattle.btools.specs.declared.names.Frame.{Frame}
use Rattle.btools.proofs.CodesExcluded.{codes_excluded}
use Rattle.btools.proofs.ProgramsExcluded.{device_grew, other_answer, was_told}
use Rattle.blist.specs.CodeListExcluded.{Gives, NoCodeListings, WrongOtherListings, WrongTextListings}
use Rattle.blist.specs.declared.listing.TheConstants.{UNDEFINED}
use Rattle.blist.specs.Listings.{list_text, wanted}
use Rattle.blist.specs.Listings as listing
use Rattle.blist.proofs.ListExcluded.{listing_same}

-- 0, 1 and 135 are no status of a text that is no code text
no_other : (s status : ℕ) → s ≡ status → (status ≡ 132 → ⊥) → (status ≡ 133 → ⊥) → (status ≡ 134 → ⊥) → (s ≡ 132) ⊎ (s ≡ 133) ⊎ (s ≡ 134) → ⊥
no_other s status is a b c (inl e) = a (sym is ∙ e)
no_other s status is a b c (inr (inl e)) = b (sym is ∙ e)
no_other s status is a b c (inr (inr e)) = c (sym is ∙ e)

-- 0 and 1 are none of a code text without a program
no_status : (s : ℕ) → s ≤ 1 → (s ≡ 132) ⊎ (s ≡ 135) ⊎ (s ≡ 133) ⊎ (s ≡ 134) → ⊥
no_status s le (inl e) = omega (arith, le, e)
no_status s le (inr (inl e)) = omega (arith, le, e)
no_status s le (inr (inr (inl e))) = omega (arith, le, e)
no_status s le (inr (inr (inr e))) = omega (arith, le, e)

module _ (c : CodeText) (source : List ℕ) (name : Option (List ℕ)) (ends : ToldEnds) where
  -- a listing or the line of an unknown name has its status, or that of a refused write
  not_listed : (text : List ℕ) (status : ℕ) → (status ≡ 0 → ⊥) → (status ≡ 133 → ⊥) → (status ≡ 134 → ⊥) → Reported text 0 ends.out ends.out_after status → ⊥
  not_listed text status done device memory report = other_answer text 0 ends.out ends.out_after status done device memory report

  not_unnamed : (status : ℕ) → (status ≡ 135 → ⊥) → (status ≡ 133 → ⊥) → (status ≡ 134 → ⊥) → Reported UNDEFINED.now 135 ends.line ends.line_after status → ⊥
  not_unnamed status unknown device memory report = other_answer UNDEFINED.now 135 ends.line ends.line_after status unknown device memory report

  module _ (ds : List Definition) (is : IsCodeText c.code ds) where
    told : ExcludedOfText c source line_of ends.line ends.line_after ds
    told = codes_excluded.texts c source line_of ends.line ends.line_after ds is

    list_done : Gives c source name ends 0
        → (load_fault ds ≡ None) × (wanted name ds ≡ [] → ⊥)
        × ((lines : List ℕ) × (frames : List Frame) × HasPlaceLines c ds lines × HasFrames c ds frames × Writes ends.out (list_text (image_of ds) (beside (Code c) source) name ds lines frames) ends.out_after)
    list_done (listing.listed es image lines frames p own named silent some report) =
        let same = told.program es image p in
        let text = beside (Code c) source in (
          same.1,
          subst (λ (x : List Definition). wanted name x ≡ [] → ⊥) same.0 some,
          (
            lines,
            frames,
            own ds is,
            named ds is,
            subst (λ t. Writes ends.out t ends.out_after)
                (listing_same es image p.loaded text name lines frames ∙ ap (λ (x : List Definition). list_text (image_of x) text name x lines frames) same.0)
                (was_told (list_text image text name es lines frames) 0 ends.out ends.out_after (λ e. omega (arith, e)) (λ e. omega (arith, e)) report),
          ),
        )
    list_done (listing.unnamed es image p suits none report quiet) = absurd (not_unnamed 0 (λ e. omega (arith, e)) (λ e. omega (arith, e)) (λ e. omega (arith, e)) report)
    list_done (listing.stopped why quiet) = absurd (no_status 0 (omega arith) (told.status 0 why))

    list_fault : Gives c source name ends 1 → ⊥
    list_fault (listing.listed es image lines frames p own named silent some report) = not_listed _ 1 (λ e. omega (arith, e)) (λ e. omega (arith, e)) (λ e. omega (arith, e)) report
    list_fault (listing.unnamed es image p suits none report quiet) = not_unnamed 1 (λ e. omega (arith, e)) (λ e. omega (arith, e)) (λ e. omega (arith, e)) report
    list_fault (listing.stopped why quiet) = no_status 1 (omega arith) (told.status 1 why)

    list_unloaded : Gives c source name ends 132 → ((f : LoadFault) × (text : List ℕ) × (load_fault ds ≡ Some f) × (load_line f ≡ Some text) × Writes ends.line text ends.line_after) × (ends.out_after ≡ ends.out)
    list_unloaded (listing.listed es image lines frames p own named silent some report) = absurd (not_listed _ 132 (λ e. omega (arith, e)) (λ e. omega (arith, e)) (λ e. omega (arith, e)) report)
    list_unloaded (listing.unnamed es image p suits none report quiet) = absurd (not_unnamed 132 (λ e. omega (arith, e)) (λ e. omega (arith, e)) (λ e. omega (arith, e)) report)
    list_unloaded (listing.stopped why quiet) = (told.unloaded why, quiet)

    list_unknown : Gives c source name ends 135
        → (((wanted name ds ≡ []) × Writes ends.line UNDEFINED.now ends.line_after) ⊎ IsUnsuited c ds ends.line ends.line_after) × (ends.out_after ≡ ends.out)
    list_unknown (listing.listed es image lines frames p own named silent some report) = absurd (not_listed _ 135 (λ e. omega (arith, e)) (λ e. omega (arith, e)) (λ e. omega (arith, e)) report)
    list_unknown (listing.unnamed es image p suits none report quiet) = (
      inl (
        subst (λ (x : List Definition). wanted name x ≡ []) (told.program es image p).0 none,
        was_told UNDEFINED.now 135 ends.line ends.line_after (λ e. omega (arith, e)) (λ e. omega (arith, e)) report,
      ),
      quiet,
    )
    list_unknown (listing.stopped why quiet) = (inr (told.unsuited why), quiet)

    list_device : Gives c source name ends 133 → Grew ends.out.failures ends.out_after.failures ⊎ Grew ends.line.failures ends.line_after.failures
    list_device (listing.listed es image lines frames p own named silent some report) = inl (device_grew _ 0 ends.out ends.out_after (λ e. omega (arith, e)) report)
    list_device (listing.unnamed es image p suits none report quiet) = inr (device_grew UNDEFINED.now 135 ends.line ends.line_after (λ e. omega (arith, e)) report)
    list_device (listing.stopped why quiet) = inr (told.device why)

    of_text : WrongTextListings c source name ends ds
    of_text = record {
      done = list_done;
      fault = list_fault;
      unloaded = list_unloaded;
      unknown = list_unknown;
      device = list_device;
    }

  module _ (n : ℕ) (first : IsFaultLine c.code n) (none : (ds : List Definition) → IsCodeText c.code ds → ⊥) where
    none_told : ExcludedOfOther c source line_of ends.line ends.line_after n
    none_told = codes_excluded.others c source line_of ends.line ends.line_after n first none

    only_stopped : (status : ℕ) → (status ≡ 132 → ⊥) → (status ≡ 133 → ⊥) → (status ≡ 134 → ⊥) → Gives c source name ends status → ⊥
    only_stopped status a b m (listing.listed es image lines frames p own named silent some report) = none_told.program es image p
    only_stopped status a b m (listing.unnamed es image p suits none_wanted report quiet) = none_told.program es image p
    only_stopped status a b m (listing.stopped why quiet) = no_other status status refl a b m (none_told.status status why)

    unread : Gives c source name ends 132 → Writes ends.line (report_text (report.Code n)) ends.line_after × (ends.out_after ≡ ends.out)
    unread (listing.listed es image lines frames p own named silent some report) = absurd (none_told.program es image p)
    unread (listing.unnamed es image p suits none_wanted report quiet) = absurd (none_told.program es image p)
    unread (listing.stopped why quiet) = (none_told.unread why, quiet)

    of_other : WrongOtherListings c source name ends n
    of_other = record {
      done = only_stopped 0 (λ e. omega (arith, e)) (λ e. omega (arith, e)) (λ e. omega (arith, e));
      fault = only_stopped 1 (λ e. omega (arith, e)) (λ e. omega (arith, e)) (λ e. omega (arith, e));
      unknown = only_stopped 135 (λ e. omega (arith, e)) (λ e. omega (arith, e)) (λ e. omega (arith, e));
      unread = unread;
    }

pub no_code_listings : NoCodeListings
no_code_listings = record {
  texts = λ c source name ends ds is. of_text c source name ends ds is;
  others = λ c source name ends n first none. of_other c source name ends n first none;
}
