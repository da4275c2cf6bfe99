-- Promise: what comes of a source that is tried: it is checked, it is run carefully where that finds no fault, and what
-- to do next is told.
use Rattle.std.specs.Prelude.{◌≡◌, ℕ, ◌==◌, ◌||◌, Bool, true, false, List, [], ◌++◌, codes, if◌then◌else◌}
use Rattle.bword.specs.ByteEnds.{Outgoing, Writes, most}
use Rattle.bword.specs.declared.edition.Edition.{Edition}
use Rattle.blang.specs.Reports.{HasNotRun, Reported, RunEnds}
use Rattle.blang.specs.declared.status.TheConstants.{DEVICE, DONE, FAULT, LIMIT, MEMORY, REFUSED, TRAP}
use Rattle.bsources.specs.Files.{Files}
use Rattle.btools.specs.Origins.{Source}
use Rattle.bcareful.specs.Runs.{Runs}
use Rattle.bcareful.specs.declared.care.Care.TheVariants as taken
use Rattle.bcheck.specs.Checks.{Checks}
use Rattle.bcheck.specs.declared.form.FindingForm.TheVariants as forms

-- the words that others take the place of: a page has a limit of steps
abbrev pub replaced : (steps : ℕ) → List ℕ
replaced steps = if steps == most then codes "b try --no-limit" else codes "b try"

-- what to do after a run, by its most steps and its status; nothing where a read or a write failed, or memory ran out
abbrev pub next_after : (steps ran : ℕ) → List ℕ
next_after steps ran =
    if ran == DONE
    then codes "next: no finding; b show in place of " ++ replaced steps ++ codes ", with > run.html, shows each step\n"
    else (if ran == TRAP
    then codes "next: b show --careful in place of " ++ replaced steps
    ++ codes ", with > run.html, shows what led there\n"
    else (if ran == LIMIT then codes "next: b count in place of b try shows which lines take so many steps\n"
    else (if ran == REFUSED then codes "next: write a function main, with which a run begins\n"
    else (if ran == DEVICE || ran == MEMORY then []
    else codes "next: no finding; the status is the one that the program gave to exit\n"))))

-- what to do next, by the status of the check and that of the run
abbrev pub next_text : (steps checked ran : ℕ) → List ℕ
next_text steps checked ran =
    if checked == FAULT || checked == REFUSED then codes "next: do what stands after fix, and try it again\n"
    else next_after steps ran

-- Where the check found no fault, the program was run carefully. Else nothing was read or written, and the status is
-- that of the check.
abbrev pub RunsWhere : (is_done : Bool) → (checked : ℕ) → Edition → Files → (text : List ℕ) → (steps : ℕ) → RunEnds
    → ℕ → Type 0
RunsWhere true checked edition files text steps ends status =
    Runs (record { origin = Source edition; files = files; care = taken.Stays; steps = steps }) text ends status
RunsWhere false checked edition files text steps ends status =
    HasNotRun ends × (ends.line_after ≡ ends.line) × (status ≡ checked)

-- The source was checked, with this status, and after that its output stands here. Then its program was run carefully,
-- with that status, and its line stands there. What to do next was told after it.
pub record Tries (edition : Edition) (files : Files) (text : List ℕ) (steps : ℕ) (ends : RunEnds) (status : ℕ)
    : Type 0 where
  pub checked : ℕ
  pub out : Outgoing
  pub checks : Checks (record {
    edition = edition;
    form = forms.Text;
    files = files;
    source = text;
    out = ends.out;
    out_after = out;
    status = checked;
  })
  pub ran : ℕ
  pub line : Outgoing
  pub runs : RunsWhere (checked == DONE) checked edition files text steps
      (record ends { out = out; line_after = line }) ran
  pub next : Reported (next_text steps checked ran) ran line ends.line_after status

-- The check found no fault, and what it wrote stands first. Then the program was run carefully, with this status, and
-- what to do next was told after that.
pub record IsTriedWhole (edition : Edition) (files : Files) (text : List ℕ) (steps : ℕ) (ends : RunEnds) (status : ℕ)
    : Type 0 where
  pub out : Outgoing
  pub line : Outgoing
  pub checks : Checks (record {
    edition = edition;
    form = forms.Text;
    files = files;
    source = text;
    out = ends.out;
    out_after = out;
    status = DONE;
  })
  pub runs : Runs (record { origin = Source edition; files = files; care = taken.Stays; steps = steps }) text
      (record ends { out = out; line_after = line }) status
  pub next : Writes line (next_text steps DONE status) ends.line_after
