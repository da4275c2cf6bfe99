-- What is done for a job of the tools, and of which program.
use Rattle.std.proofs.Common.{ap, ◌∙◌, subst, ◌≡◌, ℕ, List, [], refl, false, sym, inl, inr}
use Rattle.bword.specs.ByteEnds.{Incoming, Unread, incoming_of}
use Rattle.blang.specs.Reports.{RunEnds}
use Rattle.bword.specs.declared.edition.Edition.{Edition}
use Rattle.brun.specs.OneRun.{unread}
use Rattle.std.specs.Borrow.{Bor}
use Rattle.bcommand.specs.CommandLine.{OriginAsked, Question, SourceAsked, ask, asked, from_code, from_made, from_source, question_of}
use Rattle.bcommand.specs.declared.job.Question.{Question as Questioned}
use Rattle.clap.specs.Words.{Text}
use Rattle.bsources.specs.Files.{Files, Followed, file_shown}
use Rattle.bcore.specs.declared.sources.NamedFault.{NamedFault}
use Rattle.bcore.specs.declared.sources.Whole.{Whole}
use Rattle.bcli.specs.declared.origins.OriginTexts.{OriginTexts}
use Rattle.bcore.specs.Reading.{HasReadSource}
use Rattle.bcore.proofs.Answered.{named_for}
use Rattle.bcli.specs.Reading.{HasReadNames, HasReadOrigin, IsNamed, NamesAreUnread, OriginIsUnread, origin_read}
use Rattle.bcommand.specs.declared.job.Care.{Care}
use Rattle.bshow.specs.Shows.{Asked as PageAsked}
use Rattle.bwatch.specs.declared.trail.TraceRows.{TraceRows as Traced}
use Rattle.std.specs.Prelude.{None, Option, Some, option_map}
use Rattle.btools.specs.Origins.{Code, Origin}
use Rattle.bcore.specs.declared.tools.ToolJob.{ToolJob}
use Rattle.bcore.specs.Tools.{tool_asked}
use Rattle.bcore.specs.Serves.{NamesFile}
use Rattle.bcli.specs.Serves.{Answers, AnswersOf, OnNames, OnOrigin, ShowsBy, ShowsRun, UsesTool, files_read, origin_of}
use Rattle.bcli.specs.Serves.{page_asked}
use Rattle.bcore.specs.declared.shelf.FileFault.TheVariants as file_fault
use Rattle.bcore.specs.Shelves.{Holdings}

pub used : (shelf : Holdings) (job same : ToolJob) (ends : RunEnds) (status : ℕ) → job ≡ same → UsesTool shelf (tool_asked same) ends status → UsesTool shelf (tool_asked job) ends status
used shelf job same ends status is does = subst (λ (j : ToolJob). UsesTool shelf (tool_asked j) ends status) (sym is) does

pub answered : (origin : Origin) (edition : Edition) (files : Files) (text : List ℕ) (question same : Questioned) (ends : RunEnds) (status : ℕ) → question ≡ same → AnswersOf origin edition files text (question_of same) ends status → AnswersOf origin edition files text (question_of question) ends status
answered origin edition files text question same ends status is answers = subst (λ (q : Questioned). AnswersOf origin edition files text (question_of q) ends status) (sym is) answers

-- what is done with the names that were read
on_names : (shelf : Holdings) (named : Option Text) (names : Option (List ℕ)) (does : Option (List ℕ) → RunEnds → ℕ → Type 0)
    (ends : RunEnds) (status : ℕ) → HasReadNames shelf named names → does names ends status
    → OnNames shelf named does ends status
on_names shelf None names does ends status is answers = subst (λ (n : Option (List ℕ)). does n ends status) is answers
on_names shelf (Some named) None does ends status held answers = absurd held
on_names shelf (Some named) (Some names) does ends status held answers = inr (names, held, answers)

-- what is asked is answered of the program that is read from these texts
on_origin : (shelf : Holdings) (edition : Edition) (text : List ℕ) (asked : OriginAsked) (it : OriginTexts)
    (does : Origin → RunEnds → ℕ → Type 0) (ends : RunEnds) (status : ℕ) → HasReadOrigin shelf asked it
    → does (origin_read it edition text) ends status → OnOrigin shelf edition text asked does ends status
on_origin shelf edition text from_source it does ends status is answers =
    subst (λ (o : OriginTexts). does (origin_read o edition text) ends status) is answers
on_origin shelf edition text from_code it does ends status is answers =
    subst (λ (o : OriginTexts). does (origin_read o edition text) ends status) is answers
on_origin shelf edition text (from_made made lined named) it does ends status h answers =
    let made_of = λ (names : Option (List ℕ)). does (Code (record { code = h.0.code.items; lines = Some h.0.lines.items; source = Some text; names = names })) in
    inr (
      h.0.code.items,
      h.1.0,
      inr (
        h.0.lines.items,
        h.1.1,
        on_names shelf named (option_map (λ v. v.items) h.0.names) made_of ends status h.1.2
            (subst (λ (o : OriginTexts). does (origin_read o edition text) ends status) h.2 answers),
      ),
    )

pub answers_from : (shelf : Holdings) (edition : Edition) (files : Files) (text : List ℕ) (question : Question) (asked : OriginAsked)
    (it : OriginTexts) (origin : Origin) (ends : RunEnds) (status : ℕ) → asked ≡ origin_of question
    → HasReadOrigin shelf asked it → origin ≡ origin_read it edition text
    → AnswersOf origin edition files text question ends status → Answers shelf edition files text question ends status
answers_from shelf edition files text question asked it origin ends status asks read is answers =
    subst (λ (a : OriginAsked). OnOrigin shelf edition text a (λ o. AnswersOf o edition files text question) ends status) asks
    (on_origin shelf edition text asked it (λ o. AnswersOf o edition files text question) ends status read
    (subst (λ (o : Origin). AnswersOf o edition files text question ends status) is answers))

-- the file that could not be read is one of these
named_as : (shelf : Holdings) (name : Text) (it : NamedFault) (ends : RunEnds) (status : ℕ) → IsNamed shelf name it
    → NamesFile (it.fault ≡ file_fault.Device) it.name.now ends status → NamesFile (shelf.lacks name) name ends status
named_as shelf name it ends status h told =
    subst (λ (n : Text). NamesFile (shelf.lacks name) n ends status) h.0 (named_for _ _ _ _ _ h.1 told)

names_named : (shelf : Holdings) (named : Option Text) (it : NamedFault) (does : Option (List ℕ) → RunEnds → ℕ → Type 0)
    (ends : RunEnds) (status : ℕ) → NamesAreUnread shelf named it
    → NamesFile (it.fault ≡ file_fault.Device) it.name.now ends status → OnNames shelf named does ends status
names_named shelf None it does ends status h told = absurd h
names_named shelf (Some named) it does ends status h told = inl (named_as shelf named it ends status h told)

origin_named : (shelf : Holdings) (edition : Edition) (text : List ℕ) (asked : OriginAsked) (it : NamedFault)
    (does : Origin → RunEnds → ℕ → Type 0) (ends : RunEnds) (status : ℕ) → OriginIsUnread shelf asked it
    → NamesFile (it.fault ≡ file_fault.Device) it.name.now ends status → OnOrigin shelf edition text asked does ends status
origin_named shelf edition text from_source it does ends status h told = absurd h
origin_named shelf edition text from_code it does ends status h told = absurd h
origin_named shelf edition text (from_made made lined named) it does ends status (inl code) told =
    inl (named_as shelf made it ends status code told)
origin_named shelf edition text (from_made made lined named) it does ends status (inr (code, held, inl lines)) told =
    inr (code, held, inl (named_as shelf lined it ends status lines told))
origin_named shelf edition text (from_made made lined named) it does ends status (inr (code, held, inr (lines, kept, names))) told =
    let made_of = λ (names : Option (List ℕ)). does (Code (record { code = code; lines = Some lines; source = Some text; names = names })) in
    inr (code, held, inr (lines, kept, names_named shelf named it made_of ends status names told))

-- the code text, its lines or its names could not be read
pub answers_named : (shelf : Holdings) (edition : Edition) (files : Files) (text : List ℕ) (question : Question) (asked : OriginAsked)
    (it : NamedFault) (ends : RunEnds) (status : ℕ) → asked ≡ origin_of question → OriginIsUnread shelf asked it
    → NamesFile (it.fault ≡ file_fault.Device) it.name.now ends status → Answers shelf edition files text question ends status
answers_named shelf edition files text question asked it ends status asks unread told =
    subst (λ (a : OriginAsked). OnOrigin shelf edition text a (λ o. AnswersOf o edition files text question) ends status) asks
    (origin_named shelf edition text asked it (λ o. AnswersOf o edition files text question) ends status unread told)

-- an answer of a source that was read
pub asked_of_source : (shelf : Holdings) (source : SourceAsked) (it : Whole) (files : Files) (given : List ℕ) (question : Question) (ends : RunEnds) (status : ℕ)
    → HasReadSource shelf source it → given ≡ it.text.items → files.first ≡ file_shown it.first → files.rest ≡ it.libs.files
    → Answers shelf source.edition files given question ends status → UsesTool shelf (ask source question) ends status
asked_of_source shelf source it files given question ends status h same first rest answers =
    let files_are : files ≡ files_read h.reads = cong₂ (first ∙ h.first) (rest ∙ ap (λ (f : Followed). f.files) h.libs) in
    inr (inr (
      h.reads,
      subst (λ (t : List ℕ). Answers shelf source.edition (files_read h.reads) t question ends status) (same ∙ h.text)
          (subst (λ (f : Files). Answers shelf source.edition f given question ends status) files_are answers),
    ))
  where
    cong₂ : {f g : Files} → f.first ≡ g.first → f.rest ≡ g.rest → f ≡ g
    cong₂ {f} {g} p q = rw (p, q) refl

-- a page of a run that reads the program's input
pub shown_alone : (it : Option Care) (origin : Origin) (files : Files) (text : List ℕ) (steps : ℕ) (rows : Traced) (input : Option (Bor Text)) (asked : PageAsked) (ends : RunEnds) (status : ℕ)
    → input ≡ None → asked ≡ page_asked steps rows files [] → ShowsBy it origin text asked ends status
    → ShowsRun it origin files text steps rows (option_map (λ t. t.now) input) ends status
shown_alone it origin files text steps rows None asked ends status none is shows = subst (λ (q : PageAsked). ShowsBy it origin text q ends status) is shows
shown_alone it origin files text steps rows (Some given) asked ends status none is shows = cc

-- a page of a run whose input is given
pub shown_given : (it : Option Care) (origin : Origin) (files : Files) (text : List ℕ) (steps : ℕ) (rows : Traced) (input : Option (Bor Text)) (given : Bor Text) (asked : PageAsked) (first after : Unread) (told read : List ℕ) (ends : RunEnds) (status : ℕ)
    → input ≡ Some given → told ≡ given.now → read ≡ given.now → asked ≡ page_asked steps rows files told → first ≡ record { left = read; is_over = false }
    → ends.input_after ≡ ends.input → ShowsBy it origin text asked (record ends { input = incoming_of first; input_after = incoming_of after }) status
    → ShowsRun it origin files text steps rows (option_map (λ t. t.now) input) ends status
shown_given it origin files text steps rows None given asked first after told read ends status some t r a f still shows = cc
shown_given it origin files text steps rows (Some other) given asked first after told read ends status some t r a f still shows =
    let same : given ≡ other = cc in
    let bytes : given.now ≡ other.now = ap (λ (b : Bor Text). b.now) same in
    let asked_is : asked ≡ page_asked steps rows files other.now = a ∙ ap (page_asked steps rows files) (t ∙ bytes) in
    let first_is : incoming_of first ≡ unread other.now = ap incoming_of f ∙ ap unread (r ∙ bytes) in (
      still,
      after,
      subst (λ (i : Incoming). ShowsBy it origin text (page_asked steps rows files other.now) (record ends { input = i; input_after = incoming_of after }) status) first_is
          (subst (λ (q : PageAsked). ShowsBy it origin text q (record ends { input = incoming_of first; input_after = incoming_of after }) status) asked_is shows),
    )
