-- Answers that the contracts of `serve` and `refuse_words` exclude, whatever is proved of the body that gives them.
use Rattle.std.proofs.Common.{◌≡◌, ◌∙◌, ◌⊎◌, ℕ, List, [], ◌∷◌, ◌++◌, Option, Some, None, ap, refl, sym, subst, arith, inl, inr, map, append-nil}
use Rattle.std.specs.Prelude.{All, codes}
use Rattle.std.specs.Io.KnownBytes.{Appends}
use Rattle.clap.specs.Words.{IsAmong, Text}
use Rattle.clap.specs.declared.error.kind.ErrorKind.{ErrorKind}
use Rattle.clap.specs.declared.error.kind.ErrorKind.TheVariants as kind
use Rattle.bword.specs.ByteEnds.{Kept, Outgoing, Unread, Writes, incoming_of, outgoing_of}
use Rattle.bword.specs.declared.edition.Edition.{Edition}
use Rattle.bword.specs.declared.edition.Edition.TheVariants as editions
use Rattle.bword.specs.declared.ends.EndFault.{EndFault}
use Rattle.bword.specs.declared.ends.EndFault.TheVariants as end_fault
use Rattle.blang.specs.Compiles.{status_of}
use Rattle.blang.specs.Headline.{GoesOff, Headline}
use Rattle.blang.specs.Reports.{HasNotRun, Reported, RunEnds}
use Rattle.brun.specs.OneRun.{nothing_written, one_run_ends, unread}
use Rattle.brun.specs.Runs.{RunsText}
use Rattle.brun.proofs.OneRun.{one_run}
use Rattle.bcommand.specs.CommandLine.{OriginAsked, Question, ask, asked_in, compile, fault_in, from_code, from_made, go, locate_code, run}
use Rattle.bwhere.specs.Wheres.{LocatesCode}
use Rattle.bcore.specs.declared.shelf.MemFile.{MemFile}
use Rattle.bcore.specs.Shelves.{Holdings, holding}
use Rattle.std.proofs.lemmas.List.Elements.{All-cons, All-head, All-nil, All-tail}
use Rattle.blang.specs.Compiles.{CompileAnswers, Compilation, CompilesTo, HasOutcome, Tells}
use Rattle.blang.specs.Cut.{tokens_from}
use Rattle.bsources.specs.Files.{Files, NamedText, file_in, file_of, following}
use Rattle.bcli.proofs.FaultLies.{fault_meant, fault_told}
use Rattle.bcli.proofs.Joined.{failed_joined, joined_answers}
use Rattle.bcli.proofs.TriedSources.{tried_unread, tried_whole}
use Rattle.btools.specs.Origins.{Code, Origin}
use Rattle.bcore.specs.Serves.{CompilesJoined, HasNoFile, IsHelp, NamesFile, NamesLib, Reads, ReadsLibs, RefusesWords}
use Rattle.bcore.specs.Serves.{SaysNothing, compiling, did, no_memory, refused, whole}
use Rattle.bcli.specs.Serves.{Answers, AnswersOf, Does, OnNames, OnOrigin, Serves, files_read, origin_of}
use Rattle.bcli.specs.ShellExcluded.{AreWrong, Excluded, FileIsRead, HoldsOne, NothingFails, alone, files_alone, in_file, with_lib}

fault_is_told : (f : EndFault) → 0 ≡ status_of f → ⊥
fault_is_told end_fault.Device e = omega (arith, e)
fault_is_told end_fault.Memory e = omega (arith, e)

pub fault_is_no_complaint : (f : EndFault) → 135 ≡ status_of f → ⊥
fault_is_no_complaint end_fault.Device e = omega (arith, e)
fault_is_no_complaint end_fault.Memory e = omega (arith, e)

not_done : (text : List ℕ) (status : ℕ) (old new : Outgoing) → (0 ≡ status → ⊥) → Reported text status old new 0 → ⊥
not_done text status old new other (inl written) = other written.1
not_done text status old new other (inr stopped) = fault_is_told stopped.fault stopped.status

no_complaint : (text : List ℕ) (old new : Outgoing) → Reported text 0 old new 135 → ⊥
no_complaint text old new (inl written) = omega (arith, written.1)
no_complaint text old new (inr stopped) = fault_is_no_complaint stopped.fault stopped.status

silent_done : (ends : RunEnds) → SaysNothing ends 0 134 → ⊥
silent_done ends silent = omega (arith, silent.status_is)

silent_complaint : (ends : RunEnds) → SaysNothing ends 135 134 → ⊥
silent_complaint ends silent = omega (arith, silent.status_is)

refused_done : (k : ErrorKind) (ends : RunEnds) → (IsHelp k → ⊥) → RefusesWords k ends 0 → ⊥
refused_done k ends other (inl helps) = other helps.help
refused_done k ends other (inr (inl complains)) = not_done complains.text 135 ends.line ends.line_after (λ e. omega (arith, e)) complains.told
refused_done k ends other (inr (inr silent)) = silent_done ends silent

refused_still : (k : ErrorKind) (ends : RunEnds) (status : ℕ) → (IsHelp k → ⊥) → RefusesWords k ends status → HasNotRun ends
refused_still k ends status other (inl helps) = absurd (other helps.help)
refused_still k ends status other (inr (inl complains)) = complains.unread
refused_still k ends status other (inr (inr silent)) = silent.unread

helped : (k : ErrorKind) (ends : RunEnds) → IsHelp k → RefusesWords k ends 135 → ⊥
helped k ends help (inl helps) = no_complaint helps.text ends.out ends.out_after helps.told
helped k ends help (inr (inl complains)) = complains.no_help help
helped k ends help (inr (inr silent)) = silent_complaint ends silent

helped_aside : (k : ErrorKind) (ends : RunEnds) (status : ℕ) → IsHelp k → RefusesWords k ends status
    → (ends.input_after ≡ ends.input) × (ends.line_after ≡ ends.line)
helped_aside k ends status help (inl helps) = (helps.unread, helps.no_line)
helped_aside k ends status help (inr (inl complains)) = absurd (complains.no_help help)
helped_aside k ends status help (inr (inr silent)) = (silent.unread.unread, silent.no_line)

asks_help : (k : ErrorKind) (words : List Text) → fault_in words ≡ kind.DisplayHelp ∷ []
    → IsAmong k (fault_in words) → IsHelp k
asks_help k words is among = only (subst (IsAmong k) is among)
  where
    only : IsAmong k (kind.DisplayHelp ∷ []) → IsHelp k
    only (inl same) = inl same
    only (inr other) = absurd other

no_fault : (words : List Text) → fault_in words ≡ kind.DisplayHelp ∷ [] → fault_in words ≡ [] → ⊥
no_fault words is none = nothing (sym none ∙ is)
  where
    nothing : [] ≡ kind.DisplayHelp ∷ [] → ⊥
    nothing e = cc

-- a text that leaves an end with nothing has no byte
nothing_of : (o p : Outgoing) (text : List ℕ) → o ≡ outgoing_of nothing_written → p ≡ o → Writes o text p → text ≡ []
nothing_of o p text first same w =
    let known : o.written ≡ Some [] = ap (λ (q : Outgoing). q.written) first in
    sym (subst (λ x. Appends x x text) known (subst (λ (q : Outgoing). Appends o.written q.written text) same w.appended))

no_silent_help : (k : ErrorKind) (ends : RunEnds) → IsHelp k → ends.out ≡ outgoing_of nothing_written → ends.out_after ≡ ends.out → RefusesWords k ends 0 → ⊥
no_silent_help k ends help first same (inl helps) = by_report helps.told
  where
    by_report : Reported helps.text 0 ends.out ends.out_after 0 → ⊥
    by_report (inl written) = helps.some_text (nothing_of ends.out ends.out_after helps.text first same written.0)
    by_report (inr stopped) = fault_is_told stopped.fault stopped.status
no_silent_help k ends help first same (inr (inl complains)) = complains.no_help help
no_silent_help k ends help first same (inr (inr silent)) = silent_done ends silent

no_silent_complaint : (k : ErrorKind) (ends : RunEnds) → (IsHelp k → ⊥) → ends.line ≡ outgoing_of nothing_written → ends.line_after ≡ ends.line → RefusesWords k ends 135 → ⊥
no_silent_complaint k ends other first same (inl helps) = other helps.help
no_silent_complaint k ends other first same (inr (inl complains)) = by_report complains.told
  where
    by_report : Reported complains.text 135 ends.line ends.line_after 135 → ⊥
    by_report (inl written) = complains.some_text (nothing_of ends.line ends.line_after complains.text first same written.0)
    by_report (inr stopped) = fault_is_no_complaint stopped.fault stopped.status
no_silent_complaint k ends other first same (inr (inr silent)) = silent_complaint ends silent

named_done : {reason : Type 0} (file : List ℕ) (ends : RunEnds) → NamesFile reason file ends 0 → ⊥
named_done file ends (inl named) = not_done _ 133 ends.line ends.line_after (λ e. omega (arith, e)) named.2
named_done file ends (inr silent) = silent_done ends silent

named_run : {reason : Type 0} (file : List ℕ) (ends : RunEnds) (status : ℕ) → NamesFile reason file ends status → HasNotRun ends
named_run file ends status (inl named) = named.1
named_run file ends status (inr silent) = silent.unread

no_file_done : (ends : RunEnds) → HasNoFile (Unit {0}) ends 0 → ⊥
no_file_done ends (inl device) = omega (arith, device.1.status_is)
no_file_done ends (inr memory) = silent_done ends memory

-- what is asked of a source of these files is answered of the program of this origin
abbrev answered_of : Edition → Files → (text : List ℕ) → Question → Origin → RunEnds → ℕ → Type 0
answered_of edition files text question origin = AnswersOf origin edition files text question

module _ (shelf : Holdings) where
  asked_alone : (words : List Text) (ends : RunEnds) (status : ℕ) → fault_in words ≡ [] → Serves shelf words ends status
      → Does shelf (asked_in words) ends status ⊎ SaysNothing ends status 134
  asked_alone words ends status none (did clean does) = inl does
  asked_alone words ends status none (refused k among answers) = absurd (subst (IsAmong k) none among)
  asked_alone words ends status none (no_memory silent) = inr silent

  wrong_done : (words : List Text) (ends : RunEnds) → AreWrong words → Serves shelf words ends 0 → ⊥
  wrong_done words ends wrong (did clean does) = wrong.fault clean
  wrong_done words ends wrong (refused k among answers) = refused_done k ends (wrong.no_help k among) answers
  wrong_done words ends wrong (no_memory silent) = silent_done ends silent

  wrong_run : (words : List Text) (ends : RunEnds) (status : ℕ) → AreWrong words → Serves shelf words ends status → HasNotRun ends
  wrong_run words ends status wrong (did clean does) = absurd (wrong.fault clean)
  wrong_run words ends status wrong (refused k among answers) = refused_still k ends status (wrong.no_help k among) answers
  wrong_run words ends status wrong (no_memory silent) = silent.unread

  help_refused : (words : List Text) (ends : RunEnds) → fault_in words ≡ kind.DisplayHelp ∷ [] → Serves shelf words ends 135 → ⊥
  help_refused words ends is (did clean does) = no_fault words is clean
  help_refused words ends is (refused k among answers) = helped k ends (asks_help k words is among) answers
  help_refused words ends is (no_memory silent) = silent_complaint ends silent

  help_beside : (words : List Text) (ends : RunEnds) (status : ℕ) → fault_in words ≡ kind.DisplayHelp ∷ [] → Serves shelf words ends status
      → (ends.input_after ≡ ends.input) × (ends.line_after ≡ ends.line)
  help_beside words ends status is (did clean does) = absurd (no_fault words is clean)
  help_beside words ends status is (refused k among answers) = helped_aside k ends status (asks_help k words is among) answers
  help_beside words ends status is (no_memory silent) = (silent.unread.unread, silent.no_line)

  help_silent : (words : List Text) (ends : RunEnds) → fault_in words ≡ kind.DisplayHelp ∷ [] → ends.out ≡ outgoing_of nothing_written → ends.out_after ≡ ends.out → Serves shelf words ends 0 → ⊥
  help_silent words ends is first same (did clean does) = no_fault words is clean
  help_silent words ends is first same (refused k among answers) = no_silent_help k ends (asks_help k words is among) first same answers
  help_silent words ends is first same (no_memory silent) = silent_done ends silent

  complaint_silent : (words : List Text) (ends : RunEnds) → AreWrong words → ends.line ≡ outgoing_of nothing_written → ends.line_after ≡ ends.line → Serves shelf words ends 135 → ⊥
  complaint_silent words ends wrong first same (did clean does) = wrong.fault clean
  complaint_silent words ends wrong first same (refused k among answers) = no_silent_complaint k ends (wrong.no_help k among) first same answers
  complaint_silent words ends wrong first same (no_memory silent) = silent_complaint ends silent

  lib_done : (libs : List Text) (ends : RunEnds) → NamesLib shelf libs ends 0 → ⊥
  lib_done libs ends told = named_done told.lib ends told.named

  lib_run : (libs : List Text) (ends : RunEnds) (status : ℕ) → NamesLib shelf libs ends status → HasNotRun ends
  lib_run libs ends status told = named_run told.lib ends status told.named

  -- the bytes of one file that follows
  one_follows : (lib b : List ℕ) → ((t : List ℕ) → shelf.holds lib t → t ≡ b) → (texts : List NamedText) → map (λ (it : NamedText). it.name) texts ≡ lib ∷ []
      → All (λ it. shelf.holds it.name it.text) texts → following (map (λ (it : NamedText). it.text) texts) ≡ 10 ∷ b
  one_follows lib b only [] e h = cc
  one_follows lib b only (it ∷ []) e h =
      let named : it.name ≡ lib = cc in
      let text : it.text ≡ b = only it.text (subst (λ (n : List ℕ). shelf.holds n it.text) named (h 0 it (omega arith))) in
      ap (λ t. 10 ∷ t) (append-nil it.text ∙ text)
  one_follows lib b only (it ∷ next ∷ texts) e h = cc

  one_file : (lib b : List ℕ) → ((t : List ℕ) → shelf.holds lib t → t ≡ b) → (texts : List NamedText) → map (λ (it : NamedText). it.name) texts ≡ lib ∷ []
      → All (λ it. shelf.holds it.name it.text) texts → map file_in texts ≡ file_of lib b ∷ []
  one_file lib b only [] e h = cc
  one_file lib b only (it ∷ []) e h =
      let named : it.name ≡ lib = cc in
      let text : it.text ≡ b = only it.text (subst (λ (n : List ℕ). shelf.holds n it.text) named (h 0 it (omega arith))) in
      rw (named, text) refl
  one_file lib b only (it ∷ next ∷ texts) e h = cc

  -- a file that follows is among those that do
  of_one : (P : Text → Type 0) (names before after : List Text) (lib : Text) → names ≡ before ++ lib ∷ after → All P names → P lib
  of_one P names [] after lib e h = All-head P lib after (subst (All P) e h)
  of_one P names (x ∷ xs) after lib e h = of_one P (xs ++ lib ∷ after) xs after lib refl (All-tail P x (xs ++ lib ∷ after) (subst (All P) e h))

  lib_silent : (libs : List Text) (ends : RunEnds) (status : ℕ) → All (λ lib. shelf.lacks lib → ⊥) libs → NamesLib shelf libs ends status → SaysNothing ends status 134
  lib_silent libs ends status there told = by told.named
    where
      by : NamesFile (shelf.lacks told.lib) told.lib ends status → SaysNothing ends status 134
      by (inl named) = absurd (of_one (λ lib. shelf.lacks lib → ⊥) libs told.before told.after told.lib told.in_turn there named.0)
      by (inr silent) = silent

  lib_missing : (libs : List Text) (ends : RunEnds) → All (λ lib. shelf.lacks lib → ⊥) libs → NamesLib shelf libs ends 133 → ⊥
  lib_missing libs ends there told = omega (arith, (lib_silent libs ends 133 there told).status_is)

  no_text : (lib : Text) → ((t : List ℕ) → shelf.holds lib t → ⊥) → (names : List Text) (texts : List NamedText) → map (λ (it : NamedText). it.name) texts ≡ lib ∷ names
      → All (λ it. shelf.holds it.name it.text) texts → ⊥
  no_text lib none names [] e h = cc
  no_text lib none names (it ∷ texts) e h =
      let named : it.name ≡ lib = cc in
      none it.text (subst (λ (n : List ℕ). shelf.holds n it.text) named (h 0 it (omega arith)))

  lib_later : (lib : Text) (libs : List Text) (ends : RunEnds) (status : ℕ) → ((t : List ℕ) → shelf.holds lib t → ⊥) → NamesLib shelf (lib ∷ libs) ends status
      → NamesFile (shelf.lacks lib) lib ends status
  lib_later lib libs ends status none told = by told.before told.reads told.in_turn
    where
      by : (before : List Text) → ReadsLibs shelf before → lib ∷ libs ≡ before ++ told.lib ∷ told.after → NamesFile (shelf.lacks lib) lib ends status
      by [] reads e = let same : told.lib ≡ lib = cc in subst (λ (l : Text). NamesFile (shelf.lacks l) l ends status) same told.named
      by (x ∷ xs) reads e =
          let same : x ≡ lib = cc in
          absurd (no_text lib none xs reads.texts (reads.names_are ∙ ap (λ (y : Text). y ∷ xs) same) reads.held)

  -- the files of a source of two, and their bytes
  two_are : (file lib a b : List ℕ) (edition : Edition) → HoldsOne shelf file a → HoldsOne shelf lib b → (r : Reads shelf (with_lib file lib edition)) → whole r ≡ a ++ 10 ∷ b
  two_are file lib a b edition first second r =
      rw (first.alone r.text r.held, one_follows lib b second.alone r.libs.texts r.libs.names_are r.libs.held) refl

  only_there : (lib : Text) → (shelf.lacks lib → ⊥) → All (λ l. shelf.lacks l → ⊥) (lib ∷ [])
  only_there lib there = All-cons (λ l. shelf.lacks l → ⊥) lib [] there (All-nil _)

  joined_alone : (file lib a b : List ℕ) (edition : Edition) (steps : ℕ) (ends : RunEnds) (status : ℕ) → HoldsOne shelf file a → HoldsOne shelf lib b
      → Does shelf (go (with_lib file lib edition) steps) ends status
      → ((following : Unread) × GoesOff edition steps (unread (a ++ 10 ∷ b)) (incoming_of following) ends status) ⊎ SaysNothing ends status 134
  joined_alone file lib a b edition steps ends status first second (inl (inl device)) = absurd (first.there device.0)
  joined_alone file lib a b edition steps ends status first second (inl (inr memory)) = inr memory
  joined_alone file lib a b edition steps ends status first second (inr (inl told)) = inr (lib_silent (lib ∷ []) ends status (only_there lib second.there) told.2)
  joined_alone file lib a b edition steps ends status first second (inr (inr goes)) =
      inl (goes.1, subst (λ t. GoesOff edition steps (unread t) (incoming_of goes.1) ends status) (two_are file lib a b edition first second goes.0) goes.2)

  -- the files that were read of a source of two
  files_of_two : (file lib a b : List ℕ) (edition : Edition) → HoldsOne shelf file a → HoldsOne shelf lib b → (r : Reads shelf (with_lib file lib edition))
      → files_read r ≡ record { first = file_of file a; rest = file_of lib b ∷ [] }
  files_of_two file lib a b edition first second r =
      rw (first.alone r.text r.held, one_file lib b second.alone r.libs.texts r.libs.names_are r.libs.held) refl

  asked_joined : (file lib a b : List ℕ) (edition : Edition) (question : Question) (ends : RunEnds) (status : ℕ) → HoldsOne shelf file a → HoldsOne shelf lib b
      → Does shelf (ask (with_lib file lib edition) question) ends status
      → Answers shelf edition (record { first = file_of file a; rest = file_of lib b ∷ [] }) (a ++ 10 ∷ b) question ends status ⊎ SaysNothing ends status 134
  asked_joined file lib a b edition question ends status first second (inl (inl told)) = absurd (first.there told.0)
  asked_joined file lib a b edition question ends status first second (inl (inr memory)) = inr memory
  asked_joined file lib a b edition question ends status first second (inr (inl told)) = inr (lib_silent (lib ∷ []) ends status (only_there lib second.there) told.2)
  asked_joined file lib a b edition question ends status first second (inr (inr answers)) =
      inl (subst (λ (f : Files). Answers shelf edition f (a ++ 10 ∷ b) question ends status) (files_of_two file lib a b edition first second answers.0)
      (subst (λ t. Answers shelf edition (files_read answers.0) t question ends status) (two_are file lib a b edition first second answers.0) answers.1))

  -- no file follows
  none_follow : (texts : List NamedText) → map (λ (it : NamedText). it.name) texts ≡ [] → texts ≡ []
  none_follow [] e = refl
  none_follow (it ∷ texts) e = cc

  no_lib : (names : List Text) (ends : RunEnds) (status : ℕ) → names ≡ [] → NamesLib shelf names ends status → ⊥
  no_lib names ends status e told = nothing told.before (sym e ∙ told.in_turn)
    where
      nothing : (before : List Text) → [] ≡ before ++ told.lib ∷ told.after → ⊥
      nothing [] h = cc
      nothing (x ∷ xs) h = cc

  -- a source of one file
  one_is : (file a : List ℕ) (edition : Edition) → ((t : List ℕ) → shelf.holds file t → t ≡ a) → (r : Reads shelf (in_file file edition)) → whole r ≡ a
  one_is file a edition only r = rw (none_follow r.libs.texts r.libs.names_are, append-nil r.text) (only r.text r.held)

  files_of_one : (file a : List ℕ) (edition : Edition) → ((t : List ℕ) → shelf.holds file t → t ≡ a) → (r : Reads shelf (in_file file edition))
      → files_read r ≡ record { first = file_of file a; rest = [] }
  files_of_one file a edition only r = rw (none_follow r.libs.texts r.libs.names_are, only r.text r.held) refl

  asked_of_one : (file a : List ℕ) (edition : Edition) (question : Question) (ends : RunEnds) (status : ℕ) → HoldsOne shelf file a
      → Does shelf (ask (in_file file edition) question) ends status
      → Answers shelf edition (record { first = file_of file a; rest = [] }) a question ends status ⊎ SaysNothing ends status 134
  asked_of_one file a edition question ends status first (inl (inl told)) = absurd (first.there told.0)
  asked_of_one file a edition question ends status first (inl (inr memory)) = inr memory
  asked_of_one file a edition question ends status first (inr (inl told)) = absurd (no_lib [] ends status refl told.2)
  asked_of_one file a edition question ends status first (inr (inr answers)) =
      inl (subst (λ (f : Files). Answers shelf edition f a question ends status) (files_of_one file a edition first.alone answers.0)
      (subst (λ t. Answers shelf edition (files_read answers.0) t question ends status) (one_is file a edition first.alone answers.0) answers.1))

  -- the code text and the lines that were read are these
  of_these : (made code lined lines text : List ℕ) (named : Option (List ℕ)) (edition : Edition) (does : Origin → RunEnds → ℕ → Type 0) (ends : RunEnds) (status : ℕ) → HoldsOne shelf made code → HoldsOne shelf lined lines
      → OnOrigin shelf edition text (from_made made lined named) does ends status → OnNames shelf named (λ names. does (Code (record { code = code; lines = Some lines; source = Some text; names = names }))) ends status ⊎ SaysNothing ends status 134
  of_these made code lined lines text named edition does ends status first second (inl (inl told)) = absurd (first.there told.0)
  of_these made code lined lines text named edition does ends status first second (inl (inr memory)) = inr memory
  of_these made code lined lines text named edition does ends status first second (inr (read, held, inl (inl told))) = absurd (second.there told.0)
  of_these made code lined lines text named edition does ends status first second (inr (read, held, inl (inr memory))) = inr memory
  of_these made code lined lines text named edition does ends status first second (inr (read, held, inr (counted, kept, answers))) =
      inl (subst (λ c. OnNames shelf named (λ names. does (Code (record { code = c; lines = Some lines; source = Some text; names = names }))) ends status) (first.alone read held)
      (subst (λ l. OnNames shelf named (λ names. does (Code (record { code = read; lines = Some l; source = Some text; names = names }))) ends status) (second.alone counted kept) answers))

  -- so are the names
  of_those : (named names : List ℕ) (does : Option (List ℕ) → RunEnds → ℕ → Type 0) (ends : RunEnds) (status : ℕ) → HoldsOne shelf named names → OnNames shelf (Some named) does ends status ⊎ SaysNothing ends status 134
      → does (Some names) ends status ⊎ SaysNothing ends status 134
  of_those named names does ends status held (inl (inl (inl told))) = absurd (held.there told.0)
  of_those named names does ends status held (inl (inl (inr memory))) = inr memory
  of_those named names does ends status held (inl (inr (read, kept, answers))) = inl (subst (λ n. does (Some n) ends status) (held.alone read kept) answers)
  of_those named names does ends status held (inr silent) = inr silent

  asked_of_made : (file a made code lined lines : List ℕ) (named : Option (List ℕ)) (edition : Edition) (question : Question) (ends : RunEnds) (status : ℕ) → HoldsOne shelf file a → HoldsOne shelf made code → HoldsOne shelf lined lines
      → origin_of question ≡ from_made made lined named → Does shelf (ask (in_file file edition) question) ends status
      → OnNames shelf named (λ names. answered_of edition (record { first = file_of file a; rest = [] }) a question (Code (record { code = code; lines = Some lines; source = Some a; names = names }))) ends status ⊎ SaysNothing ends status 134
  asked_of_made file a made code lined lines named edition question ends status first second third is does = by (asked_of_one file a edition question ends status first does)
    where
      by : Answers shelf edition (record { first = file_of file a; rest = [] }) a question ends status ⊎ SaysNothing ends status 134
          → OnNames shelf named (λ names. answered_of edition (record { first = file_of file a; rest = [] }) a question (Code (record { code = code; lines = Some lines; source = Some a; names = names }))) ends status ⊎ SaysNothing ends status 134
      by (inl answers) = of_these made code lined lines a named edition (answered_of edition (record { first = file_of file a; rest = [] }) a question) ends status second third
          (subst (λ (o : OriginAsked). OnOrigin shelf edition a o (answered_of edition (record { first = file_of file a; rest = [] }) a question) ends status) is answers)
      by (inr silent) = inr silent

  made_alone : (file a made code lined lines : List ℕ) (edition : Edition) (question : Question) (ends : RunEnds) (status : ℕ) → HoldsOne shelf file a → HoldsOne shelf made code → HoldsOne shelf lined lines
      → origin_of question ≡ from_made made lined None → Does shelf (ask (in_file file edition) question) ends status
      → AnswersOf (Code (record { code = code; lines = Some lines; source = Some a; names = None })) edition (record { first = file_of file a; rest = [] }) a question ends status ⊎ SaysNothing ends status 134
  made_alone file a made code lined lines edition question ends status first second third is does =
      asked_of_made file a made code lined lines None edition question ends status first second third is does

  names_alone : (file a made code lined lines named names : List ℕ) (edition : Edition) (question : Question) (ends : RunEnds) (status : ℕ) → HoldsOne shelf file a → HoldsOne shelf made code → HoldsOne shelf lined lines
      → HoldsOne shelf named names → origin_of question ≡ from_made made lined (Some named) → Does shelf (ask (in_file file edition) question) ends status
      → AnswersOf (Code (record { code = code; lines = Some lines; source = Some a; names = Some names })) edition (record { first = file_of file a; rest = [] }) a question ends status ⊎ SaysNothing ends status 134
  names_alone file a made code lined lines named names edition question ends status first second third fourth is does =
      of_those named names (λ ns. answered_of edition (record { first = file_of file a; rest = [] }) a question (Code (record { code = code; lines = Some lines; source = Some a; names = ns }))) ends status fourth
      (asked_of_made file a made code lined lines (Some named) edition question ends status first second third is does)

  named_first : (made lined text : List ℕ) (named : Option (List ℕ)) (edition : Edition) (does : Origin → RunEnds → ℕ → Type 0) (ends : RunEnds) (status : ℕ) → ((code : List ℕ) → shelf.holds made code → ⊥)
      → OnOrigin shelf edition text (from_made made lined named) does ends status → NamesFile (shelf.lacks made) made ends status
  named_first made lined text named edition does ends status none (inl told) = told
  named_first made lined text named edition does ends status none (inr read) = absurd (none read.0 read.1)

  lines_later : (made lined text : List ℕ) (named : Option (List ℕ)) (edition : Edition) (files : Files) (question : Question) (ends : RunEnds) (status : ℕ) → ((code : List ℕ) → shelf.holds made code → ⊥) → origin_of question ≡ from_made made lined named
      → Answers shelf edition files text question ends status → NamesFile (shelf.lacks made) made ends status
  lines_later made lined text named edition files question ends status none is answers =
      named_first made lined text named edition (answered_of edition files text question) ends status none
      (subst (λ (o : OriginAsked). OnOrigin shelf edition text o (answered_of edition files text question) ends status) is answers)

  compiled_joined : (lib b input : List ℕ) (edition : Edition) (ends : RunEnds) (status : ℕ) → HoldsOne shelf lib b → Tells ends.input input → NothingFails edition (10 ∷ b) ends status
      → Does shelf (compile edition (lib ∷ [])) ends status
      → HasOutcome edition (input ++ 10 ∷ b)
      × ((r : Compilation) → CompilesTo [] (tokens_from edition 1 (input ++ 10 ∷ b)) r → CompileAnswers (compiling edition ends.input ends.input_after ends status) r)
  compiled_joined lib b input edition ends status held told fine (inl named) =
      absurd (fine.undisturbed.not_refused (lib_silent (lib ∷ []) ends status (only_there lib held.there) named).status_is)
  compiled_joined lib b input edition ends status held told fine (inr compiles) =
      let r = compiles.0 in
      let same = one_follows lib b held.alone r.texts r.names_are r.held in
      joined_answers edition (10 ∷ b) ends status (subst (λ (t : List ℕ). CompilesJoined edition t ends status) same compiles.1) input told fine

  pub excluded : Excluded shelf
  excluded = record {
    asked_alone = asked_alone;
    wrong_done = wrong_done;
    wrong_run = wrong_run;
    help_refused = help_refused;
    help_beside = help_beside;
    help_silent = help_silent;
    complaint_silent = complaint_silent;
    unread_done = λ file ends told. named_done file ends told;
    unread_run = λ file ends status told. named_run file ends status told;
    no_file_done = no_file_done;
    lib_done = lib_done;
    lib_run = lib_run;
    lib_missing = lib_missing;
    lib_later = lib_later;
    file_later = λ source ends status none told. none told.0 told.1;
    joined_alone = joined_alone;
    asked_joined = asked_joined;
    made_alone = made_alone;
    names_alone = names_alone;
    lines_later = lines_later;
    fault_told = fault_told shelf;
    fault_meant = fault_meant shelf;
    tried_unread = tried_unread;
    tried_whole = tried_whole;
    compiled_joined = compiled_joined;
    failed_joined = λ edition rest ends it counted none. failed_joined edition rest ends 133 it counted none refl;
    both_done = λ clash ends does. not_done _ 135 ends.line ends.line_after (λ e. omega (arith, e)) does.1;
    both_run = λ clash ends status does. does.0;
    unread_words_done = λ old new told. not_done _ 135 old new (λ e. omega (arith, e)) told;
  }

module _ (file : MemFile) where
  no_file : (ends : RunEnds) (status : ℕ) → HasNoFile (Holdings.lacks (holding file) file.name.now) ends status → SaysNothing ends status 134
  no_file ends status (inl device) = absurd (device.0 refl)
  no_file ends status (inr memory) = memory

  named : (ends : RunEnds) (status : ℕ) → NamesFile (Holdings.lacks (holding file) file.name.now) file.name.now ends status → SaysNothing ends status 134
  named ends status (inl told) = absurd (told.0 refl)
  named ends status (inr memory) = memory

  not_device : (ends : RunEnds) → SaysNothing ends 133 134 → ⊥
  not_device ends silent = omega (arith, silent.status_is)

  lib_named : (ends : RunEnds) → NamesLib (holding file) (file.name.now ∷ []) ends 133 → ⊥
  lib_named ends told = lib_missing (holding file) (file.name.now ∷ []) ends (only_there (holding file) file.name.now (λ missing. missing refl)) told

  run_alone : (steps : ℕ) (ends : RunEnds) (status : ℕ) → Does (holding file) (run file.name.now steps) ends status → RunsText steps file.text.now ends status ⊎ SaysNothing ends status 134
  run_alone steps ends status (inl none) = inr (no_file ends status none)
  run_alone steps ends status (inr runs) = inl (subst (λ t. RunsText steps t ends status) runs.1.1 runs.2)

  located_alone : (steps : ℕ) (ends : RunEnds) (status : ℕ) → Does (holding file) (locate_code file.name.now steps) ends status → LocatesCode steps file.text.now ends status ⊎ SaysNothing ends status 134
  located_alone steps ends status (inl told) = inr (named ends status told)
  located_alone steps ends status (inr locates) = inl (subst (λ t. LocatesCode steps t ends status) locates.1.1 locates.2)

  holds_one : HoldsOne (holding file) file.name.now file.text.now
  holds_one = record { alone = λ other held. held.1; there = λ missing. missing refl }

  whole_alone : (edition : Edition) (r : Reads (holding file) (alone file edition)) → whole r ≡ file.text.now
  whole_alone edition r = one_is (holding file) file.name.now file.text.now edition holds_one.alone r

  go_alone : (edition : Edition) (steps : ℕ) (ends : RunEnds) (status : ℕ) → Does (holding file) (go (alone file edition) steps) ends status → ((following : Unread) × GoesOff edition steps (unread file.text.now) (incoming_of following) ends status) ⊎ SaysNothing ends status 134
  go_alone edition steps ends status (inl none) = inr (no_file ends status none)
  go_alone edition steps ends status (inr (inl told)) = absurd (no_lib (holding file) [] ends status refl told.2)
  go_alone edition steps ends status (inr (inr goes)) =
      inl (goes.1, subst (λ t. GoesOff edition steps (unread t) (incoming_of goes.1) ends status) (whole_alone edition goes.0) goes.2)

  ask_alone : (edition : Edition) (question : Question) (ends : RunEnds) (status : ℕ) → Does (holding file) (ask (alone file edition) question) ends status
      → Answers (holding file) edition (files_alone file) file.text.now question ends status ⊎ SaysNothing ends status 134
  ask_alone edition question ends status does = asked_of_one (holding file) file.name.now file.text.now edition question ends status holds_one does

  code_alone : (edition : Edition) (question : Question) (ends : RunEnds) (status : ℕ) → origin_of question ≡ from_code → Does (holding file) (ask (alone file edition) question) ends status
      → AnswersOf (Code (record { code = file.text.now; lines = None; source = None; names = None })) edition (files_alone file) file.text.now question ends status ⊎ SaysNothing ends status 134
  code_alone edition question ends status is does = by (ask_alone edition question ends status does)
    where
      by : Answers (holding file) edition (files_alone file) file.text.now question ends status ⊎ SaysNothing ends status 134
          → answered_of edition (files_alone file) file.text.now question (Code (record { code = file.text.now; lines = None; source = None; names = None })) ends status ⊎ SaysNothing ends status 134
      by (inl answers) = inl (subst (λ (o : OriginAsked). OnOrigin (holding file) edition file.text.now o (answered_of edition (files_alone file) file.text.now question) ends status) is answers)
      by (inr silent) = inr silent

  one_go : (input : Unread) (out line : Kept) (status : ℕ) → file.text.now ≡ codes "main(){putchar('a');}" → Does (holding file) (go (alone file editions.One) 100) (one_run_ends input out line) status → (status ≡ 134) ⊎ ((status ≡ 0) × (out.bytes ≡ codes "a") × (line.bytes ≡ []))
  one_go input out line status one (inl none) = inl (no_file _ status none).status_is
  one_go input out line status one (inr (inl told)) = absurd (no_lib (holding file) [] _ status refl told.2)
  one_go input out line status one (inr (inr goes)) =
      one_run goes.1 input out line status
      (subst (λ t. Headline editions.One 100 (unread t) (incoming_of goes.1) (one_run_ends input out line) status) (whole_alone editions.One goes.0 ∙ one) goes.3)

  pub file_is_read : FileIsRead file
  file_is_read = record {
    no_file = λ ends none. not_device ends (no_file ends 133 none);
    named = λ ends told. not_device ends (named ends 133 told);
    lib_named = lib_named;
    run_alone = run_alone;
    located_alone = located_alone;
    go_alone = go_alone;
    ask_alone = ask_alone;
    code_alone = code_alone;
    one_go = one_go;
  }
