-- Answers that the contract of `serve_process` excludes, whatever is proved of the body that gives them.
use Rattle.std.proofs.Common.{◌≡◌, ◌⊎◌, ℕ, Bool, true, false, IsTrue, ◌+◌, List, [], ◌++◌, length, Option, Some, None, ap, sym, subst, arith, inl, inr, length-append, ◌∙◌}
use Rattle.std.proofs.lemmas.List.{nil_from_length}
use Rattle.std.specs.Io.KnownBytes.{Appends}
use Rattle.clap.specs.Words.{Text}
use Rattle.bword.specs.ByteEnds.{Outgoing}
use Rattle.blang.specs.Reports.{Reported, RunEnds}
use Rattle.bcli.specs.ShellExcluded.{AreWrong, Excluded, ProcessExcluded, silent_lines}
use Rattle.bcore.specs.Processes.{AnswersWords, KnownStreams, PerformsTask}
use Rattle.bcore.specs.Serves.{RefusesWords, did, no_memory, refused, unread_line}
use Rattle.bcli.specs.Serves.{Serves, UsesTool}
use Rattle.bcore.specs.Shelves.{Holdings}
use Rattle.bcli.proofs.ShellExcluded.{excluded, fault_is_no_complaint}
use Rattle.bcore.proofs.Showing.{held_grows, held_stays}

-- what no task may do is not done
not_performed : (does : RunEnds → ℕ → Type 0) (known : KnownStreams) (status : ℕ) → (status ≡ 133 → ⊥) → (status ≡ 134 → ⊥)
    → ((ends : RunEnds) → ends.line.written ≡ known.line → ends.line_after.written ≡ known.line_after → does ends status → ⊥)
    → PerformsTask does (Unit {0}) known status → ⊥
not_performed does known status device memory never (inl it) = by_status it.status_is
  where
    by_status : (status ≡ it.told) × Unit {0} ⊎ (status ≡ 133) → ⊥
    by_status (inl same) = never it.ends (ap (λ (o : Outgoing). o.written) it.line) it.line_after (subst (does it.ends) (sym same.0) it.did)
    by_status (inr failed) = device failed
not_performed does known status device memory never (inr none) = memory none.1

unanswered : (test : RunEnds → ℕ → Bool) (known : KnownStreams) (status : ℕ) → ((ends : RunEnds) → test ends status ≡ false)
    → PerformsTask (λ ends told. IsTrue (test ends told)) (Unit {0}) known status → (status ≡ 133) ⊎ (status ≡ 134)
unanswered test known status never (inl it) = by_status it.status_is
  where
    by_status : (status ≡ it.told) × Unit {0} ⊎ (status ≡ 133) → (status ≡ 133) ⊎ (status ≡ 134)
    by_status (inl same) =
        let yes : test it.ends status ≡ true = subst (λ n. test it.ends n ≡ true) (sym same.0) it.did in
        let not : false ≡ true = sym (never it.ends) ∙ yes in cc
    by_status (inr failed) = inl failed
unanswered test known status never (inr memory) = inr memory.1

unshown : (known : KnownStreams) (status : ℕ) → PerformsTask (λ ends told. Unit {0}) ⊥ known status
    → (status ≡ 133) ⊎ (status ≡ 134)
unshown known status (inl it) = by_status it.status_is
  where
    by_status : (status ≡ it.told) × ⊥ ⊎ (status ≡ 133) → (status ≡ 133) ⊎ (status ≡ 134)
    by_status (inl same) = absurd same.1
    by_status (inr failed) = inl failed
unshown known status (inr memory) = inr memory.1

-- a text after which a writer holds the same bytes has no byte
same_bytes : (told text : List ℕ) (line after : Option (List ℕ)) → line ≡ Some told → after ≡ Some told
    → Appends line after text → text ≡ []
same_bytes told text line after l a h =
    let same : told ≡ told ++ text = subst (λ x. Appends x (Some told) text) l (subst (λ x. Appends line x text) a h) in
    let e : length told ≡ length told + length text = ap length same ∙ length-append told text in
    nil_from_length text (omega (arith, e))

untold : (told text : List ℕ) (ends : RunEnds) → (text ≡ [] → ⊥) → ends.line.written ≡ Some told
    → ends.line_after.written ≡ Some told → Reported text 135 ends.line ends.line_after 135 → ⊥
untold told text ends some l a (inl written) =
    some (same_bytes told text ends.line.written ends.line_after.written l a written.0.appended)
untold told text ends some l a (inr stopped) = fault_is_no_complaint stopped.fault stopped.status

complaint : (files : Holdings) (words : List Text) (told : List ℕ) (ends : RunEnds) → AreWrong words → ends.line.written ≡ Some told
    → ends.line_after.written ≡ Some told → Serves files words ends 135 → ⊥
complaint files words told ends wrong l a (did clean does) = wrong.fault clean
complaint files words told ends wrong l a (refused k among answers) = by_answer answers
  where
    by_answer : RefusesWords k ends 135 → ⊥
    by_answer (inl helps) = wrong.no_help k among helps.help
    by_answer (inr (inl complains)) = untold told complains.text ends complains.some_text l a complains.told
    by_answer (inr (inr silent)) = omega (arith, silent.status_is)
complaint files words told ends wrong l a (no_memory silent) = omega (arith, silent.status_is)

pub process_excluded : (files : Holdings) → ProcessExcluded files
process_excluded files = record {
  help_unserved = λ words known is. not_performed (AnswersWords UsesTool files (Some words)) known 135 (λ e. omega (arith, e)) (λ e. omega (arith, e))
      (λ ends l a it. all.help_refused words ends is it);
  wrong_status = λ words known wrong. not_performed (AnswersWords UsesTool files (Some words)) known 0 (λ e. omega (arith, e)) (λ e. omega (arith, e))
      (λ ends l a it. all.wrong_done words ends wrong it);
  unread_status = λ known. not_performed (AnswersWords UsesTool files None) known 0 (λ e. omega (arith, e)) (λ e. omega (arith, e))
      (λ ends l a it. all.unread_words_done ends.line ends.line_after it.1);
  line_lost = λ words input told wrong. not_performed (AnswersWords UsesTool files (Some words)) (silent_lines input told) 135
      (λ e. omega (arith, e)) (λ e. omega (arith, e)) (λ ends l a it. complaint files words told ends wrong l a it);
  unread_line_lost = λ input told. not_performed (AnswersWords UsesTool files None) (silent_lines input told) 135
      (λ e. omega (arith, e)) (λ e. omega (arith, e)) (λ ends l a it. untold told unread_line ends (λ e. cc) l a it.1);
  unanswered = unanswered;
  unshown = unshown;
  held_grows = held_grows;
  held_stays = held_stays;
}
  where
    all : Excluded files
    all = excluded files
