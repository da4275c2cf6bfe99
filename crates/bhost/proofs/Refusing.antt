-- Bytes that weren't fed for want of memory, as no bytes were fed: they were refused, or the input was closed.
use Rattle.std.proofs.Common.{◌≡◌, ◌∙◌, ◌≢◌, ℕ, List, [], Option, Some, None, ap, refl, subst, sym}
use Rattle.std.specs.Prelude.{⊤}
use Rattle.std.proofs.lemmas.List.{append-nil}
use Rattle.bhost.specs.Deeds.{ActsIfReady}
use Rattle.bhost.specs.Hosts.{LoadedValue}
use Rattle.bhost.specs.Runs.{RunsView}
use Rattle.bhost.specs.Statuses.{Answers, answer_status, unfed_status}
use Rattle.bhost.specs.declared.desk.Answer.{Answer}
use Rattle.bhost.specs.declared.desk.Answer.TheVariants as answer
use Rattle.bhost.specs.declared.desk.Deed.TheVariants as deed

-- a session that isn't ready has the same status, whatever was fed
unready : (told : Answer) → told ≡ answer.Unready → unfed_status told ≡ answer_status told
unready told is = subst (λ (it : Answer). unfed_status it ≡ answer_status it) (sym is) refl

pub refused : (program : Option LoadedValue) (old new : Option RunsView) (bytes after : List ℕ) (told : Answer)
    → bytes ≢ [] → ActsIfReady deed.Feed [] program old new after told
    → Answers deed.Feed bytes program old new (unfed_status told) (λ _ _. ⊤)
refused (Some loaded) (Some h) (Some k) bytes after answer.Done some fed =
    let same = fed.0.1.1 ∙ ap (λ (u : List ℕ). record h.run { unread = u }) (append-nil h.run.unread) in
    (bytes, answer.Refused, ((refl, (fed.0.1.0, some, same)), fed.1), refl, tt)
refused (Some loaded) (Some h) (Some k) bytes after answer.Closed some fed =
    (bytes, answer.Closed, ((refl, fed.0.1), fed.1), refl, tt)
refused (Some loaded) (Some h) (Some k) bytes after answer.Refused some fed = absurd (fed.0.1.1 refl)
refused (Some loaded) (Some h) (Some k) bytes after (answer.Ended why) some fed = absurd fed.0.1
refused (Some loaded) (Some h) (Some k) bytes after (answer.Walked why) some fed = absurd fed.0.1
refused (Some loaded) (Some h) (Some k) bytes after (answer.Unbegun why) some fed = absurd fed.0.1
refused (Some loaded) (Some h) (Some k) bytes after (answer.Calls frame) some fed = absurd fed.0.1
refused (Some loaded) (Some h) (Some k) bytes after answer.Missing some fed = absurd fed.0.1
refused (Some loaded) (Some h) (Some k) bytes after answer.Unready some fed = absurd fed.0.1
refused (Some loaded) (Some h) (Some k) bytes after (answer.Stands there) some fed = absurd fed.0.1
refused (Some loaded) (Some h) (Some k) bytes after (answer.Word word) some fed = absurd fed.0.1
refused (Some loaded) (Some h) (Some k) bytes after (answer.Tells symbol) some fed = absurd fed.0.1
refused (Some loaded) (Some h) None bytes after told some fed = absurd fed
refused (Some loaded) None new bytes after told some fed = (bytes, told, (fed.0, refl, fed.2), unready told fed.2, tt)
refused None old new bytes after told some fed = (bytes, told, (fed.0, refl, fed.2), unready told fed.2, tt)
