-- Edits that were tried, one of which is made.
use Rattle.std.proofs.Common.{◌≡◌, ◌∙◌, ◌<◌, ℕ, List, true, ap, arith, length, subst, sym}
use Rattle.std.specs.Prelude.{nat_lt}
use Rattle.std.proofs.lemmas.Bool.Decides.{nat_tests}
use Rattle.std.proofs.lemmas.List.{length-map}
use Rattle.bword.specs.declared.edition.Edition.{Edition}
use Rattle.blang.specs.declared.code.Definition.{Definition}
use Rattle.bsources.specs.Files.{Files}
use Rattle.bcheck.specs.Findings.{Improves, IsChange, IsChanged, IsTried}
use Rattle.bcheck.specs.Mentions.{subjects}
use Rattle.bcheck.specs.UndefinedNames.{told_subjects}
use Rattle.bcheck.specs.declared.change.Change.{Change}
use Rattle.bcheck.specs.declared.edit.Edit.{Edit}
use Rattle.bcheck.specs.declared.mention.Mention.{Mention}

-- an edit that was tried, as a change
pub change_is : (edition : Edition) (files : Files) (source : List ℕ) (e : Edit) (c : Change) → IsTried edition files source e → IsChanged e c → IsChange edition files source c
change_is edition files source e c h is =
    let it = h.1 in
    record {
      edit = it.parts;
      start = is.0 ∙ it.start;
      len = is.1 ∙ it.len;
      text = is.2 ∙ it.text;
      line = is.3 ∙ it.told;
      mends = subst (λ t. Improves edition source t) (sym it.makes) h.2;
    }

-- fewer mentions are fewer names
fewer_told : (ms ns : List Mention) (ds before : List Definition) → subjects ms ≡ told_subjects ds → subjects ns ≡ told_subjects before → length ms < length ns → length (told_subjects ds) < length (told_subjects before)
fewer_told ms ns ds before e f h =
    let one : length (told_subjects ds) ≡ length ms = ap length (sym e) ∙ length-map ms (λ (m : Mention). m.subject) in
    let two : length (told_subjects before) ≡ length ns = ap length (sym f) ∙ length-map ns (λ (m : Mention). m.subject) in
    omega (arith, one, two, h)

less : (m n : ℕ) → nat_lt m n ≡ true → m < n
less m n h = grind (arith, nat_tests)

pub fewer_counted : (ms ns : List Mention) (ds before : List Definition) → subjects ms ≡ told_subjects ds → subjects ns ≡ told_subjects before → (m n : ℕ) → m ≡ length ms → n ≡ length ns → nat_lt m n ≡ true
    → length (told_subjects ds) < length (told_subjects before)
fewer_counted ms ns ds before e f m n em en h = let lt = less m n h in fewer_told ms ns ds before e f (omega (arith, lt, em, en))
