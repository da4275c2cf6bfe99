-- Closed facts: what the contract of a check says is written, in each edition and for each fault.
use Rattle.std.specs.Prelude.{◌≡◌, ◌<◌, ◌⊎◌, ℕ, List, [], ◌∷◌, ◌++◌, codes, length, map, Option, None, Some}
use Rattle.std.specs.Prelude.{false, refl, true}
use Rattle.std.proofs.Common.{inl, inr}
use Rattle.std.specs.List.{All}
use Rattle.bword.specs.declared.edition.Edition.{Edition}
use Rattle.bword.specs.declared.edition.Edition.TheVariants as editions
use Rattle.bword.specs.ByteEnds.{Outgoing}
use Rattle.blang.specs.Code.{code_of}
use Rattle.blang.specs.Compiles.{Compilation, CompilesTo}
use Rattle.blang.specs.Cut.{cut, tokens_from, fixed_of, greatest, keyword_of, line_number_after, longest, number_in}
use Rattle.blang.specs.Cut.{operator_of, other_of, placed, whole, word_token}
use Rattle.blang.specs.Layout.{load_fault}
use Rattle.blang.specs.Reports.{Reported}
use Rattle.blang.specs.declared.code.Definition.{Definition}
use Rattle.blang.specs.declared.run.LoadFault.{LoadFault}
use Rattle.blang.specs.declared.run.LoadFault.TheVariants as fault
use Rattle.blang.specs.declared.token.Diagnostic.{Diagnostic}
use Rattle.blang.specs.declared.token.Placed.{Placed}
use Rattle.blang.specs.declared.token.Token.TheVariants as token
use Rattle.bsources.specs.Files.{Files}
use Rattle.bcheck.specs.Checks.{AreFindings, Check, Checks, EachOutcome, FindingParts, IsBetter, IsFurther, IsOver}
use Rattle.bcheck.specs.Checks.{IsWhole, Outcome, Reason, Says, TellsFirst, diagnostic_code, finding_text}
use Rattle.bcheck.specs.Checks.{findings_text, mended, severity_of, shown_in_form, told_first}
use Rattle.bcheck.specs.Checks as checks
use Rattle.bcheck.specs.RuleWarnings.{TellsWarnings}
use Rattle.bcheck.specs.Tokens.{has_token_on, is_in_token}
use Rattle.bcheck.specs.UndefinedNames.{IsAtName, Tells, name_in}
use Rattle.bcheck.specs.declared.form.FindingForm.{FindingForm}

-- What the source comes to is told: the line in its form, and then findings; or memory was refused.
abbrev IsTold : FindingForm → Outcome → Files → (first : List ℕ) → (status : ℕ) → (old new : Outgoing) → (result : ℕ)
    → Type 0
IsTold form o files first status old new result =
    ((more : List ℕ) × AreFindings form o status files more × Reported (first ++ more) status old new result)
    ⊎ ((new ≡ old) × (result ≡ 134))

first_told : (form : FindingForm) (o : Outcome) (files : Files) (first : List ℕ) (status result : ℕ)
    (old new : Outgoing) → TellsFirst form o files first status old new result
    → IsTold form o files first status old new result
first_told form o files first status result old new (checks.told more are reported) = inl (more, are, reported)
first_told form o files first status result old new (checks.no_memory same is) = inr (same, is)

checks_tell : (c : Check) (r : Compilation) (g : CompilesTo [] (tokens_from c.edition 1 c.source) r) → Checks c
    → IsTold c.form
    (record { edition = c.edition; source = c.source; stop = r.stop; definitions = map code_of g.definitions }) c.files
    (shown_in_form c.form (told_first r.stop (load_fault (map code_of g.definitions))).0)
    (told_first r.stop (load_fault (map code_of g.definitions))).1 c.out c.out_after c.status
checks_tell c r g is = first_told _ _ _ _ _ _ _ _ (is r g)

-- All is told, each error has its reason, each edit mends, and the text is that of the findings, each after the other.
findings_are : (form : FindingForm) (o : Outcome) (status : ℕ) (files : Files) (text : List ℕ)
    → AreFindings form o status files text
    → (findings : List (FindingParts o.source)) × (further : List (FindingParts o.source))
    × IsWhole Says o.stop (load_fault o.definitions) o.definitions findings
    × All (λ p. Reason o.edition o.stop (load_fault o.definitions) p.code (p.before ++ p.left) (p.right ++ p.after))
    findings
    × IsFurther o.edition o.stop further
    × (text ≡ findings_text form status files (findings ++ further))
    × All (λ p. All (λ e. EachOutcome o.edition (mended e) (λ new. IsBetter new o)) p.edits) (findings ++ further)
    × (status ≡ 0 → TellsWarnings o.edition files o.source (map (λ p. (p.before ++ p.left, p.code)) findings))
findings_are form o status files text are = (are.0, are.3, are.1, are.2, are.4, are.5, are.6, are.7)

two_findings : {source : List ℕ} (form : FindingForm) (status : ℕ) (files : Files) (p q : FindingParts source)
    → findings_text form status files (p ∷ q ∷ [])
    ≡ finding_text form (severity_of status) files p ++ (finding_text form (severity_of status) files q ++ [])
two_findings form status files p q = refl

-- the sentence on a name, and its place
abbrev SaysBy : {S : Type 0} {source : List ℕ} → (name : S → List ℕ) → (On : S → List ℕ → Type 0) → S
    → FindingParts source → Type 0
SaysBy name On s p = On s p.sentence × IsAtName (name s) (p.before ++ p.left) (p.right ++ p.after)

said : (source : List ℕ) → Says {source = source} ≡ SaysBy name_in Tells
said source = refl

duplicate_told : {source : List ℕ} (name : List ℕ) (ds : List Definition) (told : List (FindingParts source))
    → IsWhole Says None (Some (fault.Duplicate name)) ds told → length told ≡ 1
duplicate_told name ds told is = is

-- An error in each edition, whatever else there is: its code, its line, and its token.
error_reasons : (edition : Edition) (d : Diagnostic) (f : Option LoadFault) (code before rest : List ℕ)
    → Reason edition (Some d) f code before rest
    → (code ≡ diagnostic_code d)
    × ((line_number_after 1 before ≡ d.line) ⊎ ((line_number_after 1 before < d.line) × IsOver edition rest))
    × ((is_in_token edition d.line before rest ≡ true) ⊎ (has_token_on edition d.line (before ++ rest) ≡ false)
    ⊎ IsOver edition rest)
error_reasons edition d f code before rest reason = reason

load_reasons : (edition : Edition) (name code before rest : List ℕ)
    → (Reason edition None (Some fault.TooLarge) code before rest → code ≡ codes "load 2")
    × (Reason edition None (Some (fault.Undefined name)) code before rest → code ≡ codes "load 3")
load_reasons edition name code before rest = (λ reason. reason, λ reason. reason)

-- blanks and comments alone are over
over_is : (edition : Edition) (rest : List ℕ) → IsOver edition rest
    → (line : ℕ) × (none : List Placed) × (tokens_from edition 1 rest ≡ placed token.End line ∷ none)
over_is edition rest is = is

blanks_over : IsOver editions.One [] × IsOver editions.Two (codes " /*c*/\n\t")
unfolding tokens_from cut longest greatest whole word_token keyword_of number_in operator_of other_of fixed_of
blanks_over = ((1, [], refl), (2, [], refl))
