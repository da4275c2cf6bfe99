-- What is told of a source, by its cut and what the rules say.
use Rattle.std.proofs.Common.{◌≡◌, ◌∙◌, ℕ, List, subst, sym}
use Rattle.bword.specs.declared.edition.Edition.{Edition}
use Rattle.blex.specs.declared.lexeme.Lexeme.{Lexeme}
use Rattle.bsources.specs.Files.{Files}
use Rattle.bmatch.specs.Growing.{AreRows, program_rows}
use Rattle.bmatch.specs.declared.noticing.Notice.{Notice}
use Rattle.bmatch.specs.declared.tree.Branch.{Branch}
use Rattle.bmatch.specs.declared.tree.TokenPlace.{TokenPlace}
use Rattle.blint.specs.declared.cautions.Caution.{Caution}
use Rattle.blint.specs.declared.cutting.CutSource.{CutSource}
use Rattle.blint.specs.Cutting.{Cuts}
use Rattle.blint.specs.Noticed.{IsNoticed}
use Rattle.blint.specs.SourceTokens.{lexemes_in, token_places, tokens_of}
use Rattle.blint.specs.Told.{AreRising}
use Rattle.blint.specs.Warns.{IsDue, TellsOf, Warns}
use Rattle.blint.proofs.SourceSteps.{source_lexemes, source_rises}

pub lint_warns : (edition : Edition) (files : Files) (source : List ℕ) (cut : CutSource) (lexemes : List Lexeme) (places : List TokenPlace) (rows slice : List Branch) (notices those : List Notice) (cautions : List Caution)
    → Cuts (tokens_of edition source) cut → lexemes ≡ cut.lexemes.items → places ≡ cut.places.items → AreRows lexemes rows → slice ≡ rows → IsNoticed source lexemes places slice notices → those ≡ notices
    → (AreRising places → TellsOf (IsDue files places those) cautions) → Warns edition files source cautions
lint_warns edition files source cut lexemes places rows slice notices those cautions cuts el ep grown es said eh tells ds formed is =
    let placed : places ≡ token_places (tokens_of edition source) = ep ∙ cuts.1 in
    let read : lexemes ≡ lexemes_in (tokens_of edition source) = el ∙ cuts.0 in
    let told = tells (subst AreRising (sym placed) (source_rises edition source)) in (
      those,
      subst (λ (ns : List Notice). IsNoticed source (lexemes_in (tokens_of edition source)) (token_places (tokens_of edition source)) (program_rows ds) ns) (sym eh)
          (subst (λ (ls : List Lexeme). IsNoticed source ls (token_places (tokens_of edition source)) (program_rows ds) notices) read
          (subst (λ (ps : List TokenPlace). IsNoticed source lexemes ps (program_rows ds) notices) placed
          (subst (λ (rs : List Branch). IsNoticed source lexemes places rs notices) (es ∙ grown ds formed (read ∙ source_lexemes edition source ds is)) said))),
      subst (λ (ps : List TokenPlace). TellsOf (IsDue files ps those) cautions) placed told,
    )
