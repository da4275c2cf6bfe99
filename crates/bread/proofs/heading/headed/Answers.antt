use Rattle.std.proofs.Common.{◌∙◌, ap, None, refl}
use Rattle.blang.specs.declared.token.Token.TheVariants as token
use Rattle.bgrammar.specs.StatementReader.{step_at}
use Rattle.bread.specs.Headings.{IsUnheaded}
use Rattle.bread.proofs.Steps.{run_seen}
use Rattle.bread.proofs.HeadingLemmas.{no_heading}
use Rattle.bread.proofs.Takings.{keyword_none}
use Rattle.bread.proofs.HeadingSteps.{auto_turns, extrn_turns, case_turns_on, default_turns_on, heading_took, heading_halts, heading_err}
use Rattle.bread.proofs.heading.headed.Goals as goal

pub returns-in_err-auto-in-Auto : goal.returns-in_err-auto-in-Auto
returns-in_err-auto-in-Auto g c = let k = c.requires.keyword ∙ ap (λ w. token.Keyword w) c.in-Auto.is in let a = c.in_ok-advance-in-Auto.ensures.ok in heading_err _ _ c.from_residual-in_err-auto-in-Auto.result _ _ c.in_err-auto-in-Auto.field-0.0 c.from_residual-in_err-auto-in-Auto.ensures.1 (heading_halts (auto_turns k) a c.args.parser.now.draft c.auto.new.parser.draft _ c.in_err-auto-in-Auto.field-0.0 (c.in_err-auto-in-Auto.ensures tt))

pub returns-in_ok-auto-in-Auto : goal.returns-in_ok-auto-in-Auto
returns-in_ok-auto-in-Auto g c = let k = c.requires.keyword ∙ ap (λ w. token.Keyword w) c.in-Auto.is in let a = c.in_ok-advance-in-Auto.ensures.ok in let e = c.in_ok-auto-in-Auto.ensures in heading_took (auto_turns k) a (e.0 tt) e.1.0 e.2

pub returns-in_err-extrn-in-Extrn : goal.returns-in_err-extrn-in-Extrn
returns-in_err-extrn-in-Extrn g c = let k = c.requires.keyword ∙ ap (λ w. token.Keyword w) c.in-Extrn.is in let a = c.in_ok-advance-in-Extrn.ensures.ok in heading_err _ _ c.from_residual-in_err-extrn-in-Extrn.result _ _ c.in_err-extrn-in-Extrn.field-0.0 c.from_residual-in_err-extrn-in-Extrn.ensures.1 (heading_halts (extrn_turns k) a c.args.parser.now.draft c.extrn.new.parser.draft _ c.in_err-extrn-in-Extrn.field-0.0 (c.in_err-extrn-in-Extrn.ensures tt))

pub returns-in_ok-extrn-in-Extrn : goal.returns-in_ok-extrn-in-Extrn
returns-in_ok-extrn-in-Extrn g c = let k = c.requires.keyword ∙ ap (λ w. token.Keyword w) c.in-Extrn.is in let a = c.in_ok-advance-in-Extrn.ensures.ok in let e = c.in_ok-extrn-in-Extrn.ensures in heading_took (extrn_turns k) a (e.0 tt) e.1.0 e.2

pub returns-in_err-case-in-Case : goal.returns-in_err-case-in-Case
returns-in_err-case-in-Case g c = let k = c.requires.keyword ∙ ap (λ w. token.Keyword w) c.in-Case.is in let a = c.in_ok-advance-in-Case.ensures.ok in heading_err _ _ c.from_residual-in_err-case-in-Case.result _ _ c.in_err-case-in-Case.field-0.0 c.from_residual-in_err-case-in-Case.ensures.1 (heading_halts (case_turns_on c.line-line.result c.line-line.ensures k) a c.args.parser.now.draft c.case.new.parser.draft _ c.in_err-case-in-Case.field-0.0 (c.in_err-case-in-Case.ensures tt))

pub returns-in_ok-case-in-Case : goal.returns-in_ok-case-in-Case
returns-in_ok-case-in-Case g c = let k = c.requires.keyword ∙ ap (λ w. token.Keyword w) c.in-Case.is in let a = c.in_ok-advance-in-Case.ensures.ok in let e = c.in_ok-case-in-Case.ensures in heading_took (case_turns_on c.line-line.result c.line-line.ensures k) a (e.0 tt) e.1.0 e.2

pub returns-in_err-default-in-Default : goal.returns-in_err-default-in-Default
returns-in_err-default-in-Default g c = let k = c.requires.keyword ∙ ap (λ w. token.Keyword w) c.in-Default.is in let a = c.in_ok-advance-in-Default.ensures.ok in heading_err _ _ c.from_residual-in_err-default-in-Default.result _ _ c.in_err-default-in-Default.field-0.0 c.from_residual-in_err-default-in-Default.ensures.1 (heading_halts (default_turns_on c.line-line.result c.line-line.ensures k) a c.args.parser.now.draft c.default.new.parser.draft _ c.in_err-default-in-Default.field-0.0 (c.in_err-default-in-Default.ensures tt))

pub returns-in_ok-default-in-Default : goal.returns-in_ok-default-in-Default
returns-in_ok-default-in-Default g c = let k = c.requires.keyword ∙ ap (λ w. token.Keyword w) c.in-Default.is in let a = c.in_ok-advance-in-Default.ensures.ok in let e = c.in_ok-default-in-Default.ensures in heading_took (default_turns_on c.line-line.result c.line-line.ensures k) a (e.0 tt) e.1.0 e.2

pub returns-in_default : goal.returns-in_default
returns-in_default g c = (
  record {
    moves = run_seen {P = IsUnheaded} c.requires.loaded
        (λ u more s f l. no_heading u (ap (step_at None) (f ∙ c.requires.keyword) ∙ keyword_none c.args.keyword c.in_default.not-Auto c.in_default.not-Extrn c.in_default.not-Case c.in_default.not-Default));
    loaded = c.requires.loaded;
    none = λ ls. refl;
    noted = refl;
  },
  refl,
)
