-- How a code text comes to be a program.
use Rattle.std.proofs.Common.{◌≡◌, ℕ, List, None, Result, Ok, Err, IfOk, ap, sym, subst}
use Rattle.std.specs.Prelude.{MatchResult}
use Rattle.bcode.proofs.FaultLaws.{unique_code}
use Rattle.blang.specs.declared.code.Definition.{Definition}
use Rattle.blang.specs.Layout.{load_fault}
use Rattle.blang.specs.Text.{IsCodeText}
use Rattle.bmach.specs.Resolved.{IsLoadedFrom}
use Rattle.btools.specs.NamedFrames.{HasFrames}
use Rattle.btools.specs.Origins.{HasCode, HasNoCode, HasTextColumns, HasTextLines, HasTextNames, IsLined, IsNamed}
use Rattle.btools.specs.PlaceLines.{CodeText, HasPlaceColumns, HasPlaceLines}
use Rattle.btools.specs.Programs.{LoadGives}
use Rattle.std.specs.Global.{Vec}
use Rattle.btools.specs.declared.names.Names.{Names}
use Rattle.btools.specs.declared.program.Program.{Program}
use Rattle.btools.specs.declared.program.ProgramFault.{ProgramFault}
use Rattle.btools.specs.declared.program.ProgramFault.TheVariants as why

module _ (c : CodeText) (ds : List Definition) (is : IsCodeText c.code ds) where
  -- definitions of a code text that are loaded, whose files of lines and names suit it
  pub loaded : IsLined c ds → IsNamed c ds → (r : Result Program ProgramFault) → LoadGives ds r → MatchResult r (λ p. HasCode c.code p.definitions.items p.image) (HasNoCode c)
  loaded lined named (Ok p) gives = record {
    text = subst (IsCodeText c.code) (sym gives.0) is;
    loads = subst (λ (x : List Definition). load_fault x ≡ None) (sym gives.0) gives.1;
    loaded = subst (λ (x : List Definition). IsLoadedFrom x p.image) (sym gives.0) gives.2;
  }
  loaded lined named (Err (why.Unloaded f)) gives = (ds, is, gives, lined, named)
  loaded lined named (Err why.Memory) gives = tt
  loaded lined named _ gives = absurd gives

  -- its lines, whatever definitions it is said to have
  pub has_lines : (r : Result Program ProgramFault) (names : Names) → HasPlaceLines c ds names.lines.items → IfOk r (λ p. p.names ≡ names) → IfOk r (λ p. HasTextLines c p.names.lines.items)
  has_lines (Ok p) names lines same = λ es text.
      subst (λ (x : List Definition). HasPlaceLines c x p.names.lines.items) (unique_code c.code ds es is text)
      (subst (λ (n : Names). HasPlaceLines c ds n.lines.items) (sym same) lines)
  has_lines (Err e) names lines same = tt

  -- its names, whatever definitions it is said to have
  pub has_frames : (r : Result Program ProgramFault) (names : Names) → HasFrames c ds names.frames.items → IfOk r (λ p. p.names ≡ names) → IfOk r (λ p. HasTextNames c p.names.frames.items)
  has_frames (Ok p) names frames same = λ es text.
      subst (λ (x : List Definition). HasFrames c x p.names.frames.items) (unique_code c.code ds es is text)
      (subst (λ (n : Names). HasFrames c ds n.frames.items) (sym same) frames)
  has_frames (Err e) names frames same = tt

  -- its columns, whatever definitions it is said to have
  pub has_columns : (r : Result Program ProgramFault) (columns : Vec ℕ) → HasPlaceColumns c ds columns.items → IfOk r (λ p. p.columns ≡ columns) → IfOk r (λ p. HasTextColumns c p.columns.items)
  has_columns (Ok p) columns told same = λ es text.
      subst (λ (x : List Definition). HasPlaceColumns c x p.columns.items) (unique_code c.code ds es is text)
      (subst (λ (v : Vec ℕ). HasPlaceColumns c ds v.items) (sym same) told)
  has_columns (Err e) columns told same = tt
