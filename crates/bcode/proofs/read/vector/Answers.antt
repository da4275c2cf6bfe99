use Rattle.std.proofs.Common.{arith, subst, sym, Vec, Global, ℕ, refl, replicate}
use Rattle.std.specs.Prelude.{All}
use Rattle.blang.specs.CodeParts.{IsWord, IsIvalWithin}
use Rattle.bcode.specs.Stopping.{value, string}
use Rattle.blang.specs.Text.{string_line, ival_line}
use Rattle.blang.specs.declared.code.Ival.{Ival}
use Rattle.bcode.proofs.BodyLaws.{ends_among, ends_among_last, ends_after, body_exit, two_passed}
use Rattle.bcode.proofs.CodeLaws.{of_value, of_string, vector_within}
use Rattle.bcode.proofs.FormLaws.{number_form, ival_form}
use Rattle.bcode.proofs.read.vector.Goals as goal

pub several-requires : goal.several-requires
several-requires g c = ival_form c.args.strings (omega arith)

pub several-requires-2 : goal.several-requires-2
several-requires-2 g c = number_form 119 _ (omega arith) (omega arith)

pub returns-in_err-values : goal.returns-in_err-values
returns-in_err-values g c =
    let k = c.args.strings in
    body_exit _ _ _ _ _ c.from_residual.ensures.1
    (ends_among ival_line (IsIvalWithin k) (value k) (of_value k) (λ l x. x) (λ (v : Vec Ival Global). v.items) _ _ c.args.count (replicate k string) _ c.in_err-values.ensures)

pub returns-in_err-strings : goal.returns-in_err-strings
returns-in_err-strings g c =
    let k = c.args.strings in
    body_exit _ _ _ _ _ c.from_residual-in_err-strings.ensures.1
    (ends_after ival_line (IsIvalWithin k) (value k) (of_value k) _ c.args.count (replicate k string) _ c.in_ok-values.ensures
    (ends_among_last string_line IsWord string of_string (λ l x. x) (λ (v : Vec ℕ Global). v.items) _ _ k _ c.in_err-strings.ensures))

pub from_parts-requires : goal.from_parts-requires
from_parts-requires g c =
    let v = c.in_ok-values.ensures in
    let w = c.in_ok-strings.ensures in
    vector_within _ c.requires.named (rw (v.all, w.all) c.requires.fits) (subst (λ (n : ℕ). All (IsIvalWithin n) c.in_ok-values.values.items) (sym w.all) v.inside) w.inside

pub returns : goal.returns
returns g c =
    let v = c.in_ok-values.ensures in
    let w = c.in_ok-strings.ensures in
    record {
      header = rw c.from_parts.ensures.same (rw (v.all, w.all) refl);
      inside = c.from_parts.ensures.within;
      passes = rw c.from_parts.ensures.same (two_passed ival_line string_line _ _ v.all w.all v.passes w.passes);
    }
