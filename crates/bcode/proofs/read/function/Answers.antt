use Rattle.std.proofs.Common.{arith, subst, sym, ◌≡◌, ℕ, ◌<◌, true, Vec, Global, Err, ap, replicate, ◌++◌}
use Rattle.std.specs.Prelude.{All}
use Rattle.bcode.specs.Ahead.{ReadsLines, LinesGive}
use Rattle.blang.specs.CodeParts.{IsWord, IsInstrWithin}
use Rattle.bcode.specs.Headers.{function_fits}
use Rattle.blang.specs.declared.code.Sizes.{Sizes}
use Rattle.bcode.specs.Stopping.{target, string, instruction}
use Rattle.blang.specs.Text.{target_line, string_line, instr_line}
use Rattle.blang.specs.declared.code.Instr.{Instr}
use Rattle.bcode.specs.declared.header.Header.TheVariants as header
use Rattle.bcode.proofs.BodyLaws.{ends_among, ends_among_last, ends_after, body_exit, three_passed}
use Rattle.bcode.proofs.CodeLaws.{of_target, of_string, of_instr, same_sizes, function_within}
use Rattle.bcode.proofs.FormLaws.{number_form, instr_form}
use Rattle.bcode.proofs.read.function.Goals as goal

pub several-requires : goal.several-requires
several-requires g c = number_form 116 _ (omega arith) (omega arith)

pub several-requires-2 : goal.several-requires-2
several-requires-2 g c = number_form 119 _ (omega arith) (omega arith)

pub several-requires-3 : goal.several-requires-3
several-requires-3 g c = instr_form c.args.sizes record { frame = omega arith; labels = omega arith; strings = omega arith; code = omega arith }

pub returns-in_err-targets : goal.returns-in_err-targets
returns-in_err-targets g c =
    let s = c.args.sizes in
    body_exit _ _ _ _ _ c.from_residual.ensures.1
    (ends_among target_line (λ n. n < s.code) (target s.code) (of_target s.code) (λ l x. x) (λ (v : Vec ℕ Global). v.items) _ _ s.labels (replicate s.strings string ++ replicate s.code (instruction s)) _
    (subst (λ (b : ℕ). LinesGive target_line (λ n. n < b) (λ (v : Vec ℕ Global). v.items) s.labels c.args.lines.now (Err c.in_err-targets.field-0.0) c.several.new.lines)
    c.from.ensures c.in_err-targets.ensures))

pub returns-in_err-strings : goal.returns-in_err-strings
returns-in_err-strings g c =
    let s = c.args.sizes in
    let t = subst (λ (b : ℕ). ReadsLines target_line (λ n. n < b) s.labels c.args.lines.now c.in_ok-targets.targets.items c.several.new.lines) c.from.ensures c.in_ok-targets.ensures in
    body_exit _ _ _ _ _ c.from_residual-in_err-strings.ensures.1
    (ends_after target_line (λ n. n < s.code) (target s.code) (of_target s.code) _ s.labels (replicate s.strings string ++ replicate s.code (instruction s)) _ t
    (ends_among string_line IsWord string of_string (λ l x. x) (λ (v : Vec ℕ Global). v.items) _ _ s.strings (replicate s.code (instruction s)) _ c.in_err-strings.ensures))

pub returns-in_err-code : goal.returns-in_err-code
returns-in_err-code g c =
    let s = c.args.sizes in
    let t = subst (λ (b : ℕ). ReadsLines target_line (λ n. n < b) s.labels c.args.lines.now c.in_ok-targets.targets.items c.several.new.lines) c.from.ensures c.in_ok-targets.ensures in
    body_exit _ _ _ _ _ c.from_residual-in_err-code.ensures.1
    (ends_after target_line (λ n. n < s.code) (target s.code) (of_target s.code) _ s.labels (replicate s.strings string ++ replicate s.code (instruction s)) _ t
    (ends_after string_line IsWord string of_string _ s.strings (replicate s.code (instruction s)) _ c.in_ok-strings.ensures
    (ends_among_last instr_line (IsInstrWithin s) (instruction s) (of_instr s) (λ l x. x) (λ (v : Vec Instr Global). v.items) _ _ s.code _ c.in_err-code.ensures)))

pub from_parts-requires : goal.from_parts-requires
from_parts-requires g c =
    let s = c.args.sizes in
    let t = subst (λ (b : ℕ). ReadsLines target_line (λ n. n < b) s.labels c.args.lines.now c.in_ok-targets.targets.items c.several.new.lines) c.from.ensures c.in_ok-targets.ensures in
    let w = c.in_ok-strings.ensures in
    let k = c.in_ok-code.ensures in
    let sizes = same_sizes s _ _ _ t.all w.all k.all in
    function_within _ c.requires.named (subst (λ (z : Sizes). function_fits c.args.parameters z ≡ true) (sym sizes) c.requires.fits)
    (subst (λ (n : ℕ). All (λ t. t < n) c.in_ok-targets.targets.items) (sym k.all) t.inside) w.inside
    (subst (λ (z : Sizes). All (IsInstrWithin z) c.in_ok-code.code.items) (sym sizes) k.inside)

pub returns : goal.returns
returns g c =
    let s = c.args.sizes in
    let t = subst (λ (b : ℕ). ReadsLines target_line (λ n. n < b) s.labels c.args.lines.now c.in_ok-targets.targets.items c.several.new.lines) c.from.ensures c.in_ok-targets.ensures in
    let w = c.in_ok-strings.ensures in
    let k = c.in_ok-code.ensures in
    record {
      header = rw c.from_parts.ensures.same (ap (λ z. header.Function c.args.name c.args.parameters z) (same_sizes s _ _ _ t.all w.all k.all));
      inside = c.from_parts.ensures.within;
      passes = rw c.from_parts.ensures.same (three_passed target_line string_line instr_line _ _ _ t.all w.all k.all t.passes w.passes k.passes);
    }
