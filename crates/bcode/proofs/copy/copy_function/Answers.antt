use Rattle.std.proofs.Common.{arith, subst, ℕ, ◌<◌, List, Err, replicate, ◌++◌}
use Rattle.std.specs.List.{flat_map}
use Rattle.blang.specs.CodeParts.{IsWord, IsInstrWithin}
use Rattle.blang.specs.Text.{target_line, string_line, instr_line}
use Rattle.blang.specs.declared.code.Instr.{Instr}
use Rattle.bcode.specs.Ahead.{LinesGive}
use Rattle.bcode.specs.Copying.{PutsLines}
use Rattle.bcode.specs.Stopping.{target, string, instruction}
use Rattle.bcode.proofs.BodyLaws.{ends_among, ends_among_last, ends_after}
use Rattle.bcode.proofs.CodeLaws.{of_target, of_string, of_instr}
use Rattle.bcode.proofs.CopyLaws.{kinds_exit, kinds_then, kinds_last}
use Rattle.bcode.proofs.FormLaws.{number_form, instr_form}
use Rattle.bcode.proofs.copy.copy_function.Goals as goal

pub copy_several-requires : goal.copy_several-requires
copy_several-requires g c = number_form 116 _ (omega arith) (omega arith)

pub copy_several-requires-2 : goal.copy_several-requires-2
copy_several-requires-2 g c = number_form 119 _ (omega arith) (omega arith)

pub copy_several-requires-3 : goal.copy_several-requires-3
copy_several-requires-3 g c = instr_form c.args.sizes record { frame = omega arith; labels = omega arith; strings = omega arith; code = omega arith }

pub returns-in_err-copy_several : goal.returns-in_err-copy_several
returns-in_err-copy_several g c =
    let s = c.args.sizes in
    kinds_exit _ _ _ _ _ _ _ c.from_residual.ensures.1
    (ends_among target_line (λ n. n < s.code) (target s.code) (of_target s.code) (λ l x. x) (λ (xs : List ℕ). xs) _ _ s.labels (replicate s.strings string ++ replicate s.code (instruction s)) _
    (subst (λ (b : ℕ). LinesGive target_line (λ n. n < b) (λ (xs : List ℕ). xs) s.labels c.args.lines.now (Err c.in_err-copy_several.field-0.0) c.copy_several.new.lines) c.from.ensures c.in_err-copy_several.ensures))

pub returns-in_err-copy_several-2 : goal.returns-in_err-copy_several-2
returns-in_err-copy_several-2 g c =
    let s = c.args.sizes in
    let t = subst (λ (b : ℕ). PutsLines target_line (λ n. n < b) (flat_map target_line) s.labels c.args.lines.now c.args.text.now.items c.copy_several.new.lines c.copy_several.new.text.items) c.from.ensures c.in_ok-copy_several.ensures in
    kinds_exit _ _ _ _ _ _ _ c.from_residual-in_err-copy_several-2.ensures.1
    (ends_after target_line (λ n. n < s.code) (target s.code) (of_target s.code) _ s.labels (replicate s.strings string ++ replicate s.code (instruction s)) _ t.reads
    (ends_among string_line IsWord string of_string (λ l x. x) (λ (xs : List ℕ). xs) _ _ s.strings (replicate s.code (instruction s)) _ c.in_err-copy_several-2.ensures))

pub returns-in_err-copy_several-3 : goal.returns-in_err-copy_several-3
returns-in_err-copy_several-3 g c =
    let s = c.args.sizes in
    let t = subst (λ (b : ℕ). PutsLines target_line (λ n. n < b) (flat_map target_line) s.labels c.args.lines.now c.args.text.now.items c.copy_several.new.lines c.copy_several.new.text.items) c.from.ensures c.in_ok-copy_several.ensures in
    kinds_exit _ _ _ _ _ _ _ c.from_residual-in_err-copy_several-3.ensures.1
    (ends_after target_line (λ n. n < s.code) (target s.code) (of_target s.code) _ s.labels (replicate s.strings string ++ replicate s.code (instruction s)) _ t.reads
    (ends_after string_line IsWord string of_string _ s.strings (replicate s.code (instruction s)) _ c.in_ok-copy_several-2.ensures.reads
    (ends_among_last instr_line (IsInstrWithin s) (instruction s) (of_instr s) (λ l x. x) (λ (xs : List Instr). xs) _ _ s.code _ c.in_err-copy_several-3.ensures)))

pub returns : goal.returns
returns g c =
    let s = c.args.sizes in
    let t = subst (λ (b : ℕ). PutsLines target_line (λ n. n < b) (flat_map target_line) s.labels c.args.lines.now c.args.text.now.items c.copy_several.new.lines c.copy_several.new.text.items) c.from.ensures c.in_ok-copy_several.ensures in
    kinds_then target_line (λ n. n < s.code) (target s.code) (of_target s.code) s.labels (replicate s.strings string ++ replicate s.code (instruction s)) t
    (kinds_then string_line IsWord string of_string s.strings (replicate s.code (instruction s)) c.in_ok-copy_several-2.ensures
    (kinds_last instr_line (IsInstrWithin s) (instruction s) (of_instr s) s.code c.in_ok-copy_several-3.ensures))
