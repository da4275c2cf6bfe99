use Rattle.std.proofs.Common.{arith, ℕ, List, replicate}
use Rattle.blang.specs.CodeParts.{IsWord, IsIvalWithin}
use Rattle.blang.specs.Text.{string_line, ival_line}
use Rattle.blang.specs.declared.code.Ival.{Ival}
use Rattle.bcode.specs.Stopping.{value, string}
use Rattle.bcode.proofs.BodyLaws.{ends_among, ends_among_last, ends_after}
use Rattle.bcode.proofs.CodeLaws.{of_value, of_string}
use Rattle.bcode.proofs.CopyLaws.{kinds_exit, kinds_then, kinds_last}
use Rattle.bcode.proofs.FormLaws.{number_form, ival_form}
use Rattle.bcode.proofs.copy.copy_values.Goals as goal

pub copy_several-requires : goal.copy_several-requires
copy_several-requires g c = ival_form c.args.strings (omega arith)

pub copy_several-requires-2 : goal.copy_several-requires-2
copy_several-requires-2 g c = number_form 119 _ (omega arith) (omega arith)

pub returns-in_err-copy_several : goal.returns-in_err-copy_several
returns-in_err-copy_several g c =
    let k = c.args.strings in
    kinds_exit _ _ _ _ _ _ _ c.from_residual.ensures.1
    (ends_among ival_line (IsIvalWithin k) (value k) (of_value k) (λ l x. x) (λ (xs : List Ival). xs) _ _ c.args.values (replicate k string) _ c.in_err-copy_several.ensures)

pub returns-in_err-copy_several-2 : goal.returns-in_err-copy_several-2
returns-in_err-copy_several-2 g c =
    let k = c.args.strings in
    kinds_exit _ _ _ _ _ _ _ c.from_residual-in_err-copy_several-2.ensures.1
    (ends_after ival_line (IsIvalWithin k) (value k) (of_value k) _ c.args.values (replicate k string) _ c.in_ok-copy_several.ensures.reads
    (ends_among_last string_line IsWord string of_string (λ l x. x) (λ (xs : List ℕ). xs) _ _ k _ c.in_err-copy_several-2.ensures))

pub returns : goal.returns
returns g c =
    let k = c.args.strings in
    kinds_then ival_line (IsIvalWithin k) (value k) (of_value k) c.args.values (replicate k string) c.in_ok-copy_several.ensures
    (kinds_last string_line IsWord string of_string k c.in_ok-copy_several-2.ensures)
