use Rattle.std.proofs.Common.{Err, refl, sym, ◌∙◌}
use Rattle.bcode.specs.Ahead.{DefinitionGives}
use Rattle.bcode.proofs.BodyLaws.{header_exit}
use Rattle.bcode.proofs.CopyLaws.{text_exit, header_refused, body_refused, definition_copied}
use Rattle.bcode.proofs.FormLaws.{header_form}
use Rattle.bcode.proofs.copy.copy_definition.Goals as goal

pub read-requires : goal.read-requires
read-requires g c = header_form

pub returns-in_err-header : goal.returns-in_err-header
returns-in_err-header g c =
    text_exit _ _ (λ a. DefinitionGives c.args.lines.now a c.read.new.self) _ _ c.from_residual.ensures.1 (header_exit _ _ (Err _) _ refl c.in_err-header.ensures)

pub returns-in_err-copy_header : goal.returns-in_err-copy_header
returns-in_err-copy_header g c =
    header_refused c.in_ok-header.header c.in_ok-header.ensures (sym c.is_end.ensures ∙ c.if-is_end.false) _ _ _ c.from_residual-in_err-copy_header.ensures.1

pub returns-in_err-copy_body : goal.returns-in_err-copy_body
returns-in_err-copy_body g c =
    body_refused c.in_ok-header.header c.in_ok-header.ensures (sym c.is_end.ensures ∙ c.if-is_end.false) _ _ _ _ _ c.from_residual-in_err-copy_body.ensures.1 c.in_err-copy_body.ensures

pub returns : goal.returns
returns g c =
    definition_copied c.in_ok-header.header c.in_ok-header.ensures (sym c.is_end.ensures ∙ c.if-is_end.false) _ _ c.in_ok-copy_header.ensures c.in_ok-copy_body.ensures
