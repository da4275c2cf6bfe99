use Rattle.std.proofs.Common.{subst}
use Rattle.bcode.specs.Ahead.{ReadsLine}
use Rattle.bcode.specs.Headers.{header_text, IsHeaderWithin}
use Rattle.bcode.specs.declared.header.Header.{Header}
use Rattle.bcode.specs.declared.header.Header.TheVariants as header
use Rattle.bcode.proofs.BodyLaws.{header_exit, next_exit, reads_definition}
use Rattle.bcode.proofs.FormLaws.{header_form}
use Rattle.bcode.proofs.read.next_definition.Goals as goal

pub read-requires : goal.read-requires
read-requires g c = header_form

pub returns-in_err-name : goal.returns-in_err-name
returns-in_err-name g c = header_exit _ _ _ _ c.from_residual.ensures.1 c.in_err-name.ensures

pub returns-in_err-function-in-Function : goal.returns-in_err-function-in-Function
returns-in_err-function-in-Function g c =
    next_exit (header.Function c.in-Function.name c.in-Function.parameters c.in-Function.sizes) _ _ _ (λ e. cc) (subst (λ (h : Header). ReadsLine header_text IsHeaderWithin c.args.lines.now h c.read.new.self) c.in-Function.is c.in_ok-name.ensures)
    c.from_residual-in_err-function-in-Function.ensures.1 c.in_err-function-in-Function.ensures

pub returns-in_ok-function-in-Function : goal.returns-in_ok-function-in-Function
returns-in_ok-function-in-Function g c =
    reads_definition (header.Function c.in-Function.name c.in-Function.parameters c.in-Function.sizes) _ (subst (λ (h : Header). ReadsLine header_text IsHeaderWithin c.args.lines.now h c.read.new.self) c.in-Function.is c.in_ok-name.ensures) c.in_ok-function-in-Function.ensures

pub returns-in_err-simple-in-Simple : goal.returns-in_err-simple-in-Simple
returns-in_err-simple-in-Simple g c =
    next_exit (header.Simple c.in-Simple.name c.in-Simple.values c.in-Simple.strings) _ _ _ (λ e. cc) (subst (λ (h : Header). ReadsLine header_text IsHeaderWithin c.args.lines.now h c.read.new.self) c.in-Simple.is c.in_ok-name.ensures)
    c.from_residual-in_err-simple-in-Simple.ensures.1 c.in_err-simple-in-Simple.ensures

pub returns-in_ok-simple-in-Simple : goal.returns-in_ok-simple-in-Simple
returns-in_ok-simple-in-Simple g c =
    reads_definition (header.Simple c.in-Simple.name c.in-Simple.values c.in-Simple.strings) _ (subst (λ (h : Header). ReadsLine header_text IsHeaderWithin c.args.lines.now h c.read.new.self) c.in-Simple.is c.in_ok-name.ensures) c.in_ok-simple-in-Simple.ensures

pub returns-in_err-vector-in-Vector : goal.returns-in_err-vector-in-Vector
returns-in_err-vector-in-Vector g c =
    next_exit (header.Vector c.in-Vector.name c.in-Vector.words c.in-Vector.values c.in-Vector.strings) _ _ _ (λ e. cc) (subst (λ (h : Header). ReadsLine header_text IsHeaderWithin c.args.lines.now h c.read.new.self) c.in-Vector.is c.in_ok-name.ensures)
    c.from_residual-in_err-vector-in-Vector.ensures.1 c.in_err-vector-in-Vector.ensures

pub returns-in_ok-vector-in-Vector : goal.returns-in_ok-vector-in-Vector
returns-in_ok-vector-in-Vector g c =
    reads_definition (header.Vector c.in-Vector.name c.in-Vector.words c.in-Vector.values c.in-Vector.strings) _ (subst (λ (h : Header). ReadsLine header_text IsHeaderWithin c.args.lines.now h c.read.new.self) c.in-Vector.is c.in_ok-name.ensures) c.in_ok-vector-in-Vector.ensures
