use Rattle.std.proofs.Common.{◌≡◌, ◌∙◌, ℕ, List, subst}
use Rattle.std.specs.Str.Parse.{ParsesUnsigned}
use Rattle.std.proofs.lemmas.Bool.{both_ways}
use Rattle.std.proofs.lemmas.Slice.Eq.{bytes_eq-Decides}
use Rattle.bauthor.proofs.Numbers.{in_utf8, not_parsed, written}
use Rattle.bauthor.proofs.number.read_number.Goals as goal

pub returns-in_default : goal.returns-in_default
returns-in_default c = λ n le is. c.in_default.ensures.cases.0 (in_utf8 n c.args.line.now le is)

pub returns-in_default-parse : goal.returns-in_default-parse
returns-in_default-parse c =
    λ n le is. not_parsed n c.args.line.now le is c.parse.result _ c.in_default-parse.is
    (subst (λ (t : List ℕ). ParsesUnsigned 64 10 t c.parse.result) c.in-Ok.ensures.cases.0 c.parse.ensures.value.0)

pub returns-else-eq : goal.returns-else-eq
returns-else-eq c =
    λ n le is. let number =
    written n c.args.line.now le is c.parse.result c.in-Ok-parse.number c.in-Ok-parse.is
    (subst (λ (t : List ℕ). ParsesUnsigned 64 10 t c.parse.result) c.in-Ok.ensures.cases.0 c.parse.ensures.value.0) in
    let same : c.as_bytes.result.now ≡ c.args.line.now = c.as_bytes.ensures.value ∙ c.format.ensures.text ∙ number in
    both_ways c.eq.result c.if-eq.false (c.eq.ensures ∙ (bytes_eq-Decides c.as_bytes.result.now c.args.line.now).1 same)
