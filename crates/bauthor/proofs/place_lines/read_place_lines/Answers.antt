use Rattle.std.proofs.Common.{◌≡◌, ◌∙◌, List, None, Option, Some, ap, map, subst, sym, ℕ}
use Rattle.std.specs.Borrow.{Bor}
use Rattle.std.specs.Prelude.{IfErr, option_map}
use Rattle.bauthor.specs.AuthorFiles.{lines_of, read_from}
use Rattle.bauthor.specs.LineFiles.{Fails, line_read, lines_read, lines_wanted}
use Rattle.bauthor.specs.declared.fault.LineWanted.TheVariants.{End}
use Rattle.bauthor.proofs.place_lines.read_place_lines.Goals as goal

pub returns-in_default-source-clause-err : goal.returns-in_default-source-clause-err
returns-in_default-source-clause-err c =
    let last = c.args.last in
    let ds = c.args.definitions.now in
    let lines = ap (map (λ (l : Bor (List ℕ)). l.now)) c.as_slice.ensures.value ∙ c.in-Ok.ensures in
    subst (λ (o : Option (Bor (List ℕ))). IfErr c.read_places.result
    (λ fault. Fails fault (lines_read last (option_map (λ s. s.now) o) c.args.file.now ds))) (sym c.in_default-source.is)
    (subst (λ (ls : List (List ℕ)). IfErr c.read_places.result
    (λ fault. Fails fault (read_from (line_read None) End 1 (lines_wanted last ds) ls))) lines c.read_places.ensures.err)

pub returns-in-Ok-split_lines-clause-err : goal.returns-in-Ok-split_lines-clause-err
returns-in-Ok-split_lines-clause-err c =
    let last = c.args.last in
    let ds = c.args.definitions.now in
    let lines = ap (map (λ (l : Bor (List ℕ)). l.now)) c.as_slice-in-Ok-split_lines.ensures.value ∙ c.in-Ok.ensures in
    let own = ap (map (λ (l : Bor (List ℕ)). l.now)) c.as_slice-in-Ok-split_lines-2.ensures.value ∙ c.in-Ok-split_lines.ensures in
    let r = c.read_places-in-Ok-split_lines.result in
    subst (λ (o : Option (Bor (List ℕ))). IfErr r
    (λ fault. Fails fault (lines_read last (option_map (λ s. s.now) o) c.args.file.now ds))) (sym c.in-Some.is)
    (subst (λ (own : List (List ℕ)). IfErr r
    (λ fault. Fails fault (read_from (line_read (Some own)) End 1 (lines_wanted last ds) (lines_of c.args.file.now)))) own
    (subst (λ (ls : List (List ℕ)). IfErr r
    (λ fault. Fails fault (read_from (line_read (Some (map (λ l. l.now) c.as_slice-in-Ok-split_lines-2.result.now))) End 1 (lines_wanted last ds) ls))) lines c.read_places-in-Ok-split_lines.ensures.err))
