use Rattle.std.proofs.Common.{◌∙◌, ◌+◌, ◌-◌, ℕ, suc, List, [], ap, arith, drop, get_or, length, sym}
use Rattle.std.proofs.lemmas.List.{length-drop, take_all}
use Rattle.btools.specs.SourceLines.{source_lines}
use Rattle.bcount.proofs.Splits.{line_alone, line_found, none_after}
use Rattle.bcount.proofs.source.split_line.Goals as goal

pub returns-in-Some-clause-line : goal.returns-in-Some-clause-line
returns-in-Some-clause-line c =
    ap (λ (ls : List (List ℕ)). get_or ls 0 []) (sym (line_found c.args.source.now c.in-Some.end (sym c.newline_in.ensures.value ∙ c.in-Some.is)))

pub returns-in-Some-clause-after : goal.returns-in-Some-clause-after
returns-in-Some-clause-after c =
    let s = c.args.source.now in
    let end = c.in-Some.end in
    let rest = drop (end + 1) s in
    λ k. ap (λ (ls : List (List ℕ)). get_or ls (suc k) []) (line_found s end (sym c.newline_in.ensures.value ∙ c.in-Some.is))
    ∙ ap (λ (t : List ℕ). get_or (source_lines t) k []) (sym (take_all (length s - (end + 1)) rest (omega (arith, length-drop (end + 1) s))))

pub returns-in-None-clause-line : goal.returns-in-None-clause-line
returns-in-None-clause-line c =
    ap (λ (ls : List (List ℕ)). get_or ls 0 []) (sym (line_alone c.args.source.now (sym c.newline_in.ensures.value ∙ c.in-None.is)))

pub returns-in-None-clause-after : goal.returns-in-None-clause-after
returns-in-None-clause-after c = λ k.
    ap (λ (ls : List (List ℕ)). get_or ls (suc k) []) (line_alone c.args.source.now (sym c.newline_in.ensures.value ∙ c.in-None.is))
    ∙ none_after c.args.source.now k
