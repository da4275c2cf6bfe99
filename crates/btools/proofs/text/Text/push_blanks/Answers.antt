use Rattle.std.proofs.Common.{◌≡◌, ◌∙◌, ◌-◌, ◌≤◌, ℕ, List, ◌++◌, append-nil, append_assoc, ap, arith, replicate, sym, take}
use Rattle.std.proofs.lemmas.List.{replicate-append-replicate, take-replicate}
use Rattle.btools.specs.Columns.{blanks}
use Rattle.btools.specs.declared.text.TheConstants.{BLANKS}
use Rattle.btools.proofs.text.Text.push_blanks.Goals as goal

-- some of the blanks that are left
some_more : (text new all : List ℕ) (n left : ℕ) → n ≤ 48 → n ≤ left → new ≡ text ++ take n BLANKS.now → text ++ replicate left 32 ≡ all → new ++ replicate (left - n) 32 ≡ all
some_more text new all n left few le added before =
    ap (λ t. t ++ replicate (left - n) 32) (added ∙ ap (λ t. text ++ t) (ap (take n) blanks ∙ take-replicate n 48 32 few))
    ∙ append_assoc text (replicate n 32) (replicate (left - n) 32)
    ∙ ap (λ t. text ++ t) (replicate-append-replicate n (left - n) 32 ∙ ap (λ k. replicate k 32) (omega (arith, le)))
    ∙ before

pub loop-left-preserved : goal.loop-left-preserved
loop-left-preserved c =
    some_more c.loop-left.self _ _ c.min-next.result c.loop-left.left (omega (arith, c.min-next.ensures)) (omega (arith, c.min-next.ensures)) c.in_ok-push.ensures c.loop-left.invariant

pub returns : goal.returns
returns c =
    let none : 0 ≡ c.loop-left.left = omega (arith, c.loop-left-test.false) in
    sym (append-nil c.loop-left.self) ∙ ap (λ k. c.loop-left.self ++ replicate k 32) none ∙ c.loop-left.invariant
