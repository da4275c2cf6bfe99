use Rattle.std.proofs.Common.{◌≡◌, ◌∙◌, ◌+◌, ◌-◌, ◌<◌, ◌≤◌, ℕ, ap, arith, drop, get_or, List, ◌∷◌, Some, nat_lt, sym}
use Rattle.std.proofs.lemmas.Bool.{cond-false, cond-true, le-ltb, lt-ltb}
use Rattle.std.proofs.lemmas.List.{drop_all, drop_more}
use Rattle.bwhere.specs.Dues.{due_among, number_in, part_at}
use Rattle.bwhere.specs.declared.due.Item.TheVariants as item
use Rattle.bwhere.specs.declared.due.ItemRow.{ItemRow}
use Rattle.bwhere.proofs.due.due_among.Goals as goal

abbrev count_of : List ℕ → ItemRow → ℕ
count_of first r = number_in (part_at first r.part)

abbrev no_row : ItemRow
no_row = record { item = item.Target; part = 0 }

-- The line is of the next row, or of a later one.
here : (first : List ℕ) (r : ItemRow) (rows : List ItemRow) (left : ℕ) → left < count_of first r
    → due_among first (r ∷ rows) left ≡ Some (record { item = r.item; number = left + 1; count = count_of first r })
here first r rows left lt = cond-true (nat_lt left (count_of first r)) _ _ (lt-ltb left (count_of first r) lt)

further : (first : List ℕ) (r : ItemRow) (rows : List ItemRow) (left : ℕ) → count_of first r ≤ left
    → due_among first (r ∷ rows) left ≡ due_among first rows (left - count_of first r)
further first r rows left le = cond-false (nat_lt left (count_of first r)) _ _ (le-ltb left (count_of first r) le)

pub returns-then-left-count : goal.returns-then-left-count
returns-then-left-count c =
    let first = c.args.first.now in
    let rows = c.args.rows.now in
    let i = c.loop-row.row-index in
    let left = c.loop-row.left in
    let r = get_or rows i no_row in
    let is : c.number_in-count.result ≡ count_of first r = c.number_in-count.ensures ∙ ap number_in c.part_at.ensures in
    ap (λ (n : ℕ). Some (record { item = r.item; number = left + 1; count = n })) is
    ∙ sym (here first r (drop (i + 1) rows) left (omega (arith, is, c.if-left-count.true)))
    ∙ ap (λ rs. due_among first rs left) (sym (drop_more rows i no_row c.loop-row-test.true)) ∙ c.loop-row.invariant

pub loop-row-preserved : goal.loop-row-preserved
loop-row-preserved c =
    let first = c.args.first.now in
    let rows = c.args.rows.now in
    let i = c.loop-row.row-index in
    let left = c.loop-row.left in
    let r = get_or rows i no_row in
    let is : c.number_in-count.result ≡ count_of first r = c.number_in-count.ensures ∙ ap number_in c.part_at.ensures in
    ap (λ (n : ℕ). due_among first (drop (i + 1) rows) (left - n)) is
    ∙ sym (further first r (drop (i + 1) rows) left (omega (arith, is, c.if-left-count.false)))
    ∙ ap (λ rs. due_among first rs left) (sym (drop_more rows i no_row c.loop-row-test.true)) ∙ c.loop-row.invariant

pub returns : goal.returns
returns c =
    sym (ap (λ rs. due_among c.args.first.now rs c.loop-row.left) (drop_all c.loop-row.row-index c.args.rows.now c.loop-row-test.false))
    ∙ c.loop-row.invariant
