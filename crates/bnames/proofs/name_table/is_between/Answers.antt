use Rattle.std.proofs.Common.{◌≡◌, ◌+◌, ◌-◌, ◌<◌, ◌≤◌, ℕ, List, Bool, true, false, length, suc, Some, sym, ap, ◌∙◌, refl, subst, arith, get_or, nat_lt, nat_eq, IsTrue, ltb-true}
use Rattle.std.proofs.lemmas.Bool.Decides.{nat_tests}
use Rattle.std.proofs.lemmas.Option.{slice_get_read}
use Rattle.std.specs.Prelude.{slice_get}
use Rattle.std.specs.Global.{Vec}
use Rattle.std.specs.Ordering.{nat_cmp, is_gt, is_lt}
use Rattle.std.specs.Cmp.Lexicographic.{slice_cmp}
use Rattle.bnames.specs.declared.name_table.Entry.{Entry}
use Rattle.bnames.specs.NameTables.{BelongsAt, joined_entries}
use Rattle.bnames.proofs.NameTableFinds.{between, next_below, none_below, less_from_is_lt, greater_from_is_gt}
use Rattle.bnames.proofs.name_table.is_between.Goals as goal

-- what `get` has read
there : {X : Type 0} (xs : List X) (i : ℕ) (x : X) → true ≡ nat_lt i (length xs) → x ≡ get_or xs i x → slice_get xs i ≡ Some x
there xs i x within is = slice_get_read xs (length xs) i x refl (ltb-true i (length xs) (sym within)) is

-- the same of the entries of a piece
entry : (c : Vec Entry) (items : List Entry) (j : ℕ) (e : Entry) → items ≡ c.items → true ≡ nat_lt j (length items) → e ≡ get_or items j e → slice_get c.items j ≡ Some e
entry c items j e same within is = ap (λ (l : List Entry). slice_get l j) (sym same) ∙ there items j e within is

last_piece : (i n : ℕ) → IsTrue (nat_eq (i + 1) n) → i + 1 ≡ n
last_piece i n h = grind (arith, nat_tests)

pub returns-in-Some-get-2 : goal.returns-in-Some-get-2
returns-in-Some-get-2 c is =
    let ps = c.args.pieces.now in
    let i = c.args.gap.piece in
    let x = c.args.name.now in
    let piece = c.in-Some.piece.now in
    let at = there ps i piece c.in-Some.ensures.lookup.0 c.in-Some.ensures.lookup.1 in
    let last = c.in-Some-checked_sub.last in
    let s = c.in-Some-checked_sub.ensures in
    let next : suc last ≡ c.args.gap.place = (let some = s.0 in let less = s.1 in omega (arith, some, less)) in
    let before = c.in-Some-get.before.now in
    let g = entry piece c.deref.result.now last before c.deref.ensures.value c.in-Some-get.ensures.lookup.0 c.in-Some-get.ensures.lookup.1 in
    let above = greater_from_is_gt (slice_cmp nat_cmp x before.name) (ap is_gt (sym c.compare.ensures.order) ∙ sym c.is_gt.ensures ∙ c.if-not-is_gt.false) in
    let following = c.in-Some-get-2.following.now in
    let f = entry piece c.deref-2.result.now c.args.gap.place following c.deref-2.ensures.value c.in-Some-get-2.ensures.lookup.0 c.in-Some-get-2.ensures.lookup.1 in
    let below = less_from_is_lt (slice_cmp nat_cmp x following.name) (ap is_lt (sym c.compare-in-Some-get-2.ensures.order) ∙ sym c.is_lt.ensures ∙ is) in
    subst (λ n. BelongsAt ps x i n) next
    (between ps (length (joined_entries ps)) i last piece before x c.requires at g above
    (next_below ps i (suc last) piece following x at (ap (slice_get piece.items) next ∙ f) below))

pub returns-in-None : goal.returns-in-None
returns-in-None c is =
    let ps = c.args.pieces.now in
    let i = c.args.gap.piece in
    let x = c.args.name.now in
    let piece = c.in-Some.piece.now in
    let at = there ps i piece c.in-Some.ensures.lookup.0 c.in-Some.ensures.lookup.1 in
    let last = c.in-Some-checked_sub.last in
    let s = c.in-Some-checked_sub.ensures in
    let next : suc last ≡ c.args.gap.place = (let some = s.0 in let less = s.1 in omega (arith, some, less)) in
    let before = c.in-Some-get.before.now in
    let g = entry piece c.deref.result.now last before c.deref.ensures.value c.in-Some-get.ensures.lookup.0 c.in-Some-get.ensures.lookup.1 in
    let above = greater_from_is_gt (slice_cmp nat_cmp x before.name) (ap is_gt (sym c.compare.ensures.order) ∙ sym c.is_gt.ensures ∙ c.if-not-is_gt.false) in
    let end = c.in-None.ensures.lookup.3 in
    let short : length piece.items ≤ suc last = omega (arith, end, next, ap (λ (l : List Entry). length l) c.deref-2.ensures.value) in
    subst (λ n. BelongsAt ps x i n) next
    (between ps (length (joined_entries ps)) i last piece before x c.requires at g above (none_below ps i (suc last) piece x at short (last_piece i (length ps) is)))
