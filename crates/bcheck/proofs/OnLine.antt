-- Words on one line.
use Rattle.std.proofs.Common.{◌≡◌, ◌<◌, ◌/◌, ◌%◌, ◌==◌, List, [], ℕ, zero, suc, ◌∷◌, ◌++◌, Bool, true, false, IsTrue, if◌then◌else◌, arith, decimal, length, nat_le, refl, sym, subst}
use Rattle.std.specs.Fmt.{digits, digits_onto, digit_glyph}
use Rattle.std.proofs.Math.Nat.{mod-lt}
use Rattle.std.specs.Prelude.{◌&&◌}
use Rattle.std.specs.Int.{is_in_range}
use Rattle.std.specs.List.{flat_map, list_all}
use Rattle.std.proofs.lemmas.Bool.Decides.{nat_tests}
use Rattle.std.proofs.lemmas.List.Folds.{list_all-append}
use Rattle.bword.specs.Words.{is_name, is_name_byte, is_name_start}
use Rattle.bcheck.specs.Checks.{is_on_line, shown_byte, shown_text}

pub both : (a b : Bool) → IsTrue a → IsTrue b → IsTrue (a && b)
both a b g h = rw (g, h) refl

pub first : (a b : Bool) → IsTrue (a && b) → IsTrue a
first true b h = refl
first false b h = h

pub second : (a b : Bool) → IsTrue (a && b) → IsTrue b
second true b h = h
second false b h = cc

pub both_on_line : (a b : List ℕ) → IsTrue (is_on_line a) → IsTrue (is_on_line b) → IsTrue (is_on_line (a ++ b))
both_on_line a b g h = subst IsTrue (sym (list_all-append (is_in_range 32 126) a b)) (both _ _ g h)

name_byte : (b : ℕ) → IsTrue (is_name_byte b) → IsTrue (is_in_range 32 126 b)
name_byte b h = grind (arith, nat_tests)

name_bytes : (bs : List ℕ) → IsTrue (list_all is_name_byte bs) → IsTrue (is_on_line bs)
name_bytes [] h = refl
name_bytes (b ∷ bs) h = both _ _ (name_byte b (first _ _ h)) (name_bytes bs (second (is_name_byte b) _ h))

name_start : (b : ℕ) → IsTrue (is_name_start b) → IsTrue (is_name_byte b)
name_start b h = grind (arith, nat_tests)

pub name_on_line : (name : List ℕ) → IsTrue (is_name name) → IsTrue (is_on_line name)
name_on_line [] h = cc
name_on_line (b ∷ bs) h =
    both _ _ (name_byte b (name_start b (first (is_name_start b) _ h))) (name_bytes bs (second (nat_le (length bs) 7) _ (second (is_name_start b) _ h)))

pub words_on_line : (old words new : List ℕ) → IsTrue (is_on_line old) → IsTrue (is_on_line words) → new ≡ old ++ words → IsTrue (is_on_line new)
words_on_line old words new g h e = subst (λ t. IsTrue (is_on_line t)) (sym e) (both_on_line old words g h)

pub one_on_line : (b : ℕ) → IsTrue (is_in_range 32 126 b) → IsTrue (is_on_line (b ∷ []))
one_on_line b h = both _ _ h refl

shown : (b : ℕ) → IsTrue (is_in_range 32 126 (shown_byte b))
shown b = grind (arith, nat_tests)

pub shown_on_line : (bs : List ℕ) → IsTrue (is_on_line (flat_map shown_text bs))
shown_on_line [] = refl
shown_on_line (b ∷ bs) = both _ _ (shown b) (shown_on_line bs)

-- each of three
pub of_three : (a b c : List ℕ) → IsTrue (list_all is_on_line (a ∷ b ∷ c ∷ [])) → IsTrue (is_on_line a) × IsTrue (is_on_line b) × IsTrue (is_on_line c)
of_three a b c h =
    let rest = second (is_on_line a) _ h in
    (first (is_on_line a) _ h, first (is_on_line b) _ rest, first (is_on_line c) _ (second (is_on_line b) _ rest))

-- numbers
digit : (d : ℕ) → d < 10 → IsTrue (is_in_range 32 126 (digit_glyph false d))
digit d h = grind (arith, nat_tests)

either : (b : Bool) (x y : List ℕ) → IsTrue (is_on_line x) → IsTrue (is_on_line y) → IsTrue (is_on_line (if b then x else y))
either true x y g h = g
either false x y g h = h

digits_are : (k n : ℕ) (acc : List ℕ) → IsTrue (is_on_line acc) → IsTrue (is_on_line (digits_onto k 10 false n acc))
digits_are zero n acc h = h
digits_are (suc k) n acc h =
    let one = both _ _ (digit (n % 10) (mod-lt n (omega arith))) h in
    either (n / 10 == 0) (digit_glyph false (n % 10) ∷ acc) _ one (digits_are k (n / 10) (digit_glyph false (n % 10) ∷ acc) one)

pub digits_on_line : (n : ℕ) → IsTrue (is_on_line (decimal n))
unfolding digits
digits_on_line n = digits_are 64 n [] refl
