-- A text within a page stays in its place, and reads back.
use Rattle.std.proofs.Common.{◌≡◌, ◌∙◌, ℕ, ◌+◌, ◌*◌, ◌/◌, ◌%◌, ◌<◌, ◌==◌, ◌&&◌, Bool, true, false, List, [], ◌∷◌, ◌++◌, ap, arith, refl, if◌then◌else◌}
use Rattle.std.specs.Prelude.{All, IsTrue, nat_lt}
use Rattle.std.specs.Char.{digit_char, digit_value}
use Rattle.std.specs.List.{list_all}
use Rattle.std.proofs.lemmas.Bool.Decides.{nat_tests}
use Rattle.std.proofs.lemmas.List.Elements.{All-head, All-tail}
use Rattle.std.proofs.lemmas.List.Folds.{list_all-append}
use Rattle.std.proofs.lemmas.Str.{digit_value-digit_char}
use Rattle.btools.specs.Characters.{is_printable}
use Rattle.btools.specs.Quoting.{coded}
use Rattle.bshow.specs.Escapes.{StaysInPlace, escape, escaped, is_mark, is_safe, unescaped, unescaped_after}

abbrev choose : Bool → Bool → ℕ → List ℕ
choose m p b = if m then coded b else (if p then b ∷ [] else coded b)

read_coded : (b : ℕ) (rest : List ℕ) → b < 256 → unescaped_after [] (coded b ++ rest) ≡ b ∷ unescaped_after [] rest
read_coded b rest lt =
    let high : digit_value (digit_char (b / 16)) ≡ b / 16 = digit_value-digit_char (b / 16) (omega (arith, lt)) in
    let low : digit_value (digit_char (b % 16)) ≡ b % 16 = digit_value-digit_char (b % 16) (omega (arith, lt)) in
    let whole : 16 * (b / 16) + b % 16 ≡ b = omega arith in
    ap (λ n. n ∷ unescaped_after [] rest) ((λ i. 16 * high i + low i) ∙ whole)

read_plain : (b : ℕ) (rest : List ℕ) → (b == 92) ≡ false → unescaped_after [] ((b ∷ []) ++ rest) ≡ b ∷ unescaped_after [] rest
read_plain b rest other = ap (λ t. if t then unescaped_after (b ∷ []) rest else b ∷ unescaped_after [] rest) other

read_one : (b : ℕ) (rest : List ℕ) → b < 256 → (m : Bool) → is_mark b ≡ m → (p : Bool) → unescaped_after [] (choose m p b ++ rest) ≡ b ∷ unescaped_after [] rest
read_one b rest lt true is p = read_coded b rest lt
read_one b rest lt false is true = read_plain b rest (grind (arith, nat_tests))
read_one b rest lt false is false = read_coded b rest lt

reads_back : (bytes : List ℕ) → All (λ b. b < 256) bytes → unescaped (escaped bytes) ≡ bytes
reads_back [] all = refl
reads_back (b ∷ bs) all =
    read_one b (escaped bs) (All-head (λ b. b < 256) b bs all) (is_mark b) refl (is_printable b)
    ∙ ap (λ xs. b ∷ xs) (reads_back bs (All-tail (λ b. b < 256) b bs all))

safe_digit : (d : ℕ) → d < 16 → is_safe (digit_char d) ≡ true
safe_digit d lt = by_size (nat_lt d 10) refl
  where
    by_size : (small : Bool) → nat_lt d 10 ≡ small → is_safe (if small then 48 + d else 87 + d) ≡ true
    by_size true is = grind (arith, nat_tests)
    by_size false is = grind (arith, nat_tests)

safe_coded : (b : ℕ) → b < 256 → list_all is_safe (coded b) ≡ true
safe_coded b lt =
    (λ i. safe_digit (b / 16) (omega (arith, lt)) i && (safe_digit (b % 16) (omega (arith, lt)) i && true))

safe_one : (b : ℕ) → b < 256 → (m : Bool) → is_mark b ≡ m → (p : Bool) → is_printable b ≡ p → list_all is_safe (choose m p b) ≡ true
safe_one b lt true m p q = safe_coded b lt
safe_one b lt false m true q = plain m q
  where
    plain : is_mark b ≡ false → is_printable b ≡ true → list_all is_safe (b ∷ []) ≡ true
    plain m q = grind (arith, nat_tests)
safe_one b lt false m false q = safe_coded b lt

safe : (bytes : List ℕ) → All (λ b. b < 256) bytes → list_all is_safe (escaped bytes) ≡ true
safe [] all = refl
safe (b ∷ bs) all =
    list_all-append is_safe (escape b) (escaped bs)
    ∙ (λ i. safe_one b (All-head (λ b. b < 256) b bs all) (is_mark b) refl (is_printable b) refl i && safe bs (All-tail (λ b. b < 256) b bs all) i)

pub stays : StaysInPlace
stays = record { safe = λ bytes all. is_true (safe bytes all); reads_back = reads_back }
  where
    is_true : {b : Bool} → b ≡ true → IsTrue b
    is_true h = cc
