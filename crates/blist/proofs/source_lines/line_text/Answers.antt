use Rattle.std.proofs.Common.{◌≡◌, ◌∙◌, ◌-◌, ◌≤◌, false, zero, suc, List, ℕ, [], ap, arith, drop, get_or, length, map, nat_lt, refl, sym}
use Rattle.std.proofs.lemmas.Bool.Decides.{nat_tests}
use Rattle.std.proofs.lemmas.List.{get_or-map, get_or_past, length-map}
use Rattle.std.specs.Borrow.{Bor}
use Rattle.std.specs.Char.{is_ascii_whitespace}
use Rattle.std.specs.List.{prefix_len}
use Rattle.std.proofs.lemmas.Str.Ascii.{trim_ascii_is}
use Rattle.btools.specs.SourceLines.{trimmed}
use Rattle.blist.specs.ListingTexts.{line_text}
use Rattle.blist.proofs.source_lines.line_text.Goals as goal

abbrev shown : List ℕ → List ℕ
shown line = trimmed (drop (prefix_len is_ascii_whitespace line) line)

-- a number that isn't 0 is that of the line after so many
line_after : (texts : List (List ℕ)) (number : ℕ) → (number ≡ 0 → ⊥) → shown (get_or texts (number - 1) []) ≡ line_text texts number
line_after texts zero some = absurd (some refl)
line_after texts (suc n) some = let e : suc n - 1 ≡ n = omega arith in ap (λ k. shown (get_or texts k [])) e

not_less : (a b : ℕ) → false ≡ nat_lt a b → b ≤ a
not_less a b h = grind (arith, nat_tests)

pub returns-in-Some : goal.returns-in-Some
returns-in-Some c =
    let texts = map (λ (t : Bor (List ℕ)). t.now) c.args.lines.now in
    let found = c.in-Some.ensures.lookup.3 in
    let number = c.args.number - 1 in
    let line : c.in-Some.line.now.now ≡ get_or texts number [] =
    ap (λ (t : Bor (List ℕ)). t.now) (found.1 c.in-Some.line.now) ∙ sym (get_or-map (λ (t : Bor (List ℕ)). t.now) c.args.lines.now number c.in-Some.line.now [] found.0) in
    trim_ascii_is c.in-Some.line.now.now c.trim_ascii.result.now _ (λ j. drop (prefix_len is_ascii_whitespace c.in-Some.line.now.now) c.in-Some.line.now.now) c.trim_ascii.ensures.value
    ∙ ap shown line ∙ line_after texts c.args.number c.if-number-eq0.false

pub returns-in-None : goal.returns-in-None
returns-in-None c =
    let texts = map (λ (t : Bor (List ℕ)). t.now) c.args.lines.now in
    let number = c.args.number - 1 in
    let past = not_less number (length c.args.lines.now) c.in-None.ensures.lookup.0 in
    let none = get_or_past texts number [] (omega (arith, past, length-map c.args.lines.now (λ (t : Bor (List ℕ)). t.now))) in
    sym (ap shown none) ∙ line_after texts c.args.number c.if-number-eq0.false
