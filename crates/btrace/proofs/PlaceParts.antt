-- The places of a run, one after another.
use Rattle.std.proofs.Common.{◌≡◌, ◌∙◌, ℕ, zero, suc, ◌+◌, ◌<◌, ◌≤◌, Bool, true, false, None, Some, add-one, arith, List, [], ◌∷◌, ◌++◌, ap, append_assoc, codes, drop, length, map, min, nat_lt, sym, if◌then◌else◌}
use Rattle.std.specs.List.{flat_map, range_with_len}
use Rattle.btools.specs.Columns.{left}
use Rattle.btools.proofs.AddedTexts.{piece}
use Rattle.std.specs.Prelude.{option_map, slice_get}
use Rattle.std.proofs.lemmas.List.{flat_map_more}
use Rattle.std.proofs.lemmas.List.FromFn.{length-map-range_with_len, map-range_with_len_more}
use Rattle.blang.specs.Machine.{Call}
use Rattle.bmach.specs.Stops.{active_of}
use Rattle.bmach.specs.declared.machine.Active.{Active}
use Rattle.btools.specs.Characters.{signed_text}
use Rattle.btrace.specs.RowTexts.{Legend, caller_text, callers_text, count_before, ended_text, first_words, has_more, is_same_place, parameter_at, words_text}

-- the words of the first parameters, where so many are shown
pub words_shown : (old text new store : List ℕ) (call : Active) (count : ℕ) → count ≡ min call.parameters 6 → text ≡ (old ++ (if nat_lt 0 count then codes "  with" else [])) ++ flat_map (λ w. codes " " ++ signed_text w) (map (parameter_at store call) (range_with_len 0 count))
    → new ≡ text ++ (if has_more call then codes " .." else []) → new ≡ old ++ words_text (first_words store call) (has_more call)
words_shown old text new store call count is before end =
    let words = map (parameter_at store call) (range_with_len 0 count) in
    let with : List ℕ = if nat_lt 0 (length words) then codes "  with" else [] in
    let all : List ℕ = flat_map (λ w. codes " " ++ signed_text w) words in
    let dots : List ℕ = if has_more call then codes " .." else [] in
    let same : length words ≡ count = length-map-range_with_len (parameter_at store call) 0 count in
    end ∙ ap (λ x. x ++ dots) (before ∙ ap (λ n. (old ++ (if nat_lt 0 n then codes "  with" else [])) ++ all) (sym same) ∙ append_assoc old with all)
    ∙ append_assoc old (with ++ all) dots
    ∙ ap (λ n. old ++ words_text (map (parameter_at store call) (range_with_len 0 n)) (has_more call)) is

-- with the word of one parameter more
pub one_word : (start text t1 t2 store : List ℕ) (call : Active) (index word : ℕ) → word ≡ parameter_at store call index
    → text ≡ start ++ flat_map (λ w. codes " " ++ signed_text w) (map (parameter_at store call) (range_with_len 0 index)) → t1 ≡ text ++ codes " " → t2 ≡ t1 ++ signed_text word
    → t2 ≡ start ++ flat_map (λ w. codes " " ++ signed_text w) (map (parameter_at store call) (range_with_len 0 (index + 1)))
one_word start text t1 t2 store call index word is before e1 e2 =
    let f : ℕ → List ℕ = λ w. codes " " ++ signed_text w in
    let words = map (parameter_at store call) (range_with_len 0 index) in
    e2 ∙ ap (λ x. x ++ signed_text word) e1 ∙ append_assoc text (codes " ") (signed_text word) ∙ ap (λ x. x ++ f word) before
    ∙ flat_map_more f start words word ∙ ap (λ w. start ++ flat_map f (words ++ w ∷ [])) is
    ∙ ap (λ ws. start ++ flat_map f ws) (sym (map-range_with_len_more (parameter_at store call) 0 index index (omega arith)))

within_count : (again : Bool) (count : ℕ) → (if again then count else 0) ≤ count
within_count true count = omega arith
within_count false count = omega arith

pub before_within : (last : Active) (count : ℕ) (caller : Active) → count_before last count caller ≤ count
before_within last count caller = within_count (is_same_place last caller) count

-- one call more
pub one_more : (legend : Legend) (store all text t1 t2 : List ℕ) (last caller : Active) (count before : ℕ) (calls rest : List Active)
    → calls ≡ caller ∷ rest → all ≡ text ++ callers_text legend store last count calls → before ≡ count_before last count caller
    → t1 ≡ text ++ ended_text last count caller → t2 ≡ t1 ++ caller_text legend store caller before
    → all ≡ t2 ++ callers_text legend store caller (before + 1) rest
one_more legend store all text t1 t2 last caller count before calls rest is told counts e1 e2 =
    let shown : ℕ → List ℕ = caller_text legend store caller in
    let after : ℕ → List ℕ = λ n. callers_text legend store caller (n + 1) rest in
    let ended = ended_text last count caller in
    let n = count_before last count caller in
    told ∙ ap (λ cs. text ++ callers_text legend store last count cs) is
    ∙ sym (append_assoc text (ended ++ shown n) (after n)) ∙ ap (λ x. x ++ after n) (sym (append_assoc text ended (shown n)))
    ∙ ap (λ k. ((text ++ ended) ++ shown k) ++ after k) (sym counts)
    ∙ ap (λ x. (x ++ shown before) ++ after before) (sym e1) ∙ ap (λ x. x ++ after before) (sym e2)

-- the calls from here on, if the next one is known
next_drop : (below : List Call) (number : ℕ) (active : Active) → Some active ≡ option_map active_of (slice_get below number)
    → map active_of (drop number below) ≡ active ∷ map active_of (drop (suc number) below)
next_drop [] number active is = cc
next_drop (c ∷ below) zero active is = ap (λ a. a ∷ map active_of below) (sym (cc))
next_drop (c ∷ below) (suc number) active is = next_drop below number active is

pub next_caller : (below : List Call) (number : ℕ) (active : Active) → Some active ≡ option_map active_of (slice_get below number)
    → map active_of (drop number below) ≡ active ∷ map active_of (drop (number + 1) below)
next_caller below number active is =
    next_drop below number active is ∙ ap (λ n. active ∷ map active_of (drop n below)) (sym (add-one number))

pub some_caller : (below : List Call) (number : ℕ) → number < length below → None ≡ option_map active_of (slice_get below number) → ⊥
some_caller [] number within is = omega arith
some_caller (c ∷ below) zero within is = cc
some_caller (c ∷ below) (suc number) within is = some_caller below number (omega arith) is

-- the parts of a site, one after another
pub site_parts : (in_text at_text line_text old t1 t2 t3 t4 t5 t6 shown name place line : List ℕ) → t1 ≡ old ++ in_text → t2 ≡ t1 ++ left 8 shown → shown ≡ name → t3 ≡ t2 ++ at_text → t4 ≡ t3 ++ place → t5 ≡ t4 ++ line_text
    → t6 ≡ t5 ++ line → t6 ≡ old ++ (in_text ++ left 8 name ++ at_text ++ place ++ line_text ++ line)
site_parts in_text at_text line_text old t1 t2 t3 t4 t5 t6 shown name place line e1 e2 same e3 e4 e5 e6 =
    let p2 : t2 ≡ old ++ (in_text ++ left 8 name) = piece old t1 t2 in_text (left 8 shown) e1 e2 ∙ ap (λ x. old ++ (in_text ++ left 8 x)) same in
    let p3 = piece old t2 t3 (in_text ++ left 8 name) at_text p2 e3 in
    let p4 = piece old t3 t4 (in_text ++ left 8 name ++ at_text) place p3 e4 in
    let p5 = piece old t4 t5 (in_text ++ left 8 name ++ at_text ++ place) line_text p4 e5 in
    piece old t5 t6 (in_text ++ left 8 name ++ at_text ++ place ++ line_text) line p5 e6

-- a place with the line of the source after it, and what the outcome means
pub told_parts : (l s k m e : List ℕ) → (((l ++ s) ++ k) ++ m) ++ e ≡ l ++ (((s ++ k) ++ m) ++ e)
told_parts l s k m e = simp append_assoc
