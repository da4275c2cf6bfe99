-- The parts of a row, one after another.
use Rattle.std.proofs.Common.{true, false, ◌≡◌, ◌∙◌, ℕ, ◌+◌, ◌-◌, ◌<◌, List, [], ◌∷◌, ◌++◌, ap, append-nil, append_assoc, arith, codes, drop, get_or, length, nat_lt, refl, sym, take, ◌≤◌, if◌then◌else◌}
use Rattle.std.specs.List.{flat_map}
use Rattle.std.proofs.lemmas.Bool.Decides.{nat_tests}
use Rattle.std.proofs.lemmas.List.{length-drop, take_all, take_more}
use Rattle.std.proofs.lemmas.List.Concat.{flat_map-append}
use Rattle.btools.specs.Characters.{signed_text}
use Rattle.btrace.specs.RowTexts.{margin, operands_text, stored_text, word_row, written_byte, written_row}

-- the rows of one more word
pub one_stored : (store old text new changed : List ℕ) (address : ℕ) → text ≡ old ++ stored_text store changed → new ≡ text ++ word_row store address → new ≡ old ++ stored_text store (changed ++ address ∷ [])
one_stored store old text new changed address before row =
    row ∙ ap (λ x. x ++ word_row store address) before ∙ append_assoc old (stored_text store changed) (word_row store address)
    ∙ ap (λ x. old ++ x) (ap (λ x. stored_text store changed ++ x) (sym (append-nil (word_row store address))) ∙ sym (flat_map-append (word_row store) changed (address ∷ [])))

-- the row of bytes of which there are some
pub some_written : (bytes : List ℕ) → (bytes ≡ [] → ⊥) → written_row bytes ≡ margin ++ codes "writes '" ++ flat_map written_byte bytes ++ codes "'\n"
some_written [] some = absurd (some refl)
some_written (byte ∷ bytes) some = refl

-- the text of one more operand
pub one_operand : (start text t1 t2 items : List ℕ) (i : ℕ) → i < length items → text ≡ start ++ flat_map (λ w. codes " " ++ signed_text w) (take i items)
    → t1 ≡ text ++ codes " " → t2 ≡ t1 ++ signed_text (get_or items i 0) → t2 ≡ start ++ flat_map (λ w. codes " " ++ signed_text w) (take (i + 1) items)
one_operand start text t1 t2 items i lt before e1 e2 =
    let f : ℕ → List ℕ = λ w. codes " " ++ signed_text w in
    let word = get_or items i 0 in
    let more : flat_map f (take (i + 1) items) ≡ flat_map f (take i items) ++ f word =
    ap (flat_map f) (take_more items i 0 lt) ∙ flat_map-append f (take i items) (word ∷ []) ∙ ap (λ x. flat_map f (take i items) ++ x) (append-nil (f word)) in
    e2 ∙ ap (λ x. x ++ signed_text word) (e1 ∙ ap (λ x. x ++ codes " ") before) ∙ append_assoc (start ++ flat_map f (take i items)) (codes " ") (signed_text word)
    ∙ append_assoc start (flat_map f (take i items)) (f word) ∙ ap (λ x. start ++ x) (sym more)

pub dots_then : (n : ℕ) (x : List ℕ) → 0 < n → x ≡ codes " .." → x ≡ (if nat_lt 0 n then codes " .." else [])
dots_then n x lt e = let l : nat_lt 0 n ≡ true = grind (arith, nat_tests) in e ∙ ap (λ b. if b then codes " .." else []) (sym l)

pub dots_else : (n : ℕ) (x : List ℕ) → n ≤ 0 → x ≡ [] → x ≡ (if nat_lt 0 n then codes " .." else [])
dots_else n x le e = let l : nat_lt 0 n ≡ false = grind (arith, nat_tests) in e ∙ ap (λ b. if b then codes " .." else []) (sym l)

-- the texts of all operands that are shown
pub operands_end : (operands old text : List ℕ) (first i : ℕ) → first ≡ length operands - 5 → length (take (length operands - first) (drop first operands)) ≤ i
    → text ≡ (old ++ (if nat_lt 0 (length operands - 5) then codes " .." else [])) ++ flat_map (λ w. codes " " ++ signed_text w) (take i (take (length operands - first) (drop first operands)))
    → text ≡ old ++ operands_text operands
operands_end operands old text first i is le e =
    let items = take (length operands - first) (drop first operands) in
    let shown : take i items ≡ drop (length operands - 5) operands =
    take_all i items le ∙ take_all (length operands - first) (drop first operands) (omega (arith, length-drop first operands)) ∙ ap (λ n. drop n operands) is in
    e ∙ ap (λ ws. (old ++ (if nat_lt 0 (length operands - 5) then codes " .." else [])) ++ flat_map (λ w. codes " " ++ signed_text w) ws) shown
    ∙ append_assoc old (if nat_lt 0 (length operands - 5) then codes " .." else []) (flat_map (λ w. codes " " ++ signed_text w) (drop (length operands - 5) operands))

-- one byte more
pub one_byte : (start text new items : List ℕ) (i : ℕ) → i < length items → text ≡ start ++ flat_map written_byte (take i items) → new ≡ text ++ written_byte (get_or items i 0) → new ≡ start ++ flat_map written_byte (take (i + 1) items)
one_byte start text new items i lt before one =
    let more : flat_map written_byte (take (i + 1) items) ≡ flat_map written_byte (take i items) ++ written_byte (get_or items i 0) =
    ap (flat_map written_byte) (take_more items i 0 lt) ∙ flat_map-append written_byte (take i items) (get_or items i 0 ∷ [])
    ∙ ap (λ x. flat_map written_byte (take i items) ++ x) (append-nil (written_byte (get_or items i 0))) in
    one ∙ ap (λ x. x ++ written_byte (get_or items i 0)) before ∙ append_assoc start (flat_map written_byte (take i items)) (written_byte (get_or items i 0)) ∙ ap (λ x. start ++ x) (sym more)
