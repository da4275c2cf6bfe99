-- The tokens of a source are within the ranges of their kinds.
use Rattle.std.proofs.Common.{◌≡◌, ℕ, zero, suc, ◌<◌, ◌≤◌, Bool, true, false, ◌==◌, List, [], ◌∷◌, length, take, drop, fold, codes, Option, Some, None, refl, arith, if◌then◌else◌}
use Rattle.std.proofs.lemmas.Bool.Decides.{nat_tests}
use Rattle.std.proofs.lemmas.Bool.{cond_both}
use Rattle.std.specs.Prelude.{nat_le, IfSome}
use Rattle.std.specs.List.{list_all}
use Rattle.std.specs.Option.{option_map, option_or}
use Rattle.std.proofs.lemmas.List.Elements.{All-from_recursion}
use Rattle.std.proofs.lemmas.Map.Entries.{All-lookup}
use Rattle.bword.specs.Words.{is_name, is_name_start, is_name_byte}
use Rattle.bword.specs.declared.edition.Edition.{Edition}
use Rattle.bword.specs.declared.operators.BinOp.{BinOp}
use Rattle.blang.specs.CodeParts.{IsWord}
use Rattle.blang.specs.declared.token.Keyword.{Keyword}
use Rattle.blang.specs.declared.token.Token.{Token}
use Rattle.blang.specs.declared.token.Token.TheVariants as token
use Rattle.blang.specs.declared.token.Placed.{Placed}
use Rattle.blang.specs.Cut.{Piece, Space, Word, Quoted, Open, Starred, Closed, is_blank, is_digit, is_digit_of, digits_value, is_text, alone, piece_when, keyword_of, keyword_or_name, word_token, number_when, number_in, number_token, after_close, comment_of, plain_of, escapes, escape_of, with_character, with_quoted_byte, quoted, quoted_constant, character_token, string_token, operator_of, assignment_of, others, other_of, fixed_of, fixed_or_stray, whole, longest, line_number_after, is_last, piece_first, cut, tokens_from}
use Rattle.bgrammar.proofs.Holds.{Holds, Holds-nil, Holds-cons, Holds-append}

abbrev pub IsByte : ℕ → Type 0
IsByte b = b < 256

abbrev pub IsSound : Token → Type 0
IsSound (token.Name text) = is_name text ≡ true
IsSound (token.Number n) = IsWord n
IsSound (token.Character n) = IsWord n
IsSound (token.String characters) = Holds IsByte characters.items
IsSound _ = Unit {0}

abbrev IsSoundPiece : Option Piece → Type 0
IsSoundPiece (Some (Word t)) = IsSound t
IsSoundPiece _ = Unit {0}

-- Words and numbers.
sound-keyword_or_name : (text : List ℕ) (o : Option Keyword) → is_name text ≡ true → IsSound (keyword_or_name text o)
sound-keyword_or_name text (Some k) h = tt
sound-keyword_or_name text None h = h

is_name_word : (b : ℕ) (bs : List ℕ) → is_name_start b ≡ true → list_all is_name_byte bs ≡ true → nat_le (length (b ∷ bs)) 8 ≡ true → is_name (b ∷ bs) ≡ true
is_name_word b bs s h l = let m : nat_le (length bs) 7 ≡ true = grind (arith, nat_tests) in rw (s, m, h) refl

sound-word_of : (edition : Edition) (b : ℕ) (bs : List ℕ) → is_name_start b ≡ true → list_all is_name_byte bs ≡ true → IsSound (word_token edition (b ∷ bs))
unfolding word_token
sound-word_of edition b bs s h =
    cond_both (nat_le (length (b ∷ bs)) 8) _ _ IsSound
    (λ l. sound-keyword_or_name (b ∷ bs) (keyword_of edition (b ∷ bs)) (is_name_word b bs s h l)) (λ l. tt)

sound-piece_when : (b : Bool) (t : Token) → (b ≡ true → IsSound t) → IsSoundPiece (piece_when b (Word t))
sound-piece_when true t h = h refl
sound-piece_when false t h = tt

sound-number_when : (b : Bool) (n : ℕ) → IsSound (number_when b n)
sound-number_when false n = tt
sound-number_when true n =
    cond_both (nat_le n 65535) (token.Number n) _ IsSound (λ l. let h : n ≤ 65535 = grind (arith, nat_tests) in omega arith) (λ l. tt)

sound-number_in : (base : ℕ) (digits : List ℕ) → IsSound (number_in base digits)
unfolding number_in
sound-number_in base digits = sound-number_when (list_all (is_digit_of base) digits) (digits_value base digits)

-- Constants in quotes.
abbrev IsSoundQuoted : Quoted → Type 0
IsSoundQuoted (Open characters) = Holds IsByte characters
IsSoundQuoted (Starred characters) = Holds IsByte characters
IsSoundQuoted (Closed characters) = Holds IsByte characters
IsSoundQuoted _ = Unit {0}

byte_plain_of : (b : ℕ) → IfSome (plain_of b) IsByte
byte_plain_of b =
    cond_both _ (Some b) None (λ o. IfSome o IsByte) (λ h. let l : b < 256 = grind (arith, nat_tests) in l) (λ h. tt)

byte_escape_of : (b : ℕ) → IfSome (escape_of b) IsByte
unfolding escape_of
byte_escape_of b = All-lookup IsByte (is_text (b ∷ [])) escapes (All-from_recursion (λ e. IsByte e.1) escapes (omega arith, (omega arith, (omega arith, (omega arith, (omega arith, (omega arith, (omega arith, (omega arith, (omega arith, tt))))))))))

sound-with_character : (characters : List ℕ) (o : Option ℕ) → Holds IsByte characters → IfSome o IsByte → IsSoundQuoted (with_character characters o)
sound-with_character characters None h k = tt
sound-with_character characters (Some b) h k = Holds-append h (Holds-cons k Holds-nil)

sound-with_byte : (quote room : ℕ) (q : Quoted) (b : ℕ) → IsSoundQuoted q → IsSoundQuoted (with_quoted_byte quote room q b)
unfolding with_quoted_byte
sound-with_byte quote room (Open characters) b h =
    cond_both (b == quote) _ _ IsSoundQuoted (λ _. h)
    (λ _. cond_both (length characters == room) _ _ IsSoundQuoted (λ _. tt)
    (λ _. cond_both (b == 42) _ _ IsSoundQuoted (λ _. h) (λ _. sound-with_character characters (plain_of b) h (byte_plain_of b))))
sound-with_byte quote room (Starred characters) b h = sound-with_character characters (escape_of b) h (byte_escape_of b)
sound-with_byte quote room _ b h = tt

sound-fold : (quote room : ℕ) (bytes : List ℕ) (q : Quoted) → IsSoundQuoted q → IsSoundQuoted (fold (with_quoted_byte quote room) q bytes)
sound-fold quote room [] q h = h
sound-fold quote room (b ∷ bytes) q h = sound-fold quote room bytes (with_quoted_byte quote room q b) (sound-with_byte quote room q b h)

sound-constant_of : (constant : List ℕ → Token) (q : Quoted) → ((characters : List ℕ) → Holds IsByte characters → IsSound (constant characters)) → IsSoundQuoted q → IsSoundPiece (quoted_constant constant q)
sound-constant_of constant (Closed characters) c h = c characters h
sound-constant_of constant _ c h = tt

sound-character_token : (characters : List ℕ) → Holds IsByte characters → IsSound (character_token characters)
sound-character_token [] h = tt
sound-character_token (a ∷ []) h = let l : a < 256 = h.each.0 in omega arith
sound-character_token (a ∷ b ∷ []) h = let l : a < 256 = h.each.0 in let m : b < 256 = h.each.1.0 in omega arith
sound-character_token (a ∷ b ∷ c ∷ characters) h = tt

sound-quoted : (quote room : ℕ) (bytes : List ℕ) → IsSoundQuoted (quoted quote room bytes)
sound-quoted quote room bytes = sound-fold quote room bytes (Open []) Holds-nil

-- Operators and the like, and comments.
sound-operator : (o : Option BinOp) → IfSome (option_map token.Operator o) IsSound
sound-operator None = tt
sound-operator (Some op) = tt

sound-assign : (o : Option BinOp) → IfSome (option_map (λ op. token.Assign (Some op)) o) IsSound
sound-assign None = tt
sound-assign (Some op) = tt

sound-assignment_of : (text : List ℕ) → IfSome (assignment_of text) IsSound
sound-assignment_of [] = tt
sound-assignment_of (b ∷ bs) = cond_both (b == 61) _ None (λ o. IfSome o IsSound) (λ _. sound-assign (operator_of bs)) (λ _. tt)

sound-other_of : (text : List ℕ) → IfSome (other_of text) IsSound
unfolding other_of
sound-other_of text = All-lookup IsSound (is_text text) others (All-from_recursion (λ e. IsSound e.1) others (tt, (tt, (tt, (tt, (tt, (tt, (tt, (tt, (tt, (tt, (tt, (tt, (tt, (tt, tt)))))))))))))))

sound-option_or : (o p : Option Token) → IfSome o IsSound → IfSome p IsSound → IfSome (option_or o p) IsSound
sound-option_or None p h k = k
sound-option_or (Some t) p h k = h

sound-fixed_of : (text : List ℕ) → IfSome (fixed_of text) IsSound
unfolding fixed_of
sound-fixed_of text =
    sound-option_or (option_map token.Operator (operator_of text)) (option_or (assignment_of text) (other_of text)) (sound-operator (operator_of text))
    (sound-option_or (assignment_of text) (other_of text) (sound-assignment_of text) (sound-other_of text))

sound-alone : (t : Token) (bs : List ℕ) → IsSound t → IsSoundPiece (alone (Word t) bs)
sound-alone t [] h = h
sound-alone t (b ∷ bs) h = tt

space-alone : (bs : List ℕ) → IsSoundPiece (alone Space bs)
space-alone [] = tt
space-alone (b ∷ bs) = tt

sound-fixed_or_stray : (o : Option Token) (bs : List ℕ) → IfSome o IsSound → IsSoundPiece (fixed_or_stray o bs)
sound-fixed_or_stray (Some t) bs h = h
sound-fixed_or_stray None bs h = sound-alone _ bs tt

sound-comment_of : (o : Option (List ℕ)) → IsSoundPiece (comment_of o)
sound-comment_of None = tt
sound-comment_of (Some []) = tt
sound-comment_of (Some (b ∷ bs)) = tt

sound-whole : (edition : Edition) (bytes : List ℕ) → IsSoundPiece (whole edition bytes)
unfolding whole
sound-whole edition [] = tt
sound-whole edition (b ∷ bs) =
    cond_both (is_blank b) _ _ IsSoundPiece (λ _. space-alone bs)
    (λ _. cond_both (is_name_start b) _ _ IsSoundPiece (λ s. sound-piece_when (list_all is_name_byte bs) (word_token edition (b ∷ bs)) (sound-word_of edition b bs s))
    (λ _. cond_both (is_digit b) _ _ IsSoundPiece (λ _. sound-piece_when (list_all is_digit bs) (number_token (b ∷ bs)) (λ _. sound-number_in _ (b ∷ bs)))
    (λ _. cond_both (b == 39) _ _ IsSoundPiece (λ _. sound-constant_of character_token (quoted 39 2 bs) sound-character_token (sound-quoted 39 2 bs))
    (λ _. cond_both (b == 34) _ _ IsSoundPiece (λ _. sound-constant_of string_token (quoted 34 254 bs) (λ characters h. h) (sound-quoted 34 254 bs))
    (λ _. cond_both (is_text (take 2 (b ∷ bs)) (codes "/*")) _ _ IsSoundPiece (λ _. sound-comment_of (after_close (drop 1 bs)))
    (λ _. sound-fixed_or_stray (fixed_of (b ∷ bs)) bs (sound-fixed_of (b ∷ bs))))))))

-- The cut.
abbrev pub AreSound : List Placed → Type 0
AreSound tokens = Holds (λ p. IsSound p.token) tokens

sound-rest : (b : Bool) (rest : List Placed) → AreSound rest → AreSound (if b then [] else rest)
sound-rest true rest h = Holds-nil
sound-rest false rest h = h

sound-piece_first : (o : Option Piece) (line : ℕ) (rest : List Placed) → IsSoundPiece o → AreSound rest → AreSound (piece_first o line rest)
sound-piece_first None line rest h k = Holds-cons tt Holds-nil
sound-piece_first (Some Space) line rest h k = k
sound-piece_first (Some (Word t)) line rest h k = Holds-cons h (sound-rest (is_last t) rest k)

sound-cut : (edition : Edition) (fuel line : ℕ) (bytes : List ℕ) → AreSound (cut edition fuel line bytes)
unfolding cut
sound-cut edition zero line bytes = Holds-cons tt Holds-nil
sound-cut edition (suc fuel) line [] = Holds-cons tt Holds-nil
sound-cut edition (suc fuel) line (b ∷ bs) =
    let n = longest edition (b ∷ bs) in
    let text = take n (b ∷ bs) in
    sound-piece_first (whole edition text) line _ (sound-whole edition text) (sound-cut edition fuel (line_number_after line text) (drop n (b ∷ bs)))

pub sound-tokens_from : (edition : Edition) (line : ℕ) (bytes : List ℕ) → AreSound (tokens_from edition line bytes)
unfolding tokens_from
sound-tokens_from edition line bytes = sound-cut edition (length bytes) line bytes
