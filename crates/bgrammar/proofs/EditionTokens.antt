-- No token of a source of the first edition is one of the two new words.
use Rattle.std.proofs.Common.{◌≡◌, ℕ, zero, suc, Bool, true, false, ◌==◌, List, [], ◌∷◌, length, take, drop, map, codes, Option, Some, None, refl, if◌then◌else◌}
use Rattle.std.proofs.lemmas.Bool.{cond_both}
use Rattle.std.specs.Prelude.{nat_le, IfSome}
use Rattle.std.specs.List.{list_all}
use Rattle.std.specs.Option.{option_map, option_or}
use Rattle.std.proofs.lemmas.List.Elements.{All-from_recursion}
use Rattle.std.proofs.lemmas.Map.Entries.{All-lookup}
use Rattle.bword.specs.Words.{is_name_start, is_name_byte}
use Rattle.bword.specs.declared.operators.BinOp.{BinOp}
use Rattle.bword.specs.declared.edition.Edition.TheVariants as editions
use Rattle.blang.specs.declared.token.Keyword.{Keyword}
use Rattle.blang.specs.declared.token.Token.{Token}
use Rattle.blang.specs.declared.token.Token.TheVariants as token
use Rattle.blang.specs.declared.token.Placed.{Placed}
use Rattle.blang.specs.Cut.{Piece, Space, Word, Quoted, Closed, Past, is_blank, is_digit, is_digit_of, digits_value, base_of, is_text, alone, piece_when, first_keywords, keyword_of, keyword_or_name, word_token, number_when, number_in, number_token, after_close, comment_of, quoted, quoted_constant, character_token, string_token, operator_of, assignment_of, others, other_of, fixed_of, fixed_or_stray, whole, longest, line_number_after, is_last, piece_first, cut, tokens_from}
use Rattle.blang.specs.Trees.{bare}
use Rattle.bgrammar.specs.Editions.{is_new, AllOld, TokensOfOne}

abbrev IsOldToken : Token → Type 0
IsOldToken t = is_new t ≡ false

abbrev IsOldPiece : Option Piece → Type 0
IsOldPiece (Some (Word t)) = IsOldToken t
IsOldPiece _ = Unit {0}

abbrev IsOldKeyword : Keyword → Type 0
IsOldKeyword k = IsOldToken (token.Keyword k)

old_keyword_or_name : (text : List ℕ) (o : Option Keyword) → IfSome o IsOldKeyword → IsOldToken (keyword_or_name text o)
old_keyword_or_name text (Some k) h = h
old_keyword_or_name text None h = refl

old_keyword_of : (text : List ℕ) → IfSome (keyword_of editions.One text) IsOldKeyword
unfolding keyword_of
old_keyword_of text = All-lookup IsOldKeyword (is_text text) first_keywords (All-from_recursion (λ e. IsOldKeyword e.1) first_keywords (refl, (refl, (refl, (refl, (refl, (refl, (refl, (refl, (refl, tt))))))))))

old_word_of : (text : List ℕ) → IsOldToken (word_token editions.One text)
unfolding word_token
old_word_of text =
    cond_both (nat_le (length text) 8) _ _ IsOldToken (λ l. old_keyword_or_name text (keyword_of editions.One text) (old_keyword_of text)) (λ l. refl)

old_piece_when : (b : Bool) (t : Token) → IsOldToken t → IsOldPiece (piece_when b (Word t))
old_piece_when true t h = h
old_piece_when false t h = tt

old_number_when : (b : Bool) (n : ℕ) → IsOldToken (number_when b n)
old_number_when false n = refl
old_number_when true n = cond_both (nat_le n 65535) (token.Number n) _ IsOldToken (λ l. refl) (λ l. refl)

old_number_of : (digits : List ℕ) → IsOldToken (number_token digits)
unfolding number_in
old_number_of [] = refl
old_number_of (b ∷ bs) = old_number_when (list_all (is_digit_of (base_of b)) (b ∷ bs)) (digits_value (base_of b) (b ∷ bs))

old_constant_of : (constant : List ℕ → Token) (q : Quoted) → ((characters : List ℕ) → IsOldToken (constant characters)) → IsOldPiece (quoted_constant constant q)
old_constant_of constant (Closed characters) c = c characters
old_constant_of constant Past c = tt
old_constant_of constant _ c = refl

old_character_token : (characters : List ℕ) → IsOldToken (character_token characters)
old_character_token [] = refl
old_character_token (a ∷ []) = refl
old_character_token (a ∷ b ∷ []) = refl
old_character_token (a ∷ b ∷ c ∷ characters) = refl

old_operator : (o : Option BinOp) → IfSome (option_map token.Operator o) IsOldToken
old_operator None = tt
old_operator (Some op) = refl

old_assign : (o : Option BinOp) → IfSome (option_map (λ op. token.Assign (Some op)) o) IsOldToken
old_assign None = tt
old_assign (Some op) = refl

old_assignment_of : (text : List ℕ) → IfSome (assignment_of text) IsOldToken
old_assignment_of [] = tt
old_assignment_of (b ∷ bs) = cond_both (b == 61) _ None (λ o. IfSome o IsOldToken) (λ _. old_assign (operator_of bs)) (λ _. tt)

old_other_of : (text : List ℕ) → IfSome (other_of text) IsOldToken
unfolding other_of
old_other_of text = All-lookup IsOldToken (is_text text) others (All-from_recursion (λ e. IsOldToken e.1) others (refl, (refl, (refl, (refl, (refl, (refl, (refl, (refl, (refl, (refl, (refl, (refl, (refl, (refl, tt)))))))))))))))

old_option_or : (o p : Option Token) → IfSome o IsOldToken → IfSome p IsOldToken → IfSome (option_or o p) IsOldToken
old_option_or None p h k = k
old_option_or (Some t) p h k = h

old_fixed_of : (text : List ℕ) → IfSome (fixed_of text) IsOldToken
unfolding fixed_of
old_fixed_of text =
    old_option_or (option_map token.Operator (operator_of text)) (option_or (assignment_of text) (other_of text)) (old_operator (operator_of text))
    (old_option_or (assignment_of text) (other_of text) (old_assignment_of text) (old_other_of text))

old_stray : (bs : List ℕ) (t : Token) → IsOldToken t → IsOldPiece (alone (Word t) bs)
old_stray [] t h = h
old_stray (b ∷ bs) t h = tt

space_alone : (bs : List ℕ) → IsOldPiece (alone Space bs)
space_alone [] = tt
space_alone (b ∷ bs) = tt

old_fixed_or_stray : (o : Option Token) (bs : List ℕ) → IfSome o IsOldToken → IsOldPiece (fixed_or_stray o bs)
old_fixed_or_stray (Some t) bs h = h
old_fixed_or_stray None bs h = old_stray bs _ refl

old_comment_of : (o : Option (List ℕ)) → IsOldPiece (comment_of o)
old_comment_of None = refl
old_comment_of (Some []) = tt
old_comment_of (Some (b ∷ bs)) = tt

old_whole : (bytes : List ℕ) → IsOldPiece (whole editions.One bytes)
unfolding whole
old_whole [] = refl
old_whole (b ∷ bs) =
    cond_both (is_blank b) _ _ IsOldPiece (λ _. space_alone bs)
    (λ _. cond_both (is_name_start b) _ _ IsOldPiece (λ s. old_piece_when (list_all is_name_byte bs) (word_token editions.One (b ∷ bs)) (old_word_of (b ∷ bs)))
    (λ _. cond_both (is_digit b) _ _ IsOldPiece (λ _. old_piece_when (list_all is_digit bs) (number_token (b ∷ bs)) (old_number_of (b ∷ bs)))
    (λ _. cond_both (b == 39) _ _ IsOldPiece (λ _. old_constant_of character_token (quoted 39 2 bs) old_character_token)
    (λ _. cond_both (b == 34) _ _ IsOldPiece (λ _. old_constant_of string_token (quoted 34 254 bs) (λ characters. refl))
    (λ _. cond_both (is_text (take 2 (b ∷ bs)) (codes "/*")) _ _ IsOldPiece (λ _. old_comment_of (after_close (drop 1 bs)))
    (λ _. old_fixed_or_stray (fixed_of (b ∷ bs)) bs (old_fixed_of (b ∷ bs))))))))

abbrev AreOld : List Placed → Type 0
AreOld tokens = AllOld (map bare tokens)

old_rest : (b : Bool) (rest : List Placed) → AreOld rest → AreOld (if b then [] else rest)
old_rest true rest h = tt
old_rest false rest h = h

old_piece_first : (o : Option Piece) (line : ℕ) (rest : List Placed) → IsOldPiece o → AreOld rest → AreOld (piece_first o line rest)
old_piece_first None line rest h k = (refl, tt)
old_piece_first (Some Space) line rest h k = k
old_piece_first (Some (Word t)) line rest h k = (h, old_rest (is_last t) rest k)

old_cut : (fuel line : ℕ) (bytes : List ℕ) → AreOld (cut editions.One fuel line bytes)
unfolding cut
old_cut zero line bytes = (refl, tt)
old_cut (suc fuel) line [] = (refl, tt)
old_cut (suc fuel) line (b ∷ bs) =
    let n = longest editions.One (b ∷ bs) in
    let text = take n (b ∷ bs) in
    old_piece_first (whole editions.One text) line _ (old_whole text) (old_cut fuel (line_number_after line text) (drop n (b ∷ bs)))

pub tokens_of_one : TokensOfOne
unfolding tokens_from
tokens_of_one line bytes = old_cut (length bytes) line bytes
