-- What is held where an answer is told is the token after it, so of a source that goes on not all is taken.
use Rattle.std.proofs.Common.{◌≡◌, ℕ, zero, suc, ◌+◌, ◌-◌, ◌<◌, ◌≤◌, Bool, true, false, List, [], ◌∷◌, ◌++◌, length, map, take, drop, Option, Some, None, refl, sym, ap, ◌∙◌, subst, append-nil, length-append, arith, if◌then◌else◌}
use Rattle.std.proofs.lemmas.List.{map-append, take-append-le, take-append-drop}
use Rattle.std.proofs.Math.Seq.{take-append_seam}
use Rattle.bword.specs.declared.edition.Edition.{Edition}
use Rattle.bword.specs.declared.edition.Edition.TheVariants as editions
use Rattle.blang.specs.Endings.{EndsWith}
use Rattle.blang.specs.Cut.{Piece, Space, Word, whole, is_last, longest, line_number_after, placed, token_first, piece_first, cut, tokens_from}
use Rattle.blang.specs.declared.token.Token.{Token}
use Rattle.blang.specs.declared.token.Token.TheVariants as token
use Rattle.blang.specs.declared.token.Placed.{Placed}
use Rattle.blang.specs.Compiles.{TakenUpTo}
use Rattle.blang.specs.Trees.{Definition, Simple, bare}
use Rattle.blang.specs.Walk.{spell_all}
use Rattle.blang.specs.WellFormed.{AllFormed}
use Rattle.bgrammar.specs.DefinitionReader.{definition}
use Rattle.bgrammar.specs.Reading.{Got}
use Rattle.bgrammar.proofs.ProgramLaws.{read_first}

-- how many tokens bytes have at most
first_short : (b : Bool) (p : Placed) (rest : List Placed) (n : ℕ) → length rest ≤ n → length (p ∷ (if b then [] else rest)) ≤ n + 1
first_short true p rest n h = omega arith
first_short false p rest n h = omega (arith, h)

piece_short : (p : Option Piece) (line : ℕ) (rest : List Placed) (n : ℕ) → length rest ≤ n → length (piece_first p line rest) ≤ n + 1
piece_short None line rest n h = omega arith
piece_short (Some Space) line rest n h = omega (arith, h)
piece_short (Some (Word t)) line rest n h = first_short (is_last t) (placed t line) rest n h

higher : (m fuel : ℕ) → m ≤ fuel + 1 + 1 → m ≤ suc fuel + 1
higher m fuel h = omega (arith, h)

cut_short : (edition : Edition) (fuel line : ℕ) (bytes : List ℕ) → length (cut edition fuel line bytes) ≤ fuel + 1
unfolding cut
cut_short edition zero line bytes = omega arith
cut_short edition (suc fuel) line [] = omega arith
cut_short edition (suc fuel) line (b ∷ bs) =
    let n = longest edition (b ∷ bs) in
    let text = take n (b ∷ bs) in
    higher _ fuel
    (piece_short (whole edition text) line (cut edition fuel (line_number_after line text) (drop n (b ∷ bs))) (fuel + 1)
    (cut_short edition fuel (line_number_after line text) (drop n (b ∷ bs))))

tokens_short : (edition : Edition) (line : ℕ) (bytes : List ℕ) → length (tokens_from edition line bytes) ≤ length bytes + 1
unfolding tokens_from
tokens_short edition line bytes = cut_short edition (length bytes) line bytes

-- the tokens of definitions without values, and others
abbrev pub plain : List (List ℕ) → List Token → List Token
plain [] rest = rest
plain (x ∷ names) rest = token.Name x ∷ token.Semicolon ∷ plain names rest

plain-append : (names : List (List ℕ)) (l r : List Token) → plain names l ++ r ≡ plain names (l ++ r)
plain-append [] l r = refl
plain-append (x ∷ names) l r = ap (λ ts. token.Name x ∷ token.Semicolon ∷ ts) (plain-append names l r)

-- A definition without values is read.
record ReadsSimple (l : List Placed) (rest : List Token) : Type 0 where
  pub tree : Definition
  pub after : List Placed
  pub read : definition l ≡ Got tree after
  pub rest_is : map bare after ≡ rest

simple_there : (x : List ℕ) (i j : ℕ) (m : List Placed) → definition (placed (token.Name x) i ∷ placed token.Semicolon j ∷ m) ≡ Got (Simple (record { text = x; line = i }) []) m
simple_there x i j m = refl

simple_read : (l : List Placed) (x : List ℕ) (rest : List Token) → map bare l ≡ token.Name x ∷ token.Semicolon ∷ rest → ReadsSimple l rest
simple_read [] x rest e = cc
simple_read (p ∷ []) x rest e = cc
simple_read (p ∷ q ∷ m) x rest e =
    let a : p.token ≡ token.Name x = cc in
    let b : q.token ≡ token.Semicolon = cc in
    let c : map bare m ≡ rest = cc in
    record {
      tree = Simple (record { text = x; line = p.line }) [];
      after = m;
      read = ap (λ t. definition (placed t p.line ∷ q ∷ m)) a ∙ ap (λ t. definition (placed (token.Name x) p.line ∷ placed t q.line ∷ m)) b ∙ simple_there x p.line q.line m;
      rest_is = c;
    }

-- definitions with these tokens are more than the names
more_than : (names : List (List ℕ)) (t : Token) (rest : List Token) (ds : List Definition) → AllFormed ds → map bare (spell_all ds) ≡ plain names (t ∷ rest) → length names < length ds
more_than [] t rest [] f e = cc
more_than [] t rest (d ∷ ds) f e = omega arith
more_than (x ∷ names) t rest [] f e = cc
more_than (x ∷ names) t rest (d ∷ ds) f e =
    let s = simple_read (spell_all (d ∷ ds)) x (plain names (t ∷ rest)) e in
    let same : Got s.tree s.after ≡ Got d (spell_all ds) = sym s.read ∙ read_first d ds f in
    let later : s.after ≡ spell_all ds = cc in
    let more = more_than names t rest ds f.1 (ap (map bare) (sym later) ∙ s.rest_is) in
    omega (arith, more)

abbrev pub is_word : Option Piece → Bool
is_word (Some (Word t)) = true
is_word _ = false

-- whether bytes end with the text of no token, but for the end
abbrev pub no_words : List ℕ → Bool
no_words [] = true
no_words (b ∷ bs) = if is_word (whole editions.One (b ∷ bs)) then false else no_words bs

end_alone : (t : Token) → whole editions.One [] ≡ Some (Word t) → t ≡ token.End
unfolding whole
end_alone t e = cc

none_after : (b : Bool) (bs : List ℕ) → (if b then false else no_words bs) ≡ true → no_words bs ≡ true
none_after true bs e = cc
none_after false bs e = e

no_word_there : (before text : List ℕ) (t : Token) → no_words (before ++ text) ≡ true → whole editions.One text ≡ Some (Word t) → t ≡ token.End
no_word_there [] [] t n e = end_alone t e
no_word_there [] (b ∷ bs) t n e =
    let no : false ≡ true = sym (ap (λ o. if is_word o then false else no_words bs) e) ∙ n in
    cc
no_word_there (b ∷ before) text t n e = no_word_there before text t (none_after (is_word (whole editions.One (b ∷ before ++ text))) (before ++ text) n) e

module _ (edition : Edition) (taken more source : List ℕ) (count : ℕ) (u : TakenUpTo edition taken more count) (all : taken ++ more ≡ source) (none : more ≡ []) where
  -- all tokens but four at most stand before the one that is held
  most_before : length (tokens_from edition 1 source) ≤ length u.before + 4
  most_before =
      let n = ap (λ bs. length (tokens_from edition 1 bs)) (sym all) ∙ ap length u.tokens ∙ length-append u.before (token_first u.held.token u.held.line (tokens_from edition u.line (u.ahead ++ more))) in
      let s = first_short (is_last u.held.token) (placed u.held.token u.held.line) (tokens_from edition u.line (u.ahead ++ more)) (length (u.ahead ++ more) + 1) (tokens_short edition u.line (u.ahead ++ more)) in
      let l : length (u.ahead ++ more) ≡ length u.ahead = ap (λ m. length (u.ahead ++ m)) none ∙ ap length (append-nil u.ahead) in
      omega (arith, n, s, l, u.few)

  begun_there : (names : List (List ℕ)) (t : Token) (k : ℕ) → map bare (take k (tokens_from edition 1 source)) ≡ plain names (t ∷ []) → k ≤ length u.before → length names < count
  begun_there names t k e enough =
      let others = map bare (drop k u.before) in
      let first = ap (λ bs. take k (tokens_from edition 1 bs)) (sym all) ∙ ap (take k) u.tokens ∙ take-append-le k u.before (token_first u.held.token u.held.line (tokens_from edition u.line (u.ahead ++ more))) enough in
      let begins : map bare u.before ≡ plain names (t ∷ others) =
      ap (map bare) (sym (take-append-drop k u.before)) ∙ map-append bare (take k u.before) (drop k u.before)
      ∙ ap (λ l. l ++ others) (ap (map bare) (sym first) ∙ e) ∙ plain-append names (t ∷ []) others in
      subst (λ n. length names < n) u.count_is
      (more_than names t (others ++ u.begun.more) u.begun.program.definitions u.begun.program.formed
      (u.begun.program.spelled ∙ ap (λ l. l ++ u.begun.more) begins ∙ plain-append names (t ∷ others) u.begun.more))

  pub more_begun : (names : List (List ℕ)) (t : Token) (k : ℕ) → map bare (take k (tokens_from edition 1 source)) ≡ plain names (t ∷ []) → k + 4 ≤ length (tokens_from edition 1 source) → length names < count
  more_begun names t k e long = begun_there names t k e (let m = most_before in omega (arith, m, long))

  -- what was looked at is the source without its last bytes, of which there are few
  looked_is : u.looked ≡ take (length source - length u.ahead) source
  looked_is =
      let e : u.looked ++ u.ahead ≡ source = sym u.split ∙ sym (append-nil taken) ∙ ap (λ l. taken ++ l) (sym none) ∙ all in
      let n : length u.looked ≡ length source - length u.ahead = omega (arith, ap length (sym e), length-append u.looked u.ahead) in
      sym (take-append_seam u.looked u.ahead) ∙ ap (take (length u.looked)) e ∙ ap (λ k. take k source) n

  module _ (first : edition ≡ editions.One) (spaced : (k : ℕ) → k ≤ 2 → no_words (take (length source - k) source) ≡ true) where
    ends_so : u.held.token ≡ token.End
    ends_so =
        let ends = subst (λ e. EndsWith e u.held.token u.looked) first u.ends in
        no_word_there ends.before ends.text u.held.token (ap no_words (sym ends.split ∙ looked_is) ∙ spaced (length u.ahead) u.few) ends.is

    pub all_begun : (names : List (List ℕ)) (t : Token) (k : ℕ) → map bare (take k (tokens_from edition 1 source)) ≡ plain names (t ∷ []) → k + 1 ≤ length (tokens_from edition 1 source) → length names < count
    all_begun names t k e long =
        let last : length (token_first u.held.token u.held.line (tokens_from edition u.line (u.ahead ++ more))) ≡ 1 = ap (λ t. length (token_first t u.held.line (tokens_from edition u.line (u.ahead ++ more)))) ends_so in
        let n = ap (λ bs. length (tokens_from edition 1 bs)) (sym all) ∙ ap length u.tokens ∙ length-append u.before (token_first u.held.token u.held.line (tokens_from edition u.line (u.ahead ++ more))) in
        begun_there names t k e (omega (arith, n, last, long))
