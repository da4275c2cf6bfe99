-- Sentences with names in their places.
use Rattle.std.proofs.Common.{◌≡◌, ◌∙◌, ◌+◌, ◌==◌, ℕ, List, [], ◌∷◌, ◌++◌, Bool, true, false, IsTrue, if◌then◌else◌, ap, append-nil, append_assoc, arith, codes, drop, length, refl, subst, sym, take, ◌⊎◌, inl, inr, ⊎_elim}
use Rattle.std.specs.Prelude.{◌||◌, unwrap_or}
use Rattle.std.specs.Int.{is_in_range}
use Rattle.std.specs.List.{flat_map, list_all, list_any}
use Rattle.std.specs.Cmp.Lexicographic.{bytes_decides}
use Rattle.std.proofs.lemmas.Bool.Decides.{nat_tests}
use Rattle.std.proofs.lemmas.List.{take-append-drop}
use Rattle.std.proofs.lemmas.List.Concat.{flat_map-append}
use Rattle.bword.specs.Words.{same_name}
use Rattle.bcheck.specs.Checks.{is_on_line}
use Rattle.bcheck.specs.Findings.{IsOn, begins_name, is_sentence, is_with_name}
use Rattle.bcheck.specs.Pieces.{filled_byte}
use Rattle.bcheck.specs.UndefinedNames.{Tells, TellsName, beginnings, ends_name}
use Rattle.bcheck.specs.declared.finding.Finding.{Finding}
use Rattle.bcheck.specs.declared.mention.Subject.{Subject}
use Rattle.bcheck.specs.declared.mention.Subject.TheVariants as subject
use Rattle.bcheck.specs.declared.words.Given.{Given}
use Rattle.bcheck.proofs.OnLine.{both_on_line, first, one_on_line, second}

either : (a b : Bool) → IsTrue (a || b) → (IsTrue a) ⊎ (IsTrue b)
either true b h = inl refl
either false b h = inr h

module _ (g : Given) where
  abbrev fill : List ℕ → List ℕ
  fill s = flat_map (filled_byte g) s

  -- what is on one line stays so
  byte_filled : (b : ℕ) → IsTrue (is_on_line g.name.now) → IsTrue (is_on_line g.other.now) → IsTrue (is_on_line g.line.now) → IsTrue (is_in_range 32 126 b) → IsTrue (is_on_line (filled_byte g b))
  byte_filled b name other line h =
      elim (b == 64) as (λ t. IsTrue (is_on_line (if t then g.name.now else (if b == 35 then g.other.now else (if b == 37 then g.line.now else b ∷ []))))) [
        | true ↦ name
        | false ↦
            elim (b == 35) as (λ t. IsTrue (is_on_line (if t then g.other.now else (if b == 37 then g.line.now else b ∷ [])))) [
              | true ↦ other
              | false ↦ elim (b == 37) as (λ t. IsTrue (is_on_line (if t then g.line.now else b ∷ []))) [ true ↦ line | false ↦ one_on_line b h ]
            ]
      ]

  pub filled_on_line : (s : List ℕ) → IsTrue (is_on_line g.name.now) → IsTrue (is_on_line g.other.now) → IsTrue (is_on_line g.line.now) → IsTrue (is_on_line s) → IsTrue (is_on_line (fill s))
  filled_on_line [] name other line h = refl
  filled_on_line (b ∷ bs) name other line h =
      both_on_line (filled_byte g b) (fill bs) (byte_filled b name other line (first (is_in_range 32 126 b) _ h)) (filled_on_line bs name other line (second (is_in_range 32 126 b) _ h))

  -- a colon is none of the places
  colon_filled : (b : ℕ) (bs : List ℕ) → IsTrue (b == 58) → IsTrue (ends_name (fill (b ∷ bs)))
  colon_filled b bs h =
      let is : b ≡ 58 = grind (arith, nat_tests) in
      subst (λ c. IsTrue (ends_name (fill (c ∷ bs)))) (sym is) refl

  end_filled : (rest : List ℕ) → IsTrue (ends_name rest) → IsTrue (ends_name (fill rest))
  end_filled [] h = refl
  end_filled (b ∷ bs) h = colon_filled b bs h

  -- the name comes where `@` was
  names : (begin sentence : List ℕ) → IsTrue (list_any (same_name begin) beginnings) → ((rest : List ℕ) → fill (begin ++ 64 ∷ []) ++ rest ≡ begin ++ (g.name.now ++ rest)) → IsTrue (begins_name begin sentence) → TellsName g.name.now (fill sentence)
  names begin sentence known plain h =
      let n = length begin + 1 in
      let head : take n sentence ≡ begin ++ 64 ∷ [] = (bytes_decides (take n sentence) (begin ++ 64 ∷ [])).0 (first _ _ h) in
      let ends = second (same_name (take n sentence) (begin ++ 64 ∷ [])) _ h in
      let rest = drop n sentence in
      let split : sentence ≡ (begin ++ 64 ∷ []) ++ rest = sym (take-append-drop n sentence) ∙ ap (λ t. t ++ rest) head in
      record {
        begin = begin;
        rest = fill rest;
        known = known;
        ends = end_filled rest ends;
        is = ap fill split ∙ flat_map-append (filled_byte g) (begin ++ 64 ∷ []) rest ∙ plain (fill rest);
      }

  after_nothing : (rest : List ℕ) → fill (codes "nothing defines @") ++ rest ≡ codes "nothing defines " ++ (g.name.now ++ rest)
  after_nothing rest = ap (λ t. (codes "nothing defines " ++ t) ++ rest) (append-nil g.name.now) ∙ append_assoc (codes "nothing defines ") g.name.now rest

  after_there : (rest : List ℕ) → fill (codes "there is no @") ++ rest ≡ codes "there is no " ++ (g.name.now ++ rest)
  after_there rest = ap (λ t. (codes "there is no " ++ t) ++ rest) (append-nil g.name.now) ∙ append_assoc (codes "there is no ") g.name.now rest

  after_operator : (rest : List ℕ) → fill (codes "there is no operator @") ++ rest ≡ codes "there is no operator " ++ (g.name.now ++ rest)
  after_operator rest = ap (λ t. (codes "there is no operator " ++ t) ++ rest) (append-nil g.name.now) ∙ append_assoc (codes "there is no operator ") g.name.now rest

  pub name_filled : (sentence : List ℕ) → IsTrue (is_with_name sentence) → TellsName g.name.now (fill sentence)
  name_filled sentence h =
      ⊎_elim (names (codes "nothing defines ") sentence refl after_nothing)
      (λ more. ⊎_elim (names (codes "there is no ") sentence refl after_there)
      (λ last. ⊎_elim (names (codes "there is no operator ") sentence refl after_operator) (λ none. cc) (either (begins_name (codes "there is no operator ") sentence) _ last))
      (either (begins_name (codes "there is no ") sentence) _ more))
      (either (begins_name (codes "nothing defines ") sentence) _ h)

  types_filled : (sentence : List ℕ) → IsTrue (same_name sentence (codes "there are no types: the name before @ is defined")) → Tells (subject.Typed g.name.now) (fill sentence)
  types_filled sentence h = ap fill ((bytes_decides sentence (codes "there are no types: the name before @ is defined")).0 h)

  -- a sentence tells what its finding is on
  pub subject_filled : (f : Finding) (sentence : List ℕ) (s : Subject) → g.name.now ≡ unwrap_or f.name (codes "@") → IsTrue (is_sentence f.matter sentence) → IsOn s f → Tells s (fill sentence)
  subject_filled f sentence (subject.Name x) name is on =
      subst (λ y. TellsName y (fill sentence)) (name ∙ ap (λ o. unwrap_or o (codes "@")) on.1) (name_filled sentence (subst (λ m. IsTrue (is_sentence m sentence)) on.2 is))
  subject_filled f sentence (subject.Word x) name is on =
      subst (λ y. TellsName y (fill sentence)) (name ∙ ap (λ o. unwrap_or o (codes "@")) on.1) (name_filled sentence (subst (λ m. IsTrue (is_sentence m sentence)) on.2 is))
  subject_filled f sentence (subject.Typed x) name is on =
      subst (λ y. Tells (subject.Typed y) (fill sentence)) (name ∙ ap (λ o. unwrap_or o (codes "@")) on.0) (types_filled sentence (subst (λ m. IsTrue (is_sentence m sentence)) on.1 is))

pub all_three : (a b c : List ℕ) → IsTrue (is_on_line a) → IsTrue (is_on_line b) → IsTrue (is_on_line c) → IsTrue (list_all is_on_line (a ∷ b ∷ c ∷ []))
all_three a b c g h i = rw (g, h, i) refl
