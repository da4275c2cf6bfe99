-- The lines of a file of names: what is written is read, and what is read is written so.
use Rattle.std.proofs.Common.{◌≡◌, ◌∙◌, ℕ, inl, inr, List, [], ◌∷◌, length, Option, Some, None, Bool, true, false}
use Rattle.std.proofs.Common.{cond, refl, sym, ap, subst}
use Rattle.std.specs.Prelude.{◌==◌, option_map, if◌then◌else◌}
use Rattle.std.proofs.lemmas.Bool.Decides.{eqb_tells}
use Rattle.bword.specs.Words.{is_name}
use Rattle.bauthor.specs.NameFiles.{name_read, names_wanted, suiting}
use Rattle.bauthor.specs.NameLines.{has_name, line_read, line_text, name_after, suits}
use Rattle.bauthor.specs.Written.{SuitsName, WrittenNamesAreRead}
use Rattle.bauthor.specs.declared.line.NameLine.{NameLine}
use Rattle.bauthor.specs.declared.line.NameLine.TheVariants as line
use Rattle.bauthor.specs.declared.fault.Wanted.{Wanted}
use Rattle.bauthor.specs.declared.fault.Wanted.TheVariants as wanted
use Rattle.bauthor.proofs.FileLaws.{not_empty, written_is_read}

name_again : (f : List ℕ → NameLine) (name : List ℕ) → is_name name ≡ true
    → option_map f (name_after (32 ∷ name)) ≡ Some (f name)
name_again f name ok = ap (λ b. option_map f (cond b (Some name) None)) ok

line_again : (l : NameLine) → has_name l ≡ true → line_read (line_text l) ≡ Some l
line_again (line.Function name) ok = name_again line.Function name ok
line_again (line.Word name) ok = name_again line.Word name ok
line_again line.More ok = refl
line_again (line.Label name) ok = name_again line.Label name ok

-- a line that was read
abbrev IsRead : (text : List ℕ) → NameLine → Type 0
IsRead text l = (has_name l ≡ true) × (text ≡ line_text l)

-- a name after a blank
abbrev HasName : (f : List ℕ → NameLine) → (rest : List ℕ) → NameLine → Type 0
HasName f rest l = (name : List ℕ) × (l ≡ f name) × (is_name name ≡ true) × (rest ≡ 32 ∷ name)

name_if : (f : List ℕ → NameLine) (b : ℕ) (name : List ℕ) (l : NameLine) (is_blank is : Bool) → b == 32 ≡ is_blank
    → is_name name ≡ is → option_map f (cond is_blank (cond is (Some name) None) None) ≡ Some l → HasName f (b ∷ name) l
name_if f b name l false is blank ok h = cc
name_if f b name l true false blank ok h = cc
name_if f b name l true true blank ok h =
    elim (eqb_tells b 32) [
      | inl same ↦ let made : f name ≡ l = cc in (name, sym made, ok, ap (λ x. x ∷ name) same.1)
      | inr other ↦ let clash : true ≡ false = sym blank ∙ other.0 in absurd cc
    ]

name_sound : (f : List ℕ → NameLine) (rest : List ℕ) (l : NameLine) → option_map f (name_after rest) ≡ Some l
    → HasName f rest l
name_sound f [] l h = cc
name_sound f (b ∷ name) l h = name_if f b name l (b == 32) (is_name name) refl refl h

function_sound : (rest : List ℕ) (l : NameLine) → option_map line.Function (name_after rest) ≡ Some l
    → IsRead (70 ∷ rest) l
function_sound rest l h = let r = name_sound line.Function rest l h in
    subst (IsRead (70 ∷ rest)) (sym r.1) (r.2, ap (λ t. 70 ∷ t) r.3)

word_sound : (rest : List ℕ) (l : NameLine) → option_map line.Word (name_after rest) ≡ Some l → IsRead (97 ∷ rest) l
word_sound rest l h = let r = name_sound line.Word rest l h in
    subst (IsRead (97 ∷ rest)) (sym r.1) (r.2, ap (λ t. 97 ∷ t) r.3)

label_sound : (rest : List ℕ) (l : NameLine) → option_map line.Label (name_after rest) ≡ Some l → IsRead (108 ∷ rest) l
label_sound rest l h = let r = name_sound line.Label rest l h in
    subst (IsRead (108 ∷ rest)) (sym r.1) (r.2, ap (λ t. 108 ∷ t) r.3)

more_sound : (rest : List ℕ) (l : NameLine) → (if length rest == 0 then Some line.More else None) ≡ Some l
    → IsRead (45 ∷ rest) l
more_sound [] l h = let is : line.More ≡ l = cc in subst (IsRead (45 ∷ [])) is (refl, refl)
more_sound (b ∷ rest) l h =
    let bad : None ≡ Some l = sym (ap (λ x. cond x (Some line.More) None) (not_empty b rest)) ∙ h in absurd cc

-- one letter after the other
abbrev FourLetters : (a b c d : Bool) → (rest : List ℕ) → Option NameLine
FourLetters a b c d rest =
    if a then option_map line.Function (name_after rest) else (
    if b then option_map line.Word (name_after rest) else (
    if c then option_map line.Label (name_after rest) else (
    if d then (if length rest == 0 then Some line.More else None) else None)))

is_letter : (letter wanted : ℕ) → letter == wanted ≡ true → letter ≡ wanted
is_letter letter wanted h =
    elim (eqb_tells letter wanted) [
      | inl same ↦ same.1
      | inr other ↦ let clash : true ≡ false = sym h ∙ other.0 in absurd cc
    ]

letters_sound : (letter : ℕ) (rest : List ℕ) (l : NameLine) (a b c d : Bool) → letter == 70 ≡ a → letter == 97 ≡ b
    → letter == 108 ≡ c → letter == 45 ≡ d → FourLetters a b c d rest ≡ Some l → IsRead (letter ∷ rest) l
letters_sound letter rest l true b c d at70 at97 at108 at45 h =
    subst (λ x. IsRead (x ∷ rest) l) (sym (is_letter letter 70 at70)) (function_sound rest l h)
letters_sound letter rest l false true c d at70 at97 at108 at45 h =
    subst (λ x. IsRead (x ∷ rest) l) (sym (is_letter letter 97 at97)) (word_sound rest l h)
letters_sound letter rest l false false true d at70 at97 at108 at45 h =
    subst (λ x. IsRead (x ∷ rest) l) (sym (is_letter letter 108 at108)) (label_sound rest l h)
letters_sound letter rest l false false false true at70 at97 at108 at45 h =
    subst (λ x. IsRead (x ∷ rest) l) (sym (is_letter letter 45 at45)) (more_sound rest l h)
letters_sound letter rest l false false false false at70 at97 at108 at45 h = cc

line_sound : (text : List ℕ) (l : NameLine) → line_read text ≡ Some l → IsRead text l
line_sound [] l h = cc
line_sound (letter ∷ rest) l h =
    letters_sound letter rest l (letter == 70) (letter == 97) (letter == 108) (letter == 45) refl refl refl refl h

-- a line that is wanted
again : (w : Wanted) (l : NameLine) → SuitsName w l → name_read w (line_text l) ≡ Some l
again w l h = ap (suiting w) (line_again l h.1) ∙ ap (λ b. cond b (Some l) None) h.0

suit_sound : (w : Wanted) (text : List ℕ) (l m : NameLine) (fits : Bool) → suits w m ≡ fits → IsRead text m
    → cond fits (Some m) None ≡ Some l → SuitsName w l × (text ≡ line_text l)
suit_sound w text l m false suit read h = cc
suit_sound w text l m true suit read h =
    let is : m ≡ l = cc in
    subst (λ (x : NameLine). SuitsName w x × (text ≡ line_text x)) is ((suit, read.0), read.1)

read_sound : (w : Wanted) (text : List ℕ) (l : NameLine) (o : Option NameLine) → line_read text ≡ o → suiting w o ≡ Some l
    → SuitsName w l × (text ≡ line_text l)
read_sound w text l None is h = cc
read_sound w text l (Some m) is h = suit_sound w text l m (suits w m) refl (line_sound text m is) h

sound : (w : Wanted) (text : List ℕ) (l : NameLine) → name_read w text ≡ Some l → SuitsName w l × (text ≡ line_text l)
sound w text l h = read_sound w text l (line_read text) refl h

no_end : (l : NameLine) → SuitsName wanted.End l → ⊥
no_end (line.Function name) h = let bad = h.0 in cc
no_end (line.Word name) h = let bad = h.0 in cc
no_end line.More h = let bad = h.0 in cc
no_end (line.Label name) h = let bad = h.0 in cc

pub written_are_read : WrittenNamesAreRead
written_are_read ds file =
    written_is_read SuitsName line_text wanted.End name_read again sound no_end (names_wanted ds) file
