-- What is read as the first line of a definition is its text, and its text is read as it.
use Rattle.std.proofs.Common.{IsTrue, subst, length, ◌≡◌, ℕ, ◌<◌, true, false, List, ◌∷◌, ◌++◌, decimal, Some, refl, sym, ap, ◌∙◌, arith, append_assoc}
use Rattle.std.specs.Char.{is_ascii_digit}
use Rattle.std.proofs.lemmas.Bool.Decides.{nat_tests}
use Rattle.bword.specs.Words.{is_name}
use Rattle.blang.specs.CodeParts.{IsWord}
use Rattle.bcode.specs.Headers.{header_text, function_fits, simple_fits, vector_fits, header_fits, IsNamed, IsHeaderWithin}
use Rattle.bcode.specs.LineReading.{IsExact, header_at, any_header_at, header_readers, sizes_at, function_header_at, simple_header_at, vector_header_at, line_ended}
use Rattle.bcode.specs.Reading.{expect_byte, number_at, name_text_at}
use Rattle.blang.specs.declared.limits.TheConstants.{WORD_VALUES}
use Rattle.bcode.specs.declared.header.Header.{Header}
use Rattle.bcode.specs.declared.header.Header.TheVariants as header
use Rattle.blang.specs.declared.code.Sizes.{Sizes}
use Rattle.bcode.proofs.PartLaws.{bind_some, only_if, same_read, expect-sound, expect-again, number_at-sound, number_at-again, name_at-sound, name_at-again}
use Rattle.bcode.proofs.LineLaws.{IsSoundAfter, by_first-sound, ended_entry}

-- numbers within their ranges are words
pub record AreWords (count : ℕ) (s : Sizes) : Type 0 where
  pub parameters : IsWord count
  pub frame : IsWord s.frame
  pub labels : IsWord s.labels
  pub strings : IsWord s.strings
  pub code : IsWord s.code

pub function_words : (parameters : ℕ) (s : Sizes) → function_fits parameters s ≡ true → AreWords parameters s
function_words parameters s h = record {
  parameters = grind (arith, nat_tests);
  frame = grind (arith, nat_tests);
  labels = grind (arith, nat_tests);
  strings = grind (arith, nat_tests);
  code = grind (arith, nat_tests);
}

-- labels stand in code
pub some_code : (parameters : ℕ) (s : Sizes) → function_fits parameters s ≡ true → 0 < s.labels → 0 < s.code
some_code parameters s h some = grind (arith, nat_tests)

pub simple_words : (values strings : ℕ) → simple_fits values strings ≡ true → IsWord values × IsWord strings
simple_words values strings h = (grind (arith, nat_tests), grind (arith, nat_tests))

pub vector_words : (words values strings : ℕ) → vector_fits words values strings ≡ true → IsWord words × IsWord values × IsWord strings
vector_words words values strings h = (grind (arith, nat_tests), grind (arith, nat_tests), grind (arith, nat_tests))

-- a line with the text after it

function_text : (name : List ℕ) (p : ℕ) (s : Sizes) (rest : List ℕ)
    → 70 ∷ 32 ∷ (name ++ 32 ∷ (decimal p ++ 32 ∷ (decimal s.frame ++ 32 ∷ (decimal s.labels ++ 32 ∷ (decimal s.strings ++ 32 ∷ (decimal s.code ++ 10 ∷ rest))))))
    ≡ header_text (header.Function name p s) ++ rest
function_text name p s rest = simp append_assoc

simple_text : (name : List ℕ) (v s : ℕ) (rest : List ℕ)
    → 88 ∷ 32 ∷ (name ++ 32 ∷ (decimal v ++ 32 ∷ (decimal s ++ 10 ∷ rest))) ≡ header_text (header.Simple name v s) ++ rest
simple_text name v s rest = simp append_assoc

vector_text : (name : List ℕ) (w v s : ℕ) (rest : List ℕ)
    → 86 ∷ 32 ∷ (name ++ 32 ∷ (decimal w ++ 32 ∷ (decimal v ++ 32 ∷ (decimal s ++ 10 ∷ rest)))) ≡ header_text (header.Vector name w v s) ++ rest
vector_text name w v s rest = simp append_assoc

abbrev sizes_text : Sizes → List ℕ → List ℕ
sizes_text s rest = decimal s.frame ++ 32 ∷ (decimal s.labels ++ 32 ∷ (decimal s.strings ++ 32 ∷ (decimal s.code ++ 10 ∷ rest)))

sizes_at-sound : (bytes : List ℕ) (s : Sizes) (rest : List ℕ) → sizes_at bytes ≡ Some (s, rest) → bytes ≡ sizes_text s rest
unfolding sizes_at
sizes_at-sound bytes s rest e =
    let frame = bind_some (number_at 32 WORD_VALUES bytes) _ (s, rest) e in
    let frame_read = number_at-sound 32 WORD_VALUES bytes frame.0.0 frame.0.1 frame.1 in
    let labels = bind_some (number_at 32 WORD_VALUES frame.0.1) _ (s, rest) frame.2 in
    let labels_read = number_at-sound 32 WORD_VALUES frame.0.1 labels.0.0 labels.0.1 labels.1 in
    let strings = bind_some (number_at 32 WORD_VALUES labels.0.1) _ (s, rest) labels.2 in
    let strings_read = number_at-sound 32 WORD_VALUES labels.0.1 strings.0.0 strings.0.1 strings.1 in
    let code = bind_some (number_at 10 WORD_VALUES strings.0.1) _ (s, rest) strings.2 in
    let code_read = number_at-sound 10 WORD_VALUES strings.0.1 code.0.0 code.0.1 code.1 in
    let sizes : Sizes = record { frame = frame.0.0; labels = labels.0.0; strings = strings.0.0; code = code.0.0 } in
    let read = same_read (sizes, code.0.1) (s, rest) code.2 in
    let text : bytes ≡ sizes_text sizes code.0.1 =
    frame_read.1 ∙ ap (λ l. decimal frame.0.0 ++ 32 ∷ l) (labels_read.1 ∙ ap (λ l. decimal labels.0.0 ++ 32 ∷ l) (strings_read.1
    ∙ ap (λ l. decimal strings.0.0 ++ 32 ∷ l) code_read.1)) in
    text ∙ ap (λ z. sizes_text z code.0.1) read.0 ∙ ap (sizes_text s) read.1

function_header_entry : IsSoundAfter header_text IsNamed 70 function_header_at
unfolding function_header_at
function_header_entry bytes x rest e =
    let space = bind_some (expect_byte 32 bytes) _ (x, rest) e in
    let name = bind_some (name_text_at 32 space.0) _ (x, rest) space.2 in
    let n = name_at-sound 32 space.0 name.0.0 name.0.1 name.1 in
    let parameters = bind_some (number_at 32 WORD_VALUES name.0.1) _ (x, rest) name.2 in
    let parameters_read = number_at-sound 32 WORD_VALUES name.0.1 parameters.0.0 parameters.0.1 parameters.1 in
    let sizes = bind_some (sizes_at parameters.0.1) _ (x, rest) parameters.2 in
    let sizes_read = sizes_at-sound parameters.0.1 sizes.0.0 sizes.0.1 sizes.1 in
    let read = same_read (header.Function name.0.0 parameters.0.0 sizes.0.0, sizes.0.1) (x, rest) sizes.2 in
    let named : IsNamed (header.Function name.0.0 parameters.0.0 sizes.0.0) = n.0 in
    let text = expect-sound 32 bytes space.0 space.1 ∙ ap (λ l. 32 ∷ l) (n.1 ∙ ap (λ l. name.0.0 ++ 32 ∷ l) (parameters_read.1
    ∙ ap (λ l. decimal parameters.0.0 ++ 32 ∷ l) sizes_read)) in
    let line_is = function_text name.0.0 parameters.0.0 sizes.0.0 sizes.0.1 in
    (subst IsNamed read.0 named, ap (λ l. 70 ∷ l) text ∙ line_is ∙ ap (λ h. header_text h ++ sizes.0.1) read.0 ∙ ap (λ r. header_text x ++ r) read.1)

simple_header_entry : IsSoundAfter header_text IsNamed 88 simple_header_at
unfolding simple_header_at
simple_header_entry bytes x rest e =
    let space = bind_some (expect_byte 32 bytes) _ (x, rest) e in
    let name = bind_some (name_text_at 32 space.0) _ (x, rest) space.2 in
    let n = name_at-sound 32 space.0 name.0.0 name.0.1 name.1 in
    let values = bind_some (number_at 32 WORD_VALUES name.0.1) _ (x, rest) name.2 in
    let values_read = number_at-sound 32 WORD_VALUES name.0.1 values.0.0 values.0.1 values.1 in
    let strings = bind_some (number_at 10 WORD_VALUES values.0.1) _ (x, rest) values.2 in
    let strings_read = number_at-sound 10 WORD_VALUES values.0.1 strings.0.0 strings.0.1 strings.1 in
    let read = same_read (header.Simple name.0.0 values.0.0 strings.0.0, strings.0.1) (x, rest) strings.2 in
    let named : IsNamed (header.Simple name.0.0 values.0.0 strings.0.0) = n.0 in
    let text : bytes ≡ 32 ∷ (name.0.0 ++ 32 ∷ (decimal values.0.0 ++ 32 ∷ (decimal strings.0.0 ++ 10 ∷ strings.0.1))) = expect-sound 32 bytes space.0 space.1 ∙ ap (λ l. 32 ∷ l) (n.1 ∙ ap (λ l. name.0.0 ++ 32 ∷ l) (values_read.1 ∙ ap (λ l. decimal values.0.0 ++ 32 ∷ l) (strings_read.1))) in
    let line_is = simple_text name.0.0 values.0.0 strings.0.0 strings.0.1 in
    (subst IsNamed read.0 named, ap (λ l. 88 ∷ l) text ∙ line_is ∙ ap (λ h. header_text h ++ strings.0.1) read.0 ∙ ap (λ r. header_text x ++ r) read.1)

vector_header_entry : IsSoundAfter header_text IsNamed 86 vector_header_at
unfolding vector_header_at
vector_header_entry bytes x rest e =
    let space = bind_some (expect_byte 32 bytes) _ (x, rest) e in
    let name = bind_some (name_text_at 32 space.0) _ (x, rest) space.2 in
    let n = name_at-sound 32 space.0 name.0.0 name.0.1 name.1 in
    let words = bind_some (number_at 32 WORD_VALUES name.0.1) _ (x, rest) name.2 in
    let words_read = number_at-sound 32 WORD_VALUES name.0.1 words.0.0 words.0.1 words.1 in
    let values = bind_some (number_at 32 WORD_VALUES words.0.1) _ (x, rest) words.2 in
    let values_read = number_at-sound 32 WORD_VALUES words.0.1 values.0.0 values.0.1 values.1 in
    let strings = bind_some (number_at 10 WORD_VALUES values.0.1) _ (x, rest) values.2 in
    let strings_read = number_at-sound 10 WORD_VALUES values.0.1 strings.0.0 strings.0.1 strings.1 in
    let read = same_read (header.Vector name.0.0 words.0.0 values.0.0 strings.0.0, strings.0.1) (x, rest) strings.2 in
    let named : IsNamed (header.Vector name.0.0 words.0.0 values.0.0 strings.0.0) = n.0 in
    let text : bytes ≡ 32 ∷ (name.0.0 ++ 32 ∷ (decimal words.0.0 ++ 32 ∷ (decimal values.0.0 ++ 32 ∷ (decimal strings.0.0 ++ 10 ∷ strings.0.1)))) = expect-sound 32 bytes space.0 space.1 ∙ ap (λ l. 32 ∷ l) (n.1 ∙ ap (λ l. name.0.0 ++ 32 ∷ l) (words_read.1 ∙ ap (λ l. decimal words.0.0 ++ 32 ∷ l) (values_read.1 ∙ ap (λ l. decimal values.0.0 ++ 32 ∷ l) (strings_read.1)))) in
    let line_is = vector_text name.0.0 words.0.0 values.0.0 strings.0.0 strings.0.1 in
    (subst IsNamed read.0 named, ap (λ l. 86 ∷ l) text ∙ line_is ∙ ap (λ h. header_text h ++ strings.0.1) read.0 ∙ ap (λ r. header_text x ++ r) read.1)

any_header_at-sound : (bytes : List ℕ) (x : Header) (rest : List ℕ) → any_header_at bytes ≡ Some (x, rest) → IsNamed x × (bytes ≡ header_text x ++ rest)
unfolding any_header_at
any_header_at-sound = by_first-sound header_text IsNamed header_readers
    (function_header_entry, (simple_header_entry, (vector_header_entry, (ended_entry header_text IsNamed 69 header.End tt refl, tt))))

header_at-sound : (bytes : List ℕ) (x : Header) (rest : List ℕ) → header_at bytes ≡ Some (x, rest) → IsHeaderWithin x × (bytes ≡ header_text x ++ rest)
unfolding header_at
header_at-sound bytes x rest e =
    let any = bind_some (any_header_at bytes) _ (x, rest) e in
    let fit = only_if (header_fits any.0.0) (Some any.0) (x, rest) any.2 in
    let read = same_read any.0 (x, rest) fit.1 in
    let found = any_header_at-sound bytes x rest (any.1 ∙ fit.1) in
    (record { named = found.0; fits = ap header_fits (sym read.0) ∙ fit.0 }, found.1)

pub end_within : IsHeaderWithin header.End
end_within = record { named = tt; fits = refl }

number_again : (end n : ℕ) (rest : List ℕ) → is_ascii_digit end ≡ false → IsWord n → number_at end WORD_VALUES (decimal n ++ end ∷ rest) ≡ Some (n, rest)
number_again end n rest not_digit word = number_at-again end WORD_VALUES not_digit n rest (omega arith) word

function_header_at-again : (name : List ℕ) (p : ℕ) (s : Sizes) (rest : List ℕ) → IsTrue (is_name name) → AreWords p s
    → function_header_at (32 ∷ (name ++ 32 ∷ (decimal p ++ 32 ∷ (decimal s.frame ++ 32 ∷ (decimal s.labels ++ 32 ∷ (decimal s.strings ++ 32 ∷ (decimal s.code ++ 10 ∷ rest)))))))
    ≡ Some (header.Function name p s, rest)
unfolding function_header_at sizes_at
function_header_at-again name p s rest named words =
    let code = decimal s.code ++ 10 ∷ rest in
    let strings = decimal s.strings ++ 32 ∷ code in
    let labels = decimal s.labels ++ 32 ∷ strings in
    let frame = decimal s.frame ++ 32 ∷ labels in
    let parameters = decimal p ++ 32 ∷ frame in
    rw (
      expect-again 32 (name ++ 32 ∷ parameters),
      name_at-again 32 refl name parameters named,
      number_again 32 p frame refl words.parameters,
      number_again 32 s.frame labels refl words.frame,
      number_again 32 s.labels strings refl words.labels,
      number_again 32 s.strings code refl words.strings,
      number_again 10 s.code rest refl words.code,
    ) refl

simple_header_at-again : (name : List ℕ) (v s : ℕ) (rest : List ℕ) → IsTrue (is_name name) → IsWord v × IsWord s
    → simple_header_at (32 ∷ (name ++ 32 ∷ (decimal v ++ 32 ∷ (decimal s ++ 10 ∷ rest)))) ≡ Some (header.Simple name v s, rest)
unfolding simple_header_at
simple_header_at-again name v s rest named are =
    let strings = decimal s ++ 10 ∷ rest in
    let values = decimal v ++ 32 ∷ strings in
    rw (
      expect-again 32 (name ++ 32 ∷ values),
      name_at-again 32 refl name values named,
      number_again 32 v strings refl are.0,
      number_again 10 s rest refl are.1,
    ) refl

vector_header_at-again : (name : List ℕ) (w v s : ℕ) (rest : List ℕ) → IsTrue (is_name name) → IsWord w × IsWord v × IsWord s
    → vector_header_at (32 ∷ (name ++ 32 ∷ (decimal w ++ 32 ∷ (decimal v ++ 32 ∷ (decimal s ++ 10 ∷ rest))))) ≡ Some (header.Vector name w v s, rest)
unfolding vector_header_at
vector_header_at-again name w v s rest named are =
    let strings = decimal s ++ 10 ∷ rest in
    let values = decimal v ++ 32 ∷ strings in
    let words = decimal w ++ 32 ∷ values in
    rw (
      expect-again 32 (name ++ 32 ∷ words),
      name_at-again 32 refl name words named,
      number_again 32 w values refl are.0,
      number_again 32 v strings refl are.1,
      number_again 10 s rest refl are.2,
    ) refl

any_header_at-again : (x : Header) (rest : List ℕ) → IsHeaderWithin x → any_header_at (header_text x ++ rest) ≡ Some (x, rest)
unfolding any_header_at line_ended expect_byte
any_header_at-again (header.Function name p s) rest h =
    ap any_header_at (sym (function_text name p s rest)) ∙ function_header_at-again name p s rest h.named (function_words p s h.fits)
any_header_at-again (header.Simple name v s) rest h = ap any_header_at (sym (simple_text name v s rest)) ∙ simple_header_at-again name v s rest h.named (simple_words v s h.fits)
any_header_at-again (header.Vector name w v s) rest h = ap any_header_at (sym (vector_text name w v s rest)) ∙ vector_header_at-again name w v s rest h.named (vector_words w v s h.fits)
any_header_at-again header.End rest h = refl

header_at-again : (x : Header) (rest : List ℕ) → IsHeaderWithin x → header_at (header_text x ++ rest) ≡ Some (x, rest)
unfolding header_at
header_at-again x rest h = rw (any_header_at-again x rest h, h.fits) refl

header_text-filled : (x : Header) → 0 < length (header_text x)
header_text-filled header.End = omega arith
header_text-filled _ = omega arith

pub header_at-exact : IsExact header_text IsHeaderWithin header_at
header_at-exact = record { sound = header_at-sound; again = header_at-again; filled = header_text-filled }
