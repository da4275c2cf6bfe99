-- What the contract of compiling excludes.
use Rattle.std.proofs.Common.{◌≡◌, ◌≢◌, ℕ, ◌+◌, ◌-◌, ◌<◌, ◌≤◌, List, [], ◌∷◌, ◌++◌, zero, suc, length, map, take, length-append, codes, Option, Some, None, true, false, refl, sym, ap, ◌∙◌, subst, arith, ◌⊎◌, inl, inr}
use Rattle.bword.specs.declared.edition.Edition.TheVariants as editions
use Rattle.bword.specs.declared.ends.EndFault.TheVariants as end_fault
use Rattle.bword.specs.ByteEnds.{Incoming, Outgoing, Grew, Writes, Refuses, CanFollow}
use Rattle.blang.specs.Cut.{whole, word_token, keyword_of, number_in, with_quoted_byte, escape_of, operator_of, other_of, fixed_of, tokens_from, cut, longest, greatest}
use Rattle.blang.specs.declared.token.Diagnostic.{Diagnostic}
use Rattle.blang.specs.Compiles.{Run, Compiles, Compilation, CompilesTo, TakenUpTo, Whatever, IsCompiled, IsFaulty, TextCutOff, LineCutOff, NamesRefused, EndRefused, SourceFailed, code_text, fault_text, line_of}
use Rattle.bgrammar.specs.SourceRows.{Comes}
use Rattle.bgrammar.proofs.SourceRows.{a_function, a_name_twice, a_number, an_empty_source, outcome_sound}
use Rattle.bgrammar.proofs.GoesLaws.{tokens_from-ended, each_source_comes}
use Rattle.bparse.specs.CompileExcluded.{Observed, NoneFailed, NoneRefused, NoReadFailed, Excluded}
use Rattle.bparse.proofs.ReadingLaws.{held_at_fault}
use Rattle.bparse.proofs.Remaining.{rest_of, all_written}
use Rattle.bparse.proofs.TakenLaws.{plain, no_words, more_begun, all_begun}
use Rattle.bword.proofs.Remaining.{Rest}
use Rattle.std.specs.Io.KnownBytes.{Appends}
use Rattle.std.specs.Fmt.{digits}
use Rattle.std.proofs.Math.Seq.{drop-nil}
use Rattle.std.proofs.lemmas.Bool.{both_ways}
use Rattle.blang.specs.Text.{joined, opening}
use Rattle.blang.specs.Trees.{bare}
use Rattle.blang.specs.declared.token.Token.TheVariants as token
use Rattle.blang.specs.declared.token.Letters.TheVariants as letters
use Rattle.blang.specs.declared.token.About.TheVariants as about

rest_nil : (xs ys : List ℕ) → xs ++ ys ≡ [] → ys ≡ []
rest_nil [] ys e = e
rest_nil (x ∷ xs) ys e = cc

abbrev head : List ℕ → ℕ
head [] = 0
head (b ∷ bs) = b

-- lists that begin otherwise
differ_first : {a b : List ℕ} → a ≡ b → (head a ≡ head b → ⊥) → ⊥
differ_first e apart = apart (ap head e)

differs : {a b : List ℕ} → a ≡ b → (length a ≡ length b → ⊥) → ⊥
differs e apart = apart (ap length e)

no_stop : {d : Diagnostic} → None ≡ Some d → ⊥
no_stop e = cc

some_stop : {d : Diagnostic} → Some d ≡ None → ⊥
some_stop e = cc

-- a line has a byte
pub line_some : (d : Diagnostic) → line_of d ≡ [] → ⊥
line_some d e = let newline : codes "\n" ≡ [] = rest_nil _ (codes "\n") e in cc

module _ {source code line : List ℕ} {status : ℕ} (run : Run) (o : Observed source code line status run) (h : Compiles run) where
  abbrev rest_of_source : Rest run.source_after h.taken source
  rest_of_source = rest_of run.source run.source_after h.taken source h.took o.source

  following : (r : Compilation) → CompilesTo [] (tokens_from editions.One 1 source) r → CompilesTo [] (tokens_from run.edition 1 (h.taken ++ rest_of_source.more)) r
  following r g =
      subst (λ e. CompilesTo [] (tokens_from e 1 (h.taken ++ rest_of_source.more)) r) (sym o.edition)
      (subst (λ t. CompilesTo [] (tokens_from editions.One 1 t) r) (sym rest_of_source.whole) g)

  -- what holds of each outcome holds of the one of this source
  at_outcome : (P : Compilation → Type 0) (r : Compilation) → CompilesTo [] (tokens_from editions.One 1 source) r → Whatever run.edition h.taken run.source_after P → P r
  at_outcome P r g w = w rest_of_source.more rest_of_source.follows r (following r g)

  silent : run.line_after ≡ run.line → line ≡ []
  silent s = let e : Some line ≡ Some [] = sym o.line ∙ ap (λ x. x.written) s ∙ o.before.1 in cc

  code_is : (right : List ℕ) (r : Compilation) → code_text editions.One r ≡ right → Writes run.code (code_text run.edition r) run.code_after → code ≡ right
  code_is right r e w = all_written run.code run.code_after _ code o.before.0 o.code w.appended ∙ ap (λ d. code_text d r) o.edition ∙ e

  -- the line's end alone fails after a line
  failed : (r : Compilation) → CompilesTo [] (tokens_from editions.One 1 source) r → status ≡ 133 → (line ≡ []) ⊎ Grew run.line.failures run.line_after.failures
  failed r g is = go (h.failed (o.status ∙ is))
    where
      go : SourceFailed run h.taken ⊎ EndRefused run h.taken end_fault.Device → (line ≡ []) ⊎ Grew run.line.failures run.line_after.failures
      go (inl s) = inl (silent s.silent)
      go (inr (inl s)) = inl (silent s.silent)
      go (inr (inr (inl s))) = inl (silent s.silent)
      go (inr (inr (inr s))) = inr (at_outcome (LineCutOff run end_fault.Device) r g s.written).line.counted.0

  -- an end failed
  some_failed : (r : Compilation) → CompilesTo [] (tokens_from editions.One 1 source) r → status ≡ 133 → NoneFailed run → ⊥
  some_failed r g is none = go (h.failed (o.status ∙ is))
    where
      go : SourceFailed run h.taken ⊎ EndRefused run h.taken end_fault.Device → ⊥
      go (inl s) = none.0 s.counted
      go (inr (inl s)) = none.1 s.code.counted.0
      go (inr (inr (inl s))) =
          let part = at_outcome (TextCutOff run s.count end_fault.Device) r g s.code in
          none.1 (subst (λ n. Grew n run.code_after.failures) part.written.failures part.refused.counted.0)
      go (inr (inr (inr s))) = none.2 (at_outcome (LineCutOff run end_fault.Device) r g s.written).line.counted.0

  -- memory was refused to an end where there is no definition
  some_refused : (r : Compilation) → CompilesTo [] (tokens_from editions.One 1 source) r → r.code ≡ [] → status ≡ 134 → NoneRefused run → ⊥
  some_refused r g nothing is none = go (h.refused (o.status ∙ is))
    where
      go : NamesRefused run h.taken ⊎ EndRefused run h.taken end_fault.Memory → ⊥
      go (inl s) =
          let less : s.count < 0 = subst (λ c. s.count < length c) nothing (at_outcome _ r g s.code).0 in
          absurd (omega (arith, less))
      go (inr (inl s)) = none.0 s.code.counted.0
      go (inr (inr (inl s))) =
          let part = at_outcome (TextCutOff run s.count end_fault.Memory) r g s.code in
          none.0 (subst (λ n. Grew n run.code_after.refusals) part.written.refusals part.refused.counted.0)
      go (inr (inr (inr s))) = none.1 (at_outcome (LineCutOff run end_fault.Memory) r g s.written).line.counted.0

  -- all statuses are these
  no_other : status ≡ 2 → ⊥
  no_other is = go h.no_other
    where
      two : run.status ≡ 2
      two = o.status ∙ is

      go : (run.status ≡ 0) ⊎ (run.status ≡ 1) ⊎ (run.status ≡ 133) ⊎ (run.status ≡ 134) → ⊥
      go (inl e) = let n : 0 ≡ 2 = sym e ∙ two in absurd (omega (arith, n))
      go (inr (inl e)) = let n : 1 ≡ 2 = sym e ∙ two in absurd (omega (arith, n))
      go (inr (inr (inl e))) = let n : 133 ≡ 2 = sym e ∙ two in absurd (omega (arith, n))
      go (inr (inr (inr e))) = let n : 134 ≡ 2 = sym e ∙ two in absurd (omega (arith, n))

  module _ {right told : List ℕ} (c : Comes source right told) where
    pub record Done : Type 0 where
      pub code_right : code ≡ right
      pub clean : told ≡ []
      pub quiet : line ≡ []
      pub read : run.source_after.failures ≡ run.source.failures

    done : status ≡ 0 → Done
    done is =
        let i = at_outcome (IsCompiled run) c.outcome c.goes (h.compiled (o.status ∙ is)) in
        record {
          code_right = code_is right c.outcome c.code_is i.code;
          clean = sym c.line_is ∙ ap fault_text i.clean;
          quiet = silent i.silent;
          read = i.read;
        }

    pub record Faulty : Type 0 where
      pub code_right : code ≡ right
      pub line_right : line ≡ told
      pub some : told ≡ [] → ⊥
      pub read : run.source_after.failures ≡ run.source.failures

    faulty : status ≡ 1 → Faulty
    faulty is =
        let i = at_outcome (IsFaulty run) c.outcome c.goes (h.faulty (o.status ∙ is)) in
        let same : line_of i.fault ≡ told = sym (ap fault_text i.stop) ∙ c.line_is in
        record {
          code_right = code_is right c.outcome c.code_is i.code;
          line_right = all_written run.line run.line_after _ line o.before.1 o.line i.line.appended ∙ same;
          some = λ e. line_some i.fault (same ∙ e);
          read = i.read;
        }

no_code : CompilesTo [] (tokens_from editions.One 1 []) (record { code = []; stop = None })
unfolding tokens_from cut longest greatest whole word_token keyword_of number_in with_quoted_byte escape_of operator_of other_of fixed_of
no_code = outcome_sound 8 [] (tokens_from editions.One 1 []) (record { code = []; stop = None }) (tokens_from-ended editions.One 1 []) refl

nothing_taken : (taken more : List ℕ) → taken ++ more ≡ [] → taken ≡ []
nothing_taken [] more e = refl
nothing_taken (b ∷ taken) more e = let n : length (b ∷ taken ++ more) ≡ 0 = ap length e in absurd (omega (arith, n))

-- nothing left after what was taken
none_left : {end : Incoming} {taken bytes : List ℕ} (rest : Rest end taken bytes) → end.left ≡ Some [] → rest.more ≡ []
none_left rest e = let s : Some [] ≡ Some rest.more = sym e ∙ rest.left in cc

-- of two writes that are seen as nothing, the first
first_nothing : (o m p : Option (List ℕ)) (xs ys : List ℕ) → o ≡ Some [] → p ≡ Some [] → Appends o m xs → Appends m p ys → xs ≡ []
first_nothing None m p xs ys e f h k = cc
first_nothing (Some known) None p xs ys e f h k = elim h [ ]
first_nothing (Some known) (Some mid) None xs ys e f h k = elim k [ ]
first_nothing (Some known) (Some mid) (Some all) xs ys e f h k =
    let nothing : known ≡ [] = cc in
    let at_last : all ≡ [] = cc in
    let middle : mid ≡ [] = nothing_taken mid ys (sym k ∙ at_last) in
    rest_nil known xs (sym h ∙ middle)

-- Nothing was taken of a source without a byte, so where its end wasn't seen, a definition may follow.
unseen : {code line : List ℕ} (run : Run) (o : Observed [] code line 0 run) (h : Compiles run) → run.source_after.is_over ≡ false → ⊥
unseen run o h still =
    let rest = rest_of run.source run.source_after h.taken [] h.took o.source in
    let none : h.taken ≡ [] = nothing_taken h.taken rest.more rest.whole in
    let outcome = a_number in
    let number = h.compiled o.status (codes "n 2000;") (λ over. absurd (both_ways run.source_after.is_over still over)) outcome.outcome
    (subst (λ e. CompilesTo [] (tokens_from e 1 (h.taken ++ codes "n 2000;")) outcome.outcome) (sym o.edition)
    (subst (λ t. CompilesTo [] (tokens_from editions.One 1 (t ++ codes "n 2000;")) outcome.outcome) (sym none) outcome.goes)) in
    let long = code_is run o h (codes "X n 1 0\nc 2000\nE\n") outcome.outcome outcome.code_is number.code in
    let short = (done run o h an_empty_source refl).code_right in
    differs (sym long ∙ short) (λ n. absurd (omega (arith, n)))

given_back : {code line : List ℕ} {status : ℕ} (run : Run) (o : Observed [] code line status run) (h : Compiles run) → run.source_after.left ≡ Some (120 ∷ []) → ⊥
given_back run o h back =
    let rest = rest_of run.source run.source_after h.taken [] h.took o.source in
    let left : Some (120 ∷ []) ≡ Some rest.more = sym back ∙ rest.left in
    let more : 120 ∷ [] ≡ rest.more = cc in
    let n : length h.taken + length rest.more ≡ 0 = sym (length-append h.taken rest.more) ∙ ap length rest.whole in
    let one : 1 ≡ length rest.more = ap length more in
    absurd (omega (arith, n, one))

-- a source that goes on after a fault
abbrev faulty_outcome : Compilation
faulty_outcome = record { code = codes "X a 0 0\n" ∷ []; stop = Some (record { letters = letters.Redeclared; about = about.Name (codes "a"); line = 1 }) }

faulty_comes : CompilesTo [] (tokens_from editions.One 1 (codes "a;a;b;c;")) faulty_outcome
unfolding tokens_from cut longest greatest whole word_token keyword_of number_in with_quoted_byte escape_of operator_of other_of fixed_of digits
faulty_comes = outcome_sound 8 [] (tokens_from editions.One 1 (codes "a;a;b;c;")) faulty_outcome (tokens_from-ended editions.One 1 (codes "a;a;b;c;")) refl

faulty_line : fault_text faulty_outcome.stop ≡ codes "rd a 1\n"
unfolding digits
faulty_line = refl

faulty_tokens : map bare (take 5 (tokens_from editions.One 1 (codes "a;a;b;c;"))) ≡ plain (codes "a" ∷ codes "a" ∷ []) (token.Name (codes "b") ∷ [])
unfolding tokens_from cut longest greatest whole word_token keyword_of number_in with_quoted_byte escape_of operator_of other_of fixed_of digits
faulty_tokens = refl

faulty_length : length (tokens_from editions.One 1 (codes "a;a;b;c;")) ≡ 9
unfolding tokens_from cut longest greatest whole word_token keyword_of number_in with_quoted_byte escape_of operator_of other_of fixed_of digits
faulty_length = refl

module _ {code line : List ℕ} {status : ℕ} (run : Run) (o : Observed (codes "a;a;b;c;") code line status run) (h : Compiles run) (over : run.source_after.left ≡ Some []) where
  abbrev after_fault : Rest run.source_after h.taken (codes "a;a;b;c;")
  after_fault = rest_of_source run o h

  not_past : (n : ℕ) → n ≤ 1 → TakenUpTo run.edition h.taken after_fault.more (suc n) → ⊥
  not_past n few u =
      let less : 2 < suc n = more_begun editions.One h.taken after_fault.more (codes "a;a;b;c;") (suc n) (subst (λ e. TakenUpTo e h.taken after_fault.more (suc n)) o.edition u) after_fault.whole (none_left after_fault over)
      (codes "a" ∷ codes "a" ∷ []) (token.Name (codes "b")) 5 faulty_tokens (omega (arith, faulty_length)) in
      omega (arith, less, few)

  past_fault : status ≡ 1 → ⊥
  past_fault one = not_past 1 (omega arith) (h.no_further (o.status ∙ one) after_fault.more after_fault.follows faulty_outcome (following run o h faulty_outcome faulty_comes))

  past_refusal : status ≡ 133 → (Grew run.source.failures run.source_after.failures → ⊥) → ⊥
  past_refusal is read = go (h.failed (o.status ∙ is))
    where
      go : SourceFailed run h.taken ⊎ EndRefused run h.taken end_fault.Device → ⊥
      go (inl s) = read s.counted
      go (inr (inl s)) = s.some (ap opening o.edition)
      go (inr (inr (inl s))) =
          let comes = following run o h faulty_outcome faulty_comes in
          not_past s.count (s.code after_fault.more after_fault.follows faulty_outcome comes).within (s.no_further after_fault.more after_fault.follows faulty_outcome comes)
      go (inr (inr (inr s))) = not_past 1 (omega arith) (s.no_further after_fault.more after_fault.follows faulty_outcome (following run o h faulty_outcome faulty_comes))

-- a source with blanks after the token that tells its fault
blank_comes : CompilesTo [] (tokens_from editions.One 1 (codes "a;a;b    ")) faulty_outcome
unfolding tokens_from cut longest greatest whole word_token keyword_of number_in with_quoted_byte escape_of operator_of other_of fixed_of digits
blank_comes = outcome_sound 8 [] (tokens_from editions.One 1 (codes "a;a;b    ")) faulty_outcome (tokens_from-ended editions.One 1 (codes "a;a;b    ")) refl

blank_tokens : map bare (take 5 (tokens_from editions.One 1 (codes "a;a;b    "))) ≡ plain (codes "a" ∷ codes "a" ∷ []) (token.Name (codes "b") ∷ [])
unfolding tokens_from cut longest greatest whole word_token keyword_of number_in with_quoted_byte escape_of operator_of other_of fixed_of digits
blank_tokens = refl

blank_length : length (tokens_from editions.One 1 (codes "a;a;b    ")) ≡ 6
unfolding tokens_from cut longest greatest whole word_token keyword_of number_in with_quoted_byte escape_of operator_of other_of fixed_of digits
blank_length = refl

blank_ends : (k : ℕ) → k ≤ 2 → no_words (take (9 - k) (codes "a;a;b    ")) ≡ true
unfolding whole word_token keyword_of number_in with_quoted_byte escape_of operator_of other_of fixed_of digits
blank_ends (suc (suc (suc k))) h = absurd (omega (arith, h))
blank_ends _ h = refl

past_blanks : {code line : List ℕ} (run : Run) (o : Observed (codes "a;a;b    ") code line 1 run) (h : Compiles run) → run.source_after.left ≡ Some [] → ⊥
past_blanks run o h over =
    let rest = rest_of_source run o h in
    let u = h.no_further o.status rest.more rest.follows faulty_outcome (following run o h faulty_outcome blank_comes) in
    let less : 2 < 2 = all_begun editions.One h.taken rest.more (codes "a;a;b    ") 2 (subst (λ e. TakenUpTo e h.taken rest.more 2) o.edition u) rest.whole (none_left rest over) refl blank_ends
    (codes "a" ∷ codes "a" ∷ []) (token.Name (codes "b")) 5 blank_tokens (omega (arith, blank_length)) in
    omega (arith, less)

-- a source of four definitions
abbrev four : Compilation
four = record { code = codes "X a 0 0\n" ∷ codes "X b 0 0\n" ∷ codes "X c 0 0\n" ∷ codes "X d 0 0\n" ∷ []; stop = None }

four_comes : CompilesTo [] (tokens_from editions.One 1 (codes "a;b;c;d;")) four
unfolding tokens_from cut longest greatest whole word_token keyword_of number_in with_quoted_byte escape_of operator_of other_of fixed_of digits
four_comes = outcome_sound 8 [] (tokens_from editions.One 1 (codes "a;b;c;d;")) four (tokens_from-ended editions.One 1 (codes "a;b;c;d;")) refl

four_tokens : map bare (take 3 (tokens_from editions.One 1 (codes "a;b;c;d;"))) ≡ plain (codes "a" ∷ []) (token.Name (codes "b") ∷ [])
unfolding tokens_from cut longest greatest whole word_token keyword_of number_in with_quoted_byte escape_of operator_of other_of fixed_of digits
four_tokens = refl

four_length : length (tokens_from editions.One 1 (codes "a;b;c;d;")) ≡ 9
unfolding tokens_from cut longest greatest whole word_token keyword_of number_in with_quoted_byte escape_of operator_of other_of fixed_of digits
four_length = refl

no_texts : (count : ℕ) → joined (take count four.code) ≡ [] → count ≡ 0
no_texts zero e = refl
no_texts (suc n) e = absurd (differ_first e (λ h. absurd (omega (arith, h))))

module _ {status : ℕ} (run : Run) (o : Observed (codes "a;b;c;d;") [] [] status run) (h : Compiles run) (over : run.source_after.left ≡ Some []) where
  abbrev after_four : Rest run.source_after h.taken (codes "a;b;c;d;")
  after_four = rest_of_source run o h

  abbrev four_follow : CompilesTo [] (tokens_from run.edition 1 (h.taken ++ after_four.more)) four
  four_follow = following run o h four four_comes

  not_all : (n : ℕ) → n ≡ 0 → TakenUpTo run.edition h.taken after_four.more (suc n) → ⊥
  not_all n none u =
      let less : 1 < suc n = more_begun editions.One h.taken after_four.more (codes "a;b;c;d;") (suc n) (subst (λ e. TakenUpTo e h.taken after_four.more (suc n)) o.edition u) after_four.whole (none_left after_four over)
      (codes "a" ∷ []) (token.Name (codes "b")) 3 four_tokens (omega (arith, four_length)) in
      omega (arith, less, none)

  -- no text was written
  none_written : (n : ℕ) → opening run.edition ++ joined (take n four.code) ≡ [] → n ≡ 0
  none_written n e = no_texts n (rest_nil (opening run.edition) (joined (take n four.code)) e)

  kept_all : status ≡ 133 → (Grew run.source.failures run.source_after.failures → ⊥) → ⊥
  kept_all is read = go (h.failed (o.status ∙ is))
    where
      go : SourceFailed run h.taken ⊎ EndRefused run h.taken end_fault.Device → ⊥
      go (inl s) = read s.counted
      go (inr (inl s)) = s.some (ap opening o.edition)
      go (inr (inr (inl s))) =
          let part = s.code after_four.more after_four.follows four four_follow in
          let nothing = first_nothing run.code.written part.before.written run.code_after.written (opening run.edition ++ joined (take s.count four.code)) _ o.before.0 o.code part.written.appended part.refused.appended in
          not_all s.count (none_written s.count nothing) (s.no_further after_four.more after_four.follows four four_follow)
      go (inr (inr (inr s))) = no_stop (s.written after_four.more after_four.follows four four_follow).stop

  named_late : status ≡ 134 → NoneRefused run → ⊥
  named_late is none = go (h.refused (o.status ∙ is))
    where
      go : NamesRefused run h.taken ⊎ EndRefused run h.taken end_fault.Memory → ⊥
      go (inl s) =
          let nothing = sym (all_written run.code run.code_after _ [] o.before.0 o.code (s.code after_four.more after_four.follows four four_follow).1.appended) in
          not_all s.count (none_written s.count nothing) (s.no_further after_four.more after_four.follows four four_follow)
      go (inr (inl s)) = s.some (ap opening o.edition)
      go (inr (inr (inl s))) =
          let part = s.code after_four.more after_four.follows four four_follow in
          none.0 (subst (λ n. Grew n run.code_after.refusals) part.written.refusals part.refused.counted.0)
      go (inr (inr (inr s))) = no_stop (s.written after_four.more after_four.follows four four_follow).stop

-- Failures of more than one end.
some_outcome : (run : Run) (h : Compiles run) → (r : Compilation) × CompilesTo [] (tokens_from run.edition 1 (h.taken ++ [])) r
some_outcome run h = each_source_comes [] run.edition 1 (h.taken ++ [])

nothing_follows : (run : Run) → CanFollow run.source_after []
nothing_follows run = λ over. refl

source_and_output : (run : Run) → run.status ≡ 133 → Compiles run → run.source_after.failures ≢ run.source.failures → (run.code_after.failures ≢ run.code.failures) ⊎ (run.line_after.failures ≢ run.line.failures) → ⊥
source_and_output run is h read other = go (h.failed is)
  where
    by_output : run.code_after.failures ≡ run.code.failures → run.line_after ≡ run.line → (run.code_after.failures ≢ run.code.failures) ⊎ (run.line_after.failures ≢ run.line.failures) → ⊥
    by_output code line (inl x) = x code
    by_output code line (inr x) = x (ap (λ o. o.failures) line)

    go : SourceFailed run h.taken ⊎ EndRefused run h.taken end_fault.Device → ⊥
    go (inl s) = let r = some_outcome run h in by_output (s.code [] (nothing_follows run) r.0 r.1).failures s.silent other
    go (inr (inl s)) = read (ap (λ i. i.failures) s.unread.1)
    go (inr (inr (inl s))) = read s.read
    go (inr (inr (inr s))) = read s.read

source_and_memory : (run : Run) → run.status ≡ 134 → Compiles run → run.source_after.failures ≢ run.source.failures → ⊥
source_and_memory run is h read = go (h.refused is)
  where
    go : NamesRefused run h.taken ⊎ EndRefused run h.taken end_fault.Memory → ⊥
    go (inl s) = read s.read
    go (inr (inl s)) = read (ap (λ i. i.failures) s.unread.1)
    go (inr (inr (inl s))) = read s.read
    go (inr (inr (inr s))) = read s.read

-- what was written of a text that begins, where nothing is seen of it
begun_unseen : (rest : List ℕ) (o p : Outgoing) → o.written ≡ Some [] → p.written ≡ Some [] → Writes o (opening editions.Two ++ rest) p → ⊥
begun_unseen rest o p before now w = differ_first (all_written o p (opening editions.Two ++ rest) [] before now w.appended) (λ h. absurd (omega (arith, h)))

opened_early : (run : Run) → run.edition ≡ editions.Two → (run.code.written ≡ Some []) × (run.code_after.written ≡ Some []) → NoReadFailed run → run.status ≡ 133 → Compiles run → run.source_after ≢ run.source → ⊥
opened_early run two seen read is h differ = go (h.failed is)
  where
    r : (r : Compilation) × CompilesTo [] (tokens_from run.edition 1 (h.taken ++ [])) r
    r = some_outcome run h

    written : (rest : List ℕ) (out : Outgoing) → out.written ≡ Some [] → Writes run.code (opening run.edition ++ rest) out → ⊥
    written rest out now w = begun_unseen rest run.code out seen.0 now (subst (λ e. Writes run.code (opening e ++ rest) out) two w)

    refused : (rest text : List ℕ) (mid : Outgoing) → Writes run.code (opening run.edition ++ rest) mid → Refuses mid text end_fault.Device run.code_after → ⊥
    refused rest text mid w f =
        let e = first_nothing run.code.written mid.written run.code_after.written (opening run.edition ++ rest) _ seen.0 seen.1 w.appended f.appended in
        differ_first (subst (λ x. opening x ++ rest ≡ []) two e) (λ h. absurd (omega (arith, h)))

    go : SourceFailed run h.taken ⊎ EndRefused run h.taken end_fault.Device → ⊥
    go (inl s) = read s.counted
    go (inr (inl s)) = differ s.unread.1
    go (inr (inr (inl s))) = let c = s.code [] (nothing_follows run) r.0 r.1 in refused (joined (take s.count r.0.code)) _ c.before c.written c.refused
    go (inr (inr (inr s))) = let c = s.written [] (nothing_follows run) r.0 r.1 in written _ run.code_after seen.1 c.code

-- a source without code, whose fault is its first token
abbrev wrong_byte : Compilation
wrong_byte = record { code = []; stop = Some (record { letters = letters.Character; about = about.Nothing; line = 1 }) }

wrong_byte_comes : CompilesTo [] (tokens_from editions.One 1 (codes "#")) wrong_byte
unfolding tokens_from cut longest greatest whole word_token keyword_of number_in with_quoted_byte escape_of operator_of other_of fixed_of digits
wrong_byte_comes = outcome_sound 8 [] (tokens_from editions.One 1 (codes "#")) wrong_byte (tokens_from-ended editions.One 1 (codes "#")) refl

empty_refused : {code line : List ℕ} (run : Run) (o : Observed (codes "#") code line 133 run) (h : Compiles run) → NoReadFailed run → (Grew run.line.failures run.line_after.failures → ⊥) → ⊥
empty_refused run o h read line = go (h.failed o.status)
  where
    go : SourceFailed run h.taken ⊎ EndRefused run h.taken end_fault.Device → ⊥
    go (inl s) = read s.counted
    go (inr (inl s)) = s.some (ap opening o.edition)
    go (inr (inr (inl s))) = let rest = rest_of_source run o h in some_stop ((s.code rest.more rest.follows wrong_byte (following run o h wrong_byte wrong_byte_comes)).some (drop-nil s.count))
    go (inr (inr (inr s))) = let rest = rest_of_source run o h in line (s.written rest.more rest.follows wrong_byte (following run o h wrong_byte wrong_byte_comes)).line.counted.0

module _ {code line : List ℕ} (run : Run) (o : Observed (codes "a;a;b;c;") code line 133 run) (h : Compiles run) where
  abbrev rest_faulty : Rest run.source_after h.taken (codes "a;a;b;c;")
  rest_faulty = rest_of_source run o h

  abbrev faulty_follows : CompilesTo [] (tokens_from run.edition 1 (h.taken ++ rest_faulty.more)) faulty_outcome
  faulty_follows = following run o h faulty_outcome faulty_comes

  code_then_line : NoReadFailed run → (Grew run.code.failures run.code_after.failures → ⊥) → code ≡ codes "X a 0 0\n"
  code_then_line read written = go (h.failed o.status)
    where
      go : SourceFailed run h.taken ⊎ EndRefused run h.taken end_fault.Device → code ≡ codes "X a 0 0\n"
      go (inl s) = absurd (read s.counted)
      go (inr (inl s)) = absurd (written s.code.counted.0)
      go (inr (inr (inl s))) =
          let c = s.code rest_faulty.more rest_faulty.follows faulty_outcome faulty_follows in
          absurd (written (subst (λ n. Grew n run.code_after.failures) c.written.failures c.refused.counted.0))
      go (inr (inr (inr s))) = code_is run o h (codes "X a 0 0\n") faulty_outcome refl (s.written rest_faulty.more rest_faulty.follows faulty_outcome faulty_follows).code

  -- of the line nothing was written, or a beginning of the right one
  line_begins : (line ≡ []) ⊎ ((n : ℕ) × (line ≡ take n (codes "rd a 1\n")))
  line_begins = go (h.failed o.status)
    where
      go : SourceFailed run h.taken ⊎ EndRefused run h.taken end_fault.Device → (line ≡ []) ⊎ ((n : ℕ) × (line ≡ take n (codes "rd a 1\n")))
      go (inl s) = inl (silent run o h s.silent)
      go (inr (inl s)) = inl (silent run o h s.silent)
      go (inr (inr (inl s))) = inl (silent run o h s.silent)
      go (inr (inr (inr s))) =
          let c = s.written rest_faulty.more rest_faulty.follows faulty_outcome faulty_follows in
          let same : line_of c.diagnostic ≡ codes "rd a 1\n" = ap fault_text (sym c.stop) ∙ faulty_line in
          inr (c.line.count, all_written run.line run.line_after _ line o.before.1 o.line c.line.appended ∙ ap (take c.line.count) same)

no_beginning : (n : ℕ) → codes "sx" ≡ take n (codes "rd a 1\n") → ⊥
no_beginning zero e = differs e (λ n. absurd (omega (arith, n)))
no_beginning (suc n) e = differ_first e (λ h. absurd (omega (arith, h)))

module _ {code line : List ℕ} {status : ℕ} (run : Run) (o : Observed (codes "a;b;c;d;") code line status run) (h : Compiles run) where
  -- no line is told of a source without a fault where memory was refused
  no_line_told : status ≡ 134 → line ≡ []
  no_line_told is = go (h.refused (o.status ∙ is))
    where
      go : NamesRefused run h.taken ⊎ EndRefused run h.taken end_fault.Memory → line ≡ []
      go (inl s) = silent run o h s.silent
      go (inr (inl s)) = silent run o h s.silent
      go (inr (inr (inl s))) = silent run o h s.silent
      go (inr (inr (inr s))) = let rest = rest_of_source run o h in absurd (no_stop (s.written rest.more rest.follows four (following run o h four four_comes)).stop)

  -- where a read failed texts were written
  texts_written : status ≡ 133 → (Grew run.code.failures run.code_after.failures → ⊥) → (Grew run.line.failures run.line_after.failures → ⊥) → (n : ℕ) × (code ≡ joined (take n four.code))
  texts_written is written told = go (h.failed (o.status ∙ is))
    where
      go : SourceFailed run h.taken ⊎ EndRefused run h.taken end_fault.Device → (n : ℕ) × (code ≡ joined (take n four.code))
      go (inl s) =
          let rest = rest_of_source run o h in
          let w = s.code rest.more rest.follows four (following run o h four four_comes) in
          (s.count, all_written run.code run.code_after _ code o.before.0 o.code w.appended ∙ ap (λ e. opening e ++ joined (take s.count four.code)) o.edition)
      go (inr (inl s)) = absurd (written s.code.counted.0)
      go (inr (inr (inl s))) =
          let rest = rest_of_source run o h in
          let c = s.code rest.more rest.follows four (following run o h four four_comes) in
          absurd (written (subst (λ n. Grew n run.code_after.failures) c.written.failures c.refused.counted.0))
      go (inr (inr (inr s))) = let rest = rest_of_source run o h in absurd (told (s.written rest.more rest.follows four (following run o h four four_comes)).line.counted.0)

no_last_line : (n : ℕ) → codes "E\n" ≡ joined (take n four.code) → ⊥
no_last_line zero e = differs e (λ n. absurd (omega (arith, n)))
no_last_line (suc n) e = differ_first e (λ h. absurd (omega (arith, h)))

pub excluded : Excluded
excluded = record {
  last_line_alone = λ run o w h. differs (done run o h a_function refl).code_right (λ n. absurd (omega (arith, n)));
  source_itself = λ run o w h. differs (done run o h a_function refl).code_right (λ n. absurd (omega (arith, n)));
  kept_back = λ run o w h. differs (faulty run o h a_name_twice refl).code_right (λ n. absurd (omega (arith, n)));
  faulty_written = λ run o w h. differs (faulty run o h a_name_twice refl).code_right (λ n. absurd (omega (arith, n)));
  ended = λ run o w h. differs (faulty run o h a_name_twice refl).code_right (λ n. absurd (omega (arith, n)));
  other_line = λ run o w h. differs (faulty run o h a_name_twice refl).line_right (λ n. absurd (omega (arith, n)));
  no_line = λ run o w h. differs (faulty run o h a_name_twice refl).line_right (λ n. absurd (omega (arith, n)));
  fault_hidden = λ run o w h. differs (done run o h a_name_twice refl).clean (λ n. absurd (omega (arith, n)));
  line_invented = λ run o w h. differs (done run o h a_number refl).quiet (λ n. absurd (omega (arith, n)));
  fault_invented = λ run o w h. (faulty run o h a_number refl).some refl;
  other_status = λ run o w h. no_other run o h refl;
  end_unseen = λ run o w h. unseen run o h w;
  bytes_invented = λ run o w h. given_back run o h w;
  failure_hidden = λ run o w h. w (done run o h a_number refl).read;
  failure_passed = λ run o w h. w (faulty run o h a_name_twice refl).read;
  failure_invented = λ run o w h. some_failed run o h a_number.outcome a_number.goes refl w;
  failure_after_line = λ run o w h. elim (failed run o h a_name_twice.outcome a_name_twice.goes refl) [ inl e ↦ differs e (λ n. absurd (omega (arith, n))) | inr g ↦ w g ];
  refusal_invented = λ run o w h. some_refused run o h (record { code = []; stop = None }) no_code refl refl w;
  last_line_early = λ run o w h. let t = texts_written run o h refl w.0 w.1 in no_last_line t.0 t.1;
  line_before_code = λ run o w h. differs (code_then_line run o h w.0 w.1) (λ n. absurd (omega (arith, n)));
  line_begun_otherwise = λ run o w h. elim (line_begins run o h) [ inl e ↦ differs e (λ n. absurd (omega (arith, n))) | inr l ↦ no_beginning l.0 l.1 ];
  line_for_memory = λ run o w h. differs (no_line_told run o h refl) (λ n. absurd (omega (arith, n)));
  nothing_refused = λ run o w h. empty_refused run o h w.0 w.1;
  two_failures = source_and_output;
  failure_and_refusal = source_and_memory;
  read_early = opened_early;
  read_past = λ run o w h. past_fault run o h w refl;
  blanks_read = λ run o w h. past_blanks run o h w;
  line_late = λ run o w h. past_refusal run o h w.0 refl w.1;
  all_kept = λ run o w h. kept_all run o h w.0 refl w.1;
  names_late = λ run o w h. named_late run o h w.0 refl w.1;
  read_on = λ old new fault h two. two (held_at_fault old new fault h);
}
