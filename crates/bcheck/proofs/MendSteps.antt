-- A source with an edit, by the verdicts on both.
use Rattle.std.proofs.Common.{◌≡◌, ◌∙◌, ◌<◌, ◌≤◌, ◌⊎◌, ◌++◌, ℕ, List, [], Bool, true, false, Option, Some, None, Result, Ok, Err, ap, arith, drop, inl, inr, length, map, refl, subst, sym, take, ◌∷◌, IfSome}
use Rattle.std.specs.Prelude.{MatchResult, nat_lt, if◌then◌else◌, slice_range}
use Rattle.std.proofs.lemmas.List.{take-append-drop}
use Rattle.std.specs.Global.{Vec}
use Rattle.std.proofs.lemmas.Bool.Decides.{nat_tests}
use Rattle.bword.specs.declared.edition.Edition.{Edition}
use Rattle.bword.specs.ByteEnds.{Kept}
use Rattle.blang.specs.Code.{code_of}
use Rattle.blang.specs.Compiles.{Compilation, CompilesTo}
use Rattle.blang.specs.Cut.{line_number_after, tokens_from, Piece, Space, Word, is_last, piece_first, whole}
use Rattle.blang.specs.Layout.{load_fault}
use Rattle.blang.specs.declared.run.LoadFault.{LoadFault}
use Rattle.blang.specs.declared.status.TheConstants.{DONE, REFUSED}
use Rattle.blang.specs.declared.token.Diagnostic.{Diagnostic}
use Rattle.bcheck.specs.Checks.{GoesFarther, IsLater, Judged, StopsBy, StopsPast, status_told, told_first, tokens_in, verdict_line, with_newline}
use Rattle.bcheck.specs.Findings.{FewerNames, Improves, IsCompiled, IsStopOf, StopsApart, StopsOn, Surpasses, definitions_in, definitions_of, is_better, IsSameWrong}
use Rattle.bcheck.specs.UndefinedNames.{told_subjects}
use Rattle.bcheck.specs.declared.verdict.Judgement.{Judgement}
use Rattle.blang.specs.declared.code.Definition.{Definition}
use Rattle.btools.specs.Programs.{HasFault, IsCodeOf}
use Rattle.bcheck.specs.declared.verdict.Verdict.{Verdict}
use Rattle.blang.specs.declared.token.Letters.{Letters}
use Rattle.blang.specs.declared.token.Placed.{Placed}
use Rattle.blang.specs.declared.token.Token.{Token}
use Rattle.blex.proofs.Cutting.{whole-nil}
use Rattle.blex.proofs.PlaceSteps.{places_of_tokens}
use Rattle.blex.specs.Places.{line_at, next_piece, piece_lexeme}
use Rattle.blex.specs.declared.scanner.PlacedPiece.{PlacedPiece}
use Rattle.bcheck.specs.declared.verdict.Verdict.TheVariants as verdict
use Rattle.blang.specs.declared.token.Letters.TheVariants as letters
use Rattle.blang.specs.declared.token.Token.TheVariants as token
use Rattle.blex.specs.declared.lexeme.Lexeme.TheVariants as lexeme

-- what a source with this verdict comes to
abbrev pub StopIs : Verdict → Option Diagnostic → Type 0
StopIs (verdict.Faulty line d) stop = stop ≡ Some d
StopIs v stop = stop ≡ None

status_in : (line other : List ℕ) (a b : ℕ) → ◌≡◌ {A = List ℕ × ℕ} (line, a) (other, b) → a ≡ b
status_in line other a b e = ap (λ (p : List ℕ × ℕ). p.1) e

none_stops : (line : List ℕ) (status : ℕ) (stop : Option Diagnostic) (f : Option LoadFault) → (status ≡ 1 → ⊥) → ◌≡◌ {A = List ℕ × ℕ} (line, status) (told_first stop f) → stop ≡ None
none_stops line status None f other e = refl
none_stops line status (Some d) f other e = absurd (other (ap (λ (p : List ℕ × ℕ). p.1) e))

module _ (edition : Edition) (source : List ℕ) (r : Compilation) (g : CompilesTo [] (tokens_from edition 1 source) r) where
  pub stop_is : (v : Verdict) → Judged edition source v → IsStopOf edition source v → StopIs v r.stop
  stop_is verdict.Clean j s = none_stops [] 0 r.stop (load_fault (map code_of g.definitions)) (λ no. absurd (omega (arith, no))) (j r g)
  stop_is (verdict.Faulty line d) j s = s r g
  stop_is (verdict.Unloaded f) j s = none_stops (verdict_line (verdict.Unloaded f)) 132 r.stop (load_fault (map code_of g.definitions)) (λ no. absurd (omega (arith, no))) (j r g)

  status_is : (v : Verdict) → Judged edition source v → status_told v ≡ (told_first r.stop (load_fault (map code_of g.definitions))).1
  status_is v j = ap (λ (p : List ℕ × ℕ). p.1) (j r g)

pub less : (a b : ℕ) → nat_lt a b ≡ true → a < b
less a b h = grind (arith, nat_tests)

later : (v w : Verdict) (old new : Option Diagnostic) → StopIs v old → StopIs w new → is_better w v ≡ true → IsLater new old
later v verdict.Clean old new before after is = subst (λ s. IsLater s old) (sym after) tt
later v (verdict.Unloaded f) old new before after is = subst (λ s. IsLater s old) (sym after) tt
later (verdict.Faulty line d) (verdict.Faulty other e) old new before after is =
    subst (λ s. IsLater s old) (sym after) (subst (λ s. IsLater (Some e) s) (sym before) (less d.line e.line is))
later verdict.Clean (verdict.Faulty other e) old new before after is = absurd (no_way is)
  where
    no_way : ◌≡◌ {A = Bool} false true → ⊥
    no_way h = cc
later (verdict.Unloaded f) (verdict.Faulty other e) old new before after is = absurd (no_way is)
  where
    no_way : ◌≡◌ {A = Bool} false true → ⊥
    no_way h = cc

still_done : (v w : Verdict) → is_better w v ≡ true → status_told v ≡ DONE → status_told w ≡ DONE
still_done verdict.Clean verdict.Clean is done = refl
still_done verdict.Clean (verdict.Faulty line e) is done = cc
still_done verdict.Clean (verdict.Unloaded f) is done = cc
still_done (verdict.Faulty line d) w is done = let no : ◌≡◌ {A = ℕ} 1 0 = done in absurd (omega (arith, no))
still_done (verdict.Unloaded f) w is done = let no : ◌≡◌ {A = ℕ} 132 0 = done in absurd (omega (arith, no))

-- the definitions that were compiled are those of the source, where it has no fault
code_of_both : (edition : Edition) (source : List ℕ) (code : Result (Vec Definition) Diagnostic) → MatchResult code (λ v. IsCodeOf edition source v.items) (HasFault edition source)
    → (r : Compilation) (g : CompilesTo [] (tokens_from edition 1 source) r) → r.stop ≡ None → map code_of g.definitions ≡ definitions_of code
code_of_both edition source (Ok v) is r g none = (is r g).1
code_of_both edition source (Err d) is r g none = let no : Some d ≡ None = sym (is r g) ∙ none in cc

-- what didn't load does so, or has fewer names that nothing defines
fewer_named : (v w : Verdict) (a b ds before : List Definition) (old new : Option Diagnostic) (g h : ℕ) → is_better w v ≡ true → FewerNames w v ds before → StopIs v old → StopIs w new → status_told v ≡ g → status_told w ≡ h
    → (old ≡ None → a ≡ before) → (new ≡ None → b ≡ ds) → g ≡ REFUSED → (h ≡ DONE) ⊎ (length (told_subjects b) < length (told_subjects a))
fewer_named v verdict.Clean a b ds before old new g h is few before_is after_is e f known also refused = inl (sym f)
fewer_named (verdict.Unloaded x) (verdict.Unloaded y) a b ds before old new g h is few before_is after_is e f known also refused =
    inr (subst (λ x. length (told_subjects x) < length (told_subjects a)) (sym (also after_is)) (subst (λ x. length (told_subjects ds) < length (told_subjects x)) (sym (known before_is)) few))
fewer_named verdict.Clean (verdict.Unloaded y) a b ds before old new g h is few before_is after_is e f known also refused = absurd (no_way is)
  where
    no_way : ◌≡◌ {A = Bool} false true → ⊥
    no_way h = cc
fewer_named (verdict.Faulty line d) w a b ds before old new g h is few before_is after_is e f known also refused =
    let no : ◌≡◌ {A = ℕ} 1 132 = e ∙ refused in absurd (omega (arith, no))
fewer_named verdict.Clean (verdict.Faulty line d) a b ds before old new g h is few before_is after_is e f known also refused = absurd (no_way is)
  where
    no_way : ◌≡◌ {A = Bool} false true → ⊥
    no_way h = cc
fewer_named (verdict.Unloaded x) (verdict.Faulty line d) a b ds before old new g h is few before_is after_is e f known also refused = absurd (no_way is)
  where
    no_way : ◌≡◌ {A = Bool} false true → ⊥
    no_way h = cc

-- what was judged better is a better source
pub improved : (edition : Edition) (source new : List ℕ) (old better : Judgement) → Judged edition source old.verdict → IsStopOf edition source old.verdict → IsCompiled edition source old.compiled
    → Judged edition new better.verdict → IsStopOf edition new better.verdict → IsCompiled edition new better.compiled → Surpasses better old → Improves edition source new
improved edition source new old better j s c k t d is =
    let v = old.verdict in
    let w = better.verdict in
    λ r g n h. (
      inl (later v w r.stop n.stop (stop_is edition source r g v j s) (stop_is edition new n h w k t) is.0),
      λ done. sym (status_is edition new n h w k) ∙ still_done v w is.0 (status_is edition source r g v j ∙ done),
      fewer_named v w (map code_of g.definitions) (map code_of h.definitions) (definitions_in better.compiled) (definitions_in old.compiled) r.stop n.stop _ _ is.0 is.1 (stop_is edition source r g v j s) (stop_is edition new n h w k t)
          (status_is edition source r g v j) (status_is edition new n h w k) (code_of_both edition source old.compiled.code c r g) (code_of_both edition new better.compiled.code d n h),
    )

-- of a source with a fault, one whose first fault is farther on is better
pub went_on : (edition : Edition) (source new : List ℕ) (v : Verdict) (line : Kept) (d : Diagnostic) → v ≡ verdict.Faulty line d → Judged edition source v → GoesFarther edition new source → Improves edition source new
went_on edition source new v line d is j far =
    λ r g n h.
    let one : 1 ≡ (told_first r.stop (load_fault (map code_of g.definitions))).1 = subst (λ x. status_told x ≡ (told_first r.stop (load_fault (map code_of g.definitions))).1) is (status_is edition source r g v j) in (
      inr far,
      λ done. absurd (omega (arith, one, done)),
      λ refused. absurd (omega (arith, one, refused)),
    )

-- a source with this verdict stops on the line of it
pub stops_on : (line : Kept) (d : Diagnostic) (edition : Edition) (before rest : List ℕ) → IsStopOf edition (with_newline before rest) (verdict.Faulty line d) → StopsOn edition before rest d.line
stops_on line d edition before rest h = (d, h, refl)

-- a newline that changes no token shows that a fault is farther on
pub farther : (edition : Edition) (new old before changed rest : List ℕ) (a b : ℕ) → old ≡ before ++ rest → new ≡ changed ++ rest
    → StopsApart edition old before rest a → StopsApart edition new changed rest b → a ≤ line_number_after 1 before → line_number_after 1 changed < b → GoesFarther edition new old
farther edition new old before changed rest a b e f (s, same) (t, also) h k =
    record {
      before = before;
      changed = changed;
      rest = rest;
      old_is = e;
      new_is = f;
      old_apart = same ∙ ap (tokens_in edition) e;
      new_apart = also ∙ ap (tokens_in edition) f;
      by = λ r g. subst (λ o. StopsBy (line_number_after 1 before) o) (sym (s.1 r g)) (subst (λ n. n ≤ line_number_after 1 before) (sym s.2) h);
      past = λ r g. subst (λ o. StopsPast (line_number_after 1 changed) o) (sym (t.1 r g)) (subst (λ n. line_number_after 1 changed < n) (sym t.2) k);
    }

-- a text in two parts
pub parted : (n : ℕ) (xs before rest : List ℕ) → before ≡ take n xs → rest ≡ drop n xs → xs ≡ before ++ rest
parted n xs before rest e f = sym (take-append-drop n xs) ∙ sym (ap (λ b. b ++ drop n xs) e) ∙ sym (ap (λ r. before ++ r) f)

-- Two sources whose next pieces are the same, one after another, have the same tokens.

abbrev without_lines : List Placed → List Token
without_lines ps = map (λ (p : Placed). p.token) ps

-- the token of a piece, and those after it
abbrev word_first : Option Piece → List Token → List Token
word_first None rest = token.Bad letters.Character ∷ []
word_first (Some Space) rest = rest
word_first (Some (Word t)) rest = t ∷ (if is_last t then [] else rest)

if_without : (b : Bool) (rest : List Placed)
    → without_lines (if b then [] else rest) ≡ (if b then [] else without_lines rest)
if_without true rest = refl
if_without false rest = refl

tokens_first : (o : Option Piece) (line : ℕ) (rest : List Placed)
    → without_lines (piece_first o line rest) ≡ word_first o (without_lines rest)
tokens_first None line rest = refl
tokens_first (Some Space) line rest = refl
tokens_first (Some (Word t)) line rest = ap (λ ts. t ∷ ts) (if_without (is_last t) rest)

-- a wrong token is the last one
wrong_first : (o : Option Piece) (rest : List Token) (l : Letters) → piece_lexeme o ≡ Some (lexeme.Bad l)
    → word_first o rest ≡ token.Bad l ∷ []
wrong_first (Some (Word (token.Bad letters))) rest l e =
    let same : letters ≡ l = cc in ap (λ (x : Letters). token.Bad x ∷ []) same
wrong_first _ rest l e = cc

-- the text of a piece
abbrev pub text_of : List ℕ → PlacedPiece → List ℕ
text_of source p = slice_range source p.first p.end

module _ (edition : Edition) where
  -- the tokens from a place on
  abbrev pub upcoming : List ℕ → (at : ℕ) → List Token
  upcoming source at = without_lines (tokens_from edition (line_at source at) (drop at source))

  step : (source : List ℕ) (at : ℕ) → let p = next_piece edition source at in
      upcoming source at ≡ word_first (whole edition (text_of source p)) (upcoming source p.end)
  step source at =
      let p = next_piece edition source at in
      ap without_lines (places_of_tokens edition source at)
      ∙ tokens_first (whole edition (text_of source p)) (line_at source p.first) _

  ends : (source : List ℕ) (at : ℕ) → text_of source (next_piece edition source at) ≡ []
      → upcoming source at ≡ token.End ∷ []
  ends source at none =
      let p = next_piece edition source at in
      step source at ∙ ap (λ t. word_first (whole edition t) (upcoming source p.end)) none
      ∙ ap (λ o. word_first o (upcoming source p.end)) (whole-nil edition)

  ends_wrong : (source : List ℕ) (at : ℕ) (p : PlacedPiece) (l : Letters) → p ≡ next_piece edition source at
      → p.lexeme ≡ Some (lexeme.Bad l) → upcoming source at ≡ token.Bad l ∷ []
  ends_wrong source at p l is e =
      let next = next_piece edition source at in
      step source at
      ∙ wrong_first (whole edition (text_of source next)) (upcoming source next.end) l
      (ap (λ (p : PlacedPiece). p.lexeme) (sym is) ∙ e)

  -- So far both sources have the same tokens: all are the same if those to come are.
  pub record Agrees (one other : List ℕ) (at place : ℕ) : Type 0 where
    pub same : upcoming one at ≡ upcoming other place → tokens_in edition one ≡ tokens_in edition other

  pub agrees_from : (one other : List ℕ) → Agrees one other 0 0
  agrees_from one other = record { same = λ e. e }

  pub agrees_wrong : (one other : List ℕ) (at place : ℕ) (piece found : PlacedPiece)
      → piece ≡ next_piece edition one at → found ≡ next_piece edition other place → Agrees one other at place
      → IsSameWrong piece.lexeme found.lexeme → tokens_in edition one ≡ tokens_in edition other
  agrees_wrong one other at place piece found is also h (l, e, f) =
      h.same (ends_wrong one at piece l is e ∙ sym (ends_wrong other place found l also f))

  module _ (one other : List ℕ) (at place : ℕ) (piece found : PlacedPiece) (is : piece ≡ next_piece edition one at) (also : found ≡ next_piece edition other place) (h : Agrees one other at place) (e : text_of one piece ≡ text_of other found) where
    here : text_of one (next_piece edition one at) ≡ text_of other (next_piece edition other place)
    here = ap (text_of one) (sym is) ∙ e ∙ ap (text_of other) also

    pub agrees_more : Agrees one other piece.end found.end
    agrees_more = record {
      same = λ k.
          let after : upcoming one (next_piece edition one at).end ≡ upcoming other (next_piece edition other place).end =
          ap (λ (p : PlacedPiece). upcoming one p.end) (sym is) ∙ k
          ∙ ap (λ (p : PlacedPiece). upcoming other p.end) also in
          h.same
          (step one at ∙ ap (λ t. word_first (whole edition t) (upcoming one (next_piece edition one at).end)) here
          ∙ ap (word_first (whole edition (text_of other (next_piece edition other place)))) after
          ∙ sym (step other place));
    }

    pub agrees_all : text_of one piece ≡ [] → tokens_in edition one ≡ tokens_in edition other
    agrees_all none =
        let first : text_of one (next_piece edition one at) ≡ [] = ap (text_of one) (sym is) ∙ none in
        h.same (ends one at first ∙ sym (ends other place (sym here ∙ first)))

-- a fault on this line, of a source whose tokens a newline doesn't change
pub stops_apart : (edition : Edition) (source before rest : List ℕ) (line : Option ℕ)
    → tokens_in edition (before ++ 10 ∷ rest) ≡ tokens_in edition source → IfSome line (StopsOn edition before rest)
    → IfSome line (StopsApart edition source before rest)
stops_apart edition source before rest None same stops = tt
stops_apart edition source before rest (Some line) same stops = (stops, same)
