-- Readers of things with commas between them read on, are sound, and read a spelling again.
use Rattle.std.proofs.Common.{◌≡◌, ℕ, List, [], ◌∷◌, ◌++◌, sym, ap, ◌∙◌, refl, subst, append_assoc, Some, None}
use Rattle.blang.specs.declared.token.Token.{Token}
use Rattle.blang.specs.declared.token.Token.TheVariants as token
use Rattle.blang.specs.declared.token.Placed.{Placed}
use Rattle.blang.specs.Trees.{mark, kept_tokens}
use Rattle.bgrammar.specs.Spelling.{comma_spelling, list_spelling, spelling}
use Rattle.bgrammar.specs.Reading.{Read, Got, Stop, Reader, ◌>>=◌, first, many}
use Rattle.bgrammar.specs.ExpressionReader.{comma, always}
use Rattle.blang.specs.WellFormed.{IsNonempty}
use Rattle.bgrammar.specs.Fitting.{EachAfter}
use Rattle.bgrammar.specs.Commas.{comma_item, list_reader}
use Rattle.bgrammar.proofs.Fine.{Fine, then_fine, map_fine, enters, Loop, opened_loop, many_none, many_some, many_start, many_fine}
use Rattle.bgrammar.proofs.ExpressionFine.{Closer, closing}
use Rattle.bgrammar.proofs.ExpressionSound.{Sound, sound_turns}
use Rattle.blang.specs.Walk.{Walk, walk_commas, walk_list}
use Rattle.bgrammar.proofs.Forms.{onto}

pub append-nil : {A : Type 0} (xs : List A) → xs ++ [] ≡ xs
append-nil [] = refl
append-nil (x ∷ xs) = ap (λ l. x ∷ l) (append-nil xs)

module _ {A : Type 0} (item : List A → Reader A) (fine : (before : List A) (ts : List Placed) → Fine Closer (item before) ts) where
  no_comma : (before : List A) (t : Token) → Closer t → comma t ≡ None
  no_comma before token.Comma h = cc
  no_comma before _ h = refl

  pub comma_loop : Loop closing (always comma) (comma_item item)
  comma_loop = opened_loop closing (always comma) (comma_item item) no_comma (λ b before t h. enters (λ x. item before x >>= λ a. Got (before ++ a ∷ [])) (λ ts. refl) (λ ts. map_fine closing (item before) (λ a. before ++ a ∷ []) ts (fine before ts)))

  pub list_fine : (ts : List Placed) → Fine Closer (list_reader item) ts
  list_fine ts = then_fine closing (item []) (λ a. many (always comma) (comma_item item) (a ∷ [])) (λ a. many_start closing (always comma) (comma_item item) comma_loop (a ∷ [])) ts (fine [] ts) (λ a r. many_fine closing (always comma) (comma_item item) comma_loop (a ∷ []) r)

module _ {A : Type 0} (item : List A → Reader A) (say : A → Walk) (P : List A → A → Type 0) (sound : (before : List A) (ts : List Placed) → Sound (spelling say) (P before) (kept_tokens ts) (item before ts)) where
  -- a list that isn't empty, each thing of which holds what it must
  abbrev pub IsListed : List A → Type 0
  IsListed xs = IsNonempty xs × EachAfter P [] xs

  comma_spelling-append : (xs : List A) (a : A) → comma_spelling say (xs ++ a ∷ []) ≡ comma_spelling say xs ++ (mark token.Comma ∷ spelling say a)
  comma_spelling-append [] a = ap (λ l. mark token.Comma ∷ l) (append-nil (spelling say a))
  comma_spelling-append (x ∷ xs) a = ap (λ l. mark token.Comma ∷ (spelling say x ++ l)) (comma_spelling-append xs a) ∙ ap (λ l. mark token.Comma ∷ l) (sym (append_assoc (spelling say x) (comma_spelling say xs) (mark token.Comma ∷ spelling say a)))

  list_spelling-append : (xs : List A) → IsNonempty xs → (a : A) → list_spelling say (xs ++ a ∷ []) ≡ list_spelling say xs ++ (mark token.Comma ∷ spelling say a)
  list_spelling-append [] n a = absurd n
  list_spelling-append (x ∷ xs) n a = ap (λ l. spelling say x ++ l) (comma_spelling-append xs a) ∙ sym (append_assoc (spelling say x) (comma_spelling say xs) (mark token.Comma ∷ spelling say a))

  EachAfter-append : (before xs : List A) (a : A) → EachAfter P before xs → P (before ++ xs) a → EachAfter P before (xs ++ a ∷ [])
  EachAfter-append before [] a e p = (subst (λ l. P l a) (append-nil before) p, tt)
  EachAfter-append before (x ∷ xs) a e p = (e.0, EachAfter-append (before ++ x ∷ []) xs a e.1 (subst (λ l. P l a) (sym (append_assoc before (x ∷ []) xs)) p))

  nonempty-append : (xs : List A) (a : A) → IsNonempty (xs ++ a ∷ [])
  nonempty-append [] a = tt
  nonempty-append (x ∷ xs) a = tt

  item_sound_at : (b : Unit {0}) (before : List A) (t : Token) (line : ℕ) (ts : List Placed) → comma t ≡ Some b → IsListed before → Sound (list_spelling say) IsListed (list_spelling say before ++ kept_tokens (record { token = t; line = line } ∷ ts)) (comma_item item b before (record { token = t; line = line } ∷ ts))
  item_sound_at b before token.Comma line ts h l = go (item before ts) (sound before ts)
    where
      go : (x : Read A) → Sound (spelling say) (P before) (kept_tokens ts) x → Sound (list_spelling say) IsListed (list_spelling say before ++ (mark token.Comma ∷ kept_tokens ts)) (x >>= λ a. Got (before ++ a ∷ []))
      go (Got a r) s = (ap (λ l. list_spelling say before ++ (mark token.Comma ∷ l)) s.0 ∙ sym (append_assoc (list_spelling say before) (mark token.Comma ∷ spelling say a) (kept_tokens r)) ∙ ap (λ l. l ++ kept_tokens r) (sym (list_spelling-append before l.0 a)), (nonempty-append before a, EachAfter-append [] before a l.1 s.1))
      go (Stop r) s = tt
  item_sound_at b before _ line ts h l = cc

  item_sound : (b : Unit {0}) (before : List A) (ts : List Placed) → comma (first ts) ≡ Some b → IsListed before → Sound (list_spelling say) IsListed (list_spelling say before ++ kept_tokens ts) (comma_item item b before ts)
  item_sound b before [] h l = cc
  item_sound b before (t ∷ ts) h l = item_sound_at b before t.token t.line ts h l

  pub list_sound : (ts : List Placed) → Sound (list_spelling say) IsListed (kept_tokens ts) (list_reader item ts)
  list_sound ts = go (item [] ts) (sound [] ts)
    where
      go : (x : Read A) → Sound (spelling say) (P []) (kept_tokens ts) x → Sound (list_spelling say) IsListed (kept_tokens ts) (x >>= λ a. many (always comma) (comma_item item) (a ∷ []))
      go (Got a r) s = subst (λ w. Sound (list_spelling say) IsListed w (many (always comma) (comma_item item) (a ∷ []) r)) (ap (λ l. l ++ kept_tokens r) (append-nil (spelling say a)) ∙ sym s.0) (sound_turns (list_spelling say) IsListed (always comma) (comma_item item) item_sound _ (a ∷ []) r (tt, (s.1, tt)))
      go (Stop r) s = tt

module _ {A : Type 0} (item : List A → Reader A) (say : A → Walk) (P : List A → A → Type 0) (fine : (before : List A) (ts : List Placed) → Fine Closer (item before) ts) (Follow : Token → Type 0) (comma_follows : Follow token.Comma) (again : (before : List A) (a : A) (rest : List Placed) → P before a → Follow (first rest) → item before (onto (say a) rest) ≡ Got a rest) where
  follows : (xs : List A) (rest : List Placed) → Follow (first rest) → Follow (first (onto (walk_commas say xs) rest))
  follows [] rest f = f
  follows (x ∷ xs) rest f = comma_follows

  many_again : (before xs : List A) (rest : List Placed) → EachAfter P before xs → Follow (first rest) → comma (first rest) ≡ None → many (always comma) (comma_item item) before (onto (walk_commas say xs) rest) ≡ Got (before ++ xs) rest
  many_again before [] rest e f n = many_none (always comma) (comma_item item) before rest n ∙ ap (λ l. Got l rest) (sym (append-nil before))
  many_again before (x ∷ xs) rest e f n =
      many_some closing (always comma) (comma_item item) (comma_loop item fine) tt before (mark token.Comma ∷ onto (say x) (onto (walk_commas say xs) rest)) refl
      ∙ ap (λ y. (y >>= λ a. Got (before ++ a ∷ [])) >>= many (always comma) (comma_item item)) (again before x (onto (walk_commas say xs) rest) e.0 (follows xs rest f))
      ∙ many_again (before ++ x ∷ []) xs rest e.1 f n
      ∙ ap (λ l. Got l rest) (append_assoc before (x ∷ []) xs)

  pub list_again : (xs : List A) (rest : List Placed) → IsNonempty xs → EachAfter P [] xs → Follow (first rest) → comma (first rest) ≡ None → list_reader item (onto (walk_list say xs) rest) ≡ Got xs rest
  list_again [] rest i e f n = absurd i
  list_again (x ∷ xs) rest i e f n =
      ap (λ y. y >>= λ a. many (always comma) (comma_item item) (a ∷ [])) (again [] x (onto (walk_commas say xs) rest) e.0 (follows xs rest f))
      ∙ many_again (x ∷ []) xs rest e.1 f n
