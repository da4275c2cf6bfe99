-- How takings of tokens compose.
use Rattle.std.proofs.Common.{◌≡◌, ℕ, ◌+◌, ◌<◌, ◌≤◌, Bool, true, false, List, [], ◌∷◌, ◌++◌, length, Option, Some, None, Ok, Err, refl, sym, ap, ◌∙◌, arith, append-nil, append_assoc, length-append, subst, if◌then◌else◌, ◌⊎◌, inl, inr}
use Rattle.std.specs.Prelude.{is_some, Result, OnOk}
use Rattle.std.proofs.lemmas.Bool.{both_ways}
use Rattle.bword.proofs.Taking.{nil-append}
use Rattle.blex.specs.Sources.{Source, room}
use Rattle.blex.specs.Lexing.{PassesToken}
use Rattle.blex.specs.Lexemes.{token_of_lexeme}
use Rattle.blex.specs.declared.lexeme.Lexeme.{Lexeme}
use Rattle.blex.specs.declared.lexeme.Lexeme.TheVariants as lexeme
use Rattle.blex.specs.declared.lexeme.Seen.{Seen}
use Rattle.blex.specs.Lexers.{Lexer, LexGives, GivesAt, OpenGives, progress_after}
use Rattle.blang.specs.Endings.{EndsWith}
use Rattle.blang.specs.Cut.{is_last, token_first, tokens_from}
use Rattle.blex.specs.Lasts.{last_of}
use Rattle.blex.proofs.CallLaws.{last_is}
use Rattle.blex.specs.Sources as S
use Rattle.blex.specs.declared.lexer.LexStop.{LexStop}
use Rattle.blex.specs.declared.lexer.LexStop.TheVariants as stop
use Rattle.blex.specs.declared.lexer.Progress.{Progress}
use Rattle.blex.specs.declared.lexer.Progress.TheVariants as progress
use Rattle.blex.specs.declared.lexeme.Last.{Last}
use Rattle.blang.specs.declared.token.Token.{Token}
use Rattle.blang.specs.declared.token.Token.TheVariants as token
use Rattle.blang.specs.declared.token.Placed.{Placed}
use Rattle.blex.proofs.Passing.{Took-none, Took-append, Grew-after}
use Rattle.bgrammar.specs.Reading.{first, after}
use Rattle.bemit.specs.Trails.{Lines}
use Rattle.bread.specs.Tokens.{Tokens, with_noted, lines_in, both, is_string, is_name, is_name_seen, token_seen, tokens_of, tokens_with, IsReady, IsReadyWith, IsLoaded, weight, work, TakesAhead, last_ahead, LooksAt, Moves, TokensFail, Same, KeepsAhead, Looks, AreAfter, Advances, AdvancesTo, LooksOn}
use Rattle.bword.specs.declared.edition.Edition.{Edition}
use Rattle.bword.specs.ByteEnds.{CanFollow}

-- what can follow after can follow before
pub CanFollow-append : {a b c : Source} {xs ys : List ℕ} → TakesAhead a xs b → TakesAhead b ys c → (more : List ℕ) → CanFollow c.end more → CanFollow b.end (ys ++ more)
CanFollow-append {a} {b} {c} {xs} {ys} h k more f = λ over. let o = k.took.over over in nil-append ys more o.0 (f o.1)

pub Reads-none : (s : Source) → length s.ahead ≤ 2 → TakesAhead s [] s
Reads-none s n = record { took = Took-none s.end; lender = refl; near = n }

pub Reads-append : {a b c : Source} {xs ys : List ℕ} → TakesAhead a xs b → TakesAhead b ys c → TakesAhead a (xs ++ ys) c
Reads-append h k = record { took = Took-append h.took k.took; lender = k.lender ∙ h.lender; near = k.near }

pub EndsWith-append : {edition : Edition} {t : Token} (xs : List ℕ) {ys : List ℕ} → EndsWith edition t ys → EndsWith edition t (xs ++ ys)
EndsWith-append xs e = record { before = xs ++ e.before; text = e.text; split = ap (λ l. xs ++ l) e.split ∙ sym (append_assoc xs e.before e.text); is = e.is }

pub LooksAt-none : (t : Tokens) → LooksAt t [] t
LooksAt-none t = record { edition = refl; bytes = []; split = append-nil t.source.ahead; ends = λ p e. inr (refl, e) }

pub LooksAt-append : {a b c : Tokens} {xs ys : List ℕ} → LooksAt a xs b → LooksAt b ys c → LooksAt a (xs ++ ys) c
LooksAt-append {a} {b} {c} {xs} {ys} h k = record {
  edition = k.edition ∙ h.edition;
  bytes = h.bytes ++ k.bytes;
  split =
      sym (append_assoc a.source.ahead xs ys) ∙ ap (λ l. l ++ ys) h.split ∙ append_assoc h.bytes b.source.ahead ys
      ∙ ap (λ l. h.bytes ++ l) k.split ∙ sym (append_assoc h.bytes k.bytes c.source.ahead);
  ends = λ p e. both_ends p (k.ends p e);
}
  where
    first_ends : (p : Placed) → k.bytes ≡ [] → EndsWith a.source.edition p.token h.bytes ⊎ ((h.bytes ≡ []) × (last_ahead a.ahead ≡ Some p)) → EndsWith a.source.edition p.token (h.bytes ++ k.bytes) ⊎ ((h.bytes ++ k.bytes ≡ []) × (last_ahead a.ahead ≡ Some p))
    first_ends p none (inl e) = inl (subst (EndsWith a.source.edition p.token) (sym (append-nil h.bytes) ∙ ap (λ l. h.bytes ++ l) (sym none)) e)
    first_ends p none (inr e) = inr (nil-append h.bytes k.bytes e.0 none, e.1)

    both_ends : (p : Placed) → EndsWith b.source.edition p.token k.bytes ⊎ ((k.bytes ≡ []) × (last_ahead b.ahead ≡ Some p)) → EndsWith a.source.edition p.token (h.bytes ++ k.bytes) ⊎ ((h.bytes ++ k.bytes ≡ []) × (last_ahead a.ahead ≡ Some p))
    both_ends p (inl e) = inl (EndsWith-append h.bytes (subst (λ x. EndsWith x p.token k.bytes) h.edition e))
    both_ends p (inr e) = first_ends p e.0 (h.ends p e.1)

-- one move after another
abbrev pub Moves-append : {a b c : Tokens} {P Q : List Placed → List Placed → Type 0} (R : List Placed → List Placed → Type 0) → ((u v w : List Placed) → P u v → Q v w → R u w) → Moves a b P → Moves b c Q → Moves a c R
Moves-append {a} {b} {c} {P} {Q} R both_are h k = record {
  taken = h.taken ++ k.taken;
  reads = Reads-append h.reads k.reads;
  looked = LooksAt-append h.looked k.looked;
  failures = k.failures ∙ h.failures;
  falls = let x = h.falls in let y = k.falls in omega arith;
  come = λ more f.
      subst (λ xs. R (tokens_of a xs) (tokens_of c more)) (sym (append_assoc h.taken k.taken more))
      (both_are _ _ _ (h.come (k.taken ++ more) (CanFollow-append h.reads k.reads more f)) (k.come more f));
  passed = λ ls. h.passed (k.passed ls);
  spans = λ more f.
      ap (λ xs. lines_in (tokens_of a xs)) (append_assoc h.taken k.taken more)
      ∙ h.spans (k.taken ++ more) (CanFollow-append h.reads k.reads more f) ∙ ap h.passed (k.spans more f);
}

-- the same move, as something else that holds of it
abbrev pub Moves-as : {a b : Tokens} {P : List Placed → List Placed → Type 0} (R : List Placed → List Placed → Type 0) → ((u v : List Placed) → P u v → R u v) → Moves a b P → Moves a b R
Moves-as R f h = record { taken = h.taken; reads = h.reads; looked = h.looked; failures = h.failures; falls = h.falls; come = λ more c. f _ _ (h.come more c); passed = h.passed; spans = h.spans }

pub Moves-breaks : {a b c : Tokens} {P : List Placed → List Placed → Type 0} → Moves a b P → TokensFail b c → TokensFail a c
Moves-breaks h k = record { taken = h.taken ++ k.taken; reads = Reads-append h.reads k.reads; counted = Grew-after _ _ _ h.failures k.counted }

none_of : (o : Option Last) → is_some o ≡ false → o ≡ None
none_of None e = refl
none_of (Some x) e = cc

after_open : (p : Progress) (at : Placed) → p ≡ progress_after (last_of at.token) at.line → is_last at.token ≡ false → p ≡ progress.Open
after_open p at e h = e ∙ ap (λ o. progress_after o at.line) (none_of (last_of at.token) (sym (last_is at.token) ∙ h))

pub name_goes_on : (t : Token) → is_name t ≡ true → is_last t ≡ false
name_goes_on (token.Name text) h = refl
name_goes_on _ h = cc

pub name_plain : (t : Token) → is_name t ≡ true → is_string t ≡ false
name_plain (token.Name text) h = refl
name_plain _ h = cc

-- tokens as a lexer and what is ahead
abbrev pub tokens_at : Lines → Lexer → List Placed → Tokens
tokens_at noted lexer ahead = record { source = lexer.source; progress = lexer.progress; text = lexer.characters; ahead = ahead; noted = noted }

-- what is ahead stays
abbrev pub stays_same : (t : Tokens) → length t.source.ahead ≤ 2 → Moves t t Same
stays_same t near = record { taken = []; reads = Reads-none t.source near; looked = LooksAt-none t; failures = refl; falls = omega arith; come = λ more f. refl; passed = λ ls. ls; spans = λ more f. refl }

weight_of : (t : Token) (b : Bool) → is_last t ≡ b → (l m : ℕ) → (b ≡ false → l < m) → l ≤ m → l + (if b then 0 else 1) ≤ m
weight_of t true e l m h k = omega (arith, k)
weight_of t false e l m h k = omega (arith, h refl)

module _ (old new : Lexer) (at : Placed) (gives : LexGives old (Ok at) new) (near : length new.source.ahead ≤ 2) (less : is_last at.token ≡ false → room new.source < room old.source) (opened : old.progress ≡ progress.Open) where
  given : OpenGives old.source (Ok at) new.source new.progress
  given = subst (λ p. GivesAt p old (Ok at) new) opened gives

  passes : PassesToken old.source at new.source
  passes = given.0

  comes : (more : List ℕ) → CanFollow new.source.end more → tokens_from old.source.edition old.source.line (old.source.ahead ++ (passes.passes.taken ++ more)) ≡ token_first at.token at.line (tokens_from new.source.edition new.source.line (new.source.ahead ++ more))
  comes more f =
      ap (tokens_from old.source.edition old.source.line) (sym (append_assoc old.source.ahead passes.passes.taken more) ∙ ap (λ l. l ++ more) passes.passes.split ∙ append_assoc passes.bytes new.source.ahead more)
      ∙ passes.cut (new.source.ahead ++ more) (record { more = more; split = refl; over = f })
      ∙ ap (λ e. token_first at.token at.line (tokens_from e new.source.line (new.source.ahead ++ more))) (sym passes.passes.edition)

  reads : TakesAhead old.source passes.passes.taken new.source
  reads = record { took = passes.passes.took; lender = passes.passes.lender; near = near }

  less_or_same : room new.source ≤ room old.source
  less_or_same = let b = passes.passes.took.bound in omega (arith, ap length passes.passes.split, length-append old.source.ahead passes.passes.taken, length-append passes.bytes new.source.ahead)

  lighter : room new.source + weight at.token ≤ room old.source
  lighter = weight_of at.token (is_last at.token) refl (room new.source) (room old.source) less less_or_same

  ready : IsReadyWith (at ∷ []) new.progress
  ready = λ e. after_open new.progress at given.1 e

  ends_with : (p : Placed) → Some at ≡ Some p → EndsWith old.source.edition p.token passes.bytes
  ends_with p e =
      let same : at ≡ p = cc in
      subst (λ q. EndsWith old.source.edition q.token passes.bytes) same (record { before = passes.space; text = passes.text; split = passes.split; is = passes.is })

  looks_next : (noted : Lines) → Looks (tokens_at noted old []) (tokens_at noted new (at ∷ []))
  looks_next noted = record {
    moves = record {
      taken = passes.passes.taken;
      reads = reads;
      looked = record { edition = passes.passes.edition; bytes = passes.bytes; split = passes.passes.split; ends = λ p e. inl (ends_with p e) };
      failures = passes.passes.failures;
      falls = let l = lighter in omega arith;
      come = comes;
      passed = λ ls. ls;
      spans = λ more f. ap lines_in (comes more f);
    };
    loaded = record { current = at; following = []; ahead = refl; alone = λ e. refl; ready = ready; near = near };
    alone = refl;
    keeps = tt;
    none = λ ls. refl;
    noted = refl;
  }

  looks_on : (noted : Lines) (p : Placed) → is_name p.token ≡ true → LooksOn (tokens_at noted old (p ∷ [])) (tokens_at noted new (p ∷ at ∷ []))
  looks_on noted p named = record {
    moves = record {
      taken = passes.passes.taken;
      reads = reads;
      looked = record { edition = passes.passes.edition; bytes = passes.bytes; split = passes.passes.split; ends = λ q e. inl (ends_with q e) };
      failures = passes.passes.failures;
      falls = let l = lighter in omega arith;
      come = λ more f. ap (token_first p.token p.line) (comes more f);
      passed = λ ls. ls;
      spans = λ more f. ap (λ ts. lines_in (token_first p.token p.line ts)) (comes more f);
    };
    loaded = record { current = p; following = at ∷ []; ahead = refl; alone = λ e. absurd (both_ways (is_name p.token) e named); ready = λ e. ready; near = near };
    first_is = refl;
    line_is = refl;
    second = at;
    second_is = refl;
    none = λ ls. refl;
    noted = refl;
  }

broken_at : (s : LexStop) (old new : Lexer) → OpenGives old.source (Err s) new.source new.progress → S.SourceFails old.source new.source
broken_at stop.Device old new h = h.0
broken_at stop.Closed old new h = absurd h

pub lex_breaks : {noted : Lines} (s : LexStop) (old new : Lexer) (ps qs : List Placed) → LexGives old (Err s) new → old.progress ≡ progress.Open → length new.source.ahead ≤ 2 → TokensFail (tokens_at noted old ps) (tokens_at noted new qs)
lex_breaks {noted = noted} s old new ps qs gives opened near =
    let broken = broken_at s old new (subst (λ p. GivesAt p old (Err s) new) opened gives) in
    record { taken = broken.taken; reads = record { took = broken.took; lender = broken.lender; near = near }; counted = broken.counted }

pub none_is : {A : Type 0} (o : Option A) → is_some o ≡ false → o ≡ None
none_is None e = refl
none_is (Some x) e = cc

-- a token that is no string has no text
plain_lexeme : (a b : List ℕ) (l : Lexeme) → is_string (token_of_lexeme l a) ≡ false → token_of_lexeme l b ≡ token_of_lexeme l a
plain_lexeme a b lexeme.String h = cc
plain_lexeme a b _ h = refl

pub plain_seen : (a b : List ℕ) (seen : Option Seen) (following : Option Placed) → is_string (first (both (token_seen a seen) following)) ≡ false → token_seen b seen ≡ token_seen a seen
plain_seen a b None following h = refl
plain_seen a b (Some s) None h = ap (λ t. Some (record { token = t; line = s.line })) (plain_lexeme a b s.lexeme h)
plain_seen a b (Some s) (Some p) h = ap (λ t. Some (record { token = t; line = s.line })) (plain_lexeme a b s.lexeme h)

pub seen_is : (text : List ℕ) (seen : Option Seen) (b : Bool) → is_some seen ≡ b → is_some (token_seen text seen) ≡ b
seen_is text None b h = h
seen_is text (Some s) b h = h

pub seen_none : (text : List ℕ) (seen : Option Seen) → seen ≡ None → token_seen text seen ≡ None
seen_none text seen h = ap (token_seen text) h

-- whether a name was seen, by its token
name_lexeme : (text : List ℕ) (l : Lexeme) → is_name (token_of_lexeme l []) ≡ is_name (token_of_lexeme l text)
name_lexeme text lexeme.String = refl
name_lexeme text _ = refl

pub name_seen : (text : List ℕ) (seen : Option Seen) (following : Option Placed) → is_name_seen seen ≡ is_name (first (both (token_seen text seen) following))
name_seen text None following = refl
name_seen text (Some s) None = name_lexeme text s.lexeme
name_seen text (Some s) (Some p) = name_lexeme text s.lexeme

pub alone_seen : (text : List ℕ) (current following : Option Seen) → (is_name_seen current ≡ false → following ≡ None) → is_name (first (both (token_seen text current) (token_seen text following))) ≡ false → token_seen text following ≡ None
alone_seen text current following h e = seen_none text following (h (name_seen text current (token_seen text following) ∙ e))

first_both : (p : Placed) (following : Option Placed) → first (both (Some p) following) ≡ p.token
first_both p None = refl
first_both p (Some q) = refl

-- where the view of a lexer and what is ahead is these tokens
module _ {noted : Lines} (old : Tokens) (lexer : Lexer) (current following : Option Placed) (view : tokens_at noted lexer (both current following) ≡ old) (near : length lexer.source.ahead ≤ 2) where
  pub look_breaks : IsReady old → (s : LexStop) (new : Lexer) (ps : List Placed) → LexGives lexer (Err s) new → length new.source.ahead ≤ 2 → is_some current ≡ false → TokensFail old (tokens_at noted new ps)
  look_breaks ready s new ps gives near2 none =
      subst (λ o. TokensFail o (tokens_at noted new ps)) view
      (lex_breaks {noted = noted} s lexer new (both current following) ps gives (subst (λ o. IsReadyWith (both o following) lexer.progress) (none_is current none) (subst IsReady (sym view) ready)) near2)

  pub looked : IsReady old → (new : Lexer) (at : Placed) → LexGives lexer (Ok at) new → length new.source.ahead ≤ 2 → (is_last at.token ≡ false → room new.source < room lexer.source) → is_some current ≡ false → (next : Option Placed) → next ≡ None → Looks old (tokens_at noted new (both (Some at) next))
  looked ready new at gives near2 less none next no_after =
      subst (λ o. Looks o (tokens_at noted new (both (Some at) next))) (ap (λ o. tokens_at noted lexer (both o following)) (sym (none_is current none)) ∙ view)
      (subst (λ b. Looks (tokens_at noted lexer []) (tokens_at noted new (both (Some at) b))) (sym no_after)
      (looks_next lexer new at gives near2 less (subst (λ o. IsReadyWith (both o following) lexer.progress) (none_is current none) (subst IsReady (sym view) ready)) noted))

  keeps_all : (ps : List Placed) → KeepsAhead ps ps
  keeps_all [] = tt
  keeps_all (p ∷ ps) = (refl, refl)

  loaded_at : (o b : Option Placed) → is_some o ≡ true → IsReadyWith (both o b) lexer.progress → (is_name (first (both o b)) ≡ false → b ≡ None) → IsLoaded (tokens_at noted lexer (both o b))
  loaded_at None b e r a = cc
  loaded_at (Some p) None e r a = record { current = p; following = []; ahead = refl; alone = λ n. refl; ready = r; near = near }
  loaded_at (Some p) (Some q) e r a = record { current = p; following = q ∷ []; ahead = refl; alone = λ n. let bad : Some q ≡ None = a n in cc; ready = r; near = near }

  pub looked_already : IsReady old → is_some current ≡ true → (is_name (first (both current following)) ≡ false → following ≡ None) → Looks old old
  looked_already ready some single = subst (λ o. Looks o o) view (record {
    moves = stays_same (tokens_at noted lexer (both current following)) near;
    loaded = loaded_at current following some (subst IsReady (sym view) ready) single;
    alone = refl;
    keeps = keeps_all (both current following);
    none = λ ls. refl;
    noted = refl;
  })

  at_front : (o b : Option Placed) → IsLoaded (tokens_at noted lexer (both o b)) → is_last (first (both o b)) ≡ false → b ≡ None → (p : Placed) × (o ≡ Some p) × (lexer.progress ≡ progress.Open)
  at_front None b l h e = let n : [] ≡ l.current ∷ l.following = l.ahead in cc
  at_front (Some p) None l h e = (p, refl, l.ready h)
  at_front (Some p) (Some q) l h e = cc

  here : IsLoaded old → IsLoaded (tokens_at noted lexer (both current following))
  here l = subst IsLoaded (sym view) l

  goes : is_last (first old.ahead) ≡ false → is_last (first (both current following)) ≡ false
  goes h = ap (λ t. is_last (first t.ahead)) view ∙ h

  pub stays_named : is_name (first old.ahead) ≡ true → is_name (first (both current following)) ≡ true
  stays_named h = ap (λ t. is_name (first t.ahead)) view ∙ h

  pub look_on_breaks : IsLoaded old → is_name (first old.ahead) ≡ true → (s : LexStop) (new : Lexer) (ps : List Placed) → LexGives lexer (Err s) new → length new.source.ahead ≤ 2 → is_some following ≡ false → TokensFail old (tokens_at noted new ps)
  look_on_breaks l h s new ps gives near2 none =
      let f = at_front current following (here l) (goes (name_goes_on (first old.ahead) h)) (none_is following none) in
      subst (λ o. TokensFail o (tokens_at noted new ps)) view (lex_breaks {noted = noted} s lexer new (both current following) ps gives f.2 near2)

  on_from : (new : Lexer) (at : Placed) → LexGives lexer (Ok at) new → length new.source.ahead ≤ 2 → (is_last at.token ≡ false → room new.source < room lexer.source) → (p : Placed) → is_name p.token ≡ true → lexer.progress ≡ progress.Open → (o b : Option Placed) → o ≡ Some p → b ≡ None → LooksOn (tokens_at noted lexer (both o b)) (tokens_at noted new (both o (Some at)))
  on_from new at gives near2 less p named opened o b e k = rw (e, k) (looks_on lexer new at gives near2 less opened noted p named)

  pub looked_on : IsLoaded old → is_name (first old.ahead) ≡ true → (new : Lexer) (at : Placed) → LexGives lexer (Ok at) new → length new.source.ahead ≤ 2 → (is_last at.token ≡ false → room new.source < room lexer.source) → is_some following ≡ false → (now : Option Placed) → now ≡ current → LooksOn old (tokens_at noted new (both now (Some at)))
  looked_on l h new at gives near2 less none now same =
      let f = at_front current following (here l) (goes (name_goes_on (first old.ahead) h)) (none_is following none) in
      let named : is_name f.0.token ≡ true = ap is_name (sym (first_both f.0 following)) ∙ ap (λ o. is_name (first (both o following))) (sym f.1) ∙ stays_named h in
      subst (λ o. LooksOn o (tokens_at noted new (both now (Some at)))) view
      (subst (λ o. LooksOn (tokens_at noted lexer (both current following)) (tokens_at noted new (both o (Some at)))) (sym same)
      (on_from new at gives near2 less f.0 named f.2 current following f.1 (none_is following none)))

  on_at : (o b : Option Placed) → is_some b ≡ true → IsLoaded (tokens_at noted lexer (both o b)) → LooksOn (tokens_at noted lexer (both o b)) (tokens_at noted lexer (both o b))
  on_at None b e l = let n : [] ≡ l.current ∷ l.following = l.ahead in cc
  on_at (Some p) None e l = cc
  on_at (Some p) (Some q) e l = record { moves = stays_same (tokens_at noted lexer (p ∷ q ∷ [])) near; loaded = l; first_is = refl; line_is = refl; second = q; second_is = refl; none = λ ls. refl; noted = refl }

  pub looked_on_already : IsLoaded old → is_some following ≡ true → LooksOn old old
  looked_on_already l some = subst (λ o. LooksOn o o) view (on_at current following some (here l))

  ready_after : (o b : Option Placed) → IsLoaded (tokens_at noted lexer (both o b)) → is_last (first (both o b)) ≡ false → IsReadyWith (both b None) lexer.progress
  ready_after None b l h = let n : [] ≡ l.current ∷ l.following = l.ahead in cc
  ready_after (Some p) None l h = l.ready h
  ready_after (Some p) (Some q) l h = l.ready h

  pub advance_ready : IsLoaded old → is_last (first old.ahead) ≡ false → (o b : Option Placed) → o ≡ following → b ≡ None → IsReadyWith (both o b) lexer.progress
  advance_ready l h o b e k = rw (e, k) (ready_after current following (here l) (goes h))

  last_stays : (p q : Placed) (ps : List Placed) → last_ahead ps ≡ Some q → last_ahead (p ∷ ps) ≡ Some q
  last_stays p q [] e = cc
  last_stays p q (r ∷ rs) e = e

  abbrev stepped : (p : Placed) (ps : List Placed) → is_last p.token ≡ false → Moves (tokens_at noted lexer (p ∷ ps)) (tokens_at noted lexer ps) (AreAfter (p ∷ ps))
  stepped p ps h = record {
    taken = [];
    reads = Reads-none lexer.source near;
    looked = record { edition = refl; bytes = []; split = append-nil lexer.source.ahead; ends = λ q e. inr (refl, last_stays p q ps e) };
    failures = refl;
    falls = omega arith;
    come = λ more f. record { rest = sym (ap (λ b. if b then [] else tokens_with ps lexer.source.edition lexer.source.line (lexer.source.ahead ++ more)) h); token = refl; line = refl };
    passed = λ ls. p.line ∷ ls;
    spans = λ more f. ap (λ b. p.line ∷ lines_in (if b then [] else tokens_with ps lexer.source.edition lexer.source.line (lexer.source.ahead ++ more))) h;
  }

  lighter_by : (p : Placed) (ps : List Placed) → is_last p.token ≡ false → work (tokens_at noted lexer ps) + 1 ≤ work (tokens_at noted lexer (p ∷ ps))
  lighter_by p ps h = let w : weight p.token ≡ 1 = ap (λ b. if b then 0 else 1) h in omega (arith, w)

  after_same : (ps u v w : List Placed) → AreAfter ps u v → v ≡ w → AreAfter ps u w
  after_same ps u v w h e = record { rest = sym e ∙ h.rest; token = h.token; line = h.line }

  advanced_at : (p : Placed) (ps : List Placed) (new : Tokens) → is_last p.token ≡ false → after ps ≡ [] → Looks (tokens_at noted lexer ps) new → Advances (tokens_at noted lexer (p ∷ ps)) new
  advanced_at p ps new h alone l = record {
    moves = Moves-append (AreAfter (p ∷ ps)) (after_same (p ∷ ps)) (stepped p ps h) l.moves;
    single = (l.loaded, l.alone ∙ alone);
    keeps = l.keeps;
    falls = let a = lighter_by p ps h in let b = l.moves.falls in omega arith;
    one = λ ls. ap (λ k. p.line ∷ k) (l.none ls);
    noted_is = l.noted;
  }

  advanced_from : (o b : Option Placed) (new : Tokens) → IsLoaded (tokens_at noted lexer (both o b)) → is_last (first (both o b)) ≡ false → Looks (tokens_at noted lexer (both b None)) new → Advances (tokens_at noted lexer (both o b)) new
  advanced_from None b new l h k = let n : [] ≡ l.current ∷ l.following = l.ahead in cc
  advanced_from (Some p) None new l h k = advanced_at p [] new h refl k
  advanced_from (Some p) (Some q) new l h k = advanced_at p (q ∷ []) new h refl k

  pub advanced : IsLoaded old → is_last (first old.ahead) ≡ false → (o b : Option Placed) (new : Tokens) → o ≡ following → b ≡ None → Looks (tokens_at noted lexer (both o b)) new → Advances old new
  advanced l h o b new e k looks =
      subst (λ t. Advances t new) view (advanced_from current following new (here l) (goes h) (subst (λ x. Looks (tokens_at noted lexer (both x None)) new) e (subst (λ x. Looks (tokens_at noted lexer (both o x)) new) k looks)))

  pub advanced_ok : {T E : Type 0} → IsLoaded old → is_last (first old.ahead) ≡ false → (o b : Option Placed) (new : Tokens) → o ≡ following → b ≡ None → (r : Result T E) → OnOk r (Looks (tokens_at noted lexer (both o b)) new) → OnOk r (Advances old new)
  advanced_ok l h o b new e k (Ok x) looks = advanced l h o b new e k looks
  advanced_ok l h o b new e k (Err x) looks = looks

-- what is noted changes nothing else
pub noted_loaded : {t : Tokens} (noted : Lines) → IsLoaded t → IsLoaded (with_noted noted t)
noted_loaded noted l = record { current = l.current; following = l.following; ahead = l.ahead; alone = l.alone; ready = l.ready; near = l.near }

pub noted_looked : {a b : Tokens} {taken : List ℕ} (noted : Lines) → LooksAt a taken b → LooksAt a taken (with_noted noted b)
noted_looked noted l = record { edition = l.edition; bytes = l.bytes; split = l.split; ends = l.ends }

abbrev pub noted_moves : {a b : Tokens} {P : List Placed → List Placed → Type 0} (noted : Lines) → Moves a b P → Moves a (with_noted noted b) P
noted_moves noted m = record { taken = m.taken; reads = m.reads; looked = noted_looked noted m.looked; failures = m.failures; falls = m.falls; come = m.come; passed = m.passed; spans = m.spans }

pub advanced_noting : {a b : Tokens} (noted : Lines) → Advances a b → AdvancesTo noted a (with_noted noted b)
advanced_noting noted h = record { moves = noted_moves noted h.moves; single = (noted_loaded noted h.single.0, h.single.1); keeps = h.keeps; falls = h.falls; one = h.one; noted_is = refl }
