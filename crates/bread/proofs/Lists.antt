-- Reading things with commas between them, one after the other.
use Rattle.std.proofs.Common.{◌≡◌, ◌<◌, Bool, true, false, List, [], ◌∷◌, ◌++◌, Some, None, refl, sym, ap, ◌∙◌, arith, fold, Result, Ok, Err}
use Rattle.std.proofs.lemmas.List.Sums.{fold-append}
use Rattle.blang.specs.declared.token.Token.{Token}
use Rattle.blang.specs.declared.token.Token.TheVariants as token
use Rattle.blang.specs.declared.token.Placed.{Placed}
use Rattle.bgrammar.specs.Reading.{Reader, Got, ◌>>=◌, first, after, expect, many}
use Rattle.bgrammar.specs.ExpressionReader.{comma, always}
use Rattle.bgrammar.specs.Commas.{comma_item, list_reader}
use Rattle.bgrammar.proofs.Fine.{Fine, many_some, many_none}
use Rattle.bgrammar.proofs.ExpressionFine.{Closer, closing}
use Rattle.bgrammar.proofs.CommaLaws.{comma_loop}
use Rattle.bemit.specs.Drafts.{Draft}
use Rattle.bemit.specs.Trails.{Trail, took, trailed_more, trailed_list}
use Rattle.bread.specs.Tokens.{Tokens, IsSingle, work, Runs, TokensFail, Advances}
use Rattle.bread.specs.Marks.{is_comma}
use Rattle.bread.specs.Parsers.{Leads, Halts, Expects}
use Rattle.bread.specs.declared.halt.Halt.{Halt}
use Rattle.bread.specs.declared.halt.Halt.TheVariants as halt
use Rattle.bread.specs.Compiling.{untold, PartTaken, CompilesPart}
use Rattle.bread.proofs.TokenSteps.{Moves-breaks}
use Rattle.bread.proofs.Moving.{past, past_expected, run_here, run_past, run_then, run_bind}
use Rattle.bread.proofs.Steps.{began, went, halts_first, halts_then, device}

-- the things read so far
pub record InList {A : Type 0} (item : List A → Reader A) (effect : A → Draft → Draft) (step : A → Draft → Trail → Trail) (start : Draft) (old now : Tokens) (draft : Draft) : Type 0 where
  pub items : List A
  pub runs : Runs old now (list_reader item) (λ v. many (always comma) (comma_item item) items v)
  pub made : draft ≡ fold (λ b x. effect x b) start items
  pub single : IsSingle now
  pub falls : work now < work old
  pub some : items ≡ [] → ⊥
  pub leads : Leads (λ t. t) (trailed_list effect step items start) old runs.passed now

pub is_a_comma : (t : Token) → is_comma t ≡ true → comma t ≡ Some tt
is_a_comma token.Comma h = refl
is_a_comma _ h = cc

pub is_no_comma : (t : Token) → is_comma t ≡ false → comma t ≡ None
is_no_comma token.Comma h = cc
is_no_comma _ h = refl

pub list_first : {A : Type 0} (item : List A → Reader A) (old new : Tokens) (why : Halt) → Halts (item []) old why new → Halts (list_reader item) old why new
list_first item old new why h = halts_first old new (item []) (λ x ts. many (always comma) (comma_item item) (x ∷ []) ts) why h

module _ {A : Type 0} (item : List A → Reader A) (fine : (before : List A) (ts : List Placed) → Fine Closer (item before) ts) (effect : A → Draft → Draft) (step : A → Draft → Trail → Trail) where
  -- the last of several things
  more_snoc : (xs : List A) (x : A) (d : Draft) (t : Trail) → trailed_more effect step (xs ++ x ∷ []) d t ≡ step x (fold (λ b y. effect y b) d xs) (took (trailed_more effect step xs d t))
  more_snoc [] x d t = refl
  more_snoc (y ∷ ys) x d t = more_snoc ys x (effect y d) (step y d (took t))

  pub list_snoc : (xs : List A) (x : A) (d : Draft) (t : Trail) → (xs ≡ [] → ⊥) → trailed_list effect step (xs ++ x ∷ []) d t ≡ step x (fold (λ b y. effect y b) d xs) (took (trailed_list effect step xs d t))
  list_snoc [] x d t h = absurd (h refl)
  list_snoc (y ∷ ys) x d t h = more_snoc ys x (effect y d) (step y d t)

  pub some_snoc : (xs : List A) (x : A) → xs ++ x ∷ [] ≡ [] → ⊥
  some_snoc [] x h = cc
  some_snoc (y ∷ ys) x h = cc

  abbrev rest : List A → Reader (List A)
  rest items ts = many (always comma) (comma_item item) items ts

  abbrev after_comma : List A → Reader (List A)
  after_comma items ts = (item items ts >>= λ x. Got (items ++ x ∷ [])) >>= rest

  pub comma_taken : (items : List A) (u : List Placed) → is_comma (first u) ≡ true → rest items u ≡ after_comma items (after u)
  comma_taken items u h = many_some closing (always comma) (comma_item item) (comma_loop item fine) tt items u (is_a_comma (first u) h)

  pub one_some : (x : A) → x ∷ [] ≡ [] → ⊥
  one_some x h = cc

  abbrev pub list_begins : {start draft : Draft} {old now : Tokens} → PartTaken (item []) effect step start old now draft → IsSingle now → work now < work old → InList item effect step start old now draft
  list_begins {start} {draft} {old} {now} t l f = record { items = t.tree ∷ []; runs = began (λ x. rest (x ∷ [])) t.runs; made = t.made; single = l; falls = f; some = one_some t.tree; leads = t.leads }

  module _ {start draft : Draft} {old now : Tokens} (s : InList item effect step start old now draft) where
    module _ {mid : Tokens} (h : Advances now mid) (c : is_comma (first now.ahead) ≡ true) where
      abbrev pub past_comma : Runs old mid (list_reader item) (after_comma s.items)
      past_comma = run_then s.runs (run_past h (λ u e l. comma_taken s.items u (ap is_comma e ∙ c)))

      abbrev pub list_goes : {draft2 : Draft} {new : Tokens} → PartTaken (item s.items) effect step draft mid new draft2 → IsSingle new → work new < work mid → InList item effect step start old new draft2
      list_goes {draft2} {new} t l f = record {
        items = s.items ++ t.tree ∷ [];
        runs = run_then past_comma (run_bind rest (run_bind (λ x. Got (s.items ++ x ∷ [])) t.runs));
        made = t.made ∙ ap (effect t.tree) s.made ∙ sym (fold-append (λ b x. effect x b) start s.items (t.tree ∷ []));
        single = l;
        falls = let a = s.falls in let b = h.falls in omega (arith, f);
        some = some_snoc s.items t.tree;
        leads = λ u ls q. list_snoc s.items t.tree start u s.some ∙ ap (λ m. step t.tree m (took (trailed_list effect step s.items start u))) (sym s.made) ∙ t.leads (took (trailed_list effect step s.items start u)) ls (ap took (s.leads u (h.moves.passed (t.runs.passed ls)) q) ∙ past h (t.runs.passed ls));
      }

      pub list_halts : (new : Tokens) (why : Halt) → Halts (item s.items) mid why new → Halts (list_reader item) old why new
      list_halts new why k = halts_then old mid new (list_reader item) (λ v. item s.items v >>= λ x. Got (s.items ++ x ∷ [])) rest why past_comma (halts_first mid new (item s.items) (λ x. Got (s.items ++ x ∷ [])) why k)

    abbrev pub list_ends : is_comma (first now.ahead) ≡ false → Runs old now (list_reader item) (λ v. Got s.items v)
    list_ends h = run_then s.runs (run_here s.single.0 (λ u e l. many_none (always comma) (comma_item item) s.items u (is_no_comma (first u) (ap is_comma e ∙ h))))

-- things with commas between them, and the token after them
module _ {A B : Type 0} (item : List A → Reader A) (fine : (before : List A) (ts : List Placed) → Fine Closer (item before) ts) (effect : A → Draft → Draft) (step : A → Draft → Trail → Trail) (is : Token → Bool) (made : List A → B) (effects : B → Draft → Draft) (steps : B → Draft → Trail → Trail) (same : (xs : List A) (d : Draft) → effects (made xs) d ≡ fold (λ b x. effect x b) d xs) (says : (xs : List A) (d : Draft) (t : Trail) → steps (made xs) d t ≡ took (trailed_list effect step xs d t)) where
  abbrev closed : List A → Reader B
  closed xs r = expect is r >>= λ o. Got (made xs)

  abbrev whole : Reader B
  whole ts = list_reader item ts >>= closed

  pub closed_first : (old new : Tokens) (why : Halt) → Halts (item []) old why new → Halts whole old why new
  closed_first old new why h = halts_first old new (list_reader item) closed why (list_first item old new why h)

  module _ {start draft : Draft} {old now : Tokens} (s : InList item effect step start old now draft) where
    pub closed_comma : (mid new : Tokens) (why : Halt) → Advances now mid → is_comma (first now.ahead) ≡ true → Halts (item s.items) mid why new → Halts whole old why new
    closed_comma mid new why h c k = halts_first old new (list_reader item) closed why (list_halts item fine effect step s h c new why k)

    pub closed_breaks : (new : Tokens) (why : Halt) → why ≡ halt.Device → TokensFail now new → Halts whole old why new
    closed_breaks new why e h = halts_first old new (list_reader item) closed why (device old new (list_reader item) why e (Moves-breaks s.runs h))

    pub closed_ends : (draft2 : Draft) (new : Tokens) (r : Result (Unit {0}) Halt) → is_comma (first now.ahead) ≡ false → Expects is now r new → draft2 ≡ draft → CompilesPart (untold whole) effects steps old start r new draft2
    closed_ends draft2 new (Ok o) c t e = (λ i. record { tree = made s.items; runs = went (λ o. Got (made s.items)) (began closed (list_ends item fine effect step s c)) t.runs; made = e ∙ s.made ∙ sym (same s.items start); leads = λ u ls q. says s.items start u ∙ ap took (s.leads u (t.runs.passed ls) q) ∙ past_expected t ls }, t.single, below t.falls)
      where
        below : work new < work now → work new < work old
        below l = let f = s.falls in omega (arith, l)
    closed_ends draft2 new (Err why) c t e = λ i. halts_then old now new whole (expect is) (λ o. Got (made s.items)) why (began closed (list_ends item fine effect step s c)) t
