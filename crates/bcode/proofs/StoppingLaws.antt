-- Where a text stops, and the lines that go on.
use Rattle.std.proofs.Common.{subst, ◌≡◌, ℕ, zero, suc, ◌^◌, ◌<◌, ◌≤◌, List, [], ◌∷◌, ◌++◌, length, take, replicate, refl, sym, ap, ◌∙◌, arith, append_assoc, inl, inr}
use Rattle.bcode.specs.Headers.{header_text, IsHeaderWithin}
use Rattle.bcode.specs.LineReading.{LineReader, IsExact, FitSizes}
use Rattle.bcode.specs.Stopping.{LineKind, value, target, string, instruction, IsOfKind, LineState, opens, expects, finished, state_after, LeadsIn, Leads, IsStuckAfter}
use Rattle.blang.specs.Text.{joined, end_text, edition_line, target_line, string_line, ival_line, instr_line}
use Rattle.bcode.specs.declared.header.Header.{Header}
use Rattle.bcode.specs.declared.header.Header.TheVariants as header
use Rattle.blang.specs.declared.code.Sizes.{Sizes}
use Rattle.blang.specs.declared.code.Instr.TheVariants as instr
use Rattle.blang.specs.declared.code.Ival.TheVariants as ival
use Rattle.bcode.proofs.HeaderLaws.{header_at-exact, AreWords, function_words, some_code, simple_words, vector_words, end_within}
use Rattle.bcode.proofs.LineLaws.{ival_at-exact, instr_at-exact, number_line_at-exact}
use Rattle.bcode.proofs.PartLaws.{same_read}

-- two spellings that a text begins with are one
pub same_spelling : {X : Type 0} {spell : X → List ℕ} {within : X → Type 0} {read : LineReader X} → IsExact spell within read → (x y : X) (rest following : List ℕ)
    → within x → within y → spell x ++ rest ≡ spell y ++ following → (x ≡ y) × (rest ≡ following)
same_spelling {X} {spell} {within} {read} exact x y rest following in_x in_y same =
    same_read (x, rest) (y, following) (sym (exact.again x rest in_x) ∙ ap read same ∙ exact.again y following in_y)

-- a kind that has lines, with numbers that are read as such
abbrev pub IsGoodKind : LineKind → Type 0
IsGoodKind (value strings) = strings ≤ 2 ^ 16
IsGoodKind (target code) = (0 < code) × (code ≤ 2 ^ 16)
IsGoodKind string = Unit {0}
IsGoodKind (instruction sizes) = FitSizes sizes

abbrev pub AreGoodKinds : List LineKind → Type 0
AreGoodKinds [] = Unit {0}
AreGoodKinds (k ∷ ks) = IsGoodKind k × AreGoodKinds ks

abbrev pub IsGoodState : LineState → Type 0
IsGoodState opens = Unit {0}
IsGoodState (expects ks) = AreGoodKinds ks
IsGoodState finished = Unit {0}

good_replicate : (n : ℕ) (k : LineKind) (ks : List LineKind) → (0 < n → IsGoodKind k) → AreGoodKinds ks → AreGoodKinds (replicate n k ++ ks)
good_replicate zero k ks each rest = rest
good_replicate (suc n) k ks each rest = (each (omega arith), good_replicate n k ks each' rest)
  where
    each' : 0 < n → IsGoodKind k
    each' h = each (omega arith)

good_last : (n : ℕ) (k : LineKind) → (0 < n → IsGoodKind k) → AreGoodKinds (replicate n k)
good_last zero k each = tt
good_last (suc n) k each = (each (omega arith), good_last n k each')
  where
    each' : 0 < n → IsGoodKind k
    each' h = each (omega arith)

pub fit_sizes : (parameters : ℕ) (s : Sizes) → AreWords parameters s → FitSizes s
fit_sizes parameters s w = record {
  frame = (let l = w.frame in omega arith);
  labels = (let l = w.labels in omega arith);
  strings = (let l = w.strings in omega arith);
  code = (let l = w.code in omega arith);
}

pub good_after : (h : Header) → IsHeaderWithin h → IsGoodState (state_after h)
good_after (header.Function name parameters s) h =
    let words = function_words parameters s h.fits in
    let fit = fit_sizes parameters s words in
    good_replicate s.labels (target s.code) _ (λ l. (some_code parameters s h.fits l, fit.code))
    (good_replicate s.strings string _ (λ _. tt)
    (good_last s.code (instruction s) (λ _. fit)))
good_after (header.Simple name values strings) h =
    let few : strings ≤ 2 ^ 16 = (let l = (simple_words values strings h.fits).1 in omega arith) in
    good_replicate values (value strings) _ (λ _. few) (good_last strings string (λ _. tt))
good_after (header.Vector name words values strings) h =
    let few : strings ≤ 2 ^ 16 = (let l = (vector_words words values strings h.fits).2 in omega arith) in
    good_replicate values (value strings) _ (λ _. few) (good_last strings string (λ _. tt))
good_after header.End h = tt

pub good_next : (from : LineState) (l : List ℕ) (to : LineState) → IsGoodState from → Leads from l to → IsGoodState to
good_next opens l to good (inl x) = subst IsGoodState (sym x.1) tt
good_next opens l to good (inr x) = subst IsGoodState (sym x.3) (good_after x.0 x.1)
good_next (expects []) l to good leads = subst IsGoodState (sym leads.3) (good_after leads.0 leads.1)
good_next (expects (k ∷ ks)) l to good leads = subst IsGoodState (sym leads.1) good.1
good_next finished l to good leads = absurd leads

-- the text after a line of a kind is one
same_following : (k : LineKind) (l m rest following : List ℕ) → IsGoodKind k → IsOfKind k l → IsOfKind k m → l ++ rest ≡ m ++ following → rest ≡ following
same_following (value strings) l m rest following good x y same =
    (same_spelling (ival_at-exact strings good) x.0 y.0 rest following x.1 y.1 (ap (λ t. t ++ rest) (sym x.2) ∙ same ∙ ap (λ t. t ++ following) y.2)).1
same_following (target code) l m rest following good x y same =
    (same_spelling (number_line_at-exact 116 code good.1) x.0 y.0 rest following x.1 y.1 (ap (λ t. t ++ rest) (sym x.2) ∙ same ∙ ap (λ t. t ++ following) y.2)).1
same_following string l m rest following good x y same =
    (same_spelling (number_line_at-exact 119 (2 ^ 16) (omega arith)) x.0 y.0 rest following x.1 y.1 (ap (λ t. t ++ rest) (sym x.2) ∙ same ∙ ap (λ t. t ++ following) y.2)).1
same_following (instruction sizes) l m rest following good x y same =
    (same_spelling (instr_at-exact sizes good) x.0 y.0 rest following x.1 y.1 (ap (λ t. t ++ rest) (sym x.2) ∙ same ∙ ap (λ t. t ++ following) y.2)).1

first_differs : (a b : ℕ) (xs ys : List ℕ) → a < b → a ∷ xs ≡ b ∷ ys → ⊥
first_differs a b xs ys l e = let h : a ≡ b = cc in omega (arith, h, l)

-- no header begins as the edition's line does
pub no_header : (h : Header) (rest following : List ℕ) → edition_line ++ rest ≡ header_text h ++ following → ⊥
no_header (header.Function name parameters s) rest following e = first_differs 66 70 _ _ (omega arith) e
no_header (header.Simple name values strings) rest following e = first_differs 66 88 _ _ (omega arith) e
no_header (header.Vector name words values strings) rest following e = first_differs 66 86 _ _ (omega arith) e
no_header header.End rest following e = first_differs 66 69 _ _ (omega arith) e

pub same_after : (rest following : List ℕ) → edition_line ++ rest ≡ edition_line ++ following → rest ≡ following
same_after rest following e = cc

leads_in_one_way : (l m rest following : List ℕ) (to other : LineState) → LeadsIn l to → LeadsIn m other → l ++ rest ≡ m ++ following → (to ≡ other) × (rest ≡ following)
leads_in_one_way l m rest following to other x y same =
    let one = same_spelling header_at-exact x.0 y.0 rest following x.1 y.1 (ap (λ t. t ++ rest) (sym x.2) ∙ same ∙ ap (λ t. t ++ following) y.2) in
    (x.3 ∙ ap state_after one.0 ∙ sym y.3, one.1)

-- a text goes on in one way
leads_one_way : (from : LineState) (l m rest following : List ℕ) (to other : LineState) → IsGoodState from → Leads from l to → Leads from m other → l ++ rest ≡ m ++ following
    → (to ≡ other) × (rest ≡ following)
leads_one_way opens l m rest following to other good (inl x) (inl y) same =
    (x.1 ∙ sym y.1, same_after rest following (ap (λ t. t ++ rest) (sym x.0) ∙ same ∙ ap (λ t. t ++ following) y.0))
leads_one_way opens l m rest following to other good (inl x) (inr y) same =
    absurd (no_header y.0 rest following (ap (λ t. t ++ rest) (sym x.0) ∙ same ∙ ap (λ t. t ++ following) y.2))
leads_one_way opens l m rest following to other good (inr x) (inl y) same =
    absurd (no_header x.0 following rest (ap (λ t. t ++ following) (sym y.0) ∙ sym same ∙ ap (λ t. t ++ rest) x.2))
leads_one_way opens l m rest following to other good (inr x) (inr y) same = leads_in_one_way l m rest following to other x y same
leads_one_way (expects []) l m rest following to other good x y same = leads_in_one_way l m rest following to other x y same
leads_one_way (expects (k ∷ ks)) l m rest following to other good x y same =
    (x.1 ∙ sym y.1, same_following k l m rest following good.0 x.0 y.0 same)
leads_one_way finished l m rest following to other good x y same = absurd x

-- lines that lead to the end
abbrev pub Path : LineState → List (List ℕ) → Type 0
Path from [] = from ≡ finished
Path from (l ∷ ls) = (to : LineState) × Leads from l to × Path to ls

pub sample : (k : LineKind) → IsGoodKind k → (l : List ℕ) × IsOfKind k l
sample (value strings) good = (ival_line (ival.Number 0), (ival.Number 0, omega arith, refl))
sample (target code) good = (target_line 0, (0, good.0, refl))
sample string good = (string_line 0, (0, omega arith, refl))
sample (instruction sizes) good = (instr_line instr.Return, (instr.Return, tt, refl))

-- every state can be ended
completion : (ks : List LineKind) → AreGoodKinds ks → (ls : List (List ℕ)) × Path (expects ks) ls
completion [] good = (end_text ∷ [], (finished, (header.End, end_within, refl, refl), refl))
completion (k ∷ ks) good =
    let first = sample k good.0 in
    let others = completion ks good.1 in
    (first.0 ∷ others.0, (expects ks, (first.1, refl), others.1))

ending : (from : LineState) → IsGoodState from → (ls : List (List ℕ)) × Path from ls
ending opens good = (end_text ∷ [], (finished, inr (header.End, end_within, refl, refl), refl))
ending (expects ks) good = completion ks good
ending finished good = ([], refl)

-- what was taken can be completed
pub begins_path : (n : ℕ) (from : LineState) (text : List ℕ) → IsGoodState from → IsStuckAfter n from text
    → (ls : List (List ℕ)) × Path from ls × (n ≤ length ls) × (rest : List ℕ) × (text ≡ joined (take n ls) ++ rest)
begins_path zero from text good stuck = let whole = ending from good in (whole.0, whole.1, omega arith, text, refl)
begins_path (suc n) from text good stops =
    let others = begins_path n stops.1 stops.2 (good_next from stops.0 stops.1 good stops.3) stops.5 in (
      stops.0 ∷ others.0,
      (stops.1, stops.3, others.1),
      (let k = others.2 in omega arith),
      others.3,
      stops.4 ∙ ap (λ t. stops.0 ++ t) others.4 ∙ sym (append_assoc stops.0 (joined (take n others.0)) others.3),
    )

-- no line more goes on
pub greatest_path : (n : ℕ) (from : LineState) (text : List ℕ) → IsGoodState from → IsStuckAfter n from text
    → (m : ℕ) (ls : List (List ℕ)) → Path from ls → m ≤ length ls → (rest : List ℕ) → text ≡ joined (take m ls) ++ rest → m ≤ n
greatest_path n from text good stops zero ls path le rest same = omega arith
greatest_path n from text good stops (suc m) [] path le rest same = absurd (omega arith)
greatest_path zero from text good stuck (suc m) (l ∷ ls) path le rest same =
    absurd (stuck.refused l path.0 (joined (take m ls) ++ rest) path.1 (same ∙ append_assoc l (joined (take m ls)) rest))
greatest_path (suc n) from text good stops (suc m) (k ∷ ls) path le rest same =
    let one = leads_one_way from stops.0 k stops.2 (joined (take m ls) ++ rest) stops.1 path.0 good stops.3 path.1
    (sym stops.4 ∙ same ∙ append_assoc k (joined (take m ls)) rest) in
    let there : Path stops.1 ls = subst (λ (s : LineState). Path s ls) (sym one.0) path.2 in
    let before = greatest_path n stops.1 stops.2 (good_next from stops.0 stops.1 good stops.3) stops.5 m ls there (omega arith) rest one.1 in
    omega arith

-- such a text leads to no end
pub no_path : (n : ℕ) (from : LineState) (text : List ℕ) → IsGoodState from → IsStuckAfter n from text → (ls : List (List ℕ)) → Path from ls → text ≡ joined ls → ⊥
no_path zero from text good stuck [] path same = stuck.not_finished path same
no_path zero from text good stuck (l ∷ ls) path same = stuck.refused l path.0 (joined ls) path.1 same
no_path (suc n) from text good stops [] path same =
    let nowhere : Leads finished stops.0 stops.1 = subst (λ (s : LineState). Leads s stops.0 stops.1) path stops.3 in nowhere
no_path (suc n) from text good stops (k ∷ ls) path same =
    let one = leads_one_way from stops.0 k stops.2 (joined ls) stops.1 path.0 good stops.3 path.1 (sym stops.4 ∙ same) in
    let there : Path stops.1 ls = subst (λ (s : LineState). Path s ls) (sym one.0) path.2 in
    no_path n stops.1 stops.2 (good_next from stops.0 stops.1 good stops.3) stops.5 ls there one.1
