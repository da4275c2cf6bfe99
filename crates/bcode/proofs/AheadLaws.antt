-- Lines read from the text ahead.
use Rattle.std.proofs.Common.{subst, ◌≡◌, ℕ, ◌+◌, ◌<◌, List, [], ◌∷◌, ◌++◌, Result, Ok, Err, IsErrAnd, refl, sym, ap, ◌∙◌, arith, append-nil, length-append}
use Rattle.std.specs.List.{flat_map}
use Rattle.std.proofs.lemmas.List.Concat.{flat_map-append}
use Rattle.std.proofs.lemmas.List.Elements.{All-nil, All-push}
use Rattle.bword.proofs.Taking.{Took-none, Took-append}
use Rattle.bcode.specs.Ahead.{Ahead, TakesBytes, TakesText, BytesFail, ReadsLine, LineGives, ReadsLines, LinesGive}
use Rattle.bcode.specs.declared.fault.CodeFault.TheVariants as fault
use Rattle.bcode.specs.declared.code_stop.CodeStop.{CodeStop}
use Rattle.bcode.specs.declared.code_stop.CodeStop.TheVariants as stop
use Rattle.bcode.proofs.StreamLaws.{AreLines-none, AreLines-append, FailsAfter-append}

pub Reads-none : (at : Ahead) → TakesBytes at [] at
Reads-none at = record { took = Took-none at.end; failures = refl; lender = refl }

pub Reads-append : {a b c : Ahead} {xs ys : List ℕ} → TakesBytes a xs b → TakesBytes b ys c → TakesBytes a (xs ++ ys) c
Reads-append h k = record { took = Took-append h.took k.took; failures = k.failures ∙ h.failures; lender = k.lender ∙ h.lender }

pub Passes-none : (at : Ahead) → TakesText at [] 0 at
Passes-none at = record { reads = Reads-none at; lines = AreLines-none; counted = omega arith }

pub Passes-append : {a b c : Ahead} {xs ys : List ℕ} {n m : ℕ} → TakesText a xs n b → TakesText b ys m c → TakesText a (xs ++ ys) (n + m) c
Passes-append h k = record { reads = Reads-append h.reads k.reads; lines = AreLines-append h.lines k.lines; counted = (let x = h.counted in let y = k.counted in omega arith) }

unfoldable pub Breaks-after : {a b c : Ahead} {xs : List ℕ} → TakesBytes a xs b → BytesFail b c → BytesFail a c
Breaks-after {a} {b} {c} {xs} h k = record {
  taken = xs ++ k.taken;
  fails = FailsAfter-append h.took h.failures k.fails;
  lender = k.lender ∙ h.lender;
}

pub both_empty : (xs ys : List ℕ) → xs ++ ys ≡ [] → (xs ≡ []) × (ys ≡ [])
both_empty [] ys e = (refl, e)
both_empty (x ∷ xs) ys e = absurd (cc)

module _ {X : Type 0} {spell : X → List ℕ} {within : X → Type 0} where
  pub ReadsLines-none : (at : Ahead) → ReadsLines spell within 0 at [] at
  ReadsLines-none at = record { all = refl; inside = All-nil within; passes = Passes-none at }

  pub ReadsLines-more : {old mid new : Ahead} {i : ℕ} {xs : List X} {x : X} (ys : List X) → ReadsLines spell within i old xs mid → ReadsLine spell within mid x new
      → ys ≡ xs ++ x ∷ [] → ReadsLines spell within (i + 1) old ys new
  ReadsLines-more {old} {mid} {new} {i} {xs} {x} ys before step pushed =
      let more : flat_map spell (xs ++ x ∷ []) ≡ flat_map spell xs ++ spell x =
      flat_map-append spell xs (x ∷ []) ∙ ap (λ l. flat_map spell xs ++ l) (append-nil (spell x)) in
      rw pushed record {
        all = length-append xs (x ∷ []) ∙ ap (λ n. n + 1) before.all;
        inside = All-push within xs x before.inside step.inside;
        passes = rw more (Passes-append before.passes step.passes);
      }

  -- the exit of a `?` after some lines
  pub gives_lines : {V : Type 0} (items : V → List X) {old mid : Ahead} {i : ℕ} {xs : List X} (count : ℕ) (now : Ahead) (r : Result V CodeStop) (e : CodeStop)
      → ReadsLines spell within i old xs mid → i < count → IsErrAnd r (λ f. f ≡ e) → LineGives spell within mid (Err e) now → LinesGive spell within items count old r now
  gives_lines items count now (Ok v) e before less same gives = absurd same
  gives_lines {V} items {old} {mid} {i} {xs} count now (Err f) e before less same gives =
      subst (λ (s : CodeStop). LinesGive spell within items count old (Err s) now) (sym same) (stopped e gives)
    where
      stopped : (e : CodeStop) → LineGives spell within mid (Err e) now → LinesGive spell within items count old (Err e) now
      stopped (stop.Fault (fault.Line n)) refused = record {
        read = xs;
        fewer = rw before.all less;
        inside = before.inside;
        mid = mid;
        passes = rw before.all before.passes;
        refused = refused;
      }
      stopped (stop.Fault fault.Memory) gives = absurd gives
      stopped stop.Device broke = record {
        read = xs;
        fewer = rw before.all less;
        inside = before.inside;
        mid = mid;
        passes = rw before.all before.passes;
        broke = broke;
      }

-- the exit where there is no room for any
pub gives_none : {X V : Type 0} (spell : X → List ℕ) (within : X → Type 0) (items : V → List X) (old : Ahead) (count : ℕ) (r : Result V CodeStop) → IsErrAnd r (λ f. f ≡ stop.Fault fault.Memory)
    → LinesGive spell within items count old r old
gives_none spell within items old count (Ok v) same = absurd same
gives_none spell within items old count (Err f) same =
    subst (λ (s : CodeStop). LinesGive spell within items count old (Err s) old) (sym same) record { read = []; few = omega arith; inside = All-nil within; reads = Reads-none old }
