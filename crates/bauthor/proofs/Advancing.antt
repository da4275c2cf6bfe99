-- Lines of a file of names, or of lines, are read one after another.
use Rattle.std.proofs.Common.{◌≡◌, ◌∙◌, ℕ, suc, ◌+◌, ◌-◌, ◌<◌, List, [], ◌∷◌, ◌++◌, length, drop, get_or}
use Rattle.std.proofs.Common.{Result, Ok, Err, refl, sym, ap, subst, arith}
use Rattle.std.proofs.Common.{append_assoc, add-one, drop-cons}
use Rattle.std.proofs.lemmas.List.{append-nil}
use Rattle.std.specs.Prelude.{flat_map}
use Rattle.blang.specs.declared.code.Definition.{Definition}
use Rattle.bauthor.specs.AuthorFiles.{with_read}
use Rattle.bauthor.specs.LineFiles.{places_from}
use Rattle.bauthor.specs.NameFiles.{labels_from, words_from}
use Rattle.bauthor.specs.Readers.{Moves}
use Rattle.bauthor.specs.declared.fault.LineWanted.TheVariants as line_wanted
use Rattle.bauthor.specs.declared.fault.Wanted.TheVariants as wanted

-- the lines of a definition, and those of the definitions after it
pub lines_next : {W : Type 0} (f : Definition → List W) (ds : List Definition) (i : ℕ) (d : Definition) → i < length ds
    → d ≡ get_or ds i d → flat_map f (drop i ds) ≡ f d ++ flat_map f (drop (i + 1) ds)
lines_next f ds i d lt is =
    ap (flat_map f) (drop-cons ds i d lt ∙ ap (λ x. x ∷ drop (suc i) ds) (sym is)
    ∙ ap (λ j. d ∷ drop j ds) (sym (add-one i)))

-- the words from one on are this one and those after it
less : (k n : ℕ) → k < n → n - k ≡ suc (n - (k + 1))
less k n lt = omega (arith, lt)

pub words_next : (f : List ℕ) (k n : ℕ) → k < n
    → words_from f k (n - k) ≡ wanted.Word f k ∷ words_from f (k + 1) (n - (k + 1))
words_next f k n lt = ap (words_from f k) (less k n lt)

pub labels_next : (f : List ℕ) (k n : ℕ) → k < n
    → labels_from f k (n - k) ≡ wanted.Label f k ∷ labels_from f (k + 1) (n - (k + 1))
labels_next f k n lt = ap (labels_from f k) (less k n lt)

pub places_next : (last : ℕ) (name : List ℕ) (k n : ℕ) → k < n
    → places_from last name k (n - k) ≡ line_wanted.Number last name k ∷ places_from last name (k + 1) (n - (k + 1))
places_next last name k n lt = ap (places_from last name k) (less k n lt)

-- Nothing was read before the first line.
pub from_nothing : {L F : Type 0} (r : Result (List L) F) → with_read [] r ≡ r
from_nothing (Ok read) = refl
from_nothing (Err f) = refl

-- What a reader reads, where lines are wanted, and what it is to fail so.
module _ {W S R F : Type 0} (read_by : S → List W → R) (Fails : F → R → Type 0) where
  -- These lines were read.
  abbrev pub Goes : List W → S → S → Type 0
  Goes ws old new = (more : List W) → read_by old (ws ++ more) ≡ read_by new more

  abbrev pub Stops : List W → S → F → Type 0
  Stops ws old f = (more : List W) → Fails f (read_by old (ws ++ more))

  pub goes_on : (ws vs : List W) (old mid new : S) → Goes ws old mid → Goes vs mid new → Goes (ws ++ vs) old new
  goes_on ws vs old mid new first second more =
      ap (read_by old) (append_assoc ws vs more) ∙ first (vs ++ more) ∙ second more

  pub stops_first : (ws vs : List W) (old : S) (f : F) → Stops ws old f → Stops (ws ++ vs) old f
  stops_first ws vs old f h more =
      subst (λ us. Fails f (read_by old us)) (sym (append_assoc ws vs more)) (h (vs ++ more))

  pub stops_later : (ws vs : List W) (old mid : S) (f : F) → Goes ws old mid → Stops vs mid f → Stops (ws ++ vs) old f
  stops_later ws vs old mid f first h more =
      subst (Fails f) (sym (ap (read_by old) (append_assoc ws vs more) ∙ first (vs ++ more))) (h more)

  -- one more of lines that are wanted
  pub one_more : (all rest later : List W) (w : W) (start old new : S)
      → ((more : List W) → read_by start (all ++ more) ≡ read_by old (rest ++ more)) → rest ≡ w ∷ later
      → Goes (w ∷ []) old new → (more : List W) → read_by start (all ++ more) ≡ read_by new (later ++ more)
  one_more all rest later w start old new so is one more =
      so more ∙ ap (λ us. read_by old (us ++ more)) is ∙ one (later ++ more)

  pub one_stops : (all rest later : List W) (w : W) (start old : S) (f : F)
      → ((more : List W) → read_by start (all ++ more) ≡ read_by old (rest ++ more)) → rest ≡ w ∷ later
      → Stops (w ∷ []) old f → Stops all start f
  one_stops all rest later w start old f so is one more =
      subst (Fails f) (sym (so more ∙ ap (λ us. read_by old (us ++ more)) is)) (one (later ++ more))

  -- the same of several lines
  pub some_more : (all rest some later : List W) (start old new : S)
      → ((more : List W) → read_by start (all ++ more) ≡ read_by old (rest ++ more)) → rest ≡ some ++ later
      → Goes some old new → (more : List W) → read_by start (all ++ more) ≡ read_by new (later ++ more)
  some_more all rest some later start old new so is go more =
      so more ∙ ap (λ us. read_by old (us ++ more)) is ∙ ap (read_by old) (append_assoc some later more)
      ∙ go (later ++ more)

  pub some_stop : (all rest some later : List W) (start old : S) (f : F)
      → ((more : List W) → read_by start (all ++ more) ≡ read_by old (rest ++ more)) → rest ≡ some ++ later
      → Stops some old f → Stops all start f
  some_stop all rest some later start old f so is stop more =
      subst (Fails f)
      (sym (so more ∙ ap (λ us. read_by old (us ++ more)) is ∙ ap (read_by old) (append_assoc some later more)))
      (stop (later ++ more))

  -- a whole file
  pub read_whole : (start new : S) (ws : List W) (read : R) → read_by start ws ≡ read → Goes ws start new
      → read ≡ read_by new []
  read_whole start new ws read is go = sym is ∙ ap (read_by start) (sym (append-nil ws)) ∙ go []

  pub stops_whole : (start : S) (f : F) (ws : List W) (read : R) → read_by start ws ≡ read → Stops ws start f
      → Fails f read
  stops_whole start f ws read is stop = subst (Fails f) (ap (read_by start) (append-nil ws) ∙ is) (stop [])

  pub then_moves : {A : Type 0} (ws vs : List W) (old mid new : S) (r : Result A F) → Goes ws old mid
      → Moves read_by Fails vs mid r new → Moves read_by Fails (ws ++ vs) old r new
  then_moves ws vs old mid new (Ok x) first second = goes_on ws vs old mid new first second
  then_moves ws vs old mid new (Err f) first second = stops_later ws vs old mid f first second
