-- What is noted while an expression is read is what origins say: by induction on the tree.
use Rattle.std.proofs.Common.{◌≡◌, ℕ, suc, ◌+◌, ◌-◌, ◌≤◌, Bool, true, false, List, [], ◌∷◌, ◌++◌, length, Ok, refl, sym, ap, subst, ◌∙◌, arith, le_refl, append-nil, length-append, add-zero, append_assoc}
use Rattle.blang.specs.declared.code.Instr.{Instr}
use Rattle.blang.specs.declared.code.Instr.TheVariants as instr
use Rattle.blang.specs.declared.code.Increment.TheVariants as increment
use Rattle.blang.specs.Trees.{Expr, Arguments, PrefixOp, PostfixOp, Negate, Not, Indirection, Address, PreIncrement, PreDecrement, PostIncrement, PostDecrement, Named, Grouped, Indexed, Called, Postfixed, Prefixed, Binary, Conditional, Assigned, No_arguments, Another}
use Rattle.blang.specs.WellFormed.{rvalue_rank, or_rank, conditional_rank, rank}
use Rattle.blang.specs.Scan.{Scope, scanned}
use Rattle.blang.specs.Walk.{◌▸◌, Event, LvalueWanted, walk, walk_arguments, comma_before_next}
use Rattle.blang.specs.Code.{Environment, Referent, In_frame, Outside, At_label, word_code, address_code, argument_code}
use Rattle.blang.specs.Lines.{origin, origins, argument_origins, count, held_length}
use Rattle.bgrammar.specs.Fitting.{words, argument_words, Fits, ArgumentsFit, strings, argument_strings}
use Rattle.bgrammar.specs.Events.{events, argument_events}
use Rattle.bemit.specs.Drafts.{Draft, checked}
use Rattle.bemit.specs.Effects.{form, held}
use Rattle.bemit.specs.Trails.{Trail, trailed, trailed_arguments, past_comma}
use Rattle.bgrammar.proofs.WalkLaws.{comma_events}
use Rattle.bcodegen.proofs.Names.{agrees_before, later}
use Rattle.bcodegen.proofs.Parts.{Parts, added, drafted, Roomy, Makes, scanned_twice, joined, ended, ended_twice}
use Rattle.bcodegen.proofs.Expressions.{only, load_code, form_by, held_code, word_is_held, address_is_held, events_of, events_false, events_called, word_makes, evaluated_by, wanted_place, checked_makes}
use Rattle.bcodegen.proofs.ExpressionMakes.{inside, called_strings, another_strings, held_makes, passed_makes, expression_words, arguments_words}
use Rattle.bcodegen.proofs.Notes.{Say, Found, lines_in, Notes, renoted, widened, rescanned_notes, here, past, through, ends_noted, marks, notes_then, nothing_noted, notes_ways}

-- what is held has as many instructions as is said
held_is : (names : Environment) (e : Expr) (p : ℕ) → length (held_code names e p) ≡ held_length names e p
held_is names (Named w) p = by_meaning (names w.text) refl
  where
    by_meaning : (m : Referent) → names w.text ≡ m → length (held_code names (Named w) p) ≡ held_length names (Named w) p
    by_meaning (In_frame k) q = rw q refl
    by_meaning Outside q = rw q refl
    by_meaning (At_label k) q = rw q refl
held_is names (Grouped e) p = held_is names e p
held_is names (Indexed e f) p = refl
held_is names (Prefixed Indirection line e) p = refl
held_is names e p = refl

longer : (xs ys zs : List Instr) → length (xs ++ ys) ≤ length (xs ++ (ys ++ zs))
longer xs ys zs = omega (arith, length-append xs ys, length-append xs (ys ++ zs), length-append ys zs)

called_lines : (e : Expr) (args : Arguments) (at : ℕ → ℕ) (t : ℕ) (rest : List ℕ) → lines_in at (walk (Called e args)) t rest
    ≡ lines_in at (walk e) t (at (t + count (walk e)) ∷ lines_in at (walk_arguments args) (t + count (walk e) + 1) (at (t + count (walk e) + suc (count (walk_arguments args))) ∷ rest))
called_lines (Named w) args at t rest = refl
called_lines e args at t rest = refl

module _ (names : Environment) where
  abbrev Held : Expr → List Event → (room off : ℕ) → Type 0
  Held e es room off = Notes names (trailed e) es room off (only (held_code names e) (strings e)) (λ at t rest. lines_in at (walk e) t rest) (origins names e)

  abbrev Word : Expr → List Event → (room off : ℕ) → Type 0
  Word e es room off = Notes names (trailed e) es room off (only (word_code names e) (strings e)) (λ at t rest. lines_in at (walk e) t rest) (origins names e)

  word_more : (e : Expr) (p : ℕ) → length (held_code names e p) ≤ length (word_code names e p)
  word_more e p = omega (arith, ap length (word_is_held names e p), length-append (held_code names e p) (load_code (form_by names e)))

  -- as the word of an expression, which is not shorter
  loaded_notes : (e : Expr) {es : List Event} {room off : ℕ} → Held e es room off → Word e es room off
  loaded_notes e h = renoted (only (word_code names e) (strings e)) (λ at t rest. lines_in at (walk e) t rest) (origins names e) (word_more e) (le_refl _) (λ at t rest. refl) (λ p t. refl) h

  word_notes : (e : Expr) {room off : ℕ} → Held e (events_of false e) room off → Word e (events e) room off
  word_notes e h = rescanned_notes (events_false e) (loaded_notes e h)

  scanned_held : (e : Expr) (fs : List Event) (s s3 : Scope) → scanned (events e ++ fs) (Ok s) ≡ Ok s3 → scanned (events_of false e ++ fs) (Ok s) ≡ Ok s3
  scanned_held e fs s s3 h = ap (λ l. scanned (l ++ fs) (Ok s)) (events_false e) ∙ h

  -- what an operator wants has its address where it is held
  checked_held : {room off : ℕ} (e : Expr) (line : ℕ) → Makes names (held false e) (events_of false e) room off (only (held_code names e) (strings e))
      → Makes names (λ d. checked (form e (held false e d)) line (held false e d)) (events e ++ LvalueWanted line e ∷ []) room off (only (held_code names e) (strings e))
  checked_held e line x =
      let y = checked_makes e line x in
      record {
        scans = y.scans;
        depth = y.depth;
        inside = y.inside;
        makes = λ s s3 m n h agree l.
            y.makes s s3 m n h agree l
            ∙ ap (λ c. drafted s3 (added m (only (λ p. c) (strings e)))) (address_is_held names e (length m.code) (wanted_place names e line s s3 (scanned_held e (LvalueWanted line e ∷ []) s s3 h) agree));
      }

  by_address : {x : Draft → Trail → Trail} {room off : ℕ} {say : Say} {found : Found} (e : Expr) (line : ℕ) (fs : List Event) (b : Parts)
      → Notes names x ((events e ++ LvalueWanted line e ∷ []) ++ fs) room off (joined (only (held_code names e) (strings e)) b) say found
      → Notes names x ((events e ++ LvalueWanted line e ∷ []) ++ fs) room off (joined (only (address_code names e) (strings e)) b) say found
  by_address e line fs b h = record {
    notes = λ s s3 m l k agree o r at t rest n.
        let q = scanned_twice (events e ++ LvalueWanted line e ∷ []) fs s s3 k in
        let p = length m.code in
        let same = address_is_held names e p (wanted_place names e line s q.0 (scanned_held e (LvalueWanted line e ∷ []) s q.0 q.1) (agrees_before names q.0.names s3.names (later fs q.0 s3 q.2).longer agree)) in
        h.notes s s3 m l k agree o (subst (λ c. Roomy s3.frame (added m (joined (only (λ i. c) (strings e)) b))) same r) at t rest n;
  }

  -- the same, where an operator wants what is held
  wanting : {x : Draft → Trail → Trail} {room off : ℕ} {say : Say} {found : Found} (e : Expr) (line : ℕ) → Notes names x (events_of false e) room off (only (held_code names e) (strings e)) say found
      → Notes names x (events e ++ LvalueWanted line e ∷ []) room off (joined (only (address_code names e) (strings e)) (only (λ p. []) [])) say found
  wanting {say = say} {found = found} e line h =
      let wants = LvalueWanted line e ∷ [] in
      rescanned_notes (append-nil (events e ++ wants))
      (by_address e line [] (only (λ p. []) [])
      (renoted (joined (only (held_code names e) (strings e)) (only (λ p. []) [])) say found (λ p. omega (arith, length-append (held_code names e p) [])) (omega (arith, length-append (strings e) [])) (λ at t rest. refl) (λ p t. refl)
      (widened [] (widened wants (rescanned_notes (events_false e) h)))))

  stepped : (e : Expr) (op : PostfixOp) (line room : ℕ) {off : ℕ} → ((p : ℕ) → length (address_code names e p ++ []) ≤ length (held_code names (Postfixed op line e) p)) → Makes names (held false e) (events_of false e) room off (only (held_code names e) (strings e)) → Held e (events_of false e) room off
      → Held (Postfixed op line e) (events e ++ LvalueWanted line e ∷ []) room off
  stepped e op line room less x h =
      renoted (only (held_code names (Postfixed op line e)) (strings (Postfixed op line e))) (λ at t rest. lines_in at (walk (Postfixed op line e)) t rest) (origins names (Postfixed op line e)) less (le_refl _)
      (λ at t rest. ap (λ c. lines_in at (walk e) t (at c ∷ rest)) (add-zero (t + count (walk e)))) (λ p t. ap (λ c. origins names e p t ++ origin (p + c) (t + count (walk e)) ∷ []) (held_is names e p))
      (wanting e line (ends_noted (λ t. t + count (walk e)) x h))

  prefixed : (e : Expr) (op : PrefixOp) (line room : ℕ) {off : ℕ} → ((p : ℕ) → length (held_code names e p) ≤ length (held_code names (Prefixed op line e) p)) → Makes names (held false e) (events_of false e) room off (only (held_code names e) (strings e)) → Held e (events_of false e) room off
      → Held (Prefixed op line e) (events e ++ []) room off
  prefixed e op line room less x h =
      renoted (only (held_code names (Prefixed op line e)) (strings (Prefixed op line e))) (λ at t rest. lines_in at (walk (Prefixed op line e)) t rest) (origins names (Prefixed op line e)) less (le_refl _)
      (λ at t rest. refl) (λ p t. ap (λ c. origins names e p (t + 1) ++ origin (p + c) t ∷ []) (held_is names e p))
      (widened [] (rescanned_notes (events_false e) (marks x h)))

  wanted : (e : Expr) (op : PrefixOp) (line room : ℕ) {off : ℕ} → ((p : ℕ) → length (address_code names e p ++ []) ≤ length (held_code names (Prefixed op line e) p)) → Makes names (held false e) (events_of false e) room off (only (held_code names e) (strings e)) → Held e (events_of false e) room off
      → Held (Prefixed op line e) (events e ++ LvalueWanted line e ∷ []) room off
  wanted e op line room less x h =
      renoted (only (held_code names (Prefixed op line e)) (strings (Prefixed op line e))) (λ at t rest. lines_in at (walk (Prefixed op line e)) t rest) (origins names (Prefixed op line e)) less (omega (arith, length-append (strings e) []))
      (λ at t rest. refl) (λ p t. ap (λ c. origins names e p (t + 1) ++ origin (p + c) t ∷ []) (held_is names e p))
      (wanting e line (marks x h))

  after_comma : (before : Arguments) (e : Expr) {room off : ℕ} → Word e (events e) room off
      → Notes names (λ d t. trailed e d (past_comma before t)) (events e) room off (only (word_code names e) (strings e)) (λ at t rest. lines_in at (comma_before_next before ▸ walk e) t rest) (λ p t. origins names e p (t + count (comma_before_next before)))
  after_comma No_arguments e h = renoted (only (word_code names e) (strings e)) (λ at t rest. lines_in at (comma_before_next No_arguments ▸ walk e) t rest) (λ p t. origins names e p (t + count (comma_before_next No_arguments))) (λ p. le_refl _) (le_refl _) (λ at t rest. ap (λ c. lines_in at (walk e) c rest) (add-zero t)) (λ p t. ap (origins names e p) (sym (add-zero t))) h
  after_comma (Another b x) e h = past h

  mutual
    pub held_notes : (e : Expr) (called : Bool) (loose k off room : ℕ) → Fits e loose k off → Held e (events_of called e) room off
    held_notes (Grouped e) called loose k off room h =
        let i = inside (λ j. Fits e rvalue_rank j off) k h in
        rescanned_notes (events_false e ∙ ended_twice (events e)) (renoted (only (held_code names (Grouped e)) (strings (Grouped e))) (λ at t rest. lines_in at (walk (Grouped e)) t rest) (origins names (Grouped e)) (λ p. le_refl _) (omega (arith, length-append (strings e) []))
        (λ at t rest. ap (λ c. at t ∷ lines_in at (walk e) (t + 1) (at c ∷ rest)) (let q : t + suc (count (walk e)) ≡ t + 1 + count (walk e) = omega arith in q)) (λ p t. refl)
        (past (through (λ t. t + count (walk e)) (held_notes e false rvalue_rank i.0 off room i.1))))
    held_notes (Indexed e f) called loose k off room h =
        let i = inside (λ j. Fits f rvalue_rank j (off + words e)) k h.2 in
        rescanned_notes (ap (λ l. events e ++ l) (ended_twice (events f)))
        (renoted (only (held_code names (Indexed e f)) (strings (Indexed e f))) (λ at t rest. lines_in at (walk (Indexed e f)) t rest) (origins names (Indexed e f)) (λ p. longer (word_code names e p) (word_code names f _) _) (omega (arith, length-append (strings e) (strings f), length-append (strings e) (strings f ++ []), length-append (strings f) []))
        (λ at t rest. ap (λ c. lines_in at (walk e) t (at (t + count (walk e)) ∷ lines_in at (walk f) (t + count (walk e) + 1) (at c ∷ rest))) (let q : t + count (walk e) + suc (count (walk f)) ≡ t + count (walk e) + 1 + count (walk f) = omega arith in q)) (λ p t. refl)
        (notes_then (λ t. t + count (walk e)) (evaluated_by e (held_makes names e false 0 k off room h.1)) (word_notes e (held_notes e false 0 k off room h.1)) (past (through (λ t. t + count (walk f)) (word_notes f (held_notes f false rvalue_rank i.0 (off + words e) room i.1)))) (expression_words e off)))
    held_notes (Called e args) called loose k off room h =
        let i = inside (λ j. ArgumentsFit args j (off + words e)) k h.2 in
        rescanned_notes (events_called e args)
        (renoted (only (held_code names (Called e args)) (strings (Called e args))) (λ at t rest. lines_in at (walk (Called e args)) t rest) (origins names (Called e args)) (λ p. longer (word_code names e p) (argument_code names args _) _) (omega (arith, ap length (called_strings e args)))
        (λ at t rest. called_lines e args at t rest ∙ ap (λ c. lines_in at (walk e) t (at (t + count (walk e)) ∷ lines_in at (walk_arguments args) (t + count (walk e) + 1) (at c ∷ rest))) (let q : t + count (walk e) + suc (count (walk_arguments args)) ≡ t + count (walk e) + 1 + count (walk_arguments args) = omega arith in q)) (λ p t. refl)
        (notes_then (λ t. t + count (walk e)) (word_makes e true (held_makes names e true 0 k off room h.1)) (loaded_notes e (held_notes e true 0 k off room h.1)) (past (through (λ t. t + count (walk_arguments args)) (passed_notes args i.0 (off + words e) room i.1))) (expression_words e off)))
    held_notes (Postfixed PostIncrement line e) called loose k off room h = stepped e PostIncrement line room (λ p. omega (arith, length-append (address_code names e p) [], length-append (address_code names e p) (instr.Increment increment.PostIncrement ∷ []))) (held_makes names e false 0 k off room h.1) (held_notes e false 0 k off room h.1)
    held_notes (Postfixed PostDecrement line e) called loose k off room h = stepped e PostDecrement line room (λ p. omega (arith, length-append (address_code names e p) [], length-append (address_code names e p) (instr.Increment increment.PostDecrement ∷ []))) (held_makes names e false 0 k off room h.1) (held_notes e false 0 k off room h.1)
    held_notes (Prefixed Negate line e) called loose k off room h =
        let i = inside (λ j. Fits e 0 j off) k h in
        prefixed e Negate line room (λ p. omega (arith, word_more e p, length-append (word_code names e p) (instr.Negate ∷ []))) (held_makes names e false 0 i.0 off room i.1) (held_notes e false 0 i.0 off room i.1)
    held_notes (Prefixed Not line e) called loose k off room h =
        let i = inside (λ j. Fits e 0 j off) k h in
        prefixed e Not line room (λ p. omega (arith, word_more e p, length-append (word_code names e p) (instr.Not ∷ []))) (held_makes names e false 0 i.0 off room i.1) (held_notes e false 0 i.0 off room i.1)
    held_notes (Prefixed Indirection line e) called loose k off room h =
        let i = inside (λ j. Fits e 0 j off) k h in
        prefixed e Indirection line room (word_more e) (held_makes names e false 0 i.0 off room i.1) (held_notes e false 0 i.0 off room i.1)
    held_notes (Prefixed Address line e) called loose k off room h =
        let i = inside (λ j. Fits e 0 j off) k h in
        wanted e Address line room (λ p. omega (arith, length-append (address_code names e p) [])) (held_makes names e false 0 i.0 off room i.1) (held_notes e false 0 i.0 off room i.1)
    held_notes (Prefixed PreIncrement line e) called loose k off room h =
        let i = inside (λ j. Fits e 0 j off) k h in
        wanted e PreIncrement line room (λ p. omega (arith, length-append (address_code names e p) [], length-append (address_code names e p) (instr.Increment increment.PreIncrement ∷ []))) (held_makes names e false 0 i.0 off room i.1) (held_notes e false 0 i.0 off room i.1)
    held_notes (Prefixed PreDecrement line e) called loose k off room h =
        let i = inside (λ j. Fits e 0 j off) k h in
        wanted e PreDecrement line room (λ p. omega (arith, length-append (address_code names e p) [], length-append (address_code names e p) (instr.Increment increment.PreDecrement ∷ []))) (held_makes names e false 0 i.0 off room i.1) (held_notes e false 0 i.0 off room i.1)
    held_notes (Binary op line e f) called loose k off room h =
        renoted (only (held_code names (Binary op line e f)) (strings (Binary op line e f))) (λ at t rest. lines_in at (walk (Binary op line e f)) t rest) (origins names (Binary op line e f)) (λ p. longer (word_code names e p) (word_code names f _) _) (le_refl _) (λ at t rest. refl) (λ p t. refl)
        (notes_then (λ t. t + count (walk e)) (evaluated_by e (held_makes names e false (rank op) k off room h.1)) (word_notes e (held_notes e false (rank op) k off room h.1)) (past (word_notes f (held_notes f false (rank op - 1) k (off + words e) room h.2))) (expression_words e off))
    held_notes (Conditional e f g) called loose k off room h =
        let i = inside (λ j. Fits f rvalue_rank j (off + words e) × Fits g conditional_rank j (off + words e + words f)) k h.2 in
        rescanned_notes (ap (λ l. events e ++ l) (ended (events f ++ events g)))
        (renoted (only (held_code names (Conditional e f g)) (strings (Conditional e f g))) (λ at t rest. lines_in at (walk (Conditional e f g)) t rest) (origins names (Conditional e f g)) (λ p. le_refl _) (le_refl _) (λ at t rest. refl) (λ p t. sym (append_assoc (origins names e p t) (origins names f (p + length (word_code names e p) + 1) (t + count (walk e) + 1)) _))
        (notes_then (λ t. t + count (walk e)) (evaluated_by e (held_makes names e false or_rank k off room h.1)) (word_notes e (held_notes e false or_rank k off room h.1))
        (past (notes_ways (λ t. t + count (walk f)) (λ t. t + count (walk f) + 1) (evaluated_by f (held_makes names f false rvalue_rank i.0 (off + words e) room i.1.0)) (word_notes f (held_notes f false rvalue_rank i.0 (off + words e) room i.1.0)) (word_notes g (held_notes g false conditional_rank i.0 (off + words e + words f) room i.1.1)) (expression_words f (off + words e)))) (expression_words e off)))
    held_notes (Assigned op line e f) called loose k off room h =
        let i = inside (λ j. Fits f rvalue_rank j (off + words e)) k h.2 in
        rescanned_notes (append_assoc (events e) (LvalueWanted line e ∷ []) (events f) ∙ ap (λ l. events e ++ LvalueWanted line e ∷ l) (ended (events f)))
        (renoted (only (held_code names (Assigned op line e f)) (strings (Assigned op line e f))) (λ at t rest. lines_in at (walk (Assigned op line e f)) t rest) (origins names (Assigned op line e f)) (λ p. longer (address_code names e p) (word_code names f _) _) (le_refl _) (λ at t rest. ap (λ c. lines_in at (walk e) t (at c ∷ lines_in at (walk f) (c + 1) rest)) (add-zero (t + count (walk e)))) (λ p t. ap (λ c. origins names e p t ++ origins names f (p + c) (t + count (walk e) + 1)) (held_is names e p))
        (by_address e line (events f) (only (word_code names f) (strings f))
        (notes_then (λ t. t + count (walk e)) (checked_held e line (held_makes names e false 0 k off room h.1)) (rescanned_notes (ap (λ l. l ++ LvalueWanted line e ∷ []) (events_false e)) (widened (LvalueWanted line e ∷ []) (held_notes e false 0 k off room h.1))) (past (word_notes f (held_notes f false rvalue_rank i.0 (off + words e) room i.1))) (expression_words e off))))
    held_notes _ called loose k off room h = here

    pub passed_notes : (args : Arguments) (k off room : ℕ) → ArgumentsFit args k off → Notes names (trailed_arguments args) (argument_events args) room off (only (argument_code names args) (argument_strings args)) (λ at t rest. lines_in at (walk_arguments args) t rest) (argument_origins names args)
    passed_notes No_arguments k off room h = nothing_noted
    passed_notes (Another before e) k off room h =
        rescanned_notes (ap (λ l. argument_events before ++ (l ++ events e)) (sym (comma_events before)))
        (renoted (only (argument_code names (Another before e)) (argument_strings (Another before e))) (λ at t rest. lines_in at (walk_arguments (Another before e)) t rest) (argument_origins names (Another before e)) (λ p. le_refl _) (omega (arith, ap length (another_strings before e))) (λ at t rest. refl) (λ p t. refl)
        (notes_then (λ t. t + count (walk_arguments before)) (passed_makes names before k off room h.0) (passed_notes before k off room h.0) (after_comma before e (word_notes e (held_notes e false rvalue_rank k (off + argument_words before) room h.1))) (arguments_words before off)))

  pub evaluated_notes : (e : Expr) (k off room : ℕ) → Fits e rvalue_rank k off → Word e (events e) room off
  evaluated_notes e k off room h = word_notes e (held_notes e false rvalue_rank k off room h)
