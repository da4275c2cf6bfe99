-- One pass over an expression makes its code: by induction on the tree.
use Rattle.std.proofs.Common.{◌≡◌, ℕ, zero, suc, ◌+◌, ◌-◌, ◌≤◌, min, Bool, true, false, List, [], ◌∷◌, ◌++◌, length, refl, sym, ap, ◌∙◌, arith, append_assoc, append-nil, length-append}
use Rattle.std.proofs.Math.Nat.{min-eq_left}
use Rattle.bword.specs.declared.operators.BinOp.TheVariants as op
use Rattle.blang.specs.declared.code.Instr.{Instr}
use Rattle.blang.specs.declared.code.Instr.TheVariants as instr
use Rattle.blang.specs.declared.code.Increment.TheVariants as increment
use Rattle.blang.specs.Trees.{Expr, Arguments, Negate, Not, Indirection, Address, PreIncrement, PreDecrement, PostIncrement, PostDecrement, Named, Literal, Text, Grouped, Indexed, Called, Postfixed, Prefixed, Binary, Conditional, Assigned, No_arguments, Another, constant_value}
use Rattle.blang.specs.WellFormed.{rvalue_rank, or_rank, conditional_rank, rank}
use Rattle.bgrammar.specs.Fitting.{words, argument_words, Deeper, Fits, ArgumentsFit, strings_in, strings, argument_strings}
use Rattle.blang.specs.Walk.{LvalueWanted, callee, walk, walk_arguments, comma_before_next}
use Rattle.bgrammar.specs.Events.{events, argument_events}
use Rattle.blang.specs.Code.{Environment, Referent, In_frame, Outside, At_label, name_word_code, word_code, address_code, argument_code, argument_count, assignment}
use Rattle.bgrammar.proofs.WalkLaws.{length-strings, comma_events, callee_as, plain_strings, comma_plain}
use Rattle.blang.specs.declared.limits.TheConstants.{MAX_INSTRUCTIONS}
use Rattle.bemit.specs.Effects.{most_arguments, held, passed, evaluated}
use Rattle.bcodegen.proofs.Parts.{Makes, then_, retold, ended, ended_twice, rescanned, idle, emits, emits_known}
use Rattle.bcodegen.proofs.Jumps.{parts_ways}
use Rattle.bcodegen.proofs.Expressions.{only, held_code, events_of, events_false, events_called, names_makes, text_makes, word_makes, evaluated_by, checked_makes}

pub inside : (P : ℕ → Type 0) (room : ℕ) → Deeper P room → (k : ℕ) × P k
inside P zero h = elim h [ ]
inside P (suc k) h = (k, h)

ends_some : (xs : List Instr) (i : Instr) (ys : List Instr) → 1 ≤ length (xs ++ i ∷ ys)
ends_some xs i ys = omega (arith, length-append xs (i ∷ ys))

after_some : (xs ys : List Instr) → 1 ≤ length ys → 1 ≤ length (xs ++ ys)
after_some xs ys h = omega (arith, length-append xs ys, h)

pub expression_words : (e : Expr) (off : ℕ) → off + words e ≡ off + length (strings e)
expression_words e off = ap (λ n. off + n) (sym (length-strings (walk e)))

pub arguments_words : (args : Arguments) (off : ℕ) → off + argument_words args ≡ off + length (argument_strings args)
arguments_words args off = ap (λ n. off + n) (sym (length-strings (walk_arguments args)))

pub called_strings : (e : Expr) (args : Arguments) → strings e ++ argument_strings args ≡ strings (Called e args)
called_strings e args = ap (λ l. l ++ argument_strings args) (sym (callee_as strings_in (λ w a b. refl) e)) ∙ ap (λ l. strings_in (callee e (walk e)) ++ l) (sym (append-nil (argument_strings args)))

pub another_strings : (before : Arguments) (e : Expr) → argument_strings before ++ strings e ≡ argument_strings (Another before e)
another_strings before e = ap (λ l. argument_strings before ++ (l ++ strings e)) (sym (plain_strings (comma_before_next before) (comma_plain before)))

module _ (names : Environment) where
  name_some : (x : List ℕ) (m : Referent) → 1 ≤ length (name_word_code m x)
  name_some x (In_frame k) = omega arith
  name_some x Outside = omega arith
  name_some x (At_label k) = omega arith

  -- each word takes an instruction
  mutual
    word_some : (e : Expr) (p : ℕ) → 1 ≤ length (word_code names e p)
    word_some (Named w) p = name_some w.text (names w.text)
    word_some (Literal c) p = omega arith
    word_some (Text bytes offset) p = omega arith
    word_some (Grouped e) p = word_some e p
    word_some (Indexed e f) p = after_some (word_code names e p) _ (ends_some (word_code names f _) _ _)
    word_some (Called e args) p = after_some (word_code names e p) _ (ends_some (argument_code names args _) _ _)
    word_some (Postfixed PostIncrement line e) p = ends_some (address_code names e p) _ _
    word_some (Postfixed PostDecrement line e) p = ends_some (address_code names e p) _ _
    word_some (Prefixed Negate line e) p = ends_some (word_code names e p) _ _
    word_some (Prefixed Not line e) p = ends_some (word_code names e p) _ _
    word_some (Prefixed Indirection line e) p = ends_some (word_code names e p) _ _
    word_some (Prefixed Address line e) p = address_some e p
    word_some (Prefixed PreIncrement line e) p = ends_some (address_code names e p) _ _
    word_some (Prefixed PreDecrement line e) p = ends_some (address_code names e p) _ _
    word_some (Binary op line e f) p = after_some (word_code names e p) _ (ends_some (word_code names f _) _ _)
    word_some (Conditional e f g) p = ends_some (word_code names e p) _ _
    word_some (Assigned op line e f) p = after_some (address_code names e p) _ (ends_some (word_code names f _) _ _)

    address_some : (e : Expr) (p : ℕ) → 1 ≤ length (address_code names e p)
    address_some (Named w) p = omega arith
    address_some (Grouped e) p = address_some e p
    address_some (Prefixed Indirection line e) p = word_some e p
    address_some (Indexed e f) p = after_some (word_code names e p) _ (ends_some (word_code names f _) _ _)
    address_some e p = omega arith

  arguments_some : (args : Arguments) (p : ℕ) → argument_count args ≤ length (argument_code names args p)
  arguments_some No_arguments p = omega arith
  arguments_some (Another before e) p =
      let q = p + length (argument_code names before p) in
      omega (arith, arguments_some before p, word_some e q, length-append (argument_code names before p) (word_code names e q))

  count_known : (e : Expr) (args : Arguments) (p : ℕ) → length (word_code names e p ++ argument_code names args (p + length (word_code names e p))) ≤ MAX_INSTRUCTIONS → instr.Call (min (argument_count args) most_arguments) ≡ instr.Call (argument_count args)
  count_known e args p h =
      let q = p + length (word_code names e p) in
      let le : argument_count args ≤ most_arguments = omega (arith, h, arguments_some args q, length-append (word_code names e p) (argument_code names args q)) in
      ap (λ n. instr.Call n) (min-eq_left le)

  mutual
    pub held_makes : (e : Expr) (called : Bool) (loose k off room : ℕ) → Fits e loose k off → Makes names (held called e) (events_of called e) room off (only (held_code names e) (strings e))
    held_makes (Named w) called loose k off room h = names_makes called w
    held_makes (Literal c) called loose k off room h = emits (instr.Constant (constant_value c)) idle
    held_makes (Text bytes offset) called loose k off room h =
        retold (only (held_code names (Text bytes offset)) (strings (Text bytes offset))) (λ p. record { code = ap (λ n. instr.Text n ∷ []) (sym h); strings = refl; targets = refl; arms = refl; breaks = refl })
        (text_makes bytes)
    held_makes (Grouped e) called loose k off room h =
        let i = inside (λ j. Fits e rvalue_rank j off) k h in
        retold (only (held_code names (Grouped e)) (strings (Grouped e))) (λ p. record { code = refl; strings = sym (append-nil (strings e)); targets = refl; arms = refl; breaks = refl })
        (rescanned (events_false e ∙ ended_twice (events e)) (held_makes e false rvalue_rank i.0 off room i.1))
    held_makes (Indexed e f) called loose k off room h =
        let i = inside (λ j. Fits f rvalue_rank j (off + words e)) k h.2 in
        retold (only (held_code names (Indexed e f)) (strings (Indexed e f))) (λ p. record { code = append_assoc (word_code names e p) (word_code names f _) (instr.Binary op.Add ∷ []); strings = ap (λ l. strings e ++ l) (sym (append-nil (strings f))); targets = refl; arms = refl; breaks = refl })
        (rescanned (ap (λ l. events e ++ l) (ended_twice (events f))) (emits (instr.Binary op.Add) (then_ (evaluated_by e (held_makes e false 0 k off room h.1)) (evaluated_by f (held_makes f false rvalue_rank i.0 (off + words e) room i.1)) (expression_words e off))))
    held_makes (Called e args) called loose k off room h =
        let i = inside (λ j. ArgumentsFit args j (off + words e)) k h.2 in
        retold (only (held_code names (Called e args)) (strings (Called e args))) (λ p. record { code = append_assoc (word_code names e p) (argument_code names args _) (instr.Call (argument_count args) ∷ []); strings = called_strings e args; targets = refl; arms = refl; breaks = refl })
        (rescanned (events_called e args)
        (emits_known (instr.Call (min (argument_count args) most_arguments)) (instr.Call (argument_count args)) (count_known e args)
        (then_ (word_makes e true (held_makes e true 0 k off room h.1)) (passed_makes args i.0 (off + words e) room i.1) (expression_words e off))))
    held_makes (Postfixed PostIncrement line e) called loose k off room h =
        retold (only (held_code names (Postfixed PostIncrement line e)) (strings (Postfixed PostIncrement line e))) (λ p. record { code = refl; strings = sym (append-nil (strings e)); targets = refl; arms = refl; breaks = refl })
        (emits (instr.Increment increment.PostIncrement) (checked_makes e line (held_makes e false 0 k off room h.1)))
    held_makes (Postfixed PostDecrement line e) called loose k off room h =
        retold (only (held_code names (Postfixed PostDecrement line e)) (strings (Postfixed PostDecrement line e))) (λ p. record { code = refl; strings = sym (append-nil (strings e)); targets = refl; arms = refl; breaks = refl })
        (emits (instr.Increment increment.PostDecrement) (checked_makes e line (held_makes e false 0 k off room h.1)))
    held_makes (Prefixed Negate line e) called loose k off room h =
        let i = inside (λ j. Fits e 0 j off) k h in
        rescanned (sym (append-nil (events e))) (emits instr.Negate (evaluated_by e (held_makes e false 0 i.0 off room i.1)))
    held_makes (Prefixed Not line e) called loose k off room h =
        let i = inside (λ j. Fits e 0 j off) k h in
        rescanned (sym (append-nil (events e))) (emits instr.Not (evaluated_by e (held_makes e false 0 i.0 off room i.1)))
    held_makes (Prefixed Indirection line e) called loose k off room h =
        let i = inside (λ j. Fits e 0 j off) k h in
        rescanned (sym (append-nil (events e))) (evaluated_by e (held_makes e false 0 i.0 off room i.1))
    held_makes (Prefixed Address line e) called loose k off room h =
        let i = inside (λ j. Fits e 0 j off) k h in
        checked_makes e line (held_makes e false 0 i.0 off room i.1)
    held_makes (Prefixed PreIncrement line e) called loose k off room h =
        let i = inside (λ j. Fits e 0 j off) k h in
        emits (instr.Increment increment.PreIncrement) (checked_makes e line (held_makes e false 0 i.0 off room i.1))
    held_makes (Prefixed PreDecrement line e) called loose k off room h =
        let i = inside (λ j. Fits e 0 j off) k h in
        emits (instr.Increment increment.PreDecrement) (checked_makes e line (held_makes e false 0 i.0 off room i.1))
    held_makes (Binary op line e f) called loose k off room h =
        retold (only (held_code names (Binary op line e f)) (strings (Binary op line e f))) (λ p. record { code = append_assoc (word_code names e p) (word_code names f _) (instr.Binary op ∷ []); strings = refl; targets = refl; arms = refl; breaks = refl })
        (emits (instr.Binary op) (then_ (evaluated_by e (held_makes e false (rank op) k off room h.1)) (evaluated_by f (held_makes f false (rank op - 1) k (off + words e) room h.2)) (expression_words e off)))
    held_makes (Conditional e f g) called loose k off room h =
        let i = inside (λ j. Fits f rvalue_rank j (off + words e) × Fits g conditional_rank j (off + words e + words f)) k h.2 in
        retold (only (held_code names (Conditional e f g)) (strings (Conditional e f g))) (λ p. record { code = refl; strings = refl; targets = refl; arms = refl; breaks = refl })
        (rescanned (ap (λ l. events e ++ l) (ended (events f ++ events g)))
        (then_ (evaluated_by e (held_makes e false or_rank k off room h.1)) (parts_ways (evaluated_by f (held_makes f false rvalue_rank i.0 (off + words e) room i.1.0)) (evaluated_by g (held_makes g false conditional_rank i.0 (off + words e + words f) room i.1.1)) (expression_words f (off + words e))) (expression_words e off)))
    held_makes (Assigned op line e f) called loose k off room h =
        let i = inside (λ j. Fits f rvalue_rank j (off + words e)) k h.2 in
        retold (only (held_code names (Assigned op line e f)) (strings (Assigned op line e f))) (λ p. record { code = append_assoc (address_code names e p) (word_code names f _) (assignment op ∷ []); strings = refl; targets = refl; arms = refl; breaks = refl })
        (rescanned (append_assoc (events e) (LvalueWanted line e ∷ []) (events f) ∙ ap (λ l. events e ++ LvalueWanted line e ∷ l) (ended (events f)))
        (emits (assignment op) (then_ (checked_makes e line (held_makes e false 0 k off room h.1)) (evaluated_by f (held_makes f false rvalue_rank i.0 (off + words e) room i.1)) (expression_words e off))))

    pub passed_makes : (args : Arguments) (k off room : ℕ) → ArgumentsFit args k off → Makes names (passed args) (argument_events args) room off (only (argument_code names args) (argument_strings args))
    passed_makes No_arguments k off room h = idle
    passed_makes (Another before e) k off room h =
        retold (only (argument_code names (Another before e)) (argument_strings (Another before e))) (λ p. record { code = refl; strings = another_strings before e; targets = refl; arms = refl; breaks = refl })
        (rescanned (ap (λ l. argument_events before ++ (l ++ events e)) (sym (comma_events before))) (then_ (passed_makes before k off room h.0) (evaluated_by e (held_makes e false rvalue_rank k (off + argument_words before) room h.1)) (arguments_words before off)))

  pub evaluated_makes : (e : Expr) (k off room : ℕ) → Fits e rvalue_rank k off → Makes names (evaluated e) (events e) room off (only (word_code names e) (strings e))
  evaluated_makes e k off room h = evaluated_by e (held_makes e false rvalue_rank k off room h)
