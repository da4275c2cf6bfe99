use Rattle.std.proofs.Common.{◌≡◌, ◌<◌, ℕ, List, Bool, true, false, cond, Result, Ok, Err, IfOk, OnErr, Option, Some, None, refl, sym, ap, ◌∙◌, subst, arith, if◌then◌else◌}
use Rattle.std.proofs.lemmas.Map.Views.{All-values-insert_entry}
use Rattle.std.specs.Prelude.{is_none}
use Rattle.std.specs.Bool.{OnTrue}
use Rattle.std.specs.List.{All}
use Rattle.std.specs.Map.{values_of}
use Rattle.std.specs.BTreeMap.{is_at}
use Rattle.std.specs.Ordering.{nat_cmp}
use Rattle.std.specs.Cmp.Lexicographic.{slice_cmp, bytes_decides}
use Rattle.bword.specs.Words.{same_name}
use Rattle.bnames.specs.NameTables.{value_in, with_name}
use Rattle.blang.specs.Layout.{Addresses, address_in}
use Rattle.bmach.specs.Loading.{Knows}
use Rattle.bmach.specs.Slots.{AreKept}
use Rattle.bmach.specs.declared.address_table.Known.{Known}
use Rattle.bmach.proofs.Lookups.{lookup-is_at, knows}
use Rattle.bmach.proofs.address_table.Addresses.insert.Goals as goal

-- the values stay addresses
keeps : {E : Type 0} (r : Result Bool E) (old new : Addresses) (x : List ℕ) (v : ℕ) → All (λ a. a < 65536) (values_of old) → v < 65536
    → IfOk r (λ b. new ≡ (if b then with_name old x v else old)) → OnErr r (new ≡ old) → All (λ a. a < 65536) (values_of new)
keeps (Ok true) old new x v all fits is same =
    subst (λ l. All (λ a. a < 65536) (values_of l)) (sym is) (All-values-insert_entry (slice_cmp nat_cmp) x v (λ a. a < 65536) old all fits)
keeps (Ok false) old new x v all fits is same = subst (λ l. All (λ a. a < 65536) (values_of l)) (sym is) all
keeps (Err e) old new x v all fits is same = subst (λ l. All (λ a. a < 65536) (values_of l)) (sym same) all

-- a new name changes no other's address
still_kept : (old new : Addresses) (x : List ℕ) (a : ℕ) (slots : List (Option Known)) → Knows old x a new → address_in old x ≡ None → AreKept old slots → AreKept new slots
still_kept old new x a slots more gone are i k there = more k.name ∙ either (same_name x k.name) refl
  where
    either : (b : Bool) → same_name x k.name ≡ b → cond b (Some a) (address_in old k.name) ≡ Some k.address
    either true e =
        let same : x ≡ k.name = (bytes_decides x k.name).0 e in
        let none : None ≡ Some k.address = sym gone ∙ ap (address_in old) same ∙ are i k there in
        cc
    either false e = are i k there

knows_it : (old new : Addresses) (x : List ℕ) (a : ℕ) → Knows old x a new → address_in new x ≡ Some a
knows_it old new x a more = more x ∙ ap (λ b. cond b (Some a) (address_in old x)) ((bytes_decides x x).1 refl)

gone : (o : Option ℕ) → is_none o ≡ true → o ≡ None
gone None h = refl
gone (Some v) h = cc

weaker : (b : Bool) (P Q : Type 0) → (P → Q) → OnTrue b P → OnTrue b Q
weaker true P Q f h = f h
weaker false P Q f h = tt

pub invariant_of-self-then-is_new : goal.invariant_of-self-then-is_new
invariant_of-self-then-is_new c =
    let old = c.self.inside.names in
    let new = c.insert.new.self in
    let x = c.args.name in
    let none : address_in old x ≡ None = sym (lookup-is_at x old) ∙ gone (value_in x old) (sym c.in_ok-is_new.ensures.there ∙ c.if-is_new.true) in
    let more : Knows old x c.from.result new = knows old new x c.from.result (subst (λ b. OnTrue b ((y : List ℕ) → value_in y new ≡ (if is_at (slice_cmp nat_cmp x) y then Some c.from.result else value_in y old))) c.if-is_new.true c.in_ok-is_new.ensures.known) in (
      keeps c.insert.result old new x c.from.result c.self.invariant.0 (omega (arith, c.from.ensures)) c.insert.ensures.entries c.insert.ensures.err,
      c.keep.ensures new (still_kept old new x c.from.result c.self.inside.slots.items more none c.self.invariant.1) (knows_it old new x c.from.result more ∙ ap Some c.from.ensures),
    )

pub returns-then-is_new-clause-new : goal.returns-then-is_new-clause-new
returns-then-is_new-clause-new c =
    c.in_ok-is_new.ensures.there
    ∙ ap is_none (lookup-is_at c.args.name c.self.inside.names)
    ∙ ap (λ known. is_none (address_in known c.args.name)) c.self.view_is

pub returns-then-is_new-clause-known : goal.returns-then-is_new-clause-known
returns-then-is_new-clause-known c =
    let old = c.self.inside.names in
    let new = c.insert.new.self in
    let x = c.args.name in
    let v = c.from.result in
    let b = c.in_ok-is_new.is_new in
    let more = weaker b ((y : List ℕ) → value_in y new ≡ (if is_at (slice_cmp nat_cmp x) y then Some v else value_in y old)) (Knows old x v new) (knows old new x v) c.in_ok-is_new.ensures.known in
    subst (λ a. OnTrue b (Knows c.args.self.now x a new)) c.from.ensures (subst (λ k. OnTrue b (Knows k x v new)) c.self.view_is more)

pub returns-else-is_new-clause-new : goal.returns-else-is_new-clause-new
returns-else-is_new-clause-new c =
    c.in_ok-is_new.ensures.there
    ∙ ap is_none (lookup-is_at c.args.name c.self.inside.names)
    ∙ ap (λ known. is_none (address_in known c.args.name)) c.self.view_is
