-- What is noted while trees are read, piece by piece: the frame of the law that it is what origins say.
use Rattle.std.proofs.Common.{◌≡◌, ℕ, suc, ◌+◌, ◌≤◌, List, [], ◌∷◌, ◌++◌, length, Ok, refl, sym, ap, ◌∙◌, subst, arith, le_refl, length-append, slice_set}
use Rattle.std.proofs.lemmas.List.{length-set}
use Rattle.std.proofs.lemmas.List.Sums.{fold-append}
use Rattle.blang.specs.declared.code.Instr.{Instr}
use Rattle.blang.specs.declared.code.Instr.TheVariants as instr
use Rattle.blang.specs.Scan.{Scope, scanned}
use Rattle.blang.specs.Walk.{Walk, NothingHere, Said, TextHere, Noted, Level, ◌▸◌, Event}
use Rattle.blang.specs.Code.{Environment}
use Rattle.blang.specs.Lines.{Lines, noted_at, Origin, origin, count, noted_by}
use Rattle.bemit.specs.Drafts.{Made, Draft, emitted, place_of, filled}
use Rattle.bemit.specs.Trails.{Trail, trail, first_line, took, marked, noted, between_ways}
use Rattle.bcodegen.proofs.Names.{Agrees, agrees_before, later}
use Rattle.bcodegen.proofs.Parts.{Parts, added, drafted, Roomy, smaller, put, emit, fill, place_is, depth_of, most_levels, Makes, scanned_twice, same_depth, two, joined}
use Rattle.bcodegen.proofs.Jumps.{skipped, length_put, ways_parts}

-- the lines of the tokens of a walk, the first of which has this number, and then these
abbrev pub lines_in : (line_at : ℕ → ℕ) → Walk → (t : ℕ) → List ℕ → List ℕ
lines_in at (Said p) t rest = at t ∷ rest
lines_in at (TextHere x) t rest = at t ∷ rest
lines_in at (Level o w a) t rest = at t ∷ lines_in at w (t + 1) rest
lines_in at (v ▸ w) t rest = lines_in at v t (lines_in at w (t + count v) rest)
lines_in at NothingHere t rest = rest
lines_in at (Noted e) t rest = rest

-- the lines of tokens, the first of which has this number, and then these
abbrev pub Say : Type 0
Say = (line_at : ℕ → ℕ) (t : ℕ) → List ℕ → List ℕ

abbrev pub Found : Type 0
Found = (p t : ℕ) → List Origin

-- What a step notes is what origins say, wherever what it reads begins and whatever was noted before.
pub record Notes (names : Environment) (step : Draft → Trail → Trail) (es : List Event) (room off : ℕ) (a : Parts) (say : Say) (found : Found) : Type 0 where
  pub notes : (s s2 : Scope) (m : Made) → depth_of s + room ≤ most_levels → scanned es (Ok s) ≡ Ok s2 → Agrees names s2.names → length m.strings ≡ off → Roomy s2.frame (added m a)
      → (at : ℕ → ℕ) (t : ℕ) (rest : List ℕ) (n : Lines) → step (drafted s m) (trail (say at t rest) n) ≡ trail rest (noted_by at (found (length m.code) t) n)

pub roomy_before : (frame frame2 : ℕ) (m : Made) (a : Parts) → frame ≤ frame2 → Roomy frame2 (added m a) → Roomy frame m
roomy_before frame frame2 m a f r = smaller frame frame2 m (added m a) f (omega (arith, length-append m.code (a.code (length m.code)))) (omega (arith, length-append m.strings a.strings)) (le_refl _) r

pub roomy_first : (frame frame2 : ℕ) (m : Made) (a b : Parts) → frame ≤ frame2 → Roomy frame2 (added m (joined a b)) → Roomy frame (added m a)
roomy_first frame frame2 m a b f r =
    let p = length m.code in
    let cb = b.code (p + length (a.code p)) in
    smaller frame frame2 (added m a) (added m (joined a b)) f
    (omega (arith, length-append m.code (a.code p), length-append m.code (a.code p ++ cb), length-append (a.code p) cb))
    (omega (arith, length-append m.strings a.strings, length-append m.strings (a.strings ++ b.strings), length-append a.strings b.strings)) (le_refl _) r

pub noted_twice : (at : ℕ → ℕ) (xs ys : List Origin) (n : Lines) → noted_by at ys (noted_by at xs n) ≡ noted_by at (xs ++ ys) n
noted_twice at xs ys n = sym (fold-append (λ n m. noted_at m.place (at m.token) n) n xs ys)

module _ {names : Environment} where
  -- the same of more code, told otherwise
  pub renoted : {x : Draft → Trail → Trail} {es : List Event} {room off : ℕ} {a : Parts} {say : Say} {found : Found} (b : Parts) (say2 : Say) (found2 : Found)
      → ((p : ℕ) → length (a.code p) ≤ length (b.code p)) → length a.strings ≤ length b.strings
      → ((at : ℕ → ℕ) (t : ℕ) (rest : List ℕ) → say2 at t rest ≡ say at t rest) → ((p t : ℕ) → found p t ≡ found2 p t)
      → Notes names x es room off a say found → Notes names x es room off b say2 found2
  renoted {x = x} {a = a} b say2 found2 code strings said finds h = record {
    notes = λ s s2 m l e agree o r at t rest n.
        let p = length m.code in
        let r2 = smaller s2.frame s2.frame (added m a) (added m b) (le_refl _)
        (omega (arith, code p, length-append m.code (a.code p), length-append m.code (b.code p)))
        (omega (arith, strings, length-append m.strings a.strings, length-append m.strings b.strings)) (le_refl _) r in
        ap (λ ls. x (drafted s m) (trail ls n)) (said at t rest) ∙ h.notes s s2 m l e agree o r2 at t rest n ∙ ap (λ os. trail rest (noted_by at os n)) (finds p t);
  }

  -- the same of events that go on
  pub widened : {x : Draft → Trail → Trail} {es : List Event} {room off : ℕ} {a : Parts} {say : Say} {found : Found} (fs : List Event)
      → Notes names x es room off a say found → Notes names x (es ++ fs) room off a say found
  widened {es = es} {a = a} fs h = record {
    notes = λ s s3 m l e agree o r at t rest n.
        let q = scanned_twice es fs s s3 e in
        let after = later fs q.0 s3 q.2 in
        h.notes s q.0 m l q.1 (agrees_before names q.0.names s3.names after.longer agree) o (smaller q.0.frame s3.frame (added m a) (added m a) after.frame (le_refl _) (le_refl _) (le_refl _) r) at t rest n;
  }

  pub rescanned_notes : {x : Draft → Trail → Trail} {es fs : List Event} {room off : ℕ} {a : Parts} {say : Say} {found : Found} → es ≡ fs → Notes names x es room off a say found → Notes names x fs room off a say found
  rescanned_notes {x = x} {room = room} {off = off} {a = a} {say = say} {found = found} e h = subst (λ l. Notes names x l room off a say found) e h

  pub deeper_notes : {x : Draft → Trail → Trail} {es : List Event} {room off : ℕ} {a : Parts} {say : Say} {found : Found} → Notes names x es room off a say found → Notes names x es (suc room) off a say found
  deeper_notes h = record { notes = λ s s2 m l. h.notes s s2 m (omega (arith, l)) }

  -- a token that is noted
  pub here : {es : List Event} {room off : ℕ} {a : Parts} → Notes names (λ d t. took (noted d t)) es room off a (λ at t rest. at t ∷ rest) (λ p t. origin p t ∷ [])
  here {es = es} {a = a} = record { notes = λ s s2 m l e agree o r at t rest n. ap (λ p. trail rest (noted_at p (at t) n)) (place_is s m (roomy_before s.frame s2.frame m a (later es s s2 e).frame r)) }

  -- a token before
  pub past : {x : Draft → Trail → Trail} {es : List Event} {room off : ℕ} {a : Parts} {say : Say} {found : Found} → Notes names x es room off a say found
      → Notes names (λ d t. x d (took t)) es room off a (λ at t rest. at t ∷ say at (t + 1) rest) (λ p t. found p (t + 1))
  past h = record { notes = λ s s2 m l e agree o r at t rest n. h.notes s s2 m l e agree o r at (t + 1) rest n }

  -- two tokens before
  pub past_two : {x : Draft → Trail → Trail} {es : List Event} {room off : ℕ} {a : Parts} {say : Say} {found : Found} → Notes names x es room off a say found
      → Notes names (λ d t. x d (took (took t))) es room off a (λ at t rest. at t ∷ at (t + 1) ∷ say at (t + 2) rest) (λ p t. found p (t + 2))
  past_two h = record { notes = λ s s2 m l e agree o r at t rest n. h.notes s s2 m l e agree o r at (t + 2) rest n }

  -- a token after
  pub through : {x : Draft → Trail → Trail} {es : List Event} {room off : ℕ} {a : Parts} {say : Say} {found : Found} (k : ℕ → ℕ) → Notes names x es room off a say found
      → Notes names (λ d t. took (x d t)) es room off a (λ at t rest. say at t (at (k t) ∷ rest)) found
  through k h = record { notes = λ s s2 m l e agree o r at t rest n. ap took (h.notes s s2 m l e agree o r at t (at (k t) ∷ rest) n) }

  -- a token after what it is made of, which is noted
  pub ends_noted : {f : Draft → Draft} {x : Draft → Trail → Trail} {es : List Event} {room off : ℕ} {a : Parts} {say : Say} {found : Found} (k : ℕ → ℕ) → Makes names f es room off a → Notes names x es room off a say found
      → Notes names (λ d t. took (noted (f d) (x d t))) es room off a (λ at t rest. say at t (at (k t) ∷ rest)) (λ p t. found p t ++ origin (p + length (a.code p)) (k t) ∷ [])
  ends_noted {f = f} {es = es} {a = a} {found = found} k y h = record {
    notes = λ s s2 m l e agree o r at t rest n.
        let p = length m.code in
        ap (λ u. took (noted (f (drafted s m)) u)) (h.notes s s2 m l e agree o r at t (at (k t) ∷ rest) n)
        ∙ ap (λ q. trail rest (noted_at q (at (k t)) (noted_by at (found p t) n))) (ap place_of (y.makes s s2 m l e agree o) ∙ place_is s2 (added m a) r ∙ length-append m.code (a.code p))
        ∙ ap (trail rest) (noted_twice at (found p t) (origin (p + length (a.code p)) (k t) ∷ []) n);
  }

  -- a token before what is made, which is noted when that was read
  pub marks : {f : Draft → Draft} {x : Draft → Trail → Trail} {es : List Event} {room off : ℕ} {a : Parts} {say : Say} {found : Found} → Makes names f es room off a → Notes names x es room off a say found
      → Notes names (λ d t. marked (first_line t.coming) (f d) (x d (took t))) es room off a (λ at t rest. at t ∷ say at (t + 1) rest) (λ p t. found p (t + 1) ++ origin (p + length (a.code p)) t ∷ [])
  marks {f = f} {es = es} {a = a} {found = found} y h = record {
    notes = λ s s2 m l e agree o r at t rest n.
        let p = length m.code in
        ap (λ u. marked (at t) (f (drafted s m)) u) (h.notes s s2 m l e agree o r at (t + 1) rest n)
        ∙ ap (λ q. trail rest (noted_at q (at t) (noted_by at (found p (t + 1)) n))) (ap place_of (y.makes s s2 m l e agree o) ∙ place_is s2 (added m a) r ∙ length-append m.code (a.code p))
        ∙ ap (trail rest) (noted_twice at (found p (t + 1)) (origin (p + length (a.code p)) t ∷ []) n);
  }

  -- one after another, where the second one begins with the token of this number
  pub notes_then : {f : Draft → Draft} {x y : Draft → Trail → Trail} {es fs : List Event} {room off off2 : ℕ} {a b : Parts} {say say2 : Say} {found found2 : Found} (k : ℕ → ℕ) → Makes names f es room off a
      → Notes names x es room off a say found → Notes names y fs room off2 b say2 found2 → off2 ≡ off + length a.strings
      → Notes names (λ d t. y (f d) (x d t)) (es ++ fs) room off (joined a b) (λ at t rest. say at t (say2 at (k t) rest)) (λ p t. found p t ++ found2 (p + length (a.code p)) (k t))
  notes_then {f = f} {x = x} {y = y} {es = es} {fs = fs} {off2 = off2} {a = a} {b = b} {say2 = say2} {found = found} {found2 = found2} k z h g oo = record {
    notes = λ s s3 m l e agree o r at t rest n.
        let q = scanned_twice es fs s s3 e in
        let after = later fs q.0 s3 q.2 in
        let agree1 = agrees_before names q.0.names s3.names after.longer agree in
        let p = length m.code in
        let n1 = noted_by at (found p t) n in
        let o2 : length (m.strings ++ a.strings) ≡ off2 = omega (arith, length-append m.strings a.strings, o, oo) in
        ap (λ u. y (f (drafted s m)) u) (h.notes s q.0 m l q.1 agree1 o (roomy_first q.0.frame s3.frame m a b after.frame r) at t (say2 at (k t) rest) n)
        ∙ ap (λ d. y d (trail (say2 at (k t) rest) n1)) (z.makes s q.0 m l q.1 agree1 o)
        ∙ g.notes q.0 s3 (added m a) (omega (arith, l, same_depth s q.0 (z.depth s q.0 q.1))) q.2 agree o2 (subst (Roomy s3.frame) (sym (two m a b)) r) at (k t) rest n1
        ∙ ap (λ c. trail rest (noted_by at (found2 c (k t)) n1)) (length-append m.code (a.code p))
        ∙ ap (trail rest) (noted_twice at (found p t) (found2 (p + length (a.code p)) (k t)) n);
  }

  -- after a jump that is put later
  pub after_jump : {x : Draft → Trail → Trail} {es : List Event} {room off : ℕ} {a : Parts} {say : Say} {found : Found} (i : Instr) → Notes names x es room off a say found
      → Notes names (λ d t. x (emitted i d) t) es room off (skipped a) say (λ p t. found (p + 1) t)
  after_jump {x = x} {es = es} {a = a} {say = say} {found = found} i h = record {
    notes = λ s s2 m l e agree o r at t rest n.
        let p = length m.code in
        let m1 = put m i in
        let ca = a.code (p + 1) in
        let r1 = smaller s2.frame s2.frame (added m1 a) (added m (skipped a)) (le_refl _)
        (omega (arith, length_put m i, length-append m1.code (a.code (length m1.code)), ap (λ q. length (a.code q)) (length_put m i), length-append m.code ((skipped a).code p))) (le_refl _) (le_refl _) r in
        ap (λ d. x d (trail (say at t rest) n)) (emit i i s m (λ r. refl))
        ∙ h.notes s s2 m1 l e agree o r1 at t rest n
        ∙ ap (λ q. trail rest (noted_by at (found q t) n)) (length_put m i);
  }

  -- nothing is read
  pub nothing_noted : {es : List Event} {room off : ℕ} {a : Parts} → Notes names (λ d t. t) es room off a (λ at t rest. rest) (λ p t. [])
  nothing_noted = record { notes = λ s s2 m l e agree o r at t rest n. refl }

  -- two ways, with a token between them
  pub notes_ways : {first : Draft → Draft} {x y : Draft → Trail → Trail} {es fs : List Event} {room off off2 : ℕ} {a b : Parts} {say say2 : Say} {found found2 : Found} (k j : ℕ → ℕ) → Makes names first es room off a
      → Notes names x es room off a say found → Notes names y fs room off2 b say2 found2 → off2 ≡ off + length a.strings
      → Notes names (λ d t. y (between_ways first d) (took (x (emitted (instr.JumpIfZero 0) d) t))) (es ++ fs) room off (ways_parts a b) (λ at t rest. say at t (at (k t) ∷ say2 at (j t) rest)) (λ p t. found (p + 1) t ++ found2 (p + 1 + length (a.code (p + 1)) + 1) (j t))
  notes_ways {first = first} {x = x} {y = y} {es = es} {fs = fs} {off2 = off2} {a = a} {b = b} {say = say} {say2 = say2} {found = found} {found2 = found2} k j z h g oo = record {
    notes = λ s s3 m l e agree o r at t rest n.
        let q = scanned_twice es fs s s3 e in
        let after = later fs q.0 s3 q.2 in
        let agree1 = agrees_before names q.0.names s3.names after.longer agree in
        let p = length m.code in
        let m1 = put m (instr.JumpIfZero 0) in
        let m2 = added m1 a in
        let m3 = put m2 (instr.Jump 0) in
        let ca = a.code (p + 1) in
        let mid = p + 1 + length ca + 1 in
        let cb = b.code mid in
        let long1 : length m1.code ≡ p + 1 = length_put m (instr.JumpIfZero 0) in
        let long2 : length m2.code ≡ p + 1 + length ca = length-append m1.code (a.code (length m1.code)) ∙ ap (λ c. c + length (a.code c)) long1 in
        let long3 : length m3.code ≡ mid = length_put m2 (instr.Jump 0) ∙ ap (λ c. c + 1) long2 in
        let first_is : first (emitted (instr.JumpIfZero 0) (drafted s m)) ≡ drafted q.0 m2 = ap first (emit (instr.JumpIfZero 0) (instr.JumpIfZero 0) s m (λ r. refl)) ∙ z.makes s q.0 m1 l q.1 agree1 o in
        let new = slice_set m3.code (place_of (drafted s m)) (instr.JumpIfZero (place_of (drafted q.0 m3))) in
        let m4 = record m3 { code = new } in
        let same_length : length new ≡ length m3.code = length-set m3.code (place_of (drafted s m)) (instr.JumpIfZero (place_of (drafted q.0 m3))) in
        let jump_is : emitted (instr.Jump 0) (first (emitted (instr.JumpIfZero 0) (drafted s m))) ≡ drafted q.0 m3 = ap (emitted (instr.Jump 0)) first_is ∙ emit (instr.Jump 0) (instr.Jump 0) q.0 m2 (λ r. refl) in
        let between : between_ways first (drafted s m) ≡ drafted q.0 m4 =
        ap (λ d. filled (place_of (drafted s m)) (instr.JumpIfZero (place_of d)) d) jump_is
        ∙ fill (place_of (drafted s m)) (instr.JumpIfZero (place_of (drafted q.0 m3))) q.0 m3 new same_length (λ r. refl) in
        let whole : length (m.code ++ (ways_parts a b).code p) ≡ mid + length cb =
        omega (arith, length-append m.code ((ways_parts a b).code p), length-append ca (instr.Jump (mid + length cb) ∷ cb)) in
        let long5 : length (m4.code ++ b.code (length m4.code)) ≡ mid + length cb =
        length-append m4.code (b.code (length m4.code)) ∙ ap (λ c. c + length (b.code c)) (same_length ∙ long3) in
        let r5 : Roomy s3.frame (added m4 b) = smaller s3.frame s3.frame (added m4 b) (added m (ways_parts a b)) (le_refl _) (omega (arith, whole, long5))
        (omega (arith, length-append (m.strings ++ a.strings) b.strings, length-append m.strings a.strings, length-append m.strings (a.strings ++ b.strings), length-append a.strings b.strings)) (le_refl _) r in
        let r2 : Roomy q.0.frame m2 = smaller q.0.frame s3.frame m2 (added m (ways_parts a b)) after.frame (omega (arith, whole, long2))
        (omega (arith, length-append m.strings a.strings, length-append m.strings (a.strings ++ b.strings), length-append a.strings b.strings)) (le_refl _) r in
        let o2 : length (m.strings ++ a.strings) ≡ off2 = omega (arith, length-append m.strings a.strings, o, oo) in
        let n1 = noted_by at (found (p + 1) t) n in
        ap (λ u. y (between_ways first (drafted s m)) (took u))
        (ap (λ d. x d (trail (say at t (at (k t) ∷ say2 at (j t) rest)) n)) (emit (instr.JumpIfZero 0) (instr.JumpIfZero 0) s m (λ r. refl))
        ∙ h.notes s q.0 m1 l q.1 agree1 o r2 at t (at (k t) ∷ say2 at (j t) rest) n
        ∙ ap (λ c. trail (at (k t) ∷ say2 at (j t) rest) (noted_by at (found c t) n)) long1)
        ∙ ap (λ d. y d (trail (say2 at (j t) rest) n1)) between
        ∙ g.notes q.0 s3 m4 (omega (arith, l, same_depth s q.0 (z.depth s q.0 q.1))) q.2 agree o2 r5 at (j t) rest n1
        ∙ ap (λ c. trail rest (noted_by at (found2 c (j t)) n1)) (same_length ∙ long3)
        ∙ ap (trail rest) (noted_twice at (found (p + 1) t) (found2 mid (j t)) n);
  }
