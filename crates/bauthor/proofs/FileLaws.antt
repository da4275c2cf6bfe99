-- What is written is read, and what is read is written so.
use Rattle.std.proofs.Common.{◌≡◌, ◌∙◌, ℕ, ◌+◌, List, [], ◌∷◌, ◌++◌, length, map, Option, Some}
use Rattle.std.proofs.Common.{None, Result, Ok, Err, Bool, false, cond, refl, sym, ap, subst, arith, inl, inr}
use Rattle.std.specs.Prelude.{◌==◌}
use Rattle.std.proofs.lemmas.Bool.Decides.{eqb_tells}
use Rattle.bauthor.specs.AuthorFiles.{at_end, lines_of, read_from, with_line, with_read}
use Rattle.bauthor.specs.Written.{AreSuiting, IsWrongAt, StandsWrong, WrittenIsRead}

pub not_empty : (b : ℕ) (bs : List ℕ) → (length (b ∷ bs) == 0) ≡ false
not_empty b bs =
    elim (eqb_tells (length (b ∷ bs)) 0) [
      | inl same ↦ absurd (omega (arith, same.1))
      | inr other ↦ other.0
    ]

-- A line suits what is wanted just where it is read so, and none suits the end.
module _ {W L : Type 0} (Suits : W → L → Type 0) (text : L → List ℕ) (end : W) (reads : W → List ℕ → Option L)
    (again : (w : W) (l : L) → Suits w l → reads w (text l) ≡ Some l)
    (sound : (w : W) (t : List ℕ) (l : L) → reads w t ≡ Some l → Suits w l × (t ≡ text l))
    (none : (l : L) → Suits end l → ⊥) where
  abbrev Suiting : List W → List L → Type 0
  Suiting ws ls = AreSuiting Suits text end ws ls

  abbrev Wrong : W → List W → List (List ℕ) → Type 0
  Wrong w later rest = StandsWrong Suits text end w later rest

  abbrev as_wrong : ℕ → W → Result (List L) (ℕ × W)
  as_wrong n w = Err (n, w)

  abbrev as_read : List L → Result (List L) (ℕ × W)
  as_read ls = Ok ls

  read_again : (n : ℕ) (ws : List W) (ls : List L) → Suiting ws ls
      → read_from reads end n ws (map text ls ++ [] ∷ []) ≡ Ok ls
  read_again n [] [] h = refl
  read_again n [] (l ∷ ls) h = absurd h
  read_again n (w ∷ ws) [] h = absurd h
  read_again n (w ∷ ws) (l ∷ ls) h =
      ap (λ o. with_line n w o (read_from reads end (n + 1) ws (map text ls ++ [] ∷ []))) (again w l h.0)
      ∙ ap (with_read (l ∷ [])) (read_again (n + 1) ws ls h.1)

  -- what was read of lines
  abbrev Follows : List W → List (List ℕ) → List L → Type 0
  Follows ws lines ls = Suiting ws ls × (lines ≡ map text ls ++ [] ∷ [])

  abbrev end_if : ℕ → Bool → Result (List L) (ℕ × W)
  end_if n b = cond b (Ok []) (Err (n, end))

  over_sound : (lines : List (List ℕ)) (n : ℕ) (ls : List L) → at_end end n lines ≡ Ok ls → Follows [] lines ls
  over_sound [] n ls h = let bad : as_wrong n end ≡ as_read ls = h in absurd cc
  over_sound ([] ∷ []) n ls h = let is : [] ≡ ls = cc in subst (Follows [] ([] ∷ [])) is (tt, refl)
  over_sound ((b ∷ bs) ∷ []) n ls h =
      let bad : as_wrong n end ≡ as_read ls = sym (ap (end_if n) (not_empty b bs)) ∙ h in absurd cc
  over_sound (l ∷ m ∷ ms) n ls h = let bad : as_wrong n end ≡ as_read ls = h in absurd cc

  more_follow : (w : W) (ws : List W) (t : List ℕ) (lines : List (List ℕ)) (l : L) (r : Result (List L) (ℕ × W))
      (ls : List L) → Suits w l × (t ≡ text l)
      → ((later : List L) → r ≡ Ok later → Follows ws lines later) → with_read (l ∷ []) r ≡ Ok ls
      → Follows (w ∷ ws) (t ∷ lines) ls
  more_follow w ws t lines l (Err f) ls read on h = cc
  more_follow w ws t lines l (Ok later) ls read on h =
      let is : l ∷ later ≡ ls = cc in
      let rest = on later refl in
      subst (Follows (w ∷ ws) (t ∷ lines)) is (
        (read.0, rest.0),
        ap (λ x. x ∷ lines) read.1 ∙ ap (λ xs. text l ∷ xs) rest.1,
      )

  line_follows : (n : ℕ) (w : W) (ws : List W) (t : List ℕ) (lines : List (List ℕ)) (o : Option L)
      (r : Result (List L) (ℕ × W)) (ls : List L) → reads w t ≡ o
      → ((later : List L) → r ≡ Ok later → Follows ws lines later) → with_line n w o r ≡ Ok ls
      → Follows (w ∷ ws) (t ∷ lines) ls
  line_follows n w ws t lines None r ls is on h = cc
  line_follows n w ws t lines (Some l) r ls is on h = more_follow w ws t lines l r ls (sound w t l is) on h

  read_follows : (n : ℕ) (ws : List W) (lines : List (List ℕ)) (ls : List L) → read_from reads end n ws lines ≡ Ok ls
      → Follows ws lines ls
  read_follows n [] lines ls h = over_sound lines n ls h
  read_follows n (w ∷ ws) [] ls h = cc
  read_follows n (w ∷ ws) (t ∷ lines) ls h =
      line_follows n w ws t lines (reads w t) (read_from reads end (n + 1) ws lines) ls refl
      (λ later is. read_follows (n + 1) ws lines later is) h

  -- the first wrong line of lines from a number on
  record FirstWrong (n : ℕ) (ws : List W) (lines : List (List ℕ)) (number : ℕ) (w : W) : Type 0 where
    before : List L
    number_is : number ≡ length before + n
    taken : List W
    suit : Suiting taken before
    rest : List (List ℕ)
    stand : lines ≡ map text before ++ rest
    later : List W
    next : ws ++ end ∷ [] ≡ taken ++ w ∷ later
    wrong : Wrong w later rest

  here : (n : ℕ) (w : W) (ws later : List W) (lines : List (List ℕ)) (number : ℕ) (v : W) → n ≡ number → w ≡ v
      → ws ++ end ∷ [] ≡ w ∷ later → Wrong w later lines → FirstWrong n ws lines number v
  here n w ws later lines number v same wants next wrong =
      let none : n ≡ length {A = L} [] + n = omega arith in
      subst (λ x. FirstWrong n ws lines number x) wants (subst (λ k. FirstWrong n ws lines k w) same
      (record { before = []; number_is = none; taken = []; suit = tt; rest = lines; stand = refl; later = later; next = next; wrong = wrong }))

  numbers_same : (n : ℕ) (w : W) (number : ℕ) (v : W) → as_wrong n w ≡ as_wrong number v → n ≡ number
  numbers_same n w number v h = let is : (n, w) ≡ (number, v) = cc in ap (λ (p : ℕ × W). p.0) is

  wanted_same : (n : ℕ) (w : W) (number : ℕ) (v : W) → as_wrong n w ≡ as_wrong number v → w ≡ v
  wanted_same n w number v h = let is : (n, w) ≡ (number, v) = cc in ap (λ (p : ℕ × W). p.1) is

  wrong_here : (n : ℕ) (w : W) (ws : List W) (lines : List (List ℕ)) (number : ℕ) (v : W)
      → as_wrong n w ≡ as_wrong number v → Wrong w (ws ++ end ∷ []) lines → FirstWrong n (w ∷ ws) lines number v
  wrong_here n w ws lines number v h wrong =
      here n w (w ∷ ws) (ws ++ end ∷ []) lines number v (numbers_same n w number v h) (wanted_same n w number v h) refl wrong

  end_here : (n : ℕ) (lines : List (List ℕ)) (number : ℕ) (v : W) → as_wrong n end ≡ as_wrong number v
      → (lines ≡ [] ∷ [] → ⊥) → FirstWrong n [] lines number v
  end_here n lines number v h not_over =
      here n end [] [] lines number v (numbers_same n end number v h) (wanted_same n end number v h) refl
      (record { line = λ l rest suit is. none l suit; over = λ last is. not_over is })

  over_wrong : (lines : List (List ℕ)) (n number : ℕ) (v : W) → at_end end n lines ≡ as_wrong number v
      → FirstWrong n [] lines number v
  over_wrong [] n number v h = end_here n [] number v h (λ e. cc)
  over_wrong ([] ∷ []) n number v h = let bad : as_read [] ≡ as_wrong number v = h in absurd cc
  over_wrong ((b ∷ bs) ∷ []) n number v h =
      end_here n ((b ∷ bs) ∷ []) number v (sym (ap (end_if n) (not_empty b bs)) ∙ h) (λ e. cc)
  over_wrong (l ∷ m ∷ ms) n number v h = end_here n (l ∷ m ∷ ms) number v h (λ e. cc)

  after : (n : ℕ) (w : W) (ws : List W) (t : List ℕ) (lines : List (List ℕ)) (number : ℕ) (v : W) (l : L)
      → Suits w l × (t ≡ text l) → FirstWrong (n + 1) ws lines number v → FirstWrong n (w ∷ ws) (t ∷ lines) number v
  after n w ws t lines number v l read r = record {
    before = l ∷ r.before;
    number_is = let is = r.number_is in omega (arith, is);
    taken = w ∷ r.taken;
    suit = (read.0, r.suit);
    rest = r.rest;
    stand = ap (λ x. x ∷ lines) read.1 ∙ ap (λ xs. text l ∷ xs) r.stand;
    later = r.later;
    next = ap (λ us. w ∷ us) r.next;
    wrong = r.wrong;
  }

  more_wrong : (n : ℕ) (w : W) (ws : List W) (t : List ℕ) (lines : List (List ℕ)) (number : ℕ) (v : W) (l : L)
      (r : Result (List L) (ℕ × W)) → Suits w l × (t ≡ text l)
      → (r ≡ as_wrong number v → FirstWrong (n + 1) ws lines number v) → with_read (l ∷ []) r ≡ as_wrong number v
      → FirstWrong n (w ∷ ws) (t ∷ lines) number v
  more_wrong n w ws t lines number v l (Ok later) read on h = cc
  more_wrong n w ws t lines number v l (Err f) read on h = after n w ws t lines number v l read (on h)

  -- a line that isn't read suits nothing
  unread : (w : W) (t : List ℕ) (l : L) → reads w t ≡ None → Suits w l → t ≡ text l → ⊥
  unread w t l is suit same =
      let bad : None ≡ Some l = sym is ∙ ap (reads w) same ∙ again w l suit in cc

  line_wrong : (n : ℕ) (w : W) (ws : List W) (t : List ℕ) (lines : List (List ℕ)) (number : ℕ) (v : W) (o : Option L)
      (r : Result (List L) (ℕ × W)) → reads w t ≡ o
      → (r ≡ as_wrong number v → FirstWrong (n + 1) ws lines number v) → with_line n w o r ≡ as_wrong number v
      → FirstWrong n (w ∷ ws) (t ∷ lines) number v
  line_wrong n w ws t lines number v None r is on h =
      wrong_here n w ws (t ∷ lines) number v h (record {
        line = λ l rest suit same. let one : t ≡ text l = cc in unread w t l is suit one;
        over = λ last same. no_more ws last;
      })
    where
      no_more : (ws : List W) → ws ++ end ∷ [] ≡ [] → ⊥
      no_more [] e = cc
      no_more (w ∷ ws) e = cc
  line_wrong n w ws t lines number v (Some l) r is on h =
      more_wrong n w ws t lines number v l r (sound w t l is) on h

  first_wrong : (n : ℕ) (ws : List W) (lines : List (List ℕ)) (number : ℕ) (v : W)
      → read_from reads end n ws lines ≡ as_wrong number v → FirstWrong n ws lines number v
  first_wrong n [] lines number v h = over_wrong lines n number v h
  first_wrong n (w ∷ ws) [] number v h =
      wrong_here n w ws [] number v h (record { line = λ l rest suit same. cc; over = λ last same. cc })
  first_wrong n (w ∷ ws) (t ∷ lines) number v h =
      line_wrong n w ws t lines number v (reads w t) (read_from reads end (n + 1) ws lines) refl
      (λ is. first_wrong (n + 1) ws lines number v is) h

  first_of_file : (ws : List W) (file : List ℕ) (number : ℕ) (w : W)
      → read_from reads end 1 ws (lines_of file) ≡ as_wrong number w
      → IsWrongAt Suits text end ws file number w
  first_of_file ws file number w h = let r = first_wrong 1 ws (lines_of file) number w h in record {
    before = r.before;
    number_is = r.number_is;
    taken = r.taken;
    suit = r.suit;
    rest = r.rest;
    stand = r.stand;
    later = r.later;
    next = r.next;
    wrong = r.wrong;
  }

  pub written_is_read : (ws : List W) (file : List ℕ)
      → WrittenIsRead Suits text end ws file (read_from reads end 1 ws (lines_of file))
  written_is_read ws file = record {
    read = λ ls suit lines. ap (read_from reads end 1 ws) lines ∙ read_again 1 ws ls suit;
    written = λ ls h. read_follows 1 ws (lines_of file) ls h;
    first = first_of_file ws file;
  }
