-- The search for depths: what it keeps at each way, and that it comes to all places that are reached.
use Rattle.std.proofs.Common.{◌≡◌, ◌≢◌, ℕ, zero, suc, ◌+◌, ◌-◌, ◌≤◌, ◌<◌, ◌⊎◌, inl, inr, List, [], ◌∷◌, ◌++◌, length, get_or, set, map, take, Option, Some, None, Bool, true, false, cond, refl, sym, ap, ◌∙◌, subst, arith, length-append}
use Rattle.std.specs.Prelude.{slice_get, if◌then◌else◌, ◌&&◌, nat_le, nat_lt, fold, replicate}
use Rattle.std.specs.List.{Contains}
use Rattle.std.proofs.lemmas.Bool.Decides.{eqb_tells}
use Rattle.std.proofs.lemmas.List.{get_or-set_same, get_or-set_other, length-set, take_more, map-append}
use Rattle.std.proofs.lemmas.List.Elements.{Contains-append_left, Contains-append_right, Contains-append_cases}
use Rattle.std.proofs.lemmas.Option.{slice_get_cases, slice_get-get_or, slice_get_within, get_or_from_slice_get}
use Rattle.blang.specs.declared.code.Instr.{Instr}
use Rattle.blang.specs.declared.code.Instr.TheVariants as instr
use Rattle.bverify.specs.Depths.{operands_taken, operands_put, Way, way, ways, Reaches, begins, goes_on, Depths, depth_at, AreReached, HasDepth, AreClosed}
use Rattle.bverify.specs.Search.{Found, is_unknown, with_way, followed, followed_from, looked_at}

-- how many places have no depth
abbrev pub unknowns : Depths → ℕ
unknowns [] = 0
unknowns (None ∷ ds) = 1 + unknowns ds
unknowns (Some d ∷ ds) = unknowns ds

unknowns_set : (ds : Depths) (i d : ℕ) → i < length ds → depth_at ds i ≡ None → unknowns (set ds i (Some d)) + 1 ≡ unknowns ds
unknowns_set [] i d lt none = absurd (omega (arith, lt))
unknowns_set (None ∷ ds) zero d lt none = omega arith
unknowns_set (Some e ∷ ds) zero d lt none = cc
unknowns_set (None ∷ ds) (suc i) d lt none =
    let r : unknowns (set ds i (Some d)) + 1 ≡ unknowns ds = unknowns_set ds i d (omega (arith, lt)) none in omega (arith, r)
unknowns_set (Some e ∷ ds) (suc i) d lt none = unknowns_set ds i d (omega (arith, lt)) none

pub all_unknown : (n : ℕ) → unknowns (replicate n None) ≡ n
all_unknown zero = refl
all_unknown (suc n) = let r = all_unknown n in omega (arith, r)

pub contains_cases : {A : Type 0} (x : A) (xs : List A) (y : A) → Contains (x ∷ xs) y → (x ≡ y) ⊎ Contains xs y
contains_cases x xs y (zero, lt, is) = inl is
contains_cases x xs y (suc k, lt, is) = inr (k, omega (arith, lt), is)

pub contains_none : {A : Type 0} (y : A) → Contains [] y → ⊥
contains_none y (k, lt, is) = omega (arith, lt)

pub contains_head : {A : Type 0} (x : A) (xs : List A) → Contains (x ∷ xs) x
contains_head x xs = (0, omega arith, refl)

pub contains_tail : {A : Type 0} (x : A) (xs : List A) (y : A) → Contains xs y → Contains (x ∷ xs) y
contains_tail x xs y (k, lt, is) = (suc k, omega (arith, lt), is)

contains_one : {A : Type 0} (x y : A) → Contains (x ∷ []) y → x ≡ y
contains_one x y c = elim (contains_cases x [] y c) [ inl e ↦ e | inr r ↦ absurd (contains_none y r) ]

-- a way makes one operand more at most
way_low : (p e : ℕ) (w : Way) (d : ℕ) → Contains (way p e ∷ []) w → e ≤ d → w.depth ≤ d
way_low p e w d c le = let is : e ≡ w.depth = ap (λ v. v.depth) (contains_one (way p e) w c) in omega (arith, is, le)

two_low : (p e q f : ℕ) (w : Way) (d : ℕ) → Contains (way p e ∷ way q f ∷ []) w → e ≤ d → f ≤ d → w.depth ≤ d
two_low p e q f w d c le lf =
    elim (contains_cases (way p e) (way q f ∷ []) w c) [
      | inl is ↦ let same : e ≡ w.depth = ap (λ v. v.depth) is in omega (arith, same, le)
      | inr r ↦ way_low q f w d r lf
    ]

targets_low : (targets : List ℕ) (e : ℕ) (w : Way) (d : ℕ) → Contains (map (λ t. way t e) targets) w → e ≤ d → w.depth ≤ d
targets_low [] e w d c le = absurd (contains_none w c)
targets_low (t ∷ ts) e w d c le =
    elim (contains_cases (way t e) (map (λ u. way u e) ts) w c) [
      | inl is ↦ let same : e ≡ w.depth = ap (λ v. v.depth) is in omega (arith, same, le)
      | inr r ↦ targets_low ts e w d r le
    ]

ways_low : (targets : List ℕ) (i : Instr) (p d : ℕ) (w : Way) → Contains (ways targets i p d) w → w.depth ≤ d + 1
ways_low targets (instr.Jump t) p d w c = way_low t d w (d + 1) c (omega arith)
ways_low targets (instr.JumpIfZero t) p d w c = two_low t (d - 1) (p + 1) (d - 1) w (d + 1) c (omega arith) (omega arith)
ways_low targets (instr.JumpIfCase v t) p d w c = two_low t (d - 1) (p + 1) d w (d + 1) c (omega arith) (omega arith)
ways_low targets instr.Goto p d w c = targets_low targets (d - 1) w (d + 1) c (omega arith)
ways_low targets instr.Return p d w c = absurd (contains_none w c)
ways_low targets (instr.Constant n) p d w c = way_low (p + 1) (d - 0 + 1) w (d + 1) c (omega arith)
ways_low targets (instr.External x) p d w c = way_low (p + 1) (d - 0 + 1) w (d + 1) c (omega arith)
ways_low targets (instr.Automatic k) p d w c = way_low (p + 1) (d - 0 + 1) w (d + 1) c (omega arith)
ways_low targets (instr.Text o) p d w c = way_low (p + 1) (d - 0 + 1) w (d + 1) c (omega arith)
ways_low targets (instr.Label k) p d w c = way_low (p + 1) (d - 0 + 1) w (d + 1) c (omega arith)
ways_low targets instr.Load p d w c = way_low (p + 1) (d - 1 + 1) w (d + 1) c (omega arith)
ways_low targets instr.Store p d w c = way_low (p + 1) (d - 2 + 1) w (d + 1) c (omega arith)
ways_low targets (instr.Binary op) p d w c = way_low (p + 1) (d - 2 + 1) w (d + 1) c (omega arith)
ways_low targets (instr.Modify op) p d w c = way_low (p + 1) (d - 2 + 1) w (d + 1) c (omega arith)
ways_low targets instr.Negate p d w c = way_low (p + 1) (d - 1 + 1) w (d + 1) c (omega arith)
ways_low targets instr.Not p d w c = way_low (p + 1) (d - 1 + 1) w (d + 1) c (omega arith)
ways_low targets (instr.Increment which) p d w c = way_low (p + 1) (d - 1 + 1) w (d + 1) c (omega arith)
ways_low targets (instr.Call n) p d w c = way_low (p + 1) (d - (n + 1) + 1) w (d + 1) c (omega arith)
ways_low targets instr.Pop p d w c = way_low (p + 1) (d - 1 + 0) w (d + 1) c (omega arith)

-- a state in which the way's place has its depth
abbrev moved : Found → Way → Found
moved s w = record { depths = set s.depths w.place (Some w.depth); pending = s.pending ++ w.place ∷ [] }

abbrev chosen : Found → Way → Bool → Found
chosen s w b = if b then moved s w else s

-- Either nothing changes, and then the place had a depth; or the place gets this one.
abbrev Cases : Found → Way → Type 0
Cases s w =
    ((with_way s w ≡ s) × (w.place < length s.depths → w.depth ≤ 65535 → HasDepth s.depths w.place))
    ⊎ ((w.place < length s.depths) × (depth_at s.depths w.place ≡ None) × (with_way s w ≡ moved s w))

chosen_cases : (s : Found) (w : Way) (o : Option (Option ℕ)) (low : Bool) → slice_get s.depths w.place ≡ o → nat_le w.depth 65535 ≡ low → with_way s w ≡ chosen s w (is_unknown o && low)
chosen_cases s w o low at is = ap (λ v. chosen s w (is_unknown v && nat_le w.depth 65535)) at ∙ ap (λ v. chosen s w (is_unknown o && v)) is

low_cases : (s : Found) (w : Way) (low : Bool) → nat_le w.depth 65535 ≡ low → slice_get s.depths w.place ≡ Some None → Cases s w
low_cases s w true is at = inr (slice_get_within s.depths w.place None at, get_or_from_slice_get s.depths w.place None None at, chosen_cases s w (Some None) true at is)
low_cases s w false is at = inl (chosen_cases s w (Some None) false at is, λ lt le. absurd (grind (arith, is, le)))

value_cases : (s : Found) (w : Way) (x : Option ℕ) → slice_get s.depths w.place ≡ Some x → Cases s w
value_cases s w None at = low_cases s w (nat_le w.depth 65535) refl at
value_cases s w (Some d) at =
    inl (chosen_cases s w (Some (Some d)) (nat_le w.depth 65535) at refl, λ lt le. (d, get_or_from_slice_get s.depths w.place (Some d) None at))

cases_of : (s : Found) (w : Way) → Cases s w
cases_of s w =
    elim (slice_get_cases s.depths w.place).1 [
      | inl within ↦ value_cases s w within.0 within.2
      | inr past ↦ inl (chosen_cases s w None (nat_le w.depth 65535) past.1 refl, λ lt le. absurd (omega (arith, lt, past.0)))
    ]

-- the depth at a place after a write
set_cases : (ds : Depths) (i e p d : ℕ) → i < length ds → depth_at (set ds i (Some e)) p ≡ Some d → ((p ≡ i) × (e ≡ d)) ⊎ (depth_at ds p ≡ Some d)
set_cases ds i e p d lt at =
    elim (eqb_tells p i) [
      | inl same ↦
          let is : p ≡ i = same.1 in
          let wrote : Some e ≡ Some d = sym (get_or-set_same ds i (Some e) None lt) ∙ subst (λ k. depth_at (set ds i (Some e)) k ≡ Some d) is at in
          inl (is, cc)
      | inr other ↦ inr (sym (get_or-set_other ds i p (Some e) None other.1) ∙ at)
    ]

-- A place keeps its depth.
kept_by_set : (ds : Depths) (i e p d : ℕ) → depth_at ds i ≡ None → depth_at ds p ≡ Some d → depth_at (set ds i (Some e)) p ≡ Some d
kept_by_set ds i e p d none at =
    elim (eqb_tells p i) [
      | inl same ↦ let is : p ≡ i = same.1 in let here : None ≡ Some d = sym none ∙ subst (λ k. depth_at ds k ≡ Some d) is at in absurd (cc)
      | inr other ↦ get_or-set_other ds i p (Some e) None other.1 ∙ at
    ]

kept_by_way : (s : Found) (w : Way) (p d : ℕ) → depth_at s.depths p ≡ Some d → depth_at (with_way s w).depths p ≡ Some d
kept_by_way s w p d at =
    elim (cases_of s w) [
      | inl same ↦ subst (λ t. depth_at t.depths p ≡ Some d) (sym same.0) at
      | inr new ↦ subst (λ t. depth_at t.depths p ≡ Some d) (sym new.2) (kept_by_set s.depths w.place w.depth p d new.1 at)
    ]

kept_by_ways : (ws : List Way) (s : Found) (p d : ℕ) → depth_at s.depths p ≡ Some d → depth_at (fold with_way s ws).depths p ≡ Some d
kept_by_ways [] s p d at = at
kept_by_ways (w ∷ ws) s p d at = kept_by_ways ws (with_way s w) p d (kept_by_way s w p d at)

module _ (targets : List ℕ) (code : List Instr) where
  -- the ways from a place were followed
  abbrev pub IsFollowed : Depths → (p d : ℕ) → Type 0
  IsFollowed ds p d =
      (i : Instr) → slice_get code p ≡ Some i → operands_taken i ≤ d → (w : Way) → Contains (ways targets i p d) w
      → w.place < length code → HasDepth ds w.place

  -- What the search keeps, but for the places of E: as many places without a depth or still pending as m, no depth
  -- above b, and each place with a depth is pending or was followed.
  pub record Keeps (E : ℕ → Type 0) (m b : ℕ) (s : Found) : Type 0 where
    pub all : length s.depths ≡ length code
    pub measure : unknowns s.depths + length s.pending ≡ m
    pub low : (p d : ℕ) → depth_at s.depths p ≡ Some d → d ≤ b
    pub begun : 1 ≤ length code → depth_at s.depths 0 ≡ Some 0
    pub reached : AreReached targets code s.depths
    pub rest : (p d : ℕ) → depth_at s.depths p ≡ Some d → E p ⊎ (Contains s.pending p ⊎ IsFollowed s.depths p d)

  -- such a way, that comes of a place
  abbrev IsGood : ℕ → Way → Type 0
  IsGood b w = Reaches targets code w × (w.depth ≤ b)

  moved_keeps : (E : ℕ → Type 0) (m b : ℕ) (s : Found) (w : Way) → Keeps E m b s → IsGood b w → w.place < length s.depths → depth_at s.depths w.place ≡ None → Keeps E m b (moved s w)
  moved_keeps E m b s w k good lt none = record {
    all = length-set s.depths w.place (Some w.depth) ∙ k.all;
    measure = let u = unknowns_set s.depths w.place w.depth lt none in let old = k.measure in omega (arith, u, old, length-append s.pending (w.place ∷ []));
    low = λ p d at. elim (set_cases s.depths w.place w.depth p d lt at) [
      | inl here ↦ let is : w.depth ≡ d = here.1 in omega (arith, is, good.1)
      | inr old ↦ k.low p d old
    ];
    begun = λ some. kept_by_set s.depths w.place w.depth 0 0 none (k.begun some);
    reached = λ p d at. elim (set_cases s.depths w.place w.depth p d lt at) [
      | inl here ↦
          let place : w.place ≡ p = sym here.0 in
          let depth : w.depth ≡ d = here.1 in
          subst (λ n. Reaches targets code (way n d)) place (subst (λ n. Reaches targets code (way w.place n)) depth good.0)
      | inr old ↦ k.reached p d old
    ];
    rest = λ p d at. elim (set_cases s.depths w.place w.depth p d lt at) [
      | inl here ↦ inr (inl (Contains-append_right s.pending (w.place ∷ []) p (subst (λ n. Contains (w.place ∷ []) n) (sym here.0) (contains_head w.place []))))
      | inr old ↦ elim (k.rest p d old) [
        | inl e ↦ inl e
        | inr r ↦ elim r [
          | inl c ↦ inr (inl (Contains-append_left s.pending (w.place ∷ []) p c))
          | inr f ↦ inr (inr (λ i stands has v c lt'. let h = f i stands has v c lt' in (h.0, kept_by_set s.depths w.place w.depth v.place h.0 none h.1)))
        ]
      ]
    ];
  }

  way_keeps : (E : ℕ → Type 0) (m b : ℕ) (s : Found) (w : Way) → Keeps E m b s → IsGood b w → Keeps E m b (with_way s w)
  way_keeps E m b s w k good =
      elim (cases_of s w) [
        | inl same ↦ subst (Keeps E m b) (sym same.0) k
        | inr new ↦ subst (Keeps E m b) (sym new.2) (moved_keeps E m b s w k good new.0 new.1)
      ]

  -- the place of a way has a depth after it
  way_comes : (s : Found) (w : Way) → length s.depths ≡ length code → w.place < length code → w.depth ≤ 65535 → HasDepth (with_way s w).depths w.place
  way_comes s w all lt low =
      elim (cases_of s w) [
        | inl same ↦ let h = same.1 (omega (arith, all, lt)) low in (h.0, kept_by_way s w w.place h.0 h.1)
        | inr new ↦ (w.depth, subst (λ t. depth_at t.depths w.place ≡ Some w.depth) (sym new.2) (get_or-set_same s.depths w.place (Some w.depth) None new.0))
      ]

  abbrev AllCome : List Way → Found → Type 0
  AllCome ws s = (w : Way) → Contains ws w → w.place < length code → HasDepth s.depths w.place

  ways_keep : (E : ℕ → Type 0) (m b : ℕ) (ws : List Way) (s : Found) → b ≤ 65535 → Keeps E m b s → ((w : Way) → Contains ws w → IsGood b w) → Keeps E m b (fold with_way s ws) × AllCome ws (fold with_way s ws)
  ways_keep E m b [] s low k good = (k, λ w c lt. absurd (contains_none w c))
  ways_keep E m b (v ∷ ws) s low k good =
      let g = good v (contains_head v ws) in
      let r = ways_keep E m b ws (with_way s v) low (way_keeps E m b s v k g) (λ w c. good w (contains_tail v ws w c)) in (
        r.0,
        λ w c lt.
            elim (contains_cases v ws w c) [
              | inl same ↦
                  let here : v.place < length code = subst (λ u. u.place < length code) (sym same) lt in
                  let le : v.depth ≤ 65535 = omega (arith, g.1, low) in
                  let h = way_comes s v k.all here le in
                  subst (λ u. HasDepth (fold with_way (with_way s v) ws).depths u.place) same (h.0, kept_by_ways ws (with_way s v) v.place h.0 h.1)
              | inr later ↦ r.1 w later lt
            ],
      )

  abbrev pub Nowhere : ℕ → Type 0
  Nowhere p = ⊥

  abbrev IsHere : ℕ → ℕ → Type 0
  IsHere q p = p ≡ q

  -- the place that was left out was followed
  closed_here : (q m b : ℕ) (s : Found) → Keeps (IsHere q) m b s → ((d : ℕ) → depth_at s.depths q ≡ Some d → IsFollowed s.depths q d) → Keeps Nowhere m b s
  closed_here q m b s k done = record {
    all = k.all;
    measure = k.measure;
    low = k.low;
    begun = k.begun;
    reached = k.reached;
    rest = λ p d at. elim (k.rest p d at) [
      | inl is ↦ inr (inr (subst (λ n. IsFollowed s.depths n d) (sym is) (done d (subst (λ n. depth_at s.depths n ≡ Some d) is at))))
      | inr r ↦ inr r
    ];
  }

  weaker : (E : ℕ → Type 0) (m b c : ℕ) (s : Found) → b ≤ c → Keeps E m b s → Keeps E m c s
  weaker E m b c s le k = record {
    all = k.all;
    measure = k.measure;
    low = λ p d at. omega (arith, le, k.low p d at);
    begun = k.begun;
    reached = k.reached;
    rest = k.rest;
  }

  -- the last pending place is taken
  popped : (m b q : ℕ) (ds : Depths) (ps : List ℕ) → Keeps Nowhere m b (record { depths = ds; pending = ps ++ q ∷ [] }) → Keeps (IsHere q) (m - 1) b (record { depths = ds; pending = ps })
  popped m b q ds ps k = record {
    all = k.all;
    measure = let old = k.measure in omega (arith, old, length-append ps (q ∷ []));
    low = k.low;
    begun = k.begun;
    reached = k.reached;
    rest = λ p d at. elim (k.rest p d at) [
      | inl e ↦ absurd e
      | inr r ↦ elim r [
        | inl c ↦ elim (Contains-append_cases ps (q ∷ []) p c) [
          | inl in_front ↦ inr (inl in_front)
          | inr last ↦ inl (sym (contains_one q p last))
        ]
        | inr f ↦ inr (inr f)
      ]
    ];
  }

  followed_keeps : (m b q : ℕ) (i : Instr) (e : ℕ) (lacks : Bool) (s : Found) → b ≤ 65534 → slice_get code q ≡ Some i → depth_at s.depths q ≡ Some e → nat_lt e (operands_taken i) ≡ lacks → Keeps (IsHere q) m b s → Keeps Nowhere m (b + 1) (if lacks then s else fold with_way s (ways targets i q e))
  followed_keeps m b q i e true s low stands at is k =
      closed_here q m (b + 1) s (weaker (IsHere q) m b (b + 1) s (omega arith) k)
      (λ d at' j stands' has w c lt.
      let one : Some i ≡ Some j = sym stands ∙ stands' in
      let same : i ≡ j = cc in
      let two : Some e ≡ Some d = sym at ∙ at' in
      let depth : e ≡ d = cc in
      let enough : operands_taken i ≤ e = subst (λ n. operands_taken i ≤ n) (sym depth) (subst (λ v. operands_taken v ≤ d) (sym same) has) in
      absurd (grind (arith, is, enough)))
  followed_keeps m b q i e false s low stands at is k =
      let has : operands_taken i ≤ e = grind (arith, is) in
      let le : e ≤ b = k.low q e at in
      let good : (w : Way) → Contains (ways targets i q e) w → IsGood (b + 1) w = λ w c.
      let l : w.depth ≤ e + 1 = ways_low targets i q e w c in
      let here : w.depth ≤ b + 1 = omega (arith, l, le) in
      (goes_on q e i w (k.reached q e at) stands has c, here) in
      let r = ways_keep (IsHere q) m (b + 1) (ways targets i q e) s (omega (arith, low)) (weaker (IsHere q) m b (b + 1) s (omega arith) k) good in
      closed_here q m (b + 1) (fold with_way s (ways targets i q e)) r.0
      (λ d at' j stands' has' w c lt.
      let one : Some i ≡ Some j = sym stands ∙ stands' in
      let same : i ≡ j = cc in
      let two : Some e ≡ Some d = sym (kept_by_ways (ways targets i q e) s q e at) ∙ at' in
      let depth : e ≡ d = cc in
      r.1 w (subst (λ n. Contains (ways targets i q n) w) (sym depth) (subst (λ v. Contains (ways targets v q d) w) (sym same) c)) lt)

  -- a place without an instruction, or without a depth, needs nothing
  idle_keeps : (m b q : ℕ) (s : Found) → Keeps (IsHere q) m b s → ((d : ℕ) → depth_at s.depths q ≡ Some d → IsFollowed s.depths q d) → Keeps Nowhere m (b + 1) s
  idle_keeps m b q s k done = closed_here q m (b + 1) s (weaker (IsHere q) m b (b + 1) s (omega arith) k) done

  from_keeps : (m b q : ℕ) (i : Option Instr) (o : Option (Option ℕ)) (s : Found) → b ≤ 65534 → slice_get code q ≡ i → slice_get s.depths q ≡ o → Keeps (IsHere q) m b s → Keeps Nowhere m (b + 1) (followed_from targets i o q s)
  from_keeps m b q None o s low stands at k =
      idle_keeps m b q s k (λ d here j stands' has w c lt. let e : None ≡ Some j = sym stands ∙ stands' in absurd cc)
  from_keeps m b q (Some i) None s low stands at k =
      idle_keeps m b q s k (λ d here j stands' has w c lt.
      let past = slice_get_within code q i stands in
      let e : None ≡ Some (depth_at s.depths q) = sym at ∙ slice_get-get_or s.depths q None (omega (arith, past, k.all)) in absurd cc)
  from_keeps m b q (Some i) (Some None) s low stands at k =
      idle_keeps m b q s k (λ d here j stands' has w c lt.
      let e : None ≡ Some d = sym (get_or_from_slice_get s.depths q None None at) ∙ here in absurd cc)
  from_keeps m b q (Some i) (Some (Some e)) s low stands at k =
      followed_keeps m b q i e (nat_lt e (operands_taken i)) s low stands (get_or_from_slice_get s.depths q (Some e) None at) refl k

  -- What the search keeps from one place to the next, and how much is left.
  pub record IsSearched (s : Found) : Type 0 where
    pub bound : ℕ
    pub room : bound + (unknowns s.depths + length s.pending) ≤ length code
    pub keeps : Keeps Nowhere (unknowns s.depths + length s.pending) bound s

  searched : (m b : ℕ) (s : Found) → b + m ≤ length code → Keeps Nowhere m b s → IsSearched s
  searched m b s room k =
      let e = k.measure in
      record { bound = b; room = omega (arith, e, room); keeps = subst (λ n. Keeps Nowhere n b s) (sym e) k }

  pub searched_on : (q : ℕ) (ds : Depths) (ps : List ℕ) → length code ≤ 4096 → IsSearched (record { depths = ds; pending = ps ++ q ∷ [] }) → IsSearched (looked_at targets code q (record { depths = ds; pending = ps })) × (unknowns (looked_at targets code q (record { depths = ds; pending = ps })).depths + length (looked_at targets code q (record { depths = ds; pending = ps })).pending + 1 ≡ unknowns ds + length (ps ++ q ∷ []))
  searched_on q ds ps few h =
      let s : Found = record { depths = ds; pending = ps } in
      let m = unknowns ds + length (ps ++ q ∷ []) in
      let more = length-append ps (q ∷ []) in
      let room = h.room in
      let k = from_keeps (m - 1) h.bound q (slice_get code q) (slice_get ds q) s (omega (arith, room, few)) refl refl (popped m h.bound q ds ps h.keeps) in
      let e = k.measure in
      (searched (m - 1) (h.bound + 1) (looked_at targets code q s) (omega (arith, room, more)) k, omega (arith, e, more))

  -- before the first place
  none_at : (n p : ℕ) → depth_at (replicate n None) p ≡ None
  none_at zero p = refl
  none_at (suc n) zero = refl
  none_at (suc n) (suc p) = none_at n p

  length_unknown : (n : ℕ) → length (replicate {A = Option ℕ} n None) ≡ n
  length_unknown zero = refl
  length_unknown (suc n) = let r = length_unknown n in omega (arith, r)

  first_cases : (n p d : ℕ) → depth_at (Some 0 ∷ replicate n None) p ≡ Some d → ((p ≡ 0) × (d ≡ 0)) ⊎ ⊥
  first_cases n zero d at = let e : 0 ≡ d = cc in inl (refl, sym e)
  first_cases n (suc p) d at = let e : None ≡ Some d = sym (none_at n p) ∙ at in inr cc

  pub searched_first : (n : ℕ) → n ≡ length code → IsSearched (with_way (record { depths = replicate n None; pending = [] }) (way 0 0))
  searched_first zero is = record {
    bound = 0;
    room = omega arith;
    keeps = record {
      all = is;
      measure = refl;
      low = λ p d at. absurd cc;
      begun = λ some. absurd (omega (arith, is, some));
      reached = λ p d at. absurd cc;
      rest = λ p d at. absurd cc;
    };
  }
  searched_first (suc n) is =
      let len = length_unknown n in
      let u = all_unknown n in
      record {
        bound = 0;
        room = omega (arith, u, is);
        keeps = record {
          all = omega (arith, len, is);
          measure = refl;
          low = λ p d at. elim (first_cases n p d at) [ inl e ↦ omega (arith, e.1) | inr e ↦ absurd e ];
          begun = λ some. refl;
          reached = λ p d at. elim (first_cases n p d at) [
            | inl e ↦ subst (λ k. Reaches targets code (way k d)) (sym e.0) (subst (λ k. Reaches targets code (way 0 k)) (sym e.1) begins)
            | inr e ↦ absurd e
          ];
          rest = λ p d at. elim (first_cases n p d at) [
            | inl e ↦ inr (inl (subst (λ k. Contains (0 ∷ []) k) (sym e.0) (contains_head 0 [])))
            | inr e ↦ absurd e
          ];
        };
      }

  -- When nothing is pending, all is closed.
  pub closed_at_end : (ds : Depths) → IsSearched (record { depths = ds; pending = [] }) → AreClosed targets code ds
  closed_at_end ds h p d at i stands has w c lt =
      elim (h.keeps.rest p d at) [
        | inl e ↦ absurd e
        | inr r ↦ elim r [
          | inl pending ↦ absurd (contains_none p pending)
          | inr f ↦ f i stands has w c lt
        ]
      ]

pub fold_push : {A B : Type 0} (f : B → A → B) (a : B) (xs : List A) (x : A) → fold f a (xs ++ x ∷ []) ≡ f (fold f a xs) x
fold_push f a [] x = refl
fold_push f a (y ∷ xs) x = fold_push f (f a y) xs x

pub fold_more_map : {A B C : Type 0} (f : B → C → B) (g : A → C) (a : B) (xs : List A) (i : ℕ) (x : A) → i < length xs → x ≡ get_or xs i x → fold f a (map g (take (i + 1) xs)) ≡ f (fold f a (map g (take i xs))) (g x)
fold_more_map f g a xs i x lt is =
    ap (λ l. fold f a (map g l)) (take_more xs i x lt)
    ∙ ap (fold f a) (map-append g (take i xs) (get_or xs i x ∷ []))
    ∙ ap (λ y. fold f a (map g (take i xs) ++ g y ∷ [])) (sym is)
    ∙ fold_push f a (map g (take i xs)) (g x)
