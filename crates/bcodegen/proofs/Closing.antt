-- A body whose breaks are filled after it.
use Rattle.std.proofs.Common.{◌≡◌, ℕ, ◌+◌, ◌≤◌, List, [], ◌++◌, length, take, drop, Some, refl, sym, ap, ap₂, ◌∙◌, arith, le_refl, append-nil, length-append}
use Rattle.std.proofs.Math.Seq.{drop-append_seam, take-append_seam}
use Rattle.blang.specs.declared.code.Instr.{Instr}
use Rattle.blang.specs.Scan.{Scope}
use Rattle.bemit.specs.Drafts.{Made, Draft, place_of, mark_of, led, breaks_filled}
use Rattle.bemit.specs.Effects.{breaking}
use Rattle.bcodegen.proofs.Breaks.{Fills, fills_whole}
use Rattle.bcodegen.proofs.Parts.{Parts, added, drafted, Roomy, smaller, noted, place_is, mark_is}

-- a piece of code without open breaks
abbrev pub closed : Parts → (ℕ → List Instr) → Parts
closed a c = record a { code = c; breaks = λ p. [] }

-- The breaks after the first ones are filled, where the marks are known.
pub fill_breaks : (mark target out : ℕ) (s : Scope) (m : Made) (first places : List ℕ) (new : List Instr) → m.breaks ≡ first ++ places → length new ≡ length m.code
    → (Roomy s.frame m → (mark ≡ length first) × (target ≡ out)) → led out places m.code ≡ new
    → breaks_filled mark target (drafted s m) ≡ drafted s (record m { code = new; breaks = first })
fill_breaks mark target out s m first places new b l known e = noted _ s m (record m { code = new; breaks = first }) filled l refl refl
  where
    filled : Roomy s.frame m → Some (record m { code = led target (drop mark m.breaks) m.code; breaks = take mark m.breaks }) ≡ Some (record m { code = new; breaks = first })
    filled r =
        let k = known r in
        let dropped : drop mark m.breaks ≡ places = ap₂ (λ n l. drop n l) k.0 b ∙ drop-append_seam first places in
        let taken : take mark m.breaks ≡ first = ap₂ (λ n l. take n l) k.0 b ∙ take-append_seam first places in
        ap₂ (λ c bs. Some (record m { code = c; breaks = bs })) (ap₂ (λ t l. led t l m.code) k.1 dropped ∙ e) taken

pub break_at : (body : Draft → Draft) (s s2 : Scope) (m : Made) (a : Parts) (c : ℕ → List Instr) (out : ℕ) → s.frame ≤ s2.frame
    → length (c (length m.code)) ≡ length (a.code (length m.code))
    → length m.code + length (a.code (length m.code)) ≡ out
    → Fills out (length m.code) (a.breaks (length m.code)) (a.code (length m.code)) (c (length m.code))
    → body (drafted s m) ≡ drafted s2 (added m a)
    → breaking body (drafted s m) ≡ drafted s2 (added m (closed a c))
break_at body s s2 m a c out f same_length end fills h =
    ap (λ b. breaks_filled (mark_of (drafted s m)) (place_of b) b) h
    ∙ fill_breaks (mark_of (drafted s m)) (place_of (drafted s2 m2)) out s2 m2 m.breaks (a.breaks p) (m.code ++ c p) refl long known (fills_whole m.code fills refl)
    ∙ ap (drafted s2) whole
  where
    p : ℕ
    p = length m.code

    m2 : Made
    m2 = added m a

    long : length (m.code ++ c p) ≡ length (m.code ++ a.code p)
    long = omega (arith, length-append m.code (c p), length-append m.code (a.code p), same_length)

    less : Roomy s2.frame m2 → Roomy s.frame m
    less r = smaller s.frame s2.frame m m2 f (omega (arith, length-append m.code (a.code p))) (omega (arith, length-append m.strings a.strings)) (le_refl _) r

    known : Roomy s2.frame m2 → (mark_of (drafted s m) ≡ length m.breaks) × (place_of (drafted s2 m2) ≡ out)
    known r = (mark_is s m (less r), place_is s2 m2 r ∙ length-append m.code (a.code p) ∙ end)

    whole : record m2 { code = m.code ++ c p; breaks = m.breaks } ≡ added m (closed a c)
    whole = λ i. record m2 { code = m.code ++ c p; breaks = sym (append-nil m.breaks) i }
