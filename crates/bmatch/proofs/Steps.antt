-- What passing over steps comes to.
use Rattle.std.proofs.Common.{◌≡◌, ◌∙◌, ℕ, zero, suc, ◌+◌, ◌-◌, ◌≤◌, Bool, false, List, [], ◌∷◌, ◌++◌, ap, arith, drop, get_or, length, refl, sym, take}
use Rattle.std.specs.Prelude.{◌||◌}
use Rattle.std.proofs.Math.Seq.{take-length}
use Rattle.bmatch.specs.declared.binds.Binds.{Binds}
use Rattle.bmatch.specs.declared.conditions.Claim.{Claim}
use Rattle.bmatch.specs.declared.conditions.Claim.TheVariants as claim
use Rattle.bmatch.specs.declared.fits.EitherWay.{EitherWay}
use Rattle.bmatch.specs.declared.fits.Sight.{Sight}
use Rattle.bmatch.specs.declared.fits.Span.{Span}
use Rattle.bmatch.specs.declared.holds.Site.{Site}
use Rattle.bmatch.specs.declared.tree.Kind.{Kind}
use Rattle.bmatch.specs.declared.pattern.Step.{Step}
use Rattle.bmatch.specs.declared.pattern.Step.TheVariants as step
use Rattle.bmatch.specs.Binds.{given_to, with_told}
use Rattle.bmatch.specs.Fits.{either_way, fits_in, go_in, may_begin}
use Rattle.bmatch.specs.Holds.{holds_in, if_none, if_some}

-- those after the first
abbrev pub others : {A : Type 0} → List A → List A
others xs = take (length xs - 1) (drop 1 xs)

begins_with : {A : Type 0} (xs : List A) (d y : A) → 1 ≤ length xs → get_or xs 0 d ≡ y → xs ≡ y ∷ others xs
begins_with [] d y h e = absurd (omega (arith, h))
begins_with (x ∷ xs) d y h e = ap (λ z. z ∷ xs) e ∙ ap (λ zs. y ∷ zs) (sym (take-length xs) ∙ ap (λ n. take n xs) (omega arith))

may_begin_dropped : (s : Sight) (n : ℕ) (is : List Step) (end : ℕ) → may_begin s n is end ≡ may_begin s 0 (drop n is) end
may_begin_dropped s zero [] end = refl
may_begin_dropped s zero (i ∷ is) end = refl
may_begin_dropped s (suc n) [] end = refl
may_begin_dropped s (suc n) (i ∷ is) end = may_begin_dropped s n is end

pub begins_after_jump : (s : Sight) (is : List Step) (i : Step) (n end : ℕ) (result : Bool) → 1 ≤ length is → get_or is 0 i ≡ step.Jump n
    → result ≡ may_begin s 0 (drop n (others is)) end → result ≡ may_begin s 0 is end
begins_after_jump s is i n end result h e r =
    r ∙ (sym (may_begin_dropped s n (others is) end) ∙ ap (λ js. may_begin s 0 js end) (sym (begins_with is i (step.Jump n) h e)))

pub begins_by_other : (s : Sight) (is : List Step) (i : Step) (n end : ℕ) (one result : Bool) → 1 ≤ length is → get_or is 0 i ≡ step.Either n
    → one ≡ may_begin s 0 (others is) end → one ≡ false → result ≡ may_begin s 0 (drop n (others is)) end → result ≡ may_begin s 0 is end
begins_by_other s is i n end one result h e o f r =
    r ∙ (sym (may_begin_dropped s n (others is) end) ∙ (ap (λ b. b || may_begin s n (others is) end) (sym f ∙ o) ∙ ap (λ js. may_begin s 0 js end) (sym (begins_with is i (step.Either n) h e))))

fits_dropped : (s : Sight) (n : ℕ) (is : List Step) (begin end : ℕ) (rows : List Span) (b : Binds) → fits_in s n is begin end rows b ≡ fits_in s 0 (drop n is) begin end rows b
fits_dropped s zero [] begin end rows b = refl
fits_dropped s zero (i ∷ is) begin end rows b = refl
fits_dropped s (suc n) [] begin end rows b = refl
fits_dropped s (suc n) (i ∷ is) begin end rows b = fits_dropped s n is begin end rows b

pub fits_after_jump : (s : Sight) (is : List Step) (i : Step) (n begin end : ℕ) (rows : List Span) (b : Binds) → 1 ≤ length is → get_or is 0 i ≡ step.Jump n
    → fits_in s 0 (drop n (others is)) begin end rows b ≡ fits_in s 0 is begin end rows b
fits_after_jump s is i n begin end rows b h e =
    sym (fits_dropped s n (others is) begin end rows b) ∙ ap (λ js. fits_in s 0 js begin end rows b) (sym (begins_with is i (step.Jump n) h e))

pub fits_by_either : (s : Sight) (is : List Step) (i : Step) (n begin end : ℕ) (rows : List Span) (b : Binds) → 1 ≤ length is → get_or is 0 i ≡ step.Either n
    → fits_in s 0 (others is) begin end rows b ++ fits_in s 0 (drop n (others is)) begin end rows b ≡ fits_in s 0 is begin end rows b
fits_by_either s is i n begin end rows b h e =
    ap (λ bs. fits_in s 0 (others is) begin end rows b ++ bs) (sym (fits_dropped s n (others is) begin end rows b)) ∙ ap (λ js. fits_in s 0 js begin end rows b) (sym (begins_with is i (step.Either n) h e))

-- in either order of two sides, where these rows have to fit then
abbrev pub fits_both : Sight → List Step → EitherWay → (rows : List Span) → Binds → List Binds
fits_both s is way rows b =
    go_in way.plain (λ x. fits_in s 0 is x.one.begin x.one.end (x.other ∷ rows) b)
    ++ go_in way.exchanged (λ x. fits_in s 0 is x.one.begin x.one.end (x.other ∷ rows) b)

pub fits_by_sides : (s : Sight) (is : List Step) (i : Step) (k last : Kind) (told : Bool) (begin end : ℕ) (rows : List Span) (b : Binds) → 1 ≤ length is → get_or is 0 i ≡ step.Sides k last told
    → fits_both s (others is) (either_way s k last begin end) ((either_way s k last begin end).before ∷ rows) (with_told b told (either_way s k last begin end).token) ≡ fits_in s 0 is begin end rows b
fits_by_sides s is i k last told begin end rows b h e =
    ap (λ js. fits_in s 0 js begin end rows b) (sym (begins_with is i (step.Sides k last told) h e))

holds_dropped : (s : Site) (n : ℕ) (cs : List Claim) (b : Binds) → holds_in s n cs b ≡ holds_in s 0 (drop n cs) b
holds_dropped s zero [] b = refl
holds_dropped s zero (c ∷ cs) b = refl
holds_dropped s (suc n) [] b = refl
holds_dropped s (suc n) (c ∷ cs) b = holds_dropped s n cs b

pub holds_after_jump : (s : Site) (cs : List Claim) (c : Claim) (n : ℕ) (b : Binds) → 1 ≤ length cs → get_or cs 0 c ≡ claim.Jump n
    → holds_in s 0 (drop n (others cs)) b ≡ holds_in s 0 cs b
holds_after_jump s cs c n b h e =
    sym (holds_dropped s n (others cs) b) ∙ ap (λ ds. holds_in s 0 ds b) (sym (begins_with cs c (claim.Jump n) h e))

pub holds_by_either : (s : Site) (cs : List Claim) (c : Claim) (n : ℕ) (b : Binds) → 1 ≤ length cs → get_or cs 0 c ≡ claim.Either n
    → holds_in s 0 (others cs) b ++ holds_in s 0 (drop n (others cs)) b ≡ holds_in s 0 cs b
holds_by_either s cs c n b h e =
    ap (λ bs. holds_in s 0 (others cs) b ++ bs) (sym (holds_dropped s n (others cs) b)) ∙ ap (λ ds. holds_in s 0 ds b) (sym (begins_with cs c (claim.Either n) h e))

pub holds_not : (s : Site) (cs : List Claim) (c : Claim) (n : ℕ) (b : Binds) → 1 ≤ length cs → get_or cs 0 c ≡ claim.Not n
    → if_none (holds_in s 0 (others cs) b) (holds_in s 0 (drop n (others cs)) b) ≡ holds_in s 0 cs b
holds_not s cs c n b h e =
    ap (if_none (holds_in s 0 (others cs) b)) (sym (holds_dropped s n (others cs) b)) ∙ ap (λ ds. holds_in s 0 ds b) (sym (begins_with cs c (claim.Not n) h e))

pub holds_by_call : (s : Site) (cs : List Claim) (c : Claim) (n h i j k : ℕ) (b : Binds) → 1 ≤ length cs → get_or cs 0 c ≡ claim.Call n h i j k
    → if_some (holds_in s 0 (drop n (others cs)) (given_to b h i j k)) (holds_in s 0 (others cs) b) ≡ holds_in s 0 cs b
holds_by_call s cs c n h i j k b l e =
    ap (λ ways. if_some ways (holds_in s 0 (others cs) b)) (sym (holds_dropped s n (others cs) (given_to b h i j k))) ∙ ap (λ ds. holds_in s 0 ds b) (sym (begins_with cs c (claim.Call n h i j k) l e))
