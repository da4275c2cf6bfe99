-- Why a walk to a stop ends for another reason.
use Rattle.std.proofs.Common.{◌≡◌, ◌+◌, ◌<◌, ◌≤◌, ℕ, false, true, arith, refl, subst}
use Rattle.bsession.specs.Sessions.{SessionView}
use Rattle.bsession.specs.Stops.{GoesBy, StepMade, StopSet, WalkEnds, Walks, made_all}
use Rattle.bsession.specs.declared.session.SliceEnd.{SliceEnd}
use Rattle.bsession.specs.declared.session.SliceEnd.TheVariants as end

pub ends_early : (stops : StopSet) (old mid new : SessionView) (n made : ℕ) (why : SliceEnd) → made < n
    → Walks stops old mid made → GoesBy stops made mid → StepMade mid new why → made_all why ≡ false
    → WalkEnds stops old new n why
ends_early stops old mid new n made end.Limit few walks goes last is = cc
ends_early stops old mid new n made (end.Halted status) few walks goes last _ = (made, few, mid, walks, goes, last)
ends_early stops old mid new n made (end.Trapped kind) few walks goes last _ = (made, few, mid, walks, goes, last)
ends_early stops old mid new n made end.WantsInput few walks goes last _ = (made, few, mid, walks, goes, last)
ends_early stops old mid new n made (end.Holds what) few walks goes last _ = (made, few, mid, walks, goes, last)
ends_early stops old mid new n made end.Memory few walks goes last _ = (made, few, mid, walks, goes, last)

-- the slice that has made all steps
pub is_all : (why : SliceEnd) → made_all why ≡ true → why ≡ end.Limit
is_all end.Limit is = refl
is_all (end.Halted status) is = cc
is_all (end.Trapped kind) is = cc
is_all end.WantsInput is = cc
is_all (end.Holds what) is = cc
is_all end.Memory is = cc

module _ (stops : StopSet) (old new : SessionView) where
  -- after all steps
  pub ends_after_all : (n made left : ℕ) → made + left ≡ n → left ≤ 0 → Walks stops old new made → GoesBy stops made new
      → Walks stops old new n × GoesBy stops n new
  ends_after_all n made left all none walks goes =
      let same : made ≡ n = omega (arith, all, none) in
      (subst (λ m. Walks stops old new m) same walks, subst (λ m. GoesBy stops m new) same goes)
