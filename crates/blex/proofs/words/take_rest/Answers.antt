use Rattle.bword.specs.Words.{is_name_byte}
use Rattle.blex.proofs.Passing.{Breaks-after}
use Rattle.blex.proofs.ByteSteps.{on_err, taken_falls}
use Rattle.blex.proofs.WordSteps.{TakesName-none, name_more, name_over}
use Rattle.blex.proofs.words.take_rest.Goals as goal

pub loop-byte-init : goal.loop-byte-init
loop-byte-init g c = TakesName-none _ _

pub returns-in_err-byte-clause-err : goal.returns-in_err-byte-clause-err
returns-in_err-byte-clause-err g c = on_err _ (Breaks-after c.loop-byte.invariant.passes c.in_err-byte.ensures.err)

pub loop-byte-smaller : goal.loop-byte-smaller
loop-byte-smaller g c = taken_falls is_name_byte _ _ _ _ c.in-Some.is c.in_ok-byte.ensures.ok

pub loop-byte-preserved : goal.loop-byte-preserved
loop-byte-preserved g c = name_more _ _ c.in-Some.is c.loop-byte.invariant c.in_ok-byte.ensures.ok c.push.ensures.number c.push.ensures.len

pub returns-clause-ok : goal.returns-clause-ok
returns-clause-ok g c = name_over _ c.in_default.is c.loop-byte.invariant c.in_ok-byte.ensures.ok
