use Rattle.std.proofs.Common.{rules, ◌≡◌, ◌<◌, length, arith}
use Rattle.blex.proofs.Passing.{Breaks-after}
use Rattle.blex.proofs.ByteSteps.{on_err, byte_passed, byte_falls, below}
use Rattle.blex.proofs.QuoteSteps.{quoted_start, quoted_closes, quoted_full, quoted_more, quoted_wrong, quoted_endless}
use Rattle.blex.proofs.quotes.quoted.Goals as goal

pub loop-byte-init : goal.loop-byte-init
loop-byte-init g c = quoted_start _ _ _ _ c.requires

pub returns-in_err-byte-clause-err : goal.returns-in_err-byte-clause-err
returns-in_err-byte-clause-err g c = on_err _ (Breaks-after c.loop-byte.invariant.passes c.in_err-byte.ensures.err)

pub returns-then-byte-quote-clause-ok : goal.returns-then-byte-quote-clause-ok
returns-then-byte-quote-clause-ok g c = quoted_closes _ _ _ c.in-Some.is c.if-byte-quote.true c.loop-byte.invariant c.in_ok-byte.ensures.ok

pub returns-then-is_full-clause-ok : goal.returns-then-is_full-clause-ok
returns-then-is_full-clause-ok g c =
    let full : length c.loop-byte.characters.items ≡ g.row.ROOM = search rules in
    quoted_full _ _ _ c.in-Some.is c.if-byte-quote.false full c.loop-byte.invariant c.in_ok-byte.ensures.ok

pub returns-in_err-character-clause-err : goal.returns-in_err-character-clause-err
returns-in_err-character-clause-err g c =
    on_err _ (Breaks-after c.loop-byte.invariant.passes (Breaks-after (byte_passed _ _ _ _ c.in-Some.is c.in_ok-byte.ensures.ok) c.in_err-character.ensures.err))

pub returns-in_default-2-clause-ok : goal.returns-in_default-2-clause-ok
returns-in_default-2-clause-ok g c =
    let room : length c.loop-byte.characters.items < g.row.ROOM = below _ _ c.if-is_full.ensures.value c.if-is_full.ensures.fits in
    quoted_wrong _ _ _ _ c.in-Some.is c.if-byte-quote.false room c.loop-byte.invariant c.in_ok-byte.ensures.ok c.in_ok-character.ensures.ok c.in_default-2.is

pub loop-byte-smaller : goal.loop-byte-smaller
loop-byte-smaller g c = byte_falls (byte_passed _ _ _ _ c.in-Some.is c.in_ok-byte.ensures.ok) (omega arith) c.in_ok-character.ensures.ok.passes

pub loop-byte-preserved : goal.loop-byte-preserved
loop-byte-preserved g c =
    let room : length c.loop-byte.characters.items < g.row.ROOM = below _ _ c.if-is_full.ensures.value c.if-is_full.ensures.fits in
    quoted_more _ _ _ _ c.in-Some.is c.if-byte-quote.false room c.loop-byte.invariant c.in_ok-byte.ensures.ok c.in_ok-character.ensures.ok _ _ c.in-Some-2.is c.push.ensures.items

pub returns-clause-ok : goal.returns-clause-ok
returns-clause-ok g c = quoted_endless _ c.in_default.is c.loop-byte.invariant c.in_ok-byte.ensures.ok
