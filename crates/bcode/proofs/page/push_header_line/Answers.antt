use Rattle.std.proofs.Common.{◌≡◌, take, take_all, append_assoc}
use Rattle.bcode.proofs.Paging.{line-numbers}
use Rattle.bcode.proofs.page.push_header_line.Goals as goal

pub returns : goal.returns
returns c =
    let all : take c.loop-number.number-index c.args.numbers.now ≡ c.args.numbers.now = take_all _ _ c.loop-number-test.false in
    rw (c.push-2.ensures, c.loop-number.invariant.0, all, c.push_name.ensures.items, c.push.ensures, line-numbers c.args.name c.args.numbers.now) (simp append_assoc)
