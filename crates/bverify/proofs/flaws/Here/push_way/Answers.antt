use Rattle.std.proofs.Common.{◌≡◌, ◌++◌, subst}
use Rattle.std.specs.Prelude.{OnOk}
use Rattle.bverify.specs.Flaws.{placed}
use Rattle.bverify.proofs.FlawLists.{agrees, differs}
use Rattle.bverify.proofs.flaws.Here.push_way.Goals as goal

pub returns-then-is_depth : goal.returns-then-is_depth
returns-then-is_depth c =
    agrees c.args.self.depths.now c.args.to c.args.depth c.in-Some.known c.args.self.place c.args.flaws.now.items c.in-Some.ensures c.if-is_depth.ensures

pub returns : goal.returns
returns c =
    subst (λ l. OnOk c.push-2.result (c.push-2.new.flaws.items ≡ c.args.flaws.now.items ++ placed c.args.self.place l))
    (differs c.args.self.depths.now c.args.to c.args.depth c.in-Some.known c.differing.result c.in-Some.ensures c.if-is_depth.ensures c.differing.ensures)
    c.push-2.ensures
