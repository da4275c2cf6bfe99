use Rattle.std.proofs.Common.{List, refl, rules, subst, ℕ}
use Rattle.blang.specs.Reports.{Reported}
use Rattle.bembed.specs.Rooms.{overflow_of, room_of}
use Rattle.bembed.specs.declared.asking.TheConstants.{VERSION}
use Rattle.bembed.proofs.Filling.{filled, into_room}
use Rattle.bembed.proofs.asking.b_version.Goals as goal

pub returns : goal.returns
returns c = record {
  says = record {
    out_over = overflow_of c.tell.new.out.failures c.tell.new.out.over;
    out_filled = filled c.new-out.result c.tell.new.out _ c.new-out.ensures.before c.tell.ensures.same
        (search rules) (search rules) (search rules);
    no_line = record { same = refl; none = search rules };
    says = into_room (λ o p. Reported VERSION.now 0 o p c.tell.result)
        c.new-out.result.room.now c.tell.new.out.room.now _ c.new-out.result.count.now (overflow_of c.new-out.result.failures c.new-out.result.over) _ _ _
        c.new-out.ensures.empty (search rules) (search rules)
        (subst (λ (text : List ℕ). Reported text 0 (room_of c.new-out.result.room.now c.new-out.result.count.now (overflow_of c.new-out.result.failures c.new-out.result.over)) (room_of c.tell.new.out.room.now c.tell.new.out.count.now (overflow_of c.tell.new.out.failures c.tell.new.out.over)) c.tell.result) c.as_bytes.ensures.value c.tell.ensures.told);
  };
}
