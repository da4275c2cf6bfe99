use Rattle.std.proofs.Common.{subst, ap}
use Rattle.bparse.specs.Compilers.{CompilerGives, notes_by}
use Rattle.bparse.specs.Watches.{WatchGives}
use Rattle.bparse.proofs.CompileSteps.{keeps_none, keeps_more, written_last}
use Rattle.bparse.proofs.WatchSteps.{kept_new, kept_more, watched}
use Rattle.bparse.proofs.compiling.compile_all.Goals as goal

pub definitions-init : goal.definitions-init
definitions-init g c = (keeps_none c.args.compiler.now, ap (λ x. x.is_closed) c.requires, kept_new _ _ c.requires)

pub definitions-preserved : goal.definitions-preserved
definitions-preserved g c =
    let gives = subst (λ s. CompilerGives c.definitions.compiler s c.next_definition-step.new.self) c.in-Written.is c.next_definition-step.ensures.gives in
    let seen = subst (λ s. WatchGives (g.W.Watcher.kept c.definitions.watcher) s (notes_by c.next_definition-step.new.self) (g.W.Watcher.kept c.watch.new.self)) c.in-Written.is c.watch.ensures in
    (keeps_more c.definitions.invariant.0 c.next_definition-step.ensures.keeps, (written_last gives).now.is_open, kept_more _ _ _ _ _ c.definitions.invariant.2 gives seen c.next_definition-step.ensures.keeps)

pub definitions-smaller : goal.definitions-smaller
definitions-smaller g c =
    let gives = subst (λ s. CompilerGives c.definitions.compiler s c.next_definition-step.new.self) c.in-Written.is c.next_definition-step.ensures.gives in
    (written_last gives).falls

pub returns-in_default : goal.returns-in_default
returns-in_default g c = record {
  gives = record {
    old = c.definitions.compiler;
    keeps_old = c.definitions.invariant.0;
    is_open = c.definitions.invariant.1;
    not_written = λ e. c.in_default.not-Written e;
    gives = c.next_definition-step.ensures.gives;
    keeps = c.next_definition-step.ensures.keeps;
  };
  watched = watched _ _ _ _ _ _ _ c.definitions.invariant.0 c.definitions.invariant.2 c.next_definition-step.ensures.gives c.watch.ensures;
}
