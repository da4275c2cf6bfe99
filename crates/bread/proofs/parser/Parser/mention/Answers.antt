use Rattle.bread.proofs.Moving.{follows_err, halt_device}
use Rattle.bread.proofs.ExpressionSteps.{name_took}
use Rattle.bgrammar.specs.ExpressionReader.{inner, primary}
use Rattle.bread.specs.declared.halt.Halt.TheVariants as halt
use Rattle.std.proofs.Common.{refl}
use Rattle.bread.proofs.parser.Parser.mention.Goals as goal

pub returns-in_err-take : goal.returns-in_err-take
returns-in_err-take g c = λ room. follows_err (primary (inner room)) _ c.args.self.now.tokens c.take.new.self c.args.self.now.draft _ c.from_residual.result halt.Device c.from_residual.ensures.1 (λ off. halt_device (primary (inner room) off) halt.Device refl c.in_err-take.ensures.err)

pub returns : goal.returns
returns g c = name_took c.args.self.now.tokens c.take.new.self c.args.self.now.draft c.name.new.self c.args.name c.line-line.result c.is_at-called.result c.name.result c.place.result c.place.ensures.place c.requires.here c.line-line.ensures c.in_ok-take.ensures.ok c.is_at-called.ensures c.name.ensures.draft c.name.ensures.form
