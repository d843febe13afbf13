use Rattle.std.proofs.Common.{sym}
use Rattle.access.specs.declared.kind.Use.TheVariants.{Write}
use Rattle.access.proofs.Spans.{quad_may}
use Rattle.access.proofs.reach.Reach.may_write_quad_slowly.Goals as goal

pub returns-then-spans : goal.returns-then-spans
returns-then-spans c = quad_may c.args.self.now Write c.args.at c.requires (sym c.if-spans.ensures)
