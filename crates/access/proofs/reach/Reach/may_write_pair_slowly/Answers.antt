use Rattle.std.proofs.Common.{◌+◌, refl, sym}
use Rattle.access.specs.declared.kind.Use.TheVariants.{Write}
use Rattle.access.proofs.Spans.{pair_may}
use Rattle.access.proofs.reach.Reach.may_write_pair_slowly.Goals as goal

pub returns-then-spans : goal.returns-then-spans
returns-then-spans c = pair_may c.args.self.now Write c.args.at (c.args.at + 1) refl c.requires (sym c.if-spans.ensures)
