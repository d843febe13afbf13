use Rattle.std.proofs.Common.{◌+◌, refl}
use Rattle.access.specs.declared.kind.Use.TheVariants.{Write}
use Rattle.access.proofs.Spans.{quad_may}
use Rattle.access.proofs.reach.Reach.may_write_quad.Goals as goal

pub returns-then-hits : goal.returns-then-hits
returns-then-hits c =
    let last = c.args.at + 3 in
    quad_may c.args.self.now Write c.args.at c.requires (c.if-hits.ensures refl)
