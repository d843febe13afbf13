use Rattle.std.proofs.Common.{◌+◌, refl}
use Rattle.access.specs.declared.kind.Use.TheVariants.{Write}
use Rattle.access.proofs.Spans.{pair_may}
use Rattle.access.proofs.reach.Reach.may_write_pair.Goals as goal

pub returns-then-hits : goal.returns-then-hits
returns-then-hits c =
    let last = c.args.at + 1 in
    pair_may c.args.self.now Write c.args.at last refl c.requires (c.if-hits.ensures refl)
