use Rattle.std.proofs.Common.{ℕ, Ok, ap, refl, ◌∙◌}
use Rattle.access.specs.Access.{Viewed, half_at, seen}
use Rattle.access.proofs.Spans.{pair_read}
use Rattle.access.proofs.view.View.pair_for.Goals as goal

pub returns-then-hits : goal.returns-then-hits
returns-then-hits g c =
    let at : ℕ = c.args.at in
    let bs = g.S.Store.bytes c.self.inside.store.now in
    let reach = c.self.inside.reach.now in
    ap (λ (n : ℕ). Ok n) c.half_of.ensures
    ∙ pair_read reach c.args.purpose bs c.read_half.result at c.read_half.ensures c.requires c.ranges.at.fits (c.if-hits.ensures refl)
    ∙ ap (λ (v : Viewed). half_at (seen v.rights c.args.purpose v.bytes) at) c.self.view_is
