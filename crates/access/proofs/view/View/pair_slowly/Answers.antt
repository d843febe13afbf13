use Rattle.std.proofs.Common.{ℕ, Ok, ap, sym, ◌∙◌}
use Rattle.access.specs.Access.{Viewed, half_at, seen}
use Rattle.access.proofs.Spans.{pair_read}
use Rattle.access.proofs.view.View.pair_slowly.Goals as goal

pub returns-then-spans : goal.returns-then-spans
returns-then-spans g c =
    let at : ℕ = c.args.at in
    let bs = g.S.Store.bytes c.self.inside.store.now in
    ap (λ (n : ℕ). Ok n) c.half_of.ensures
    ∙ pair_read c.self.inside.reach.now c.args.purpose bs c.read_half.result at c.read_half.ensures c.requires c.ranges.at.fits (sym c.if-spans.ensures)
    ∙ ap (λ (v : Viewed). half_at (seen v.rights c.args.purpose v.bytes) at) c.self.view_is
