use Rattle.std.proofs.Common.{sym, ◌∙◌}
use Rattle.bays.specs.Bays.{free, opened}
use Rattle.bays.proofs.Lists.{changed_at, put_nowhere}
use Rattle.bays.proofs.table.Table.open.Goals as goal

pub returns-in-Some : goal.returns-in-Some
returns-in-Some c =
    let p = c.in-Some in
    changed_at (λ _. opened) c.args.self.now.bays p.place c.args.number _ free p.ensures.within p.ensures.named c.open.ensures

pub returns-in_default : goal.returns-in_default
returns-in_default c = put_nowhere c.args.self.now.bays c.args.number _ c.args.self.now.eight (sym c.place_of.ensures.is ∙ c.in_default.is)
