use Rattle.std.proofs.Common.{sym, ◌∙◌}
use Rattle.bays.specs.Bays.{with_stage}
use Rattle.bays.specs.declared.stage.Stage.TheVariants.{Sealed}
use Rattle.bays.proofs.Lists.{changed_at, put_nowhere}
use Rattle.bays.proofs.table.Table.seal.Goals as goal

pub returns-in-Some : goal.returns-in-Some
returns-in-Some c =
    let p = c.in-Some in
    changed_at (λ b. with_stage b Sealed) c.args.self.now.bays p.place c.args.number _ _ p.ensures.within p.ensures.named c.seal.ensures

pub returns-in_default : goal.returns-in_default
returns-in_default c = put_nowhere c.args.self.now.bays c.args.number _ c.args.self.now.eight (sym c.place_of.ensures.is ∙ c.in_default.is)
