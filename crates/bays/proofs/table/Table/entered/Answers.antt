use Rattle.std.proofs.Common.{sym, ◌∙◌}
use Rattle.bays.proofs.Lists.{entered_none}
use Rattle.bays.proofs.table.Table.entered.Goals as goal

pub returns-in_default : goal.returns-in_default
returns-in_default c = entered_none c.args.wanted c.args.self.now.bays c.args.number c.args.self.now.eight (sym c.get.ensures ∙ c.in_default.is)
