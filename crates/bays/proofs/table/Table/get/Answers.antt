use Rattle.bays.proofs.Lists.{numbered_at}
use Rattle.bays.proofs.table.Table.get.Goals as goal

pub returns : goal.returns
returns c =
    let p = c.in_ok-place in
    numbered_at c.args.self.now.bays p.place c.args.number _ p.ensures.within p.ensures.named p.ensures.is
