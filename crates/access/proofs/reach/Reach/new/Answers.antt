use Rattle.std.proofs.Common.{refl}
use Rattle.access.proofs.Spans.{none_near}
use Rattle.access.proofs.reach.Reach.new.Goals as goal

pub invariant_of-reach-inside : goal.invariant_of-reach-inside
invariant_of-reach-inside c = (refl, (none_near c.args.rights.now 64, tt))
