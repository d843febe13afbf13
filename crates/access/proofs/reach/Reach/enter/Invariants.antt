use Rattle.std.proofs.Common.{◌≡◌}
use Rattle.access.proofs.reach.Reach.enter.Given as goal

abbrev pub invariant-loop-page : goal.invariant-loop-page
invariant-loop-page l = l.self ≡ l.fn.self
