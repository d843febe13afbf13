use Rattle.std.proofs.Common.{◌≡◌}
use Rattle.access.proofs.reach.Reach.new.Given as goal

abbrev pub invariant-loop-place : goal.invariant-loop-place
invariant-loop-place l = l.reach ≡ l.fn.rights
