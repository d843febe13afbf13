use Rattle.std.proofs.Common.{◌≡◌, ◌≤◌, drop}
use Rattle.text.specs.Numbers.{digits}
use Rattle.text.proofs.number.decimal.Given as goal

abbrev pub invariant-loop-d : goal.invariant-loop-d
invariant-loop-d l = (digits l.low l.high l.n (drop l.d-index l.s) ≡ digits l.low l.high 0 l.s) × (l.n ≤ l.high)
