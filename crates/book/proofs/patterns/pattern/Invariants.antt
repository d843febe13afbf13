use Rattle.std.proofs.Common.{◌≡◌, ◌^◌, ◌<◌, drop}
use Rattle.book.specs.Patterns.{bits}
use Rattle.book.proofs.patterns.pattern.Given as goal

abbrev pub invariant-loop-d : goal.invariant-loop-d
invariant-loop-d l = (bits l.n (drop l.d-index l.text) ≡ bits 0 l.text) × (l.n < 2 ^ l.d-index)
