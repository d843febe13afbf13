use Rattle.std.proofs.Common.{arith}
use Rattle.std.proofs.lemmas.Nat.{or_shifted}
use Rattle.word.proofs.fields.join.Goals as goal

pub returns : goal.returns
returns c = let e = c.raised.ensures in simp e (or_shifted c.args.high c.args.count c.args.below (omega arith))
