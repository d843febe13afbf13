use Rattle.std.proofs.lemmas.Nat.{and_mask}
use Rattle.word.proofs.fields.low.Goals as goal

pub returns : goal.returns
returns c = let e = c.mask.ensures in simp e (and_mask c.args.word c.args.count)
