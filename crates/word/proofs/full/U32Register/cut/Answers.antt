use Rattle.std.proofs.Common.{refl, arith, rules, w32}
use Rattle.std.proofs.lemmas.Int.{ints}
use Rattle.word.proofs.Cuts.{cut_is}
use Rattle.word.proofs.full.U32Register.cut.Goals as goal

pub returns : goal.returns
returns c = cut_is w32 _ refl c.args.exact c.rem_euclid.result (search rules) (grind (arith, ints)) c.rem_euclid.ensures.value
