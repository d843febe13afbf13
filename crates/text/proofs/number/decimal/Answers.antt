use Rattle.std.proofs.Common.{arith}
use Rattle.std.proofs.lemmas.Grind.{common_steps}
use Rattle.text.proofs.Digits.{digits_past}
use Rattle.text.proofs.number.decimal.Goals as goal

pub returns-then-n-from-clause-is : goal.returns-then-n-from-clause-is
returns-then-n-from-clause-is c = grind (arith, common_steps, digits_past)
