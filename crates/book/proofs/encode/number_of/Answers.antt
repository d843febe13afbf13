use Rattle.std.proofs.Common.{◌∙◌}
use Rattle.book.proofs.Slots.{number_is}
use Rattle.book.proofs.encode.number_of.Goals as goal

pub returns-in_err-place-clause-is : goal.returns-in_err-place-clause-is
returns-in_err-place-clause-is c = let e = c.from_residual.ensures in rw e (c.in_err-place.ensures.is ∙ number_is c.args.name c.args.table.now)

pub returns-clause-is : goal.returns-clause-is
returns-clause-is c = c.in_ok-place.ensures.is ∙ number_is c.args.name c.args.table.now
