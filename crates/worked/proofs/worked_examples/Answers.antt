use Rattle.std.proofs.Common.{refl}
use Rattle.book.specs.Readings.{reading}
use Rattle.std.specs.Int.{int_wrap}
use Rattle.worked.proofs.worked_examples.Goals as goal

pub returns : goal.returns
unfolding reading int_wrap
returns c = record { hold = refl; counted = refl }
