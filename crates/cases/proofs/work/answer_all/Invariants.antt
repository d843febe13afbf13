use Rattle.std.proofs.Common.{length}
use Rattle.cases.proofs.work.answer_all.Given as goal

abbrev pub decreases-lines : goal.decreases-lines
decreases-lines l = length l.lines.text
